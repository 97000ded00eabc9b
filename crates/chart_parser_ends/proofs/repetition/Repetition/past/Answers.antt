use Rattle.chart_parser_ends.proofs.Repeating.{repetition_past}
use Rattle.chart_parser_ends.proofs.repetition.Repetition.past.Goals as goal

pub returns-clause-progress : goal.returns-clause-progress
returns-clause-progress c =
    repetition_past c.args.table.now.input.normal c.args.table.now.input.kinds c.args.self.now c.args.position c.in_ok-from.from c.requires.work c.requires.next
    c.requires.covered c.in_ok-from.ensures
