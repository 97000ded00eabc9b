use Rattle.chart_parser_ends.proofs.Exactly.{all_exactly, grown_exactly}
use Rattle.chart_parser_ends.proofs.Repeating.{repetition_on}
use Rattle.chart_parser_ends.proofs.repetition.Repetition.with_position.Goals as goal

pub returns-in_ok-add_all-in-Ok-clause-progress : goal.returns-in_ok-add_all-in-Ok-clause-progress
returns-in_ok-add_all-in-Ok-clause-progress c =
    let new = c.add_all.new.positions in
    let more = c.in-Ok.ends.now in
    repetition_on c.args.table.now.input.normal c.args.table.now.input.kinds c.args.self.now c.args.position c.in_ok-from-in-Ok.from new
    c.requires.work c.requires.next
    c.in_ok-from-in-Ok.ensures c.in_ok-add_all-in-Ok.ensures.rising
    (grown_exactly c.args.self.now.reached.items new.items more c.in-Ok.ensures.ends c.in_ok-add_all-in-Ok.ensures.grown)
    (all_exactly new.items more c.in-Ok.ensures.ends c.in_ok-add_all-in-Ok.ensures.all)
