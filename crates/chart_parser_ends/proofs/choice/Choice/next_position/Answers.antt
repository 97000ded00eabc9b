use Rattle.chart_parser_ends.proofs.Choosing.{choice_on}
use Rattle.chart_parser_ends.proofs.Exactly.{all_exactly, grown_exactly}
use Rattle.chart_parser_ends.proofs.choice.Choice.next_position.Goals as goal

pub returns-in_ok-add_all-in-Ok-clause-progress : goal.returns-in_ok-add_all-in-Ok-clause-progress
returns-in_ok-add_all-in-Ok-clause-progress c =
    let new = c.add_all.new.positions in
    let more = c.in-Ok.more.now in
    choice_on c.args.table.now.input.normal c.args.table.now.input.kinds c.args.self.now c.args.symbol c.index-position.result.now new c.requires.work
    c.requires.next
    c.requires.more c.index-position.ensures c.in_ok-add_all-in-Ok.ensures.rising
    (grown_exactly c.args.self.now.next.items new.items more c.in-Ok.ensures.ends c.in_ok-add_all-in-Ok.ensures.grown)
    (all_exactly new.items more c.in-Ok.ensures.ends c.in_ok-add_all-in-Ok.ensures.all)
