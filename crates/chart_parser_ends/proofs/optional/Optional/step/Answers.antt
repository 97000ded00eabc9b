use Rattle.chart_parser_ends.proofs.Exactly.{all_exactly, grown_exactly}
use Rattle.chart_parser_ends.proofs.Optionally.{optional_ends}
use Rattle.chart_parser_ends.proofs.optional.Optional.step.Goals as goal

pub returns-in_ok-add_all-in-Ok-clause-step : goal.returns-in_ok-add_all-in-Ok-clause-step
returns-in_ok-add_all-in-Ok-clause-step c =
    let new = c.add_all.new.positions.items in
    let more = c.in-Ok.more.now in
    optional_ends c.args.table.now.input.normal c.args.table.now.input.kinds c.args.self.rule c.args.self.first c.args.self.symbol
    c.in_ok-ends-in-Ok.ends.items new
    c.requires.optional c.requires.within c.in_ok-ends-in-Ok.ensures.items
    c.in_ok-add_all-in-Ok.ensures.rising (grown_exactly c.in_ok-ends-in-Ok.ends.items new more c.in-Ok.ensures.ends c.in_ok-add_all-in-Ok.ensures.grown)
    (all_exactly new more c.in-Ok.ensures.ends c.in_ok-add_all-in-Ok.ensures.all)
