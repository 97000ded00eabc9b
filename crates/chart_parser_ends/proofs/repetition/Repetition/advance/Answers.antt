use Rattle.std.proofs.Common.{subst, arith}
use Rattle.std.specs.List.{Contains}
use Rattle.chart_parser_ends.proofs.Repeating.{takes_entry}
use Rattle.chart_parser_ends.proofs.repetition.Repetition.advance.Goals as goal

pub past-requires-clause-covered : goal.past-requires-clause-covered
past-requires-clause-covered c = subst (λ l. Contains l c.in-Some.position) c.deref.ensures.value (c.has.ensures.0 c.if-has.true)

pub returns-in_ok-with_entry-in-Ok-clause-progress : goal.returns-in_ok-with_entry-in-Ok-clause-progress
returns-in_ok-with_entry-in-Ok-clause-progress c =
    takes_entry c.args.table.now.input.normal c.args.table.now.input.kinds c.args.self.now c.with_entry.new.self c.in-Some.position
    c.in-Ok.ends.now c.requires
    c.in-Some.ensures.least c.in-Ok.ensures.ends c.in_ok-with_entry-in-Ok.ensures

pub returns-in_ok-with_entry-in-Ok-clause-onward : goal.returns-in_ok-with_entry-in-Ok-clause-onward
returns-in_ok-with_entry-in-Ok-clause-onward c = omega (arith, c.in-Some.ensures.least.above, c.in_ok-with_entry-in-Ok.ensures.from)
