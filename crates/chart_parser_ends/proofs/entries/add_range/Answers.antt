use Rattle.std.proofs.Common.{arith}
use Rattle.chart_parser_ends.specs.inner.Ranges.{AreLinked, IsNumbered}
use Rattle.chart_parser_ends.proofs.Linked.{added_or_not, linked_apart}
use Rattle.chart_parser_ends.proofs.Numbered.{numbered_same}
use Rattle.chart_parser_ends.proofs.entries.add_range.Goals as goal

pub returns-then-range-gt-CHAIN-clause-linked : goal.returns-then-range-gt-CHAIN-clause-linked
returns-then-range-gt-CHAIN-clause-linked c linked =
    let ranges = c.args.ranges.now.items in
    let last = c.args.last.now.items in
    added_or_not (λ rs. AreLinked rs last) ranges c.add_numbered.new.ranges.items c.args.range c.add_numbered.result c.add_numbered.ensures.added.ok
    c.add_numbered.ensures.added.err linked (linked_apart ranges last c.args.range linked c.requires.earlier (omega (arith, c.if-range-gt-CHAIN.true)))

pub returns-else-range-gt-CHAIN-clause-numbered : goal.returns-else-range-gt-CHAIN-clause-numbered
returns-else-range-gt-CHAIN-clause-numbered c numbered =
    let ranges = c.args.ranges.now.items in
    let numbers = c.args.numbers.now in
    added_or_not (λ rs. IsNumbered rs numbers) ranges c.add_chained.new.ranges.items c.args.range c.add_chained.result c.add_chained.ensures.added.ok
    c.add_chained.ensures.added.err numbered (numbered_same ranges numbers c.args.range (omega (arith, c.if-range-gt-CHAIN.false)) numbered)
