use Rattle.std.proofs.Common.{take}
use Rattle.chart_parser_prefix.specs.inner.Walk.{ExpectsAll, IsAtOneOf, IsGrownBy}
use Rattle.chart_parser_prefix.proofs.expected.add_at_each.Given as goal

abbrev pub invariant-loop-position : goal.invariant-loop-position
invariant-loop-position l =
    IsGrownBy (IsAtOneOf l.symbol (take l.position-index l.positions)) l.fn.lists.items l.lists.items
    × ExpectsAll (IsAtOneOf l.symbol (take l.position-index l.positions)) l.lists.items
