use Rattle.std.proofs.Common.{◌≡◌, take}
use Rattle.grammar_tree.proofs.char_set.CharSet.new.Given as goal

abbrev pub invariant-loop-range : goal.invariant-loop-range
invariant-loop-range l = l.numbers.items ≡ take l.range-index l.ranges
