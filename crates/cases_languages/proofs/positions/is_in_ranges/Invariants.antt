use Rattle.std.proofs.Common.{◌≡◌, false, take}
use Rattle.grammar_tree.specs.Chars.{has}
use Rattle.cases_languages.proofs.positions.is_in_ranges.Given as goal

abbrev pub invariant-loop-range : goal.invariant-loop-range
invariant-loop-range l = has (take l.range-index l.ranges) l.number ≡ false
