use Rattle.std.proofs.Common.{◌≡◌, ℕ, take}
use Rattle.std.specs.Char.{IsScalar}
use Rattle.grammar_tree.specs.Chars.{has}
use Rattle.grammar_reader_notation.proofs.set.within.Given as goal

abbrev pub invariant-loop-range : goal.invariant-loop-range
invariant-loop-range l = (c : ℕ) → IsScalar c → has l.chars.items c ≡ has (take l.range-index l.ranges) c
