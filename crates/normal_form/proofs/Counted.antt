-- Each parser rule makes a rule.
use Rattle.std.proofs.Common.{ℕ, ◌<◌, arith}
use Rattle.grammar_tree.specs.Derives.{Alts}
use Rattle.grammar_tree.specs.Corners.{group_size, rests}
use Rattle.grammar_check_recursion.proofs.Lent.{head_count}

head_positive : (a : Alts) → 0 < head_count a
head_positive Alts.none = omega arith
head_positive (Alts.or s a) = omega arith

pub group_positive : (r : ℕ) (a : Alts) → 0 < group_size r a
group_positive r a = omega (arith, head_positive (rests r a))
