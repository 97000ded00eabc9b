use Rattle.std.proofs.Common.{ℕ, List, ap, arith, length, sym, subst}
use Rattle.std.specs.List.{Contains}
use Rattle.std.specs.List.Sorted.{IsNonDecreasing}
use Rattle.std.proofs.lemmas.List.Filters.{dedup_is}
use Rattle.std.proofs.lemmas.List.Kept.{Contains-dedup_nat, Contains-from_dedup}
use Rattle.std.proofs.lemmas.List.Sorted.{Contains-permutation, IsPermutation-sym, length_permutation}
use Rattle.std.proofs.lemmas.Map.Keys.{IsStrictlyIncreasing-dedup}
use Rattle.std.proofs.Math.Dec.{eqb}
use Rattle.grammar_names.proofs.Lent.{not_falling}
use Rattle.compat_table.proofs.Searching.{length_dedup}
use Rattle.compat_table.proofs.row.rising.Goals as goal

pub returns-clause-rising : goal.returns-clause-rising
returns-clause-rising c =
    let sorted = c.sort_unstable.new.self.items in
    let is = dedup_is eqb sorted c.dedup.new.self.items c.dedup.ensures.filtered in
    subst IsNonDecreasing (sym is) (not_falling _ (IsStrictlyIncreasing-dedup sorted c.sort_unstable.ensures.sorted))

pub returns-clause-only : goal.returns-clause-only
returns-clause-only c x at =
    let sorted = c.sort_unstable.new.self.items in
    let is = dedup_is eqb sorted c.dedup.new.self.items c.dedup.ensures.filtered in
    let P : List ℕ → Type 0 = λ l. Contains l x in
    Contains-permutation sorted c.args.numbers.items x (IsPermutation-sym c.args.numbers.items sorted c.sort_unstable.ensures.permutation)
    (Contains-from_dedup eqb sorted x (subst P is at))

pub returns-clause-all : goal.returns-clause-all
returns-clause-all c x at =
    let sorted = c.sort_unstable.new.self.items in
    let is = dedup_is eqb sorted c.dedup.new.self.items c.dedup.ensures.filtered in
    let P : List ℕ → Type 0 = λ l. Contains l x in
    subst P (sym is) (Contains-dedup_nat sorted x (Contains-permutation c.args.numbers.items sorted x c.sort_unstable.ensures.permutation at))

pub returns-clause-few : goal.returns-clause-few
returns-clause-few c =
    let sorted = c.sort_unstable.new.self.items in
    let is = dedup_is eqb sorted c.dedup.new.self.items c.dedup.ensures.filtered in
    omega (arith, ap length is, length_dedup eqb sorted, length_permutation c.args.numbers.items sorted c.sort_unstable.ensures.permutation)
