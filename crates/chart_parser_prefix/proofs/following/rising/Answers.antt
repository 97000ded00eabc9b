use Rattle.std.proofs.Common.{List, subst, sym, ℕ}
use Rattle.std.specs.List.{Contains}
use Rattle.std.specs.List.Sorted.{IsStrictlyIncreasing}
use Rattle.std.proofs.lemmas.List.Filters.{dedup_is}
use Rattle.std.proofs.lemmas.List.Kept.{Contains-dedup_nat, Contains-from_dedup}
use Rattle.std.proofs.lemmas.List.Sorted.{Contains-permutation, IsPermutation-sym}
use Rattle.std.proofs.lemmas.Map.Keys.{IsStrictlyIncreasing-dedup}
use Rattle.std.proofs.Math.Dec.{eqb}
use Rattle.chart_parser_prefix.proofs.following.rising.Goals as goal

pub returns : goal.returns
returns c =
    let all = c.sort_unstable.new.self.items in
    let is = dedup_is eqb all c.dedup.new.self.items c.dedup.ensures.filtered in
    let moved = c.sort_unstable.ensures.permutation in
    record {
      rising = subst IsStrictlyIncreasing (sym is) (IsStrictlyIncreasing-dedup all c.sort_unstable.ensures.sorted);
      only =
          λ k h. Contains-permutation all c.args.kinds.items k (IsPermutation-sym c.args.kinds.items all moved)
          (Contains-from_dedup eqb all k (subst (λ (l : List ℕ). Contains l k) is h));
      all = λ k h. subst (λ (l : List ℕ). Contains l k) (sym is) (Contains-dedup_nat all k (Contains-permutation c.args.kinds.items all k moved h));
    }
