-- Pairs that are sorted, each of which is kept once.
use Rattle.std.proofs.Common.{◌≡◌, Bool, true, ◌&&◌, List, sym, subst}
use Rattle.std.specs.Prelude.{◌↔◌, ◌==◌}
use Rattle.std.specs.Cmp.{IsEquivalence, IsTotalOrder, both_tied, unsigned_ties}
use Rattle.std.specs.List.{Contains, dedup}
use Rattle.std.specs.List.Sorted.{IsPermutation, IsSorted}
use Rattle.std.specs.Ordering.{eq_by_cmp, nat_cmp}
use Rattle.std.proofs.lemmas.Bool.{and_parts}
use Rattle.std.proofs.lemmas.Bool.Decides.{Decides-eqb}
use Rattle.std.proofs.lemmas.Cmp.{and_equiv, nat_cmp_total, nat_eq_equiv, on_equiv, on_total, then_total}
use Rattle.std.proofs.lemmas.List.Kept.{Contains-dedup, Contains-from_dedup, IsStrictlySortedBy-dedup}
use Rattle.std.proofs.lemmas.List.Sorted.{Contains-permutation, IsPermutation-sym}
use Rattle.cert_check_texts.specs.inner.Reached.{AreSorted, order}
use Rattle.cert_check_texts.specs.declared.reached.Reached.{Reached}

-- the two pairs are one
abbrev pub is_pair : Reached → Reached → Bool
is_pair one other = (one.offset == other.offset) && (one.last == other.last)

is_order : IsTotalOrder order
is_order = then_total (on_total (λ (pair : Reached). pair.offset) nat_cmp_total) (on_total (λ (pair : Reached). pair.last) nat_cmp_total)

is_equivalence : IsEquivalence is_pair
is_equivalence = and_equiv (on_equiv (λ (pair : Reached). pair.offset) nat_eq_equiv) (on_equiv (λ (pair : Reached). pair.last) nat_eq_equiv)

ties : (one other : Reached) → is_pair one other ≡ eq_by_cmp order one other
ties one other =
    both_tied (one.offset == other.offset) (one.last == other.last) (nat_cmp one.offset other.offset) (nat_cmp one.last other.last)
    (unsigned_ties one.offset other.offset) (unsigned_ties one.last other.last)

exact : (one other : Reached) → is_pair one other ≡ true → one ≡ other
exact one other same =
    let parts = and_parts (one.offset == other.offset) (one.last == other.last) same in
    let offset = (Decides-eqb one.offset other.offset).0 parts.0 in
    let last = (Decides-eqb one.last other.last).0 parts.1 in
    λ i. record { offset = offset i; last = last i }

pub sorted_once : (pairs : List Reached) → IsSorted order pairs → AreSorted (dedup is_pair pairs)
sorted_once pairs are = IsStrictlySortedBy-dedup is_order ties pairs are

pub same_pairs : (old moved new : List Reached) → IsPermutation old moved → new ≡ dedup is_pair moved → (pair : Reached)
    → Contains new pair ↔ Contains old pair
same_pairs old moved new permuted is pair = (
  λ at. Contains-permutation moved old pair (IsPermutation-sym old moved permuted)
      (Contains-from_dedup is_pair moved pair (subst (λ (l : List Reached). Contains l pair) is at)),
  λ at. subst (λ (l : List Reached). Contains l pair) (sym is)
      (Contains-dedup is_equivalence exact moved pair (Contains-permutation old moved pair permuted at)),
)
