-- Sums over lists, and the count of the rules of the normal form.
use Rattle.std.proofs.Common.{◌≡◌, ℕ, zero, suc, Some, drop, slice_get, ◌+◌, ◌<◌, ◌≤◌, List, [], ◌∷◌, length}
use Rattle.std.proofs.Common.{sum_by, take, slice_index_or, sym, ap, ◌∙◌, subst, arith}
use Rattle.std.proofs.lemmas.List.Sums.{sum_by_more, sum_by_more_le}
use Rattle.std.proofs.lemmas.Option.{none-some, same_Some}
use Rattle.grammar_tree.specs.Corners.{group_size, normal_count_from}
use Rattle.grammar_tree.specs.Derives.{Alts}

module _ {X : Type 0} (f : X → ℕ) (xs : List X) (i : ℕ) where
  -- the first parts and the next are no more than the whole
  pub next_fits : (x : X) → i < length xs → x ≡ slice_index_or xs i x → sum_by f (take i xs) + f x ≤ sum_by f xs
  next_fits x lt is = let P : X → Type 0 = λ y. sum_by f (take i xs) + f y ≤ sum_by f xs in subst P (sym is) (sum_by_more_le f xs i x lt)

  pub next_summed : (x : X) → i < length xs → x ≡ slice_index_or xs i x → sum_by f (take (i + 1) xs) ≡ sum_by f (take i xs) + f x
  next_summed x lt is = sum_by_more f xs i x lt ∙ ap (λ y. sum_by f (take i xs) + f y) (sym is)

-- the count of the rules from a number on, of which one is taken
pub one_counted : (G : List Alts) (r : ℕ) (a : Alts) → slice_get G r ≡ Some a
    → normal_count_from r (drop r G) ≡ group_size r a + normal_count_from (r + 1) (drop (r + 1) G)
one_counted G r a at =
    let next : suc r ≡ r + 1 = omega arith in
    ap (normal_count_from r) (drop_is G r at) ∙ ap (λ n. group_size r a + normal_count_from n (drop n G)) next
  where
    drop_is : (H : List Alts) (i : ℕ) → slice_get H i ≡ Some a → drop i H ≡ a ∷ drop (suc i) H
    drop_is [] i at = absurd (none-some a at)
    drop_is (b ∷ H) zero at = ap (λ x. x ∷ H) (same_Some b a at)
    drop_is (b ∷ H) (suc i) at = drop_is H i at
