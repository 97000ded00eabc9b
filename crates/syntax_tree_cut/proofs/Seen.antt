-- Children that are counted one after another.
use Rattle.std.proofs.Common.{◌≡◌, inl, inr, ℕ, ◌+◌, List, [], ◌∷◌, ◌++◌, subst, arith, eq-eqb, length-append}
use Rattle.std.specs.Prelude.{false, nat_eq}
use Rattle.std.specs.List.{Contains}
use Rattle.std.proofs.lemmas.Bool.{eqb-true, both_ways}
use Rattle.std.proofs.lemmas.List.Elements.{Contains-push, Contains-push_cases}
use Rattle.syntax_tree_cut.specs.declared.children.Seen.{Seen}
use Rattle.syntax_tree_cut.specs.inner.Children.{HasSeen}

pub one_more : (done : List ℕ) (child number : ℕ) (seen : Seen) → HasSeen done child seen → seen.found ≡ false
    → HasSeen (done ++ number ∷ []) child (record { count = seen.count + 1; found = nat_eq number child })
one_more done child number seen is other =
    let count = is.count in
    let long = length-append done (number ∷ []) in
    record {
      count = omega (arith, count, long);
      found = (
        λ same. subst (λ (x : ℕ). Contains (done ++ number ∷ []) x) (eqb-true number child same) (Contains-push done number),
        λ has. elim (Contains-push_cases done number child has) [
          | inl before ↦ absurd (both_ways seen.found other (is.found.1 before))
          | inr same ↦ eq-eqb number child same
        ],
      );
    }
