-- Lists that have exactly some positions.
use Rattle.std.proofs.Common.{◌≡◌, ℕ, zero, suc, ◌+◌, ◌<◌, ◌⊎◌, inl, inr, List, [], ◌∷◌, length, get_or, take, refl, sym, subst, arith}
use Rattle.std.proofs.lemmas.List.{take_more}
use Rattle.std.proofs.lemmas.List.Elements.{Contains-append_left, Contains-append_right}
use Rattle.std.specs.List.{Contains}
use Rattle.std.specs.Prelude.{◌↔◌, Bool, IsTrue}
use Rattle.std.specs.List.Sorted.{IsStrictlyIncreasing}
use Rattle.chart_parser_ends.specs.Positions.{HasAll, HasExactly, IsGrown}

pub contains_one : (y x : ℕ) → Contains (y ∷ []) x → x ≡ y
contains_one y x (zero, l, e) = sym e
contains_one y x (suc k, l, e) = absurd (omega (arith, l))

pub contains_none : (x : ℕ) → Contains [] x → ⊥
contains_none x (k, l, e) = omega (arith, l)

pub exactly_none : (P : ℕ → Type 0) → ((x : ℕ) → P x → ⊥) → HasExactly P []
exactly_none P none = record { rising = λ k h. absurd (omega (arith, h)); only = λ x h. absurd (contains_none x h); all = λ x p. absurd (none x p) }

pub exactly_one : (P : ℕ → Type 0) (y : ℕ) → P y → ((x : ℕ) → P x → x ≡ y) → HasExactly P (y ∷ [])
exactly_one P y p only = record {
  rising = λ k h. absurd (omega (arith, h));
  only = λ x h. subst P (sym (contains_one y x h)) p;
  all = λ x q. subst (Contains (y ∷ [])) (sym (only x q)) (0, omega arith, refl);
}

pub exactly_same : (P Q : ℕ → Type 0) (xs : List ℕ) → ((x : ℕ) → P x → Q x) → ((x : ℕ) → Q x → P x) → HasExactly P xs → HasExactly Q xs
exactly_same P Q xs f g h = record { rising = h.rising; only = λ x c. f x (h.only x c); all = λ x q. h.all x (g x q) }

-- Where a list has exactly what P holds of, asking it is asking P.
pub has_exactly : (P : ℕ → Type 0) (xs : List ℕ) (x : ℕ) (b : Bool) → HasExactly P xs → (IsTrue b ↔ Contains xs x) → (IsTrue b ↔ P x)
has_exactly P xs x b h is = (λ t. h.only x (is.0 t), λ p. is.1 (h.all x p))

-- What is in the old list or is added, and nothing else.
pub exactly_grown : (P Q R : ℕ → Type 0) (old new : List ℕ) → HasExactly P old → IsStrictlyIncreasing new → IsGrown Q old new → HasAll Q new
    → ((x : ℕ) → P x → R x) → ((x : ℕ) → Q x → R x) → ((x : ℕ) → R x → P x ⊎ Q x) → HasExactly R new
exactly_grown P Q R old new h rising grown all first second either =
    record { rising = rising; only = λ x c. only x (grown.only x c); all = λ x r. each x (either x r) }
  where
    only : (x : ℕ) → Contains old x ⊎ Q x → R x
    only x (inl c) = first x (h.only x c)
    only x (inr q) = second x q

    each : (x : ℕ) → P x ⊎ Q x → Contains new x
    each x (inl p) = grown.kept x (h.all x p)
    each x (inr q) = all x q

-- One more of the first elements of a list.
pub taken_before : (xs : List ℕ) (i x : ℕ) → i < length xs → Contains (take i xs) x → Contains (take (i + 1) xs) x
taken_before xs i x l h = subst (λ l. Contains l x) (sym (take_more xs i 0 l)) (Contains-append_left (take i xs) (get_or xs i 0 ∷ []) x h)

pub taken_last : (xs : List ℕ) (i : ℕ) → i < length xs → Contains (take (i + 1) xs) (get_or xs i 0)
taken_last xs i l =
    subst (λ l. Contains l (get_or xs i 0)) (sym (take_more xs i 0 l))
    (Contains-append_right (take i xs) (get_or xs i 0 ∷ []) (get_or xs i 0) (0, omega arith, refl))

-- What has grown by an exact list has grown by what that list has.
pub grown_exactly : {P : ℕ → Type 0} (old new more : List ℕ) → HasExactly P more → IsGrown (Contains more) old new → IsGrown P old new
grown_exactly {P} old new more h g = record { only = λ x c. only x (g.only x c); kept = g.kept }
  where
    only : (x : ℕ) → Contains old x ⊎ Contains more x → Contains old x ⊎ P x
    only x (inl c) = inl c
    only x (inr c) = inr (h.only x c)

pub all_exactly : {P : ℕ → Type 0} (new more : List ℕ) → HasExactly P more → HasAll (Contains more) new → HasAll P new
all_exactly {P} new more h all x p = all x (h.all x p)
