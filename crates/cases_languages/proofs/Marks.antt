-- Positions that are marked.
use Rattle.std.proofs.Common.{◌≡◌, ◌<◌, ◌⊎◌, ◌↔◌, inl, inr, ℕ, zero, suc, Bool, true, false, ◌||◌, List, [], ◌∷◌}
use Rattle.std.proofs.Common.{length, slice_index_or, IsTrue, refl, sym, ap, ◌∙◌, subst, arith}
use Rattle.std.proofs.lemmas.Bool.{or_cases, or_left, or_right}
use Rattle.cases_languages.specs.Positions.{IsIn}

abbrev pub IsUnion : List Bool → List Bool → List Bool → Type 0
IsUnion marks left right = (j : ℕ) → slice_index_or marks j false ≡ (slice_index_or left j false || slice_index_or right j false)

pub in_union : (marks left right : List Bool) → IsUnion marks left right → (j : ℕ) → IsIn marks j ↔ (IsIn left j ⊎ IsIn right j)
in_union marks left right e j =
    (λ h. or_cases (slice_index_or left j false) (slice_index_or right j false) (sym (e j) ∙ h), back)
  where
    back : IsIn left j ⊎ IsIn right j → IsIn marks j
    back (inl h) = e j ∙ or_left (slice_index_or left j false) (slice_index_or right j false) h
    back (inr h) = e j ∙ or_right (slice_index_or left j false) (slice_index_or right j false) h

-- how many positions aren't marked
abbrev pub unmarked : List Bool → ℕ
unmarked [] = 0
unmarked (b ∷ bs) = count b (unmarked bs)
  where
    count : Bool → ℕ → ℕ
    count true n = n
    count false n = suc n

-- Marks that only grow leave fewer positions unmarked, unless they stay the same.
pub fewer : (old new : List Bool) → length new ≡ length old → ((j : ℕ) → IsIn old j → IsIn new j) → (new ≡ old) ⊎ (unmarked new < unmarked old)
fewer [] [] l h = inl refl
fewer [] (y ∷ ys) l h = absurd (omega (arith, l))
fewer (x ∷ xs) [] l h = absurd (omega (arith, l))
fewer (x ∷ xs) (y ∷ ys) l h = go x y (h zero) (fewer xs ys (omega (arith, l)) (λ j. h (suc j)))
  where
    go : (x y : Bool) → (x ≡ true → y ≡ true) → (ys ≡ xs) ⊎ (unmarked ys < unmarked xs) → (y ∷ ys ≡ x ∷ xs) ⊎ (unmarked (y ∷ ys) < unmarked (x ∷ xs))
    go true true k (inl e) = inl (ap (λ l. true ∷ l) e)
    go true true k (inr e) = inr e
    go true false k r = absurd (cc (k refl))
    go false true k (inl e) = inr (omega (arith, ap (unmarked) e))
    go false true k (inr e) = inr (omega (arith, e))
    go false false k (inl e) = inl (ap (λ l. false ∷ l) e)
    go false false k (inr e) = inr (omega (arith, e))

-- what is read at a position is whether it is marked
pub marked_at : (marks : List Bool) (i : ℕ) (b : Bool) → i < length marks → b ≡ slice_index_or marks i b → slice_index_or marks i false ≡ b
marked_at [] i b h e = absurd (omega (arith, h))
marked_at (x ∷ marks) zero b h e = sym e
marked_at (x ∷ marks) (suc i) b h e = marked_at marks i b (omega arith) e

-- an answer that is read at a position says what a mark there does
pub tells : (P : Type 0) (marks : List Bool) (i : ℕ) (b : Bool) → i < length marks → b ≡ slice_index_or marks i b → IsIn marks i ↔ P → IsTrue b ↔ P
tells P marks i b h e f = (λ t. f.0 (marked_at marks i b h e ∙ t), λ p. sym (marked_at marks i b h e) ∙ f.1 p)

-- what is reached from the first position alone
pub from_first : (S : ℕ → ℕ → Type 0) (from ends : List Bool) → ((j : ℕ) → IsIn from j ↔ (j ≡ 0)) → ((j : ℕ) → IsIn ends j ↔ ((i : ℕ) × IsIn from i × S i j))
    → (j : ℕ) → IsIn ends j ↔ S 0 j
from_first S from ends only e j = (
  λ h. let x = (e j).0 h in let P : ℕ → Type 0 = λ n. S n j in subst P ((only x.0).0 x.1) x.2,
  λ s. (e j).1 (0, (only 0).1 refl, s),
)
