-- Each set of the grammar has its number.
use Rattle.std.proofs.Common.{◌≡◌, ℕ, suc, ◌+◌, ◌<◌, ◌⊎◌, inl, inr, Bool, true, false, not, cond, List, [], ◌∷◌}
use Rattle.std.proofs.Common.{length, Some, None, slice_get, refl, sym, ap, ◌∙◌, arith, true≢false}
use Rattle.std.specs.Prelude.{unwrap_or}
use Rattle.std.specs.List.{Contains, position_or_len}
use Rattle.std.proofs.lemmas.Bool.{lt-ltb}
use Rattle.std.proofs.lemmas.Slice.Eq.{bytes_eq-Decides}
use Rattle.grammar_tree.specs.Kinds.{distinct, same_text}
use Rattle.grammar_tree.proofs.Lent.{contains_distinct}
use Rattle.normal_form.specs.NormalOf.{set_number}
use Rattle.normal_form.proofs.Lists.{Contains-nil, Contains-cases}

-- the element is at the position
record IsAt (xs : List (List ℕ)) (x : List ℕ) (i : ℕ) : Type 0 where
  within : i < length xs
  at : slice_get xs i ≡ Some x

first_of : (y : List ℕ) (ys : List (List ℕ)) (x : List ℕ) (i : ℕ) → (Contains ys x → IsAt ys x i) → (b : Bool) → same_text y x ≡ b → (x ≡ y) ⊎ Contains ys x
    → IsAt (y ∷ ys) x (cond (not b) (1 + i) 0)
first_of y ys x i more true h c = record { within = omega arith; at = ap Some ((bytes_eq-Decides y x).0 h) }
first_of y ys x i more false h (inl same) = absurd (true≢false (sym ((bytes_eq-Decides y x).1 (sym same)) ∙ h))
first_of y ys x i more false h (inr d) =
    let found = more d in
    let next : suc i ≡ 1 + i = omega arith in
    record { within = omega (arith, found.within); at = ap (slice_get (y ∷ ys)) (sym next) ∙ found.at }

first_position : (xs : List (List ℕ)) (x : List ℕ) → Contains xs x → IsAt xs x (position_or_len (λ other. same_text other x) xs)
first_position [] x c = absurd (Contains-nil x c)
first_position (y ∷ ys) x c =
    first_of y ys x (position_or_len (λ other. same_text other x) ys) (first_position ys x) (same_text y x) refl (Contains-cases x y ys c)

number_is : (xs : List (List ℕ)) (x : List ℕ) → position_or_len (λ other. same_text other x) xs < length xs
    → set_number xs x ≡ position_or_len (λ other. same_text other x) xs
number_is xs x h =
    let i = position_or_len (λ other. same_text other x) xs in
    ap (λ b. unwrap_or (cond b (Some i) None) 0) (lt-ltb i (length xs) h)

-- the set is at its number
pub set_is_there : (xs : List (List ℕ)) (x : List ℕ) → Contains xs x → slice_get (distinct xs) (set_number (distinct xs) x) ≡ Some x
set_is_there xs x c =
    let d = first_position (distinct xs) x (contains_distinct xs x c) in
    ap (slice_get (distinct xs)) (number_is (distinct xs) x d.within) ∙ d.at
