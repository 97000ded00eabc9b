-- Tests on texts, and searches by them.
use Rattle.std.proofs.Common.{◌≡◌, ◌∙◌, ℕ, Bool, true, false, cond, List, [], ◌∷◌, Some, find, refl, sym, ap, bytes_eq, true≢false}
use Rattle.std.proofs.lemmas.Slice.Eq.{bytes_eq-Decides}

pub text_same : (a b : List ℕ) → bytes_eq a b ≡ true → a ≡ b
text_same a b h = (bytes_eq-Decides a b).0 h

pub text_equal : (a b : List ℕ) → a ≡ b → bytes_eq a b ≡ true
text_equal a b h = (bytes_eq-Decides a b).1 h

pub text_self : (a : List ℕ) → bytes_eq a a ≡ true
text_self a = text_equal a a refl

-- one test can't have both answers
pub both_answers : (b : Bool) → b ≡ true → b ≡ false → ⊥
both_answers b yes_is no_is = true≢false (sym yes_is ∙ no_is)

-- what a search finds passes its test
pub found_passes : {X : Type 0} (test : X → Bool) (xs : List X) (x : X) → find test xs ≡ Some x → test x ≡ true
found_passes test [] x found = absurd (cc found)
found_passes {X} test (y ∷ ys) x found = go (test y) refl (λ later. found_passes test ys x later) found
  where
    go : (b : Bool) → test y ≡ b → (find test ys ≡ Some x → test x ≡ true) → cond b (Some y) (find test ys) ≡ Some x → test x ≡ true
    go true is later found = let same : y ≡ x = cc found in sym (ap test same) ∙ is
    go false is later found = later found
