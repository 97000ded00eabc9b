-- Two ways to cut one list, and results of two steps.
use Rattle.std.proofs.Common.{◌≡◌, ◌≢◌, ◌⊎◌, inl, inr, List, [], ◌∷◌, ◌++◌, Result, Ok, Err, refl, sym, ap}
use Rattle.reduce_journal.specs.declared.numbers.Mismatch.{Mismatch}
use Rattle.reduce_journal.specs.inner.Reading.{◌>>=◌}

-- of two ways to cut a list one comes first: it ends within the other's first part, or it ends in the other's second part
pub cut_apart : {A : Type 0} (a b c d : List A) → a ++ b ≡ c ++ d
    → ((m : List A) × (m ≢ []) × (a ≡ c ++ m) × (d ≡ m ++ b)) ⊎ ((m : List A) × (c ≡ a ++ m) × (b ≡ m ++ d))
cut_apart [] b c d e = inr (c, refl, e)
cut_apart (x ∷ a) b [] d e = inl (x ∷ a, (λ n. cc n), refl, sym e)
cut_apart (x ∷ a) b (y ∷ c) d e =
    let head : x ≡ y = cc in
    let rest : a ++ b ≡ c ++ d = cc in
    elim (cut_apart a b c d rest) [
      | inl r ↦ let is = r.2 in inl (r.0, r.1, cc, r.3)
      | inr r ↦ let is = r.1 in inr (r.0, cc, r.2)
    ]

-- what isn't empty stays so with more after it
pub some_before : {A : Type 0} (a b : List A) → a ≢ [] → a ++ b ≢ []
some_before [] b some e = some refl
some_before (x ∷ a) b some e = cc e

pub some_after : {A : Type 0} (a b : List A) → b ≢ [] → a ++ b ≢ []
some_after [] b some e = some e
some_after (x ∷ a) b some e = cc e

-- one element is cut only before it
pub one_cut : {A : Type 0} (x : A) (a b : List A) → x ∷ [] ≡ a ++ b → b ≢ [] → (a ≡ []) × (b ≡ x ∷ [])
one_cut x [] b e some = (refl, sym e)
one_cut x (y ∷ []) [] e some = absurd (some refl)
one_cut x (y ∷ []) (z ∷ b) e some = cc e
one_cut x (y ∷ (w ∷ a)) b e some = cc e

-- the steps of a result
pub step_ok : {A B : Type 0} (r : Result A Mismatch) (f : A → Result B Mismatch) (y : B) → (r >>= f) ≡ Ok y → (x : A) × (r ≡ Ok x) × (f x ≡ Ok y)
step_ok (Ok x) f y e = (x, refl, e)
step_ok (Err d) f y e = cc e

pub step_err : {A B : Type 0} (r : Result A Mismatch) (f : A → Result B Mismatch) (d : Mismatch) → (r >>= f) ≡ Err d
    → (r ≡ Err d) ⊎ ((x : A) × (r ≡ Ok x) × (f x ≡ Err d))
step_err (Ok x) f d e = inr (x, refl, e)
step_err (Err c) f d e = let same : c ≡ d = cc in inl (ap Err same)

pub same_found : {A : Type 0} (x y : A) → ◌≡◌ {A = Result A Mismatch} (Ok x) (Ok y) → x ≡ y
same_found x y e = cc
