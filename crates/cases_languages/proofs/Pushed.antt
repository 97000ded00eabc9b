-- Marks that are pushed one after another.
use Rattle.std.proofs.Common.{◌≡◌, ℕ, ◌+◌, ◌<◌, Bool, false, List, [], ◌∷◌, ◌++◌, length, slice_index_or, ap, ◌∙◌, arith}
use Rattle.std.proofs.lemmas.List.{get_or_append_left, get_or_push}
use borrow.Author.Count.{below_more}

-- after one more, each is what it should be, where those before it were
pub push_more : (f : ℕ → Bool) (old new : List Bool) (i : ℕ) (b : Bool) → new ≡ old ++ b ∷ [] → length old ≡ i → b ≡ f i
    → ((j : ℕ) → j < i → slice_index_or old j false ≡ f j) → (j : ℕ) → j < i + 1 → slice_index_or new j false ≡ f j
push_more f old new i b e len is before =
    below_more (λ j. slice_index_or new j false ≡ f j) i
    (λ j below. ap (λ l. slice_index_or l j false) e ∙ get_or_append_left old (b ∷ []) false j (omega arith) ∙ before j below)
    (ap (λ l. slice_index_or l i false) e ∙ get_or_push old b false i len ∙ is)

-- the same where there is one before the first
pub push_after : (f : ℕ → Bool) (old new : List Bool) (i : ℕ) (b : Bool) → new ≡ old ++ b ∷ [] → length old ≡ i + 1 → b ≡ f i
    → ((j : ℕ) → j < i → slice_index_or old (j + 1) false ≡ f j) → (j : ℕ) → j < i + 1 → slice_index_or new (j + 1) false ≡ f j
push_after f old new i b e len is before =
    below_more (λ j. slice_index_or new (j + 1) false ≡ f j) i
    (λ j below. ap (λ l. slice_index_or l (j + 1) false) e ∙ get_or_append_left old (b ∷ []) false (j + 1) (omega arith) ∙ before j below)
    (ap (λ l. slice_index_or l (i + 1) false) e ∙ get_or_push old b false (i + 1) len ∙ is)

pub first_stays : (old new : List Bool) (i : ℕ) (b : Bool) → new ≡ old ++ b ∷ [] → length old ≡ i + 1 → slice_index_or old 0 false ≡ false
    → slice_index_or new 0 false ≡ false
first_stays old new i b e len first = ap (λ l. slice_index_or l 0 false) e ∙ get_or_append_left old (b ∷ []) false 0 (omega arith) ∙ first
