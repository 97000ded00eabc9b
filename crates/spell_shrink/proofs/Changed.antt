-- Respellings in which one spelling is changed.
use Rattle.std.proofs.Common.{◌≡◌, ◌<◌, ℕ, zero, suc, List, [], ◌∷◌, All, length, refl, ap, arith}
use Rattle.std.proofs.lemmas.List.Elements.{All-cons, All-head, All-tail}
use Rattle.spell_shrink.specs.Respelling.{Respelling, SpelledToken, number_at, numbers_of, with_word_at, word_at}
use Rattle.spell_shrink.specs.Respelled.{word_bytes}

-- they are of the same tokens
pub same_numbers : (r : Respelling) (k : ℕ) (word : List ℕ) → numbers_of (with_word_at r k word) ≡ numbers_of r
same_numbers [] k word = refl
same_numbers (p ∷ r) zero word = refl
same_numbers (p ∷ r) (suc k) word = ap (λ (numbers : List ℕ). p.number ∷ numbers) (same_numbers r k word)

-- what holds of each token with its spelling still does, if it does of the changed one
pub all_changed : (Q : SpelledToken → Type 0) (r : Respelling) (k : ℕ) (word : List ℕ) → All Q r
    → (k < length r → Q (record { number = number_at r k; word = word })) → All Q (with_word_at r k word)
all_changed Q [] k word all new = all
all_changed Q (p ∷ r) zero word all new = All-cons Q (record p { word = word }) r (new (omega arith)) (All-tail Q p r all)
all_changed Q (p ∷ r) (suc k) word all new =
    All-cons Q p (with_word_at r k word) (All-head Q p r all) (all_changed Q r k word (All-tail Q p r all) (λ less. new (omega (arith, less))))

-- what holds of a token at an index
pub at_index : (Q : SpelledToken → Type 0) (r : Respelling) (k : ℕ) → All Q r → k < length r
    → Q (record { number = number_at r k; word = word_at r k })
at_index Q [] k all less = absurd (omega (arith, less))
at_index Q (p ∷ r) zero all less = All-head Q p r all
at_index Q (p ∷ r) (suc k) all less = at_index Q r k (All-tail Q p r all) (omega (arith, less))

-- with a shorter spelling there are fewer bytes
pub fewer_bytes : (r : Respelling) (k : ℕ) (word : List ℕ) → length word < length (word_at r k) → word_bytes (with_word_at r k word) < word_bytes r
fewer_bytes [] k word less = absurd (omega (arith, less))
fewer_bytes (p ∷ r) zero word less = omega (arith, less)
fewer_bytes (p ∷ r) (suc k) word less = omega (arith, fewer_bytes r k word less)

-- a token whose spelling has bytes is there
pub is_there : (r : Respelling) (k : ℕ) (word : List ℕ) → length word < length (word_at r k) → k < length r
is_there [] k word less = absurd (omega (arith, less))
is_there (p ∷ r) zero word less = omega arith
is_there (p ∷ r) (suc k) word less = omega (arith, is_there r k word less)
