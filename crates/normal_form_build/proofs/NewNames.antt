-- The names of new rules.
use Rattle.std.proofs.Common.{◌≡◌, ℕ, zero, suc, ◌+◌, ◌-◌, ◌<◌, ◌≤◌, ◌^◌, List, [], ◌∷◌, ◌++◌, sym, ap, ◌∙◌, arith}
use Rattle.std.specs.Fmt.{decimal}
use Rattle.std.specs.Str.{IsAscii, IsUtf8, chars}
use Rattle.std.proofs.lemmas.Fmt.{IsAscii-decimal}
use Rattle.std.proofs.lemmas.Str.{chars-append, chars-IsAscii}
use Rattle.normal_form.specs.NormalOf.{new_names}

cons_ascii : (c : ℕ) (cs : List ℕ) → c < 128 → IsAscii cs → IsAscii (c ∷ cs)
cons_ascii c cs h a zero = h
cons_ascii c cs h a (suc i) = a i

-- the characters of a new rule's name
pub name_chars : (name : List ℕ) (number : ℕ) → IsUtf8 name → number < 2 ^ 64 → chars (name ++ (35 ∷ decimal number)) ≡ chars name ++ (35 ∷ decimal number)
name_chars name number u h =
    chars-append name (35 ∷ decimal number) u
    ∙ ap (λ l. chars name ++ l) (chars-IsAscii (35 ∷ decimal number) (cons_ascii 35 (decimal number) (omega arith) (IsAscii-decimal number h)))

-- one more name
pub names_push : (name : List ℕ) (k n : ℕ) → new_names name k (suc n) ≡ new_names name k n ++ (name ++ (35 ∷ decimal (k + n))) ∷ []
names_push name k zero = let e : k + 0 ≡ k = omega arith in ap (λ j. (name ++ (35 ∷ decimal j)) ∷ []) (sym e)
names_push name k (suc n) =
    let e : k + 1 + n ≡ k + suc n = omega arith in
    ap (λ l. (name ++ (35 ∷ decimal k)) ∷ l) (names_push name (k + 1) n ∙ ap (λ j. new_names name (k + 1) n ++ (name ++ (35 ∷ decimal j)) ∷ []) e)

pub names_at : (name : List ℕ) (k : ℕ) → 1 ≤ k → new_names name 1 (k + 1 - 1) ≡ new_names name 1 (k - 1) ++ (name ++ (35 ∷ decimal k)) ∷ []
names_at name k h =
    let e : k + 1 - 1 ≡ suc (k - 1) = omega (arith, h) in
    let f : 1 + (k - 1) ≡ k = omega (arith, h) in
    ap (new_names name 1) e ∙ names_push name 1 (k - 1) ∙ ap (λ j. new_names name 1 (k - 1) ++ (name ++ (35 ∷ decimal j)) ∷ []) f
