-- Tests of texts.
use Rattle.std.proofs.Common.{◌≡◌, ℕ, Bool, true, false, List, refl, ap, sym, ◌∙◌}
use Rattle.std.specs.Str.{bytes_eq, chars, IsUtf8}
use Rattle.std.proofs.Math.Utf8.{encodes}
use Rattle.std.proofs.lemmas.Str.{encodes-chars}
use Rattle.std.proofs.lemmas.Slice.Eq.{bytes_eq-Decides}

same_test : (a b : Bool) → (a ≡ true → b ≡ true) → (b ≡ true → a ≡ true) → a ≡ b
same_test true true f g = refl
same_test true false f g = sym (f refl)
same_test false true f g = g refl
same_test false false f g = refl

same_bytes : (xs ys : List ℕ) → IsUtf8 xs → IsUtf8 ys → chars xs ≡ chars ys → xs ≡ ys
same_bytes xs ys h k e = sym (encodes-chars xs h) ∙ ap encodes e ∙ encodes-chars ys k

-- Texts are equal where their characters are.
pub same_texts : (xs ys : List ℕ) → IsUtf8 xs → IsUtf8 ys → bytes_eq xs ys ≡ bytes_eq (chars xs) (chars ys)
same_texts xs ys h k =
    let d = bytes_eq-Decides xs ys in
    let e = bytes_eq-Decides (chars xs) (chars ys) in
    same_test (bytes_eq xs ys) (bytes_eq (chars xs) (chars ys)) (λ t. e.1 (ap chars (d.0 t))) (λ t. d.1 (same_bytes xs ys h k (e.0 t)))
