-- The bytes of a printed literal.
use Rattle.std.proofs.Common.{◌≡◌, ℕ, zero, suc, ◌+◌, ◌<◌, ◌/◌, ◌%◌, Bool, true, false, cond, List, [], ◌∷◌, ◌++◌, map, refl, sym, ap, ◌∙◌, arith}
use Rattle.std.specs.Prelude.{◌==◌, nat_lt, encode_utf8_all}
use Rattle.std.specs.Fmt as fmt
use Rattle.std.specs.Fmt.{digit_glyph, digits_onto, radix_digits}
use Rattle.std.specs.List.{flat_map}
use Rattle.std.specs.Str.{IsAscii}
use Rattle.std.proofs.lemmas.List.{append-nil}
use Rattle.std.proofs.lemmas.Grind.{flat_map-append}
use Rattle.std.proofs.lemmas.Nat.{mod_below}
use Rattle.std.proofs.lemmas.Str.{encodes-IsAscii, encodes-append}
use Rattle.grammar_literal.specs.Literal.{code_of, content, escaped}

nil_ascii : IsAscii []
nil_ascii i = omega arith

cons_ascii : (c : ℕ) (cs : List ℕ) → c < 128 → IsAscii cs → IsAscii (c ∷ cs)
cons_ascii c cs h a zero = h
cons_ascii c cs h a (suc i) = a i

append_ascii : (xs ys : List ℕ) → IsAscii xs → IsAscii ys → IsAscii (xs ++ ys)
append_ascii [] ys a b = b
append_ascii (x ∷ xs) ys a b = cons_ascii x (xs ++ ys) (a 0) (append_ascii xs ys (λ i. a (suc i)) b)

glyph_is_ascii : (d : ℕ) → d < 16 → (b : Bool) → nat_lt d 10 ≡ b → cond b (48 + d) (55 + d) < 128
glyph_is_ascii d h true e = omega (arith, h)
glyph_is_ascii d h false e = omega (arith, h)

onto_is_ascii : (k n : ℕ) (acc : List ℕ) → IsAscii acc → IsAscii (digits_onto k 16 true n acc)
onto_is_ascii zero n acc a = a
onto_is_ascii (suc k) n acc a =
    by_test (cons_ascii (digit_glyph true (n % 16)) acc (glyph_is_ascii (n % 16) (mod_below n 16 (omega arith)) (nat_lt (n % 16) 10) refl) a)
    (onto_is_ascii k (n / 16) (digit_glyph true (n % 16) ∷ acc)) (n / 16 == 0)
  where
    by_test : IsAscii (digit_glyph true (n % 16) ∷ acc)
        → (IsAscii (digit_glyph true (n % 16) ∷ acc) → IsAscii (digits_onto k 16 true (n / 16) (digit_glyph true (n % 16) ∷ acc))) → (b : Bool)
        → IsAscii (cond b (digit_glyph true (n % 16) ∷ acc) (digits_onto k 16 true (n / 16) (digit_glyph true (n % 16) ∷ acc)))
    by_test one more true = one
    by_test one more false = more one

hex_is_ascii : (n : ℕ) → IsAscii (radix_digits 16 true n)
unfolding fmt.digits
hex_is_ascii n = onto_is_ascii 64 n [] nil_ascii

-- the bytes of a character's number are its characters
pub code_bytes : (c : ℕ) → encode_utf8_all (code_of c) ≡ code_of c
code_bytes c =
    encodes-IsAscii (code_of c) (cons_ascii 92 (117 ∷ 123 ∷ (radix_digits 16 true c ++ 125 ∷ [])) (omega arith)
    (cons_ascii 117 (123 ∷ (radix_digits 16 true c ++ 125 ∷ [])) (omega arith)
    (cons_ascii 123 (radix_digits 16 true c ++ 125 ∷ []) (omega arith)
    (append_ascii (radix_digits 16 true c) (125 ∷ []) (hex_is_ascii c) (cons_ascii 125 [] (omega arith) nil_ascii)))))

-- one more character
pub content_more : (cs : List ℕ) (c : ℕ) → encode_utf8_all (content cs) ++ encode_utf8_all (escaped c) ≡ encode_utf8_all (content (cs ++ c ∷ []))
content_more cs c =
    sym (encodes-append (flat_map escaped cs) (escaped c))
    ∙ ap encode_utf8_all (ap (λ l. flat_map escaped cs ++ l) (sym (append-nil (escaped c))) ∙ sym (flat_map-append escaped cs (c ∷ [])))

pub map_same : (xs : List ℕ) → map (λ c. c) xs ≡ xs
map_same [] = refl
map_same (x ∷ xs) = ap (λ l. x ∷ l) (map_same xs)
