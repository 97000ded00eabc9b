-- Numbers as they are written in words.
use Rattle.std.proofs.Common.{◌≡◌, ℕ, ◌<◌, ◌≤◌, ◌^◌, ◌==◌, Bool, true, false, not, List, [], ◌∷◌, length, nat_le}
use Rattle.std.proofs.Common.{Result, Err, rules, refl, sym, arith, leb-true, true≢false}
use Rattle.std.specs.Char.{is_ascii_digit}
use Rattle.std.specs.List.{list_all}
use Rattle.std.specs.Result.{OkIff}
use Rattle.std.specs.Str.Parse.{ParsesUnsigned, digits_value}
use Rattle.std.proofs.lemmas.Bool.{and_parts}
use Rattle.std.proofs.lemmas.Str.Parse.{IsDigitsTest, IsNumeralModel, numerals_by_value, parse_digits}
use Rattle.command_words.specs.Options.{is_decimal, is_number_in}

digits_test : IsDigitsTest (λ ds. list_all is_ascii_digit ds ≡ true)
digits_test = search rules

numerals : IsNumeralModel (λ ds. list_all is_ascii_digit ds ≡ true) (digits_value 10)
numerals = numerals_by_value (λ ds. list_all is_ascii_digit ds ≡ true) digits_test

decimal_digits : (text : List ℕ) → is_decimal text ≡ true → list_all is_ascii_digit text ≡ true
decimal_digits [] is = absurd (true≢false (sym is))
decimal_digits (digit ∷ []) is = is
decimal_digits (digit ∷ (next ∷ digits)) is = (and_parts (not (digit == 48)) (list_all is_ascii_digit (digit ∷ (next ∷ digits))) is).1

decimal_some : (text : List ℕ) → is_decimal text ≡ true → 0 < length text
decimal_some [] is = absurd (true≢false (sym is))
decimal_some (digit ∷ digits) is = omega arith

-- what is read of a decimal number
pub parsed : {E : Type 0} → (text : List ℕ) (r : Result ℕ E) → is_decimal text ≡ true → ParsesUnsigned 32 10 text r
    → OkIff r ((0 < length text) × (digits_value 10 text < 2 ^ 32)) (digits_value 10 text)
parsed text r is h = parse_digits numerals 32 text r h (decimal_digits text is)

-- a number that can't be read is none in the bounds
pub too_great : (least most : ℕ) (text : List ℕ) → is_decimal text ≡ true → most < 2 ^ 32 → ((0 < length text) × (digits_value 10 text < 2 ^ 32) → ⊥)
    → is_number_in least most text ≡ false
too_great least most text is bound none = go (is_number_in least most text) refl
  where
    go : (b : Bool) → is_number_in least most text ≡ b → b ≡ false
    go false is_in = refl
    go true is_in =
        let bounds = and_parts (nat_le least (digits_value 10 text)) (nat_le (digits_value 10 text) most) (and_parts (is_decimal text) _ is_in).1 in
        let below : digits_value 10 text ≤ most = leb-true (digits_value 10 text) most bounds.1 in
        absurd (none (decimal_some text is, omega arith))

pub not_parsed : (least most : ℕ) (text : List ℕ) → is_decimal text ≡ true → most < 2 ^ 32 → ParsesUnsigned {E = ℕ} 32 10 text (Err 0)
    → is_number_in least most text ≡ false
not_parsed least most text is bound h = too_great least most text is bound (parsed {E = ℕ} text (Err 0) is h)
