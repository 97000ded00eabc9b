-- The sets of Mini are those that its text writes.
use Rattle.std.proofs.Common.{◌≡◌, ℕ, not, [], ◌∷◌, refl, sym, arith}
use Rattle.std.specs.Char.{IsScalar}
use Rattle.std.proofs.lemmas.Bool.Decides.{nat_tests}
use Rattle.regex_class.specs.Ranges.{in_range, in_ranges, rises_from}
use Rattle.grammar_tree.specs.Chars.{IsCharSet, has}
use Rattle.grammar_reader_notation.specs.Sets.{outside, within}
use Rattle.grammar_reader_notation.proofs.Lent.{is_set_of}
use Rattle.case_reduction.specs.Mini.{all_chars, blanks, digits, letters, letters_digits, line_chars, plain_chars}

letters_set : IsCharSet letters
unfolding in_ranges in_range rises_from
letters_set = record { canonical = refl; only_chars = λ c h. grind (arith, nat_tests) }

letters_digits_set : IsCharSet letters_digits
unfolding in_ranges in_range rises_from
letters_digits_set = record { canonical = refl; only_chars = λ c h. grind (arith, nat_tests) }

digits_set : IsCharSet digits
unfolding in_ranges in_range rises_from
digits_set = record { canonical = refl; only_chars = λ c h. grind (arith, nat_tests) }

blanks_set : IsCharSet blanks
unfolding in_ranges in_range rises_from
blanks_set = record { canonical = refl; only_chars = λ c h. grind (arith, nat_tests) }

all_set : IsCharSet all_chars
unfolding in_ranges in_range rises_from
all_set = record { canonical = refl; only_chars = λ c h. grind (arith, nat_tests) }

line_set : IsCharSet line_chars
unfolding in_ranges in_range rises_from
line_set = record { canonical = refl; only_chars = λ c h. grind (arith, nat_tests) }

plain_set : IsCharSet plain_chars
unfolding in_ranges in_range rises_from
plain_set = record { canonical = refl; only_chars = λ c h. grind (arith, nat_tests) }

letters_same : (c : ℕ) → has letters c ≡ has ((97, 122) ∷ (65, 90) ∷ (95, 95) ∷ []) c
unfolding in_ranges in_range
letters_same c = grind (arith, nat_tests)

pub letters_are : within ((97, 122) ∷ (65, 90) ∷ (95, 95) ∷ []) ≡ letters
letters_are = sym (is_set_of letters (has ((97, 122) ∷ (65, 90) ∷ (95, 95) ∷ [])) letters_set (λ c h. letters_same c))

letters_digits_same : (c : ℕ) → has letters_digits c ≡ has ((97, 122) ∷ (65, 90) ∷ (95, 95) ∷ (48, 57) ∷ []) c
unfolding in_ranges in_range
letters_digits_same c = grind (arith, nat_tests)

pub letters_digits_are : within ((97, 122) ∷ (65, 90) ∷ (95, 95) ∷ (48, 57) ∷ []) ≡ letters_digits
letters_digits_are = sym (is_set_of letters_digits (has ((97, 122) ∷ (65, 90) ∷ (95, 95) ∷ (48, 57) ∷ [])) letters_digits_set (λ c h. letters_digits_same c))

pub digits_are : within ((48, 57) ∷ []) ≡ digits
digits_are = sym (is_set_of digits (has digits) digits_set (λ c h. refl))

blanks_same : (c : ℕ) → has blanks c ≡ has ((32, 32) ∷ (9, 9) ∷ (13, 13) ∷ (10, 10) ∷ []) c
unfolding in_ranges in_range
blanks_same c = grind (arith, nat_tests)

pub blanks_are : within ((32, 32) ∷ (9, 9) ∷ (13, 13) ∷ (10, 10) ∷ []) ≡ blanks
blanks_are = sym (is_set_of blanks (has ((32, 32) ∷ (9, 9) ∷ (13, 13) ∷ (10, 10) ∷ [])) blanks_set (λ c h. blanks_same c))

all_same : (c : ℕ) → IsScalar c → has all_chars c ≡ not (has [] c)
unfolding in_ranges in_range
all_same c h = grind (arith, nat_tests)

pub all_are : outside [] ≡ all_chars
all_are = sym (is_set_of all_chars (λ c. not (has [] c)) all_set all_same)

line_same : (c : ℕ) → IsScalar c → has line_chars c ≡ not (has ((10, 10) ∷ []) c)
unfolding in_ranges in_range
line_same c h = grind (arith, nat_tests)

pub line_are : outside ((10, 10) ∷ []) ≡ line_chars
line_are = sym (is_set_of line_chars (λ c. not (has ((10, 10) ∷ []) c)) line_set line_same)

plain_same : (c : ℕ) → IsScalar c → has plain_chars c ≡ not (has ((34, 34) ∷ (92, 92) ∷ (10, 10) ∷ []) c)
unfolding in_ranges in_range
plain_same c h = grind (arith, nat_tests)

pub plain_are : outside ((34, 34) ∷ (92, 92) ∷ (10, 10) ∷ []) ≡ plain_chars
plain_are = sym (is_set_of plain_chars (λ c. not (has ((34, 34) ∷ (92, 92) ∷ (10, 10) ∷ []) c)) plain_set plain_same)
