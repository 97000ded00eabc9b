-- Ranges of numbers as ranges of characters.
use Rattle.std.proofs.Common.{ℕ, ◌+◌, ◌≡◌, ◌<◌, Bool, true, false, ◌&&◌, ◌||◌, nat_le, length, get_or, take, List, [], ◌∷◌, ◌++◌, refl, sym, ap, ◌∙◌, arith}
use Rattle.std.proofs.lemmas.Bool.Decides.{nat_tests}
use Rattle.std.proofs.lemmas.List.{take_more}
use Rattle.std.specs.Char.{IsScalar}
use Rattle.grammar_tree.specs.Ranges.{in_range, in_ranges}
use Rattle.grammar_tree.specs.Chars.{has}

or_false : (a : Bool) → (a || false) ≡ a
or_false true = refl
or_false false = refl

or_assoc : (a b x : Bool) → ((a || b) || x) ≡ (a || (b || x))
or_assoc true b x = refl
or_assoc false b x = refl

-- one range more
pub has_more : (rs : List (ℕ × ℕ)) (r : ℕ × ℕ) (c : ℕ) → has (rs ++ r ∷ []) c ≡ (has rs c || in_range r c)
unfolding in_ranges
has_more [] r c = or_false (in_range r c)
has_more (q ∷ rs) r c = ap (λ b. in_range q c || b) (has_more rs r c) ∙ sym (or_assoc (in_range q c) (in_ranges rs c) (in_range r c))

pub same_range : (first last : ℕ) (range : ℕ × ℕ) (c : ℕ) → nat_le first c ≡ nat_le range.0 c → nat_le c last ≡ nat_le c range.1
    → in_range (first, last) c ≡ in_range range c
unfolding in_range
same_range first last range c e f = ap (λ b. b && nat_le c last) e ∙ ap (λ b. nat_le range.0 c && b) f

-- a range above all characters
pub nothing_in : (range : ℕ × ℕ) (c : ℕ) → 0x10FFFF < range.0 → IsScalar c → in_range range c ≡ false
unfolding in_range
nothing_in range c l h = grind (arith, nat_tests)

pub one_none : (a b : Bool) → b ≡ false → a ≡ (a || b)
one_none a true e = cc e
one_none a false e = sym (or_false a)

pub has_next : (ranges : List (ℕ × ℕ)) (i c : ℕ) (before after : Bool) → i < length ranges → before ≡ has (take i ranges) c
    → after ≡ (before || in_range (get_or ranges i (0, 0)) c) → after ≡ has (take (i + 1) ranges) c
has_next ranges i c before after l e f =
    f ∙ ap (λ b. b || in_range (get_or ranges i (0, 0)) c) e ∙ sym (has_more (take i ranges) (get_or ranges i (0, 0)) c)
    ∙ ap (λ rs. has rs c) (sym (take_more ranges i (0, 0) l))
