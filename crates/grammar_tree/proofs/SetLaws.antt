-- Sets with the same characters are equal.
use Rattle.std.proofs.Common.{◌≡◌, ℕ, ◌≤◌, Bool, true, false, not, List, refl, sym, ap, ◌∙◌, arith}
use Rattle.std.specs.Char.{IsScalar}
use Rattle.regex_class.proofs.RangesLemmas.{same_members-same}
use Rattle.grammar_tree.specs.Chars.{HasExactlyChars, IsCharSet, has, is_surrogate}
use Rattle.grammar_tree.specs.Laws.{SameCharsSameSet, ComplementTwice}

-- a number up to the last character is a surrogate or a character
which : (c : ℕ) → c ≤ 0x10FFFF → is_surrogate c ≡ false → IsScalar c
which c h e = grind (arith)

same_at : (s t : List (ℕ × ℕ)) → IsCharSet s → IsCharSet t → HasExactlyChars s (has t) → (c : ℕ) → c ≤ 0x10FFFF → (b : Bool) → is_surrogate c ≡ b
    → has s c ≡ has t c
same_at s t hs ht h c le true e = hs.only_chars c e ∙ sym (ht.only_chars c e)
same_at s t hs ht h c le false e = h c (which c le e)

pub same_chars : SameCharsSameSet
same_chars s t hs ht h = same_members-same s t hs.canonical ht.canonical (λ c le. same_at s t hs ht h c le (is_surrogate c) refl)

not-not : (b : Bool) → not (not b) ≡ b
not-not true = refl
not-not false = refl

pub complement_twice : ComplementTwice
complement_twice s t u hs hu a b = same_chars u s hu hs (λ c k. b c k ∙ ap not (a c k) ∙ not-not (has s c))
