-- Kept tokens that are printed with their own spellings.
use Rattle.std.proofs.Common.{◌≡◌, ◌∙◌, ◌<◌, ◌-◌, ◌^◌, ◌↔◌, ℕ, Bool, true, false, List, [], All, length, refl, sym, ap, subst, arith, string_bytes}
use Rattle.std.specs.Prelude.{IsTrue}
use Rattle.std.specs.Str.{chars, IsUtf8}
use denote.Ref.{Bor}
use Rattle.grammar_tree.specs.Written.{WrittenGrammar}
use Rattle.grammar_tree.specs.Lexes.{PlacedToken}
use Rattle.lexer.specs.Tokens.{HasTokens}
use Rattle.token_print.specs.Spells.{SpellsTokens}
use Rattle.token_print.specs.declared.style.Skips.{Skips}
use Rattle.token_print.specs.declared.style.Style.{Style}
use Rattle.token_print.specs.Kept.{AreKept, KeepsTokens}
use Rattle.token_print.specs.Laws.{NoLongerThanStart, NoLongerThanTwice}
use Rattle.token_print.specs.Printed.{printed}
use Rattle.spell_shrink.specs.declared.cut_text.Mark.{Mark}
use Rattle.spell_shrink.specs.declared.spelled.Spelled.{Spelled}
use Rattle.spell_shrink.specs.Respelling.{Respelling, own_spellings}
use Rattle.spell_shrink.specs.Texts.{respelled_pieces, respelled_text}
use Rattle.spell_shrink.specs.inner.Changes.{IsCut, respelling_of_words, word_offsets}
use Rattle.spell_shrink.specs.inner.Spelled.{IsPrintOf, respelling_of}
use Rattle.spell_shrink.proofs.Own.{own_pieces, own_text}

-- their text is short enough to be lexed
own_short : NoLongerThanStart → NoLongerThanTwice → (G : WrittenGrammar) (skips : Skips) (start : List ℕ) (tokens : List PlacedToken) (style : Style)
    (kept : List ℕ) → IsUtf8 start → HasTokens G (chars start) tokens → AreKept tokens kept → length start < 2 ^ 31 - 1
    → length (respelled_text skips start tokens style (own_spellings start tokens kept)) < 2 ^ 32 - 1
own_short once twice G skips start tokens style kept utf8 has are small =
    subst (λ (l : List ℕ). length l < 2 ^ 32 - 1) (sym (own_text skips start tokens style kept)) (by style)
  where
    by : (s : Style) → length (printed skips start tokens kept s) < 2 ^ 32 - 1
    by Style.AsWas = omega (arith, once G skips start tokens kept utf8 has are, small)
    by Style.Squeezed = omega (arith, twice G skips start tokens kept utf8 has are, small)

-- as it is printed of tokens and spellings that are lent
pub printed_short : NoLongerThanStart → NoLongerThanTwice → (G : WrittenGrammar) (skips : Skips) (start : List ℕ) (tokens : List PlacedToken)
    (style : Style) (kept : List ℕ) → IsUtf8 start → HasTokens G (chars start) tokens → AreKept tokens kept → length start < 2 ^ 31 - 1
    → (words : List (Bor (List ℕ))) → respelling_of_words kept words ≡ own_spellings start tokens kept → (text : List ℕ)
    → text ≡ respelled_text skips start tokens style (respelling_of_words kept words) → length text < 2 ^ 32 - 1
printed_short once twice G skips start tokens style kept utf8 has are small words own text text_is =
    subst (λ (l : List ℕ). length l < 2 ^ 32 - 1) (sym (text_is ∙ ap (respelled_text skips start tokens style) own))
    (own_short once twice G skips start tokens style kept utf8 has are small)

-- the same of numbers and spellings that are lent
pub lent_own : (start : List ℕ) (tokens : List PlacedToken) (kept lent : List ℕ) (words : List (Bor (List ℕ))) → lent ≡ kept
    → respelling_of_words lent words ≡ own_spellings start tokens lent → respelling_of_words kept words ≡ own_spellings start tokens kept
lent_own start tokens kept lent words = subst (λ (l : List ℕ). respelling_of_words l words ≡ own_spellings start tokens l)

pub lent_text : (f : Respelling → List ℕ) (kept lent : List ℕ) (words lent_words : List (Bor (List ℕ))) (text : List ℕ) → lent ≡ kept → lent_words ≡ words
    → text ≡ f (respelling_of_words lent lent_words) → text ≡ f (respelling_of_words kept words)
lent_text f kept lent words lent_words text same same_words is = is ∙ (λ i. f (respelling_of_words (same i) (same_words i)))

-- where the text is cut into them
own_spells : (G : WrittenGrammar) (start : List ℕ) (tokens : List PlacedToken) (kept : List ℕ) → All (λ i. i < length tokens) kept → (text : List ℕ)
    (marks : List Mark) (keeps : Bool) → IsTrue keeps ↔ KeepsTokens G start tokens kept text → (keeps ≡ false → marks ≡ []) → (marks ≡ [] → ⊥)
    → SpellsTokens G text (respelled_pieces tokens (own_spellings start tokens kept))
own_spells G start tokens kept there text marks true says none marked =
    subst (SpellsTokens G text) (sym (own_pieces start tokens kept there)) (says.0 refl)
own_spells G start tokens kept there text marks false says none marked = absurd (marked (none refl))

-- they are a print of these tokens
pub own_print : (G : WrittenGrammar) (skips : Skips) (start : List ℕ) (tokens : List PlacedToken) (style : Style) (s : Spelled)
    → AreKept tokens s.kept.items → respelling_of s ≡ own_spellings start tokens s.kept.items → length s.words.items ≡ length s.kept.items
    → All (λ (w : Bor (List ℕ)). IsUtf8 w.now) s.words.items → (text : List ℕ) → string_bytes s.text.text ≡ text
    → text ≡ respelled_text skips start tokens style (respelling_of s) → s.places.items ≡ word_offsets skips start tokens style (respelling_of s)
    → IsCut G s.text → (keeps : Bool) → IsTrue keeps ↔ KeepsTokens G start tokens s.kept.items text → (keeps ≡ false → s.text.marks.items ≡ [])
    → IsPrintOf G skips start tokens style s
own_print G skips start tokens style s are own long utf8 text same text_is places cut keeps says none = record {
  kept = are;
  long = long;
  utf8 = utf8;
  text_is = same ∙ text_is;
  places_are = places;
  cut = cut;
  spells_it = λ marked.
      subst (λ (l : List ℕ). SpellsTokens G l (respelled_pieces tokens (respelling_of s))) (sym same)
      (subst (λ (r : Respelling). SpellsTokens G text (respelled_pieces tokens r)) (sym own)
      (own_spells G start tokens s.kept.items are.there text s.text.marks.items keeps says none marked));
}
