-- The entries of a parser text, one after another.
use Rattle.std.proofs.Common.{◌≡◌, ℕ, List, [], ◌∷◌, ◌++◌, Option, Some, None, refl, ap, sym, ◌∙◌}
use Rattle.std.proofs.lemmas.List.{append_assoc, append-nil}
use Rattle.grammar_reader_words.specs.Spans.{spans_after, spans_left}
use Rattle.grammar_reader_words.specs.declared.span.Span.{Span}
use Rattle.grammar_pair.specs.Bodies.{WrittenEntry, after_word, all_blanked, entries_from, entry_at, entry_of, entry_with, put, spelled, vocabularies, words_in}
use Rattle.grammar_pair.specs.inner.View.{AreAfter}
use Rattle.grammar_pair.specs.declared.entries.Part.{Part}
use Rattle.grammar_pair.specs.declared.entries.Part.TheVariants.{Rules}

-- from the first rule on there is none
pub entries_rules : (bytes : List ℕ) (spans : List Span) → entries_from Rules bytes spans ≡ []
entries_rules bytes [] = refl
entries_rules bytes (span ∷ spans) = entries_rules bytes spans

pub blanked_put : (o : Option WrittenEntry) (entries : List WrittenEntry) (bytes : List ℕ)
    → all_blanked (words_in (put o entries)) bytes ≡ all_blanked (words_in entries) (all_blanked (words_in (put o [])) bytes)
blanked_put None entries bytes = refl
blanked_put (Some entry) entries bytes = refl

pub names_put : (o : Option WrittenEntry) (entries : List WrittenEntry) → vocabularies (put o entries) ≡ vocabularies (put o []) ++ vocabularies entries
names_put None entries = refl
names_put (Some entry) entries = refl

-- The parser text after a word, where the next part begins: what remains of its entries, with that of the word.
module _ (bytes : List ℕ) (part later : Part) (span : Span) (at next : Option Span) (is : at ≡ Some span)
    (moved : later ≡ after_word part (spelled bytes span)) (e : spans_after bytes span ≡ spans_left bytes next) where
  abbrev this : Option WrittenEntry
  this = entry_at part bytes (spans_left bytes (Some span))

  abbrev rest : List WrittenEntry
  rest = entries_from later bytes (spans_left bytes next)

  put_rest : put this rest ≡ entries_from part bytes (spans_left bytes at)
  put_rest =
      ap (λ p. put this (entries_from p bytes (spans_left bytes next))) moved
      ∙ ap (λ spans. put this (entries_from (after_word part (spelled bytes span)) bytes spans)) (sym e)
      ∙ ap (λ o. entries_from part bytes (spans_left bytes o)) (sym is)

  pub names_more : (before names : List (List ℕ)) → names ≡ before ++ vocabularies (put this [])
      → names ++ vocabularies rest ≡ before ++ vocabularies (entries_from part bytes (spans_left bytes at))
  names_more before names more =
      ap (λ l. l ++ vocabularies rest) more ∙ append_assoc before (vocabularies (put this [])) (vocabularies rest)
      ∙ ap (λ l. before ++ l) (sym (names_put this rest) ∙ ap vocabularies put_rest)

  pub blanked_more : (before body : List ℕ) → body ≡ all_blanked (words_in (put this [])) before
      → all_blanked (words_in rest) body ≡ all_blanked (words_in (entries_from part bytes (spans_left bytes at))) before
  blanked_more before body more =
      ap (all_blanked (words_in rest)) more ∙ sym (blanked_put this rest before) ∙ ap (λ entries. all_blanked (words_in entries) before) put_rest

-- At the first rule no entry remains.
module _ (bytes : List ℕ) (part : Part) (spans : List Span) (is : part ≡ Rules) where
  none_left : entries_from part bytes spans ≡ []
  none_left = ap (λ p. entries_from p bytes spans) is ∙ entries_rules bytes spans

  pub names_whole : (names all : List (List ℕ)) → names ++ vocabularies (entries_from part bytes spans) ≡ all → names ≡ all
  names_whole names all e = sym (ap (λ entries. names ++ vocabularies entries) none_left ∙ append-nil names) ∙ e

  pub blanked_whole : (body all : List ℕ) → all_blanked (words_in (entries_from part bytes spans)) body ≡ all → body ≡ all
  blanked_whole body all e = sym (ap (λ entries. all_blanked (words_in entries) body) none_left) ∙ e

-- The words of the text after one, of which each follows the one before.
module _ (bytes : List ℕ) (a : Span) where
  pub one_word : spans_after bytes a ≡ [] → entry_of bytes (a ∷ spans_after bytes a) ≡ None
  one_word e = ap (λ spans. entry_of bytes (a ∷ spans)) e

  pub two_words : (b : Span) → spans_after bytes a ≡ b ∷ spans_after bytes b → spans_after bytes b ≡ [] → entry_of bytes (a ∷ spans_after bytes a) ≡ None
  two_words b first e = ap (λ spans. entry_of bytes (a ∷ spans)) (first ∙ ap (λ spans. b ∷ spans) e)

  pub three_words : (b c : Span) → spans_after bytes a ≡ b ∷ spans_after bytes b → spans_after bytes b ≡ c ∷ spans_after bytes c → spans_after bytes c ≡ []
      → entry_of bytes (a ∷ spans_after bytes a) ≡ None
  three_words b c first second e = ap (λ spans. entry_of bytes (a ∷ spans)) (first ∙ ap (λ spans. b ∷ spans) (second ∙ ap (λ spans. c ∷ spans) e))

  pub four_words : (b c d : Span) → AreAfter bytes a b c d → entry_of bytes (a ∷ spans_after bytes a) ≡ entry_with bytes a b c d
  four_words b c d r = ap (λ spans. entry_of bytes (a ∷ spans)) (r.first ∙ ap (λ spans. b ∷ spans) (r.second ∙ ap (λ spans. c ∷ spans) r.third))
