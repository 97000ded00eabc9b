-- The fields of rounds of respellings, from one call to the next.
use Rattle.std.proofs.Common.{◌≡◌, ◌∙◌, ◌<◌, ℕ, List, [], Option, None, length, map, string_bytes, sym, ap, subst}
use Rattle.std.proofs.Math.Logic.{∥∥₁_elim}
use Rattle.std.proofs.Props.{props}
use Rattle.std.specs.Prelude.{IfSome, slice_index_or}
use Rattle.std.specs.Str.{chars}
use Rattle.std.proofs.lemmas.Bool.{and_parts}
use Rattle.grammar_tree.specs.Lexes.{PlacedToken}
use Rattle.grammar_tree.specs.Written.{CheckedGrammar}
use Rattle.lexer.specs.Tokens.{HasTokens}
use Rattle.token_print.specs.Readings.{SpelledAreFound}
use Rattle.token_print.specs.Spells.{SpellsTokens}
use Rattle.token_print.specs.declared.style.Skips.{Skips}
use Rattle.token_print.specs.declared.style.Style.{Style}
use Rattle.token_print.specs.Kept.{AreKept}
use Rattle.reduce_trees_mode.specs.Input.{IsInput, TreeInput}
use Rattle.reduce_trees_mode.specs.Listed.{skips_of}
use Rattle.spell_shrink.specs.declared.cursor.Cursor.{Cursor}
use Rattle.spell_shrink.specs.declared.spell_step.Trial.{Trial}
use Rattle.spell_shrink.specs.declared.spelled.Spelled.{Spelled}
use Rattle.spell_shrink.specs.KindWords.{AreWordsOf, KindWord, word_bytes_of}
use Rattle.spell_shrink.specs.Words.{shorter_than}
use Rattle.spell_shrink.specs.Respelling.{Respelling, kind_at, number_at, own_spellings, with_word_at, word_at}
use Rattle.spell_shrink.specs.Respelled.{shorter_words, spell_trials}
use Rattle.spell_shrink.specs.SpellMode.{IsRespellingOf}
use Rattle.spell_shrink.specs.Texts.{is_listed_respelling, respelled_pieces, text_of_respelling}
use Rattle.spell_shrink.specs.inner.Cursors.{AreChoices, IsCursor, respelling_at, trials_of}
use Rattle.spell_shrink.specs.inner.Fields.{IsTried, IsTriedAt, StepAgrees}
use Rattle.spell_shrink.specs.inner.Spelled.{IsPrintOf, IsTextOf, respelling_of}
use Rattle.spell_shrink.proofs.Choosing.{is_among}
use Rattle.spell_shrink.proofs.Lawful.{stays}
use Rattle.spell_shrink.proofs.Neighbours.{shorter_word}
use Rattle.spell_shrink.proofs.Own.{own_numbers}
use Rattle.spell_shrink.proofs.SpelledWords.{Has}

-- ---- the same tokens and the same spellings, where they are lent

module _ (tokens lent_tokens : List PlacedToken) (words lent_words : List KindWord) (same_tokens : lent_tokens ≡ tokens) (same_words : lent_words ≡ words) where
  pub lent_choices : (s : Spelled) → AreKept tokens s.kept.items → length s.words.items ≡ length s.kept.items → AreChoices lent_tokens s
  lent_choices s kept long = record { kept = subst (λ (l : List PlacedToken). AreKept l s.kept.items) (sym same_tokens) kept; long = long }

  pub lent_are : (start : List ℕ) → AreWordsOf start tokens words → AreWordsOf start lent_tokens lent_words
  lent_are start are =
      subst (λ (l : List PlacedToken). AreWordsOf start l lent_words) (sym same_tokens)
      (subst (λ (l : List KindWord). AreWordsOf start tokens l) (sym same_words) are)

  -- a cursor is one of both
  pub lent_cursor : (r : Respelling) (cursor : Option Cursor) → IfSome cursor (IsCursor tokens words r) → IfSome cursor (IsCursor lent_tokens lent_words r)
  lent_cursor r cursor is =
      subst (λ (l : List PlacedToken). IfSome cursor (IsCursor l lent_words r)) (sym same_tokens)
      (subst (λ (l : List KindWord). IfSome cursor (IsCursor tokens l r)) (sym same_words) is)

  pub own_cursor : (r : Respelling) (cursor : Option Cursor) → IfSome cursor (IsCursor lent_tokens lent_words r) → IfSome cursor (IsCursor tokens words r)
  own_cursor r cursor is =
      subst (λ (l : List PlacedToken). IfSome cursor (IsCursor l words r)) same_tokens
      (subst (λ (l : List KindWord). IfSome cursor (IsCursor lent_tokens l r)) same_words is)

  -- and the same is tried from it on
  pub lent_trials : (start : List ℕ) (r : Respelling) (cursor : Option Cursor)
      → trials_of start lent_tokens lent_words r cursor ≡ trials_of start tokens words r cursor
  lent_trials start r cursor = λ i. trials_of start (same_tokens i) (same_words i) r cursor

  pub first_tried : (start : List ℕ) (r : Respelling) (first cursor : Option Cursor)
      → trials_of start lent_tokens lent_words r first ≡ trials_of start lent_tokens lent_words r cursor
      → trials_of start tokens words r first ≡ trials_of start tokens words r cursor
  first_tried start r first cursor is = sym (lent_trials start r first) ∙ is ∙ lent_trials start r cursor

  pub lent_round : (start : List ℕ) (n k : ℕ) (r : Respelling) → spell_trials start lent_tokens n k r ≡ spell_trials start tokens n k r
  lent_round start n k r = λ i. spell_trials start (same_tokens i) n k r

-- ---- nothing is tried

pub agrees_over : (input : TreeInput) (words : List KindWord) (style : Style) (s : Spelled) (trial : Option Trial)
    → StepAgrees input words style s trial → StepAgrees input words style s None
agrees_over input words style s trial agrees = record {
  words_are = agrees.words_are;
  print = agrees.print;
  is_respelling = agrees.is_respelling;
  tried = tt;
}

-- or what is tried now
pub agrees_tried : (input : TreeInput) (words : List KindWord) (style : Style) (s : Spelled) (trial next : Option Trial)
    → StepAgrees input words style s trial → IsTried input words style (respelling_of s) next → StepAgrees input words style s next
agrees_tried input words style s trial next agrees tried = record {
  words_are = agrees.words_are;
  print = agrees.print;
  is_respelling = agrees.is_respelling;
  tried = tried;
}

-- ---- at first

-- the input's tokens, where they are lent
pub lent_tokens_are : (input : TreeInput) → IsInput input → (lexer : CheckedGrammar) (start : List ℕ) (tokens : List PlacedToken) → lexer ≡ input.grammar
    → start ≡ input.start → tokens ≡ input.tokens → HasTokens lexer.grammar (chars start) tokens
lent_tokens_are input is lexer start tokens same_lexer same_start same_tokens =
    subst (λ (k : CheckedGrammar). HasTokens k.grammar (chars start) tokens) (sym same_lexer)
    (subst (λ (l : List ℕ). HasTokens input.grammar.grammar (chars l) tokens) (sym same_start)
    (subst (λ (l : List PlacedToken). HasTokens input.grammar.grammar (chars input.start) l) (sym same_tokens) is.has_tokens))

pub own_kept_numbers : (input : TreeInput) (style : Style) (kept : List ℕ) (tokens : List PlacedToken) → tokens ≡ input.tokens
    → IsRespellingOf input style (own_spellings input.start input.tokens kept) → AreKept tokens kept
own_kept_numbers input style kept tokens same of =
    subst (λ (l : List PlacedToken). AreKept l kept) (sym same)
    (subst (AreKept input.tokens) (own_numbers input.start input.tokens kept) of.spelled.kept)

-- each kept token has its own spelling
module _ (input : TreeInput) (style : Style) (s : Spelled) (kept : List ℕ) (start : List ℕ) (tokens : List PlacedToken) (same_start : start ≡ input.start)
    (same_tokens : tokens ≡ input.tokens) (own : respelling_of s ≡ own_spellings start tokens kept) where
  pub own_is : respelling_of s ≡ own_spellings input.start input.tokens kept
  own_is = own ∙ (λ i. own_spellings (same_start i) (same_tokens i) kept)

  pub own_agrees : (words : List KindWord) → AreWordsOf input.start input.tokens words → (lexer : CheckedGrammar) (skips : Skips) (printed : Style)
      → lexer ≡ input.grammar → skips ≡ skips_of input → printed ≡ style → IsPrintOf lexer.grammar skips start tokens printed s
      → IsRespellingOf input style (own_spellings input.start input.tokens kept) → StepAgrees input words style s None
  own_agrees words are lexer skips printed same_lexer same_skips same_style print of = record {
    words_are = are;
    print =
        ∣ subst (λ (k : CheckedGrammar). IsPrintOf k.grammar (skips_of input) input.start input.tokens style s) same_lexer
        (subst (λ (k : Skips). IsPrintOf lexer.grammar k input.start input.tokens style s) same_skips
        (subst (λ (l : List ℕ). IsPrintOf lexer.grammar skips l input.tokens style s) same_start
        (subst (λ (l : List PlacedToken). IsPrintOf lexer.grammar skips start l style s) same_tokens
        (subst (λ (k : Style). IsPrintOf lexer.grammar skips start tokens k s) same_style print)))) ∣₁;
    is_respelling = ∣ subst (IsRespellingOf input style) (sym own_is) of ∣₁;
    tried = tt;
  }

-- ---- after a yes

-- what is ensured of the print of what is taken
abbrev TakesPrints : Spelled → Trial → List ℕ → Spelled → CheckedGrammar → Type 0
TakesPrints s trial word new lexer =
    (skips : Skips) (start : List ℕ) (tokens : List PlacedToken) (style : Style) → IsPrintOf lexer.grammar skips start tokens style s
    → IsTextOf lexer.grammar skips start tokens style (with_word_at (respelling_of s) trial.cursor.token word) (string_bytes trial.text) trial.listed
    → IsPrintOf lexer.grammar skips start tokens style new

module _ (input : TreeInput) (words : List KindWord) (style : Style) (s : Spelled) (trial : Trial) (agrees : StepAgrees input words style s None)
    (tried : IsTriedAt input words style (respelling_of s) trial) (word : List ℕ)
    (is : word ≡ slice_index_or (map word_bytes_of words) trial.cursor.next []) where
  abbrev r : Respelling
  r = respelling_of s

  abbrev taken : Respelling
  taken = with_word_at r trial.cursor.token word

  found : Has word (shorter_words input.start input.tokens r trial.cursor.token)
  found =
      subst (λ (w : List ℕ). Has w (shorter_words input.start input.tokens r trial.cursor.token)) (sym is)
      (subst
      (λ (l : List (List ℕ)). Has (slice_index_or (map word_bytes_of words) trial.cursor.next []) (shorter_than (length (word_at r trial.cursor.token)) l))
      (agrees.words_are (kind_at input.tokens (number_at r trial.cursor.token))) (is_among input.tokens words r trial.cursor tried.cursor tried.some))

  -- the spelling that is taken is shorter
  pub takes_shorter : length word < length (word_at (respelling_of s) trial.cursor.token)
  takes_shorter = shorter_word input.start input.tokens r trial.cursor.token word found

  same : respelling_at words r trial.cursor ≡ taken
  same = ap (with_word_at r trial.cursor.token) (sym is)

  -- the text that was tried is its text, and it is cut into its tokens where it may be asked
  pub taken_text : SpelledAreFound → IsTextOf input.grammar.grammar (skips_of input) input.start input.tokens style
      (with_word_at (respelling_of s) trial.cursor.token word) (string_bytes trial.text) trial.listed
  taken_text law =
      let text_is : string_bytes trial.text ≡ text_of_respelling input style taken = tried.text ∙ ap (text_of_respelling input style) same in
      record {
        same = text_is;
        spells_it = λ listed.
            let all = sym (ap (is_listed_respelling input style) same) ∙ sym tried.listed ∙ listed in
            let cut = (law input.grammar.grammar input.grammar.start input.formed (text_of_respelling input style taken)
            (respelled_pieces input.tokens taken)).0 (and_parts _ _ all).0 in
            subst (λ (l : List ℕ). SpellsTokens input.grammar.grammar l (respelled_pieces input.tokens taken)) (sym text_is) cut;
      }

  -- it is the respelling that was tried
  pub taken_as : with_word_at (respelling_of s) trial.cursor.token word ≡ respelling_at words (respelling_of s) trial.cursor
  taken_as = sym same

  -- so the fields agree after it
  pub taken_agrees : SpelledAreFound → (new : Spelled) → respelling_of new ≡ with_word_at (respelling_of s) trial.cursor.token word
      → (lexer : CheckedGrammar) → lexer ≡ input.grammar → TakesPrints s trial word new lexer → StepAgrees input words style new None
  taken_agrees law new takes lexer is_lexer prints = record {
    words_are = agrees.words_are;
    print =
        ∥∥₁_elim agrees.print (hlevel props)
        (λ print. ∣ subst (TakesPrints s trial word new) is_lexer prints (skips_of input) input.start input.tokens style print (taken_text law) ∣₁);
    is_respelling =
        ∥∥₁_elim agrees.is_respelling (hlevel props)
        (λ of. ∣ subst (IsRespellingOf input style) (sym takes) (stays input style r trial.cursor.token word of found) ∣₁);
    tried = tt;
  }
