-- Copies of kept tokens with their spellings, and of what is tried.
use Rattle.std.proofs.Common.{◌≡◌, ◌∙◌, ◌<◌, ◌≤◌, inl, inr, ℕ, List, All, Option, Some, None, length, string_bytes, refl, sym, ap, subst}
use Rattle.std.proofs.Math.Logic.{∥∥₁_elim}
use Rattle.std.proofs.Props.{props}
use Rattle.std.specs.Str.{IsUtf8}
use denote.Ref.{Bor}
use Rattle.grammar_tree.specs.Written.{WrittenGrammar}
use Rattle.grammar_tree.specs.Lexes.{PlacedToken}
use Rattle.lexer.specs.Pieces.{HasPieces}
use Rattle.token_print.specs.Spells.{SpellsTokens}
use Rattle.token_print.specs.declared.style.Skips.{Skips}
use Rattle.token_print.specs.declared.style.Style.{Style}
use Rattle.token_print.specs.Kept.{AreKept}
use Rattle.reduce_step.specs.Limits.{text_limit}
use Rattle.reduce_trees_mode.specs.Input.{TreeInput}
use Rattle.spell_shrink.specs.declared.cursor.Cursor.{Cursor}
use Rattle.spell_shrink.specs.declared.spell_step.Trial.{Trial}
use Rattle.spell_shrink.specs.declared.spelled.Spelled.{Spelled}
use Rattle.spell_shrink.specs.KindWords.{KindWord}
use Rattle.spell_shrink.specs.Respelling.{Respelling}
use Rattle.spell_shrink.specs.SpellMode.{IsRespellingOf}
use Rattle.spell_shrink.specs.Texts.{is_listed_respelling, respelled_pieces, respelled_text, text_of_respelling}
use Rattle.spell_shrink.specs.inner.Changes.{IsCut, respelling_of_words, word_offsets}
use Rattle.spell_shrink.specs.inner.Cursors.{IsCursor, respelling_at, trials_of}
use Rattle.spell_shrink.specs.inner.Fields.{AreCopies, IsTried, StepAgrees, rest_of_trial}
use Rattle.spell_shrink.specs.inner.Spelled.{IsPrintOf, respelling_of}

-- ---- what is tried

module _ (input : TreeInput) (words : List KindWord) (style : Style) (r : Respelling) where
  copied_tried : (trial copy : Option Trial) → AreCopies trial copy → IsTried input words style r trial → IsTried input words style r copy
  copied_tried None None same tried = tt
  copied_tried None (Some copy) same tried = absurd same
  copied_tried (Some trial) None same tried = absurd same
  copied_tried (Some trial) (Some copy) same tried = record {
    cursor = subst (IsCursor input.tokens words r) (sym same.cursor) tried.cursor;
    some = subst (λ (c : Cursor). c.next < c.end) (sym same.cursor) tried.some;
    text = same.text ∙ tried.text ∙ ap (λ (c : Cursor). text_of_respelling input style (respelling_at words r c)) (sym same.cursor);
    listed = same.listed ∙ tried.listed ∙ ap (λ (c : Cursor). is_listed_respelling input style (respelling_at words r c)) (sym same.cursor);
    short = subst (λ (l : List ℕ). length l ≤ text_limit) (sym same.text) tried.short;
  }

  copied_trials : (trial copy : Option Trial) → AreCopies trial copy → rest_of_trial input words r copy ≡ rest_of_trial input words r trial
  copied_trials None None same = refl
  copied_trials None (Some copy) same = absurd same
  copied_trials (Some trial) None same = absurd same
  copied_trials (Some trial) (Some copy) same = ap (λ (c : Cursor). trials_of input.start input.tokens words r (Some c)) same.cursor

-- ---- kept tokens with their spellings

module _ (s copy : Spelled) (kept : copy.kept.items ≡ s.kept.items) (words : copy.words.items ≡ s.words.items)
    (places : copy.places.items ≡ s.places.items) (text : string_bytes copy.text.text ≡ string_bytes s.text.text)
    (marks : copy.text.marks.items ≡ s.text.marks.items) where
  pub copied_respelling : respelling_of copy ≡ respelling_of s
  copied_respelling = λ i. respelling_of_words (kept i) (words i)

  copied_cut : (G : WrittenGrammar) → IsCut G s.text → IsCut G copy.text
  copied_cut G (inl none) = inl (marks ∙ none)
  copied_cut G (inr (pieces, has, are)) = inr (pieces, subst (λ (l : List ℕ). HasPieces G l pieces) (sym text) has, marks ∙ are)

  copied_print : (G : WrittenGrammar) (skips : Skips) (start : List ℕ) (tokens : List PlacedToken) (style : Style)
      → IsPrintOf G skips start tokens style s → IsPrintOf G skips start tokens style copy
  copied_print G skips start tokens style print = record {
    kept = subst (AreKept tokens) (sym kept) print.kept;
    long = ap (λ (l : List (Bor (List ℕ))). length l) words ∙ print.long ∙ ap (λ (l : List ℕ). length l) (sym kept);
    utf8 = subst (All (λ (w : Bor (List ℕ)). IsUtf8 w.now)) (sym words) print.utf8;
    text_is = text ∙ print.text_is ∙ ap (respelled_text skips start tokens style) (sym copied_respelling);
    places_are = places ∙ print.places_are ∙ ap (word_offsets skips start tokens style) (sym copied_respelling);
    cut = copied_cut G print.cut;
    spells_it = λ marked.
        subst (λ (l : List ℕ). SpellsTokens G l (respelled_pieces tokens (respelling_of copy))) (sym text)
        (subst (λ (r : Respelling). SpellsTokens G (string_bytes s.text.text) (respelled_pieces tokens r)) (sym copied_respelling)
        (print.spells_it (λ none. marked (marks ∙ none))));
  }

  module _ (input : TreeInput) (lent : List KindWord) (style : Style) (trial trial_copy : Option Trial) (same : AreCopies trial trial_copy) where
    pub copied_rest : rest_of_trial input lent (respelling_of copy) trial_copy ≡ rest_of_trial input lent (respelling_of s) trial
    copied_rest =
        ap (λ (r : Respelling). rest_of_trial input lent r trial_copy) copied_respelling
        ∙ copied_trials input lent style (respelling_of s) trial trial_copy same

    pub copied_agrees : StepAgrees input lent style s trial → StepAgrees input lent style copy trial_copy
    copied_agrees agrees = record {
      words_are = agrees.words_are;
      print = ∥∥₁_elim agrees.print (hlevel props) (λ print. ∣ copied_print _ _ _ _ _ print ∣₁);
      is_respelling = subst (λ (r : Respelling). ∥ IsRespellingOf input style r ∥₁) (sym copied_respelling) agrees.is_respelling;
      tried =
          subst (λ (r : Respelling). IsTried input lent style r trial_copy) (sym copied_respelling)
          (copied_tried input lent style (respelling_of s) trial trial_copy same agrees.tried);
    }
