-- What is read of a text in which a token takes a shorter spelling.
use Rattle.std.proofs.Common.{◌≡◌, ◌≢◌, ◌∙◌, ◌+◌, ◌-◌, ◌<◌, ◌≤◌, ◌^◌, ℕ, List, [], All, length, map, get_or, string_bytes, sym, ap, subst, arith}
use Rattle.std.specs.Str.{IsCharBoundary, IsUtf8}
use Rattle.std.proofs.lemmas.List.{length-map}
use denote.Ref.{Bor}
use Rattle.grammar_tree.specs.Written.{WrittenGrammar}
use Rattle.grammar_tree.specs.Lexes.{PlacedToken}
use Rattle.lexer.specs.Tokens.{token_of}
use Rattle.token_print.specs.Spells.{SpellsTokens}
use Rattle.token_print.specs.declared.style.Skips.{Skips}
use Rattle.token_print.specs.declared.style.Style.{Style}
use Rattle.spell_shrink.specs.declared.cut_text.CutText.{CutText}
use Rattle.spell_shrink.specs.declared.reading.Reread.{Reread}
use Rattle.spell_shrink.specs.declared.spelled.Spelled.{Spelled}
use Rattle.spell_shrink.specs.Respelling.{word_at}
use Rattle.spell_shrink.specs.Texts.{respelled_pieces}
use Rattle.spell_shrink.specs.inner.Changes.{IsCut, changed, respelling_of_words}
use Rattle.spell_shrink.specs.inner.Rereads.{AreExpected, IsReread}
use Rattle.spell_shrink.specs.inner.Spelled.{IsPrintOf, respelling_of}
use Rattle.spell_shrink.proofs.Taking.{spelled_at, within_both}

-- It is the text of these fields, changed at one of their spellings, which a shorter word replaces.
pub record IsTrialOf (s : Spelled) (tokens : List PlacedToken) (r : Reread) : Type 0 where
  pub before : r.before.now ≡ s.text
  pub kept : r.expected.kept.now ≡ s.kept.items
  pub words : r.expected.words.now ≡ s.words.items
  pub tokens_are : map token_of r.expected.tokens.now ≡ tokens
  pub word : r.expected.word.now ≡ r.change.word.now
  pub index : r.expected.index < length (respelling_of s)
  pub to : r.change.to ≡ r.change.from + length (word_at (respelling_of s) r.expected.index)
  pub shorter : length r.change.word.now < length (word_at (respelling_of s) r.expected.index)
  pub utf8 : IsUtf8 r.change.word.now
  pub text : r.text.now ≡ changed (string_bytes s.text.text) r.change

module _ (G : WrittenGrammar) (skips : Skips) (start : List ℕ) (tokens : List PlacedToken) (style : Style) (s : Spelled)
    (print : IsPrintOf G skips start tokens style s) (r : Reread) (of : IsTrialOf s tokens r) where
  abbrev bytes : List ℕ
  bytes = string_bytes s.text.text

  abbrev IsText : Bor (List ℕ) → Type 0
  IsText w = IsUtf8 w.now

  there : (r.expected.index < length s.kept.items) × (r.expected.index < length s.words.items)
  there = within_both s.kept.items s.words.items r.expected.index of.index

  are_expected : AreExpected r.expected
  are_expected = record {
    index = subst (λ (l : List ℕ). r.expected.index < length l) (sym of.kept) there.0;
    long = ap (λ (l : List (Bor (List ℕ))). length l) of.words ∙ print.long ∙ ap (λ (l : List ℕ). length l) (sym of.kept);
    kept =
        subst (λ (l : List ℕ). All (λ i. i < length r.expected.tokens.now) l) (sym of.kept)
        (λ k d less. let below = print.kept.there k d less in
        let many = ap (λ (l : List PlacedToken). length l) of.tokens_are in
        omega (arith, below, many, length-map r.expected.tokens.now token_of));
    utf8 = subst (All IsText) (sym of.words) print.utf8;
    word_utf8 = subst IsUtf8 (sym of.word) of.utf8;
    shorter = λ d.
        let shorter = of.shorter in
        let size = ap (λ (l : List ℕ). length l) (spelled_at s.kept.items s.words.items r.expected.index d there.0 there.1) in
        let same = ap (λ (l : List (Bor (List ℕ))). length (get_or l r.expected.index d).now) of.words in
        let word = ap (λ (l : List ℕ). length l) of.word in
        omega (arith, shorter, size, same, word);
  }

  -- the pieces that are marked are the tokens before the change
  spelled_before : r.before.now.marks.items ≢ []
      → SpellsTokens G (string_bytes r.before.now.text)
      (respelled_pieces (map token_of r.expected.tokens.now) (respelling_of_words r.expected.kept.now r.expected.words.now))
  spelled_before marked =
      let known = print.spells_it (subst (λ (c : CutText). c.marks.items ≢ []) of.before marked) in
      subst
      (λ (c : CutText). SpellsTokens G (string_bytes c.text)
      (respelled_pieces (map token_of r.expected.tokens.now) (respelling_of_words r.expected.kept.now r.expected.words.now)))
      (sym of.before)
      (subst (λ (ts : List PlacedToken). SpellsTokens G bytes (respelled_pieces ts (respelling_of_words r.expected.kept.now r.expected.words.now)))
      (sym of.tokens_are)
      (subst (λ (l : List ℕ). SpellsTokens G bytes (respelled_pieces tokens (respelling_of_words l r.expected.words.now))) (sym of.kept)
      (subst (λ (l : List (Bor (List ℕ))). SpellsTokens G bytes (respelled_pieces tokens (respelling_of_words s.kept.items l))) (sym of.words) known)))

  pub is_reread : IsUtf8 r.text.now → length bytes < 2 ^ 32 - 1 → IsCharBoundary bytes r.change.from → IsCharBoundary bytes r.change.to
      → IsReread G r
  is_reread utf8 small starts ends =
      let to = of.to in
      let shorter = of.shorter in
      let within = ends.0 in
      let same : bytes ≡ string_bytes r.before.now.text = ap (λ (c : CutText). string_bytes c.text) (sym of.before) in
      record {
        changed_text = of.text ∙ ap (λ (l : List ℕ). changed l r.change) same;
        utf8 = utf8;
        rises = omega (arith, to);
        shorter = omega (arith, to, shorter);
        within = subst (λ (l : List ℕ). r.change.to ≤ length l) same within;
        starts = subst (λ (l : List ℕ). IsCharBoundary l r.change.from) same starts;
        ends = subst (λ (l : List ℕ). IsCharBoundary l r.change.to) same ends;
        small = subst (λ (l : List ℕ). length l < 2 ^ 32 - 1) same small;
        expected_so = are_expected;
        cut = subst (IsCut G) (sym of.before) print.cut;
        spelled = spelled_before;
      }
