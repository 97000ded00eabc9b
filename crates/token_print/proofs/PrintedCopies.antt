-- A printed text is made of copies of the start, and what is answered and counted of it.
use Rattle.std.proofs.Common.{◌≡◌, ◌↔◌, inr, ℕ, suc, List, [], ◌∷◌, None, length, refl, sym, ap, ◌∙◌, subst, arith}
use Rattle.std.specs.List.{between}
use Rattle.std.specs.Str.{chars, IsCharBoundary, IsUtf8}
use Rattle.std.proofs.lemmas.Str.{IsCharBoundary-end, IsCharBoundary-start}
use Rattle.grammar_tree.specs.Written.{WrittenGrammar}
use Rattle.grammar_tree.specs.Lexes.{Piece as PlainPiece, PlacedToken, placed_tokens, tokens_of}
use Rattle.grammar_tree.proofs.Lent.{one_way}
use Rattle.lexer.specs.Tokens.{HasTokens}
use Rattle.token_print.specs.LexingLaws.{AreInOrder, GapsAreSlices, TokensArePieces}
use Rattle.token_print.specs.Spells.{SpellsTokens}
use Rattle.token_print.specs.declared.runs.Run.{Run}
use Rattle.token_print.specs.declared.style.Skips.{Skips}
use Rattle.token_print.specs.declared.style.Style.{Style}
use Rattle.token_print.specs.inner.Copies.{AreCopied, run_end}
use Rattle.token_print.specs.inner.Joins.{SpellsFrom}
use Rattle.token_print.specs.Kept.{AreKept}
use Rattle.token_print.specs.Printed.{printed, printed_after}
use Rattle.token_print.specs.Runs.{runs, runs_at, stretches}
use Rattle.token_print.proofs.Copied.{copied, runs_utf8}
use Rattle.token_print.proofs.StartFacts.{bounds, offsets, rising}
use Rattle.token_print.specs.inner.RunTexts.{runs_text}
use Rattle.token_print.proofs.Stretches.{AreRising, AreStretches, stretches_rise, text_is}

abbrev pub ArePrintedCopies : List ℕ → List ℕ → List Run → Type 0
ArePrintedCopies start text all = IsUtf8 text × AreCopied start text 0 all

module _ (G : WrittenGrammar) (slices : GapsAreSlices) (skips : Skips) (start : List ℕ) (utf8 : IsUtf8 start) where
  -- where the start is printed whole
  whole_copy : (text : List ℕ) → text ≡ start → ArePrintedCopies start text ((record { at = 0; from = 0; to = length start; limit = suc (length start) }) ∷ [])
  whole_copy text e =
      let run : Run = record { at = 0; from = 0; to = length start; limit = suc (length start) } in
      let P : List ℕ → Type 0 = λ t. ArePrintedCopies start t (run ∷ []) in
      let Q : ℕ → Type 0 = λ n. IsCharBoundary start n in
      let end : run_end run ≡ length start = omega arith in
      subst P (sym e) (
        utf8,
        (
          record {
            rises = omega arith;
            within = omega arith;
            fits = omega arith;
            same = ap (λ n. between 0 n start) end;
            begins = IsCharBoundary-start start utf8;
            ends = IsCharBoundary-end start;
            text_begins = IsCharBoundary-start start utf8;
            text_ends = subst Q (sym end) (IsCharBoundary-end start);
            limit = inr (refl, refl, end);
          },
          omega arith,
          tt,
        ),
      )

  module _ (tokens : List PlacedToken) (order : AreInOrder start tokens) (has : HasTokens G (chars start) tokens) (kept : List ℕ)
      (are : AreKept tokens kept) where
    rises : AreRising (length tokens) 0 kept
    rises = rising (length tokens) 0 kept are.rise are.there (λ d h. omega arith)

    runs_copies : (style : Style) (text : List ℕ) → text ≡ printed_after skips start tokens style None kept
        → ArePrintedCopies start text (runs_at skips start tokens style 0 (stretches style kept))
    runs_copies style text e =
        let o = offsets start tokens order in
        let b = bounds start tokens order G slices utf8 has in
        let ss = stretches style kept in
        let risen : AreStretches (length tokens) 0 ss = stretches_rise (length tokens) 0 kept style rises in
        let is : text ≡ runs_text skips start tokens style ss = e ∙ text_is skips start tokens o style kept rises in
        let P : List ℕ → Type 0 = λ t. IsUtf8 t in (
          subst P (sym is) (runs_utf8 skips start tokens o b style ss risen),
          copied skips start tokens o b text style 0 0 0 ss [] risen is refl (omega arith),
        )

  -- The runs of a printed text are copies.
  pub printed_copies : (tokens : List PlacedToken) → AreInOrder start tokens → HasTokens G (chars start) tokens → (kept : List ℕ) → AreKept tokens kept
      → (style : Style) (text : List ℕ) → text ≡ printed skips start tokens kept style →
      ArePrintedCopies start text (runs skips start tokens kept style)
  printed_copies tokens order has kept are Style.Squeezed text e = runs_copies tokens order has kept are Style.Squeezed text e
  printed_copies [] order has kept are Style.AsWas text e = whole_copy text e
  printed_copies (t ∷ tokens) order has kept are Style.AsWas text e = runs_copies (t ∷ tokens) order has kept are Style.AsWas text e

-- A text spells tokens where its pieces have them.
pub spells_from : TokensArePieces → (G : WrittenGrammar) (text : List ℕ) (spelled : List PlainPiece) → IsUtf8 text → SpellsTokens G text spelled
    ↔ SpellsFrom G text 0 spelled
spells_from law G text spelled utf8 = (
  λ s. let (pieces, lexed, same) = law G text s.tokens s.utf8 s.has in (pieces, lexed, sym same ∙ s.same),
  λ (found, lexed, same).
      let tokens = placed_tokens G 0 found in
      let has : HasTokens G (chars text) tokens = (found, lexed, refl) in
      let (pieces, also, is) = law G text tokens utf8 has in
      record { utf8 = utf8; tokens = tokens; has = has; same = is ∙ ap (tokens_of G) (one_way G (chars text) pieces found also lexed) ∙ same },
)
