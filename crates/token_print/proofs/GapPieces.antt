-- Each gap is read as pieces of gap kinds.
use Rattle.std.proofs.Common.{◌≡◌, ℕ, zero, suc, ◌+◌, ◌≤◌, Bool, true, false, cond, List, [], ◌∷◌, ◌++◌, drop, length, refl, sym, ap, ◌∙◌, subst, arith}
use Rattle.std.specs.Prelude.{encode_utf8_all}
use Rattle.std.specs.List.{All, between, flat_map}
use Rattle.std.specs.Str.{chars, IsUtf8}
use Rattle.std.proofs.lemmas.List.{append_assoc, append_cancel_right, drop_all}
use Rattle.std.proofs.lemmas.List.Elements.{All-nil, All-cons}
use Rattle.std.proofs.lemmas.Str.{chars-append, chars-nil}
use Rattle.grammar_tree.specs.Written.{WrittenGrammar}
use Rattle.grammar_tree.specs.Lexes.{IsNext, LexesTo, Piece, PlacedToken, is_gap_kind, placed_tokens}
use Rattle.token_print.specs.Spelling.{gap_text, gap_end, gap_start}
use Rattle.token_print.specs.LexingLaws.{GapsAreGapPieces}
use Rattle.token_print.proofs.Gaps.{join, start_from, start_is, start_later}
use Rattle.token_print.proofs.Slices.{are_slices}
use Rattle.token_print.proofs.Pieces.{cut_next, cut_later, end_chars, size_later}

-- the text is read from one offset up to another as pieces of gap kinds
abbrev pub IsGapFrom : WrittenGrammar → List ℕ → ℕ → ℕ → Type 0
IsGapFrom G text from to =
    (pieces : List Piece) × LexesTo G (chars (drop from text)) pieces (chars (drop to text)) × All (λ p. is_gap_kind G p.kind ≡ true) pieces

module _ (G : WrittenGrammar) (text : List ℕ) (utf8 : IsUtf8 text) where
  nothing : (at to : ℕ) → chars (drop to text) ≡ chars (drop at text) → IsGapFrom G text at to
  nothing at to e =
      let P : List ℕ → Type 0 = λ x. LexesTo G (chars (drop at text)) [] x in
      ([], subst P (sym e) (LexesTo.by_end (chars (drop at text))), All-nil (λ p. is_gap_kind G p.kind ≡ true))

  -- a piece of a gap kind before others
  one_more : (kind : ℕ) (piece rest : List ℕ) (at end to : ℕ) → IsNext G (chars (drop at text)) kind piece rest → rest ≡ chars (drop end text)
      → is_gap_kind G kind ≡ true → IsGapFrom G text end to → IsGapFrom G text at to
  one_more kind piece rest at end to next same gap (pieces, lexed, all) =
      let P : List ℕ → Type 0 = λ x. LexesTo G x pieces (chars (drop to text)) in (
        record { kind = kind; text = piece } ∷ pieces,
        LexesTo.by_piece (chars (drop at text)) kind piece rest (chars (drop to text)) pieces next (subst P (sym same) lexed),
        All-cons (λ p. is_gap_kind G p.kind ≡ true) (record { kind = kind; text = piece }) pieces gap all,
      )

  -- where each gap after a piece is read so, each gap is from the piece on
  gaps_more : (kind : ℕ) (piece rest : List ℕ) (at end : ℕ) (tokens : List PlacedToken) → IsNext G (chars (drop at text)) kind piece rest
      → rest ≡ chars (drop end text) → (gap : Bool) → is_gap_kind G kind ≡ gap →
      ((j : ℕ) → j ≤ length tokens → IsGapFrom G text (start_from text end tokens j) (gap_end text tokens j)) →
      (i : ℕ) → i ≤ length (cond gap tokens (record { kind = kind; start = at; end = end } ∷ tokens)) →
      IsGapFrom G text (start_from text at (cond gap tokens (record { kind = kind; start = at; end = end } ∷ tokens)) i)
      (gap_end text (cond gap tokens (record { kind = kind; start = at; end = end } ∷ tokens)) i)
  gaps_more kind piece rest at end tokens next there true is later zero h = one_more kind piece rest at end (gap_end text tokens 0) next there is (later 0 h)
  gaps_more kind piece rest at end tokens next there true is later (suc i) h = later (suc i) h
  gaps_more kind piece rest at end tokens next there false is later zero h = nothing at at refl
  gaps_more kind piece rest at end tokens next there false is later (suc i) h =
      let P : ℕ → Type 0 = λ x. IsGapFrom G text x (gap_end text tokens i) in
      subst P (sym (start_later text at (record { kind = kind; start = at; end = end }) tokens i)) (later i (omega (arith, h)))

  gaps_from : {cs left : List ℕ} {pieces : List Piece} → LexesTo G cs pieces left → left ≡ [] → (front : List ℕ) (at : ℕ) → chars text ≡ front ++ cs
      → at ≡ length (encode_utf8_all front) → cs ≡ chars (drop at text) →
      (i : ℕ) → i ≤ length (placed_tokens G at pieces)
      → IsGapFrom G text (start_from text at (placed_tokens G at pieces) i) (gap_end text (placed_tokens G at pieces) i)
  gaps_from (LexesTo.by_end cs) none front at e s here zero h =
      nothing at (length text) (ap chars (drop_all (length text) text (omega arith)) ∙ chars-nil ∙ sym none ∙ here)
  gaps_from (LexesTo.by_end cs) none front at e s here (suc i) h = absurd (omega (arith, h))
  gaps_from (LexesTo.by_piece cs kind piece rest left pieces next more) none front at e s here i h =
      let end = at + length (encode_utf8_all piece) in
      let there = end_chars text utf8 front piece rest (cut_next G (chars text) front cs kind piece rest e next) at end s refl in
      let P : List ℕ → Type 0 = λ x. IsNext G x kind piece rest in
      gaps_more kind piece rest at end (placed_tokens G end pieces) (subst P here next) (sym there) (is_gap_kind G kind) refl
      (gaps_from more none (front ++ piece) end (cut_later G (chars text) front cs kind piece rest e next) (size_later G (chars text) front piece at s)
      (sym there)) i h

covers : (G : WrittenGrammar) {text left : List ℕ} {pieces : List Piece} → LexesTo G text pieces left → flat_map (λ (p : Piece). p.text) pieces ++ left ≡ text
covers G (LexesTo.by_end text) = refl
covers G (LexesTo.by_piece text kind piece rest left pieces next more) =
    append_assoc piece (flat_map (λ (p : Piece). p.text) pieces) left ∙ ap (λ l. piece ++ l) (covers G more) ∙ sym next.cut

-- The characters from one offset on are those up to another one, and then those from there on.
cut_chars : (text : List ℕ) (from to : ℕ) → IsUtf8 (between from to text) → from ≤ to
    → chars (drop from text) ≡ chars (between from to text) ++ chars (drop to text)
cut_chars text from to utf8 h = ap chars (sym (join from to text (drop to text) h refl)) ∙ chars-append (between from to text) (drop to text) utf8

pub are_gap_pieces : GapsAreGapPieces
are_gap_pieces G text tokens i utf8 (pieces, lexed, are) h =
    let P : List PlacedToken → Type 0 = λ ts. i ≤ length ts → IsGapFrom G text (gap_start text ts i) (gap_end text ts i) in
    let (gaps, read, all) = subst P (sym are) first h in
    let part = are_slices G text tokens i utf8 (pieces, lexed, are) h in
    record {
      pieces = gaps;
      read = read;
      gaps = all;
      cover =
          append_cancel_right (flat_map (λ (p : Piece). p.text) gaps) (chars (gap_text text tokens i)) (chars (drop (gap_end text tokens i) text))
          (covers G read ∙ cut_chars text (gap_start text tokens i) (gap_end text tokens i) part.utf8 part.rises);
    }
  where
    first : i ≤ length (placed_tokens G 0 pieces) → IsGapFrom G text (gap_start text (placed_tokens G 0 pieces) i) (gap_end text (placed_tokens G 0 pieces) i)
    first k =
        let P : ℕ → Type 0 = λ x. IsGapFrom G text x (gap_end text (placed_tokens G 0 pieces) i) in
        subst P (sym (start_is text (placed_tokens G 0 pieces) i)) (gaps_from G text utf8 lexed refl [] 0 refl refl refl i k)
