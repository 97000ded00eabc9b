-- The pieces of a start, and its tokens among them.
use Rattle.std.proofs.Common.{◌≡◌, ◌<◌, ◌≤◌, ◌+◌, ◌-◌, ℕ, zero, suc, Bool, true, false, cond, not, List, [], ◌∷◌, ◌++◌, map}
use Rattle.std.proofs.Common.{take, drop, slice_index_or, length, refl, sym, ap, ap₂, ◌∙◌, subst, arith}
use Rattle.std.specs.Prelude.{encode_utf8_all}
use Rattle.std.specs.List.{All, between, filter}
use Rattle.std.specs.Str.{chars, IsUtf8}
use Rattle.std.proofs.lemmas.List.{drop_all}
use Rattle.std.proofs.lemmas.List.Elements.{All-head, All-tail}
use Rattle.std.proofs.lemmas.Str.{IsUtf8-between, chars-nil, encodes-chars}
use Rattle.grammar_tree.specs.Written.{WrittenGrammar}
use Rattle.grammar_tree.specs.Lexes.{LexesTo, Piece as PlainPiece, PlacedToken, is_gap_kind, placed_tokens, tokens_of}
use Rattle.grammar_tree.proofs.Lent.{one_way}
use Rattle.lexer.specs.declared.piece.Piece.{Piece}
use Rattle.lexer.specs.Pieces.{AreJoined, HasPieces, IsPieceOf}
use Rattle.lexer.specs.Tokens.{HasTokens}
use Rattle.token_print.specs.Spelling.{kind_and_spelling}
use Rattle.token_print.specs.inner.Joins.{PiecesRise}
use Rattle.token_print.proofs.Copied.{length_between}

abbrev pub no_piece : Piece
no_piece = record { kind = 0; start = 0; end = 0; seen = 0 }

-- pieces that follow one another are joined
pub joined_drop : (n at end : ℕ) (items : List Piece) → AreJoined at end items → n < length items
    → AreJoined (slice_index_or items n no_piece).start end (drop n items)
joined_drop n at end [] joined h = absurd (omega (arith, h))
joined_drop zero at end (p ∷ items) (s, joined) h = (refl, joined)
joined_drop (suc n) at end (p ∷ items) (s, joined) h = joined_drop n p.end end items joined (omega (arith, h))

pub joined_take : (n at end : ℕ) (items : List Piece) → AreJoined at end items → n < length items
    → AreJoined at (slice_index_or items n no_piece).end (take (suc n) items)
joined_take n at end [] joined h = absurd (omega (arith, h))
joined_take zero at end (p ∷ items) (s, joined) h = (s, refl)
joined_take (suc n) at end (p ∷ items) (s, joined) h = (s, joined_take n p.end end items joined (omega (arith, h)))

-- a piece begins where the ones before it have ended
pub begins_after : (at end : ℕ) (items : List Piece) → AreJoined at end items → All (λ p. p.start < p.end) items → (k : ℕ) → k < length items
    → at ≤ (slice_index_or items k no_piece).start
begins_after at end [] joined rise k h = absurd (omega (arith, h))
begins_after at end (p ∷ items) (s, joined) rise zero h = omega (arith, s)
begins_after at end (p ∷ items) (s, joined) rise (suc k) h =
    omega (
      arith,
      s,
      All-head (λ (x : Piece). x.start < x.end) p items rise,
      begins_after p.end end items joined (All-tail (λ (x : Piece). x.start < x.end) p items rise) k (omega (arith, h)),
    )

pub ends_before : (at end : ℕ) (items : List Piece) → AreJoined at end items → All (λ p. p.start < p.end) items → (i k : ℕ) → i < k → k < length items
    → (slice_index_or items i no_piece).end ≤ (slice_index_or items k no_piece).start
ends_before at end [] joined rise i k l h = absurd (omega (arith, h))
ends_before at end (p ∷ items) (s, joined) rise i zero l h = absurd (omega (arith, l))
ends_before at end (p ∷ items) (s, joined) rise zero (suc k) l h =
    begins_after p.end end items joined (All-tail (λ (x : Piece). x.start < x.end) p items rise) k (omega (arith, h))
ends_before at end (p ∷ items) (s, joined) rise (suc i) (suc k) l h =
    ends_before p.end end items joined (All-tail (λ (x : Piece). x.start < x.end) p items rise) i k (omega (arith, l)) (omega (arith, h))

module _ (G : WrittenGrammar) where
  -- the tokens among some pieces
  abbrev pub piece_tokens : List Piece → List PlacedToken
  piece_tokens [] = []
  piece_tokens (p ∷ items) = cond (is_gap_kind G p.kind) (piece_tokens items) (record { kind = p.kind; start = p.start; end = p.end } ∷ piece_tokens items)

  pub tokens_append : (ps qs : List Piece) → piece_tokens (ps ++ qs) ≡ piece_tokens ps ++ piece_tokens qs
  tokens_append [] qs = refl
  tokens_append (p ∷ ps) qs = pick (tokens_append ps qs) (is_gap_kind G p.kind)
    where
      token : PlacedToken
      token = record { kind = p.kind; start = p.start; end = p.end }

      pick : piece_tokens (ps ++ qs) ≡ piece_tokens ps ++ piece_tokens qs → (b : Bool)
          → cond b (piece_tokens (ps ++ qs)) (token ∷ piece_tokens (ps ++ qs)) ≡ cond b (piece_tokens ps) (token ∷ piece_tokens ps) ++ piece_tokens qs
      pick later true = later
      pick later false = ap (λ l. token ∷ l) later

  module _ (test : PlacedToken → Bool) where
    abbrev token_of_piece : Piece → PlacedToken
    token_of_piece p = record { kind = p.kind; start = p.start; end = p.end }

    -- a test that each piece passes, or none
    pub all_pass : (ps : List Piece) → All (λ p. test (record { kind = p.kind; start = p.start; end = p.end }) ≡ true) ps
        → filter test (piece_tokens ps) ≡ piece_tokens ps
    all_pass [] all = refl
    all_pass (p ∷ ps) all = pick (all_pass ps (λ k d h. all (suc k) d (omega (arith, h)))) (is_gap_kind G p.kind)
      where
        pick : filter test (piece_tokens ps) ≡ piece_tokens ps → (b : Bool)
            → filter test (cond b (piece_tokens ps) (token_of_piece p ∷ piece_tokens ps)) ≡ cond b (piece_tokens ps) (token_of_piece p ∷ piece_tokens ps)
        pick later true = later
        pick later false =
            ap (λ b. cond b (token_of_piece p ∷ filter test (piece_tokens ps)) (filter test (piece_tokens ps))) (all 0 p (omega arith))
            ∙ ap (λ l. token_of_piece p ∷ l) later

    pub none_passes : (ps : List Piece) → All (λ p. test (record { kind = p.kind; start = p.start; end = p.end }) ≡ false) ps
        → filter test (piece_tokens ps) ≡ []
    none_passes [] all = refl
    none_passes (p ∷ ps) all = pick (none_passes ps (λ k d h. all (suc k) d (omega (arith, h)))) (is_gap_kind G p.kind)
      where
        pick : filter test (piece_tokens ps) ≡ [] → (b : Bool) → filter test (cond b (piece_tokens ps) (token_of_piece p ∷ piece_tokens ps)) ≡ []
        pick later true = later
        pick later false = ap (λ b. cond b (token_of_piece p ∷ filter test (piece_tokens ps)) (filter test (piece_tokens ps))) (all 0 p (omega arith)) ∙ later

  module _ (start : List ℕ) where
    -- a piece as the characters that it has
    abbrev pub plain : Piece → PlainPiece
    plain p = record { kind = p.kind; text = chars (between p.start p.end start) }

    -- their kinds and spellings
    pub spelled_pieces : (ps : List Piece) → tokens_of G (map plain ps) ≡ map (kind_and_spelling start) (piece_tokens ps)
    spelled_pieces [] = refl
    spelled_pieces (p ∷ ps) = pick (spelled_pieces ps) (is_gap_kind G p.kind)
      where
        token : PlacedToken
        token = record { kind = p.kind; start = p.start; end = p.end }

        pick : tokens_of G (map plain ps) ≡ map (kind_and_spelling start) (piece_tokens ps) → (b : Bool)
            → cond (not b) (plain p ∷ tokens_of G (map plain ps)) (tokens_of G (map plain ps)) ≡ map (kind_and_spelling start)
            (cond b (piece_tokens ps) (token ∷ piece_tokens ps))
        pick later true = later
        pick later false = ap (λ l. plain p ∷ l) later

    pub start_lexes : (at end : ℕ) (items : List Piece) → AreJoined at end items → All (IsPieceOf G start) items
        → LexesTo G (chars (drop at start)) (map plain items) (chars (drop end start))
    start_lexes at end [] same all = let P : ℕ → Type 0 =
        λ n. LexesTo G (chars (drop at start)) [] (chars (drop n start)) in subst P same (LexesTo.by_end (chars (drop at start)))
    start_lexes at end (p ∷ items) (s, joined) all =
        let is = All-head (IsPieceOf G start) p items all in
        let P : ℕ → Type 0 = λ n. LexesTo G (chars (drop n start)) (plain p ∷ map plain items) (chars (drop end start)) in
        subst P s (LexesTo.by_piece _ p.kind (chars (between p.start p.end start)) (chars (drop p.end start)) (chars (drop end start)) (map plain items) is.next
        (start_lexes p.end end items joined (All-tail (IsPieceOf G start) p items all)))

    module _ (utf8 : IsUtf8 start) where
      -- how many bytes a piece has
      pub piece_size : (p : Piece) → IsPieceOf G start p → length (encode_utf8_all (chars (between p.start p.end start))) ≡ p.end - p.start
      piece_size p is =
          ap length (encodes-chars (between p.start p.end start) (IsUtf8-between start p.start p.end utf8 (omega (arith, is.rises)) is.starts is.ends))
          ∙ length_between p.start p.end start (omega (arith, is.rises)) is.within

      placed_pieces : (at end : ℕ) (items : List Piece) → AreJoined at end items → All (IsPieceOf G start) items
          → placed_tokens G at (map plain items) ≡ piece_tokens items
      placed_pieces at end [] joined all = refl
      placed_pieces at end (p ∷ items) (s, joined) all =
          let is = All-head (IsPieceOf G start) p items all in
          let size = piece_size p is in
          let ends : at + length (encode_utf8_all (chars (between p.start p.end start))) ≡ p.end = omega (arith, s, size, is.rises) in
          ap₂ (λ a e. cond (is_gap_kind G p.kind) (placed_tokens G e (map plain items))
          (record { kind = p.kind; start = a; end = e } ∷ placed_tokens G e (map plain items))) (sym s) ends
          ∙ ap (λ l. cond (is_gap_kind G p.kind) l (record { kind = p.kind; start = p.start; end = p.end } ∷ l))
          (placed_pieces p.end end items joined (All-tail (IsPieceOf G start) p items all))

      -- The tokens of a start are those among its pieces.
      pub tokens_among : (items : List Piece) (tokens : List PlacedToken) → HasPieces G start items → HasTokens G (chars start) tokens
          → tokens ≡ piece_tokens items
      tokens_among items tokens cut (pieces, lexed, are) =
          let none : chars (drop (length start) start) ≡ [] = ap chars (drop_all (length start) start (omega arith)) ∙ chars-nil in
          let P : List ℕ → Type 0 = λ l. LexesTo G (chars start) (map plain items) l in
          let same = one_way G (chars start) pieces (map plain items) lexed (subst P none (start_lexes 0 (length start) items cut.joined cut.each)) in
          are ∙ ap (placed_tokens G 0) same ∙ placed_pieces 0 (length start) items cut.joined cut.each

    pub rise_all : (items : List Piece) → All (IsPieceOf G start) items → All (λ p. p.start < p.end) items
    rise_all items all k d h = (all k d h).rises

    -- the pieces of a start rise
    pub pieces_rise : (items : List Piece) → HasPieces G start items → PiecesRise items
    pieces_rise items cut i k d l h =
        let P : Piece → Type 0 = λ p. p.start < (slice_index_or items k d).start in
        by (slice_index_or items i d) (slice_index_or items k d) (default i (omega (arith, l, h))) (default k h)
      where
        default : (n : ℕ) → n < length items → slice_index_or items n d ≡ slice_index_or items n no_piece
        default n m = same items n m
          where
            same : (items : List Piece) (n : ℕ) → n < length items → slice_index_or items n d ≡ slice_index_or items n no_piece
            same [] n m = absurd (omega (arith, m))
            same (p ∷ items) zero m = refl
            same (p ∷ items) (suc n) m = same items n (omega (arith, m))

        by : (p q : Piece) → p ≡ slice_index_or items i no_piece → q ≡ slice_index_or items k no_piece → p.start < q.start
        by p q e f =
            let before = ends_before 0 (length start) items cut.joined (rise_all items cut.each) i k l h in
            omega (arith, ap (λ (x : Piece). x.start) e, ap (λ (x : Piece). x.start) f, before, (cut.each i no_piece (omega (arith, l, h))).rises)
