-- A text that is cut into pieces, one after another.
use Rattle.std.proofs.Common.{◌≡◌, ◌≢◌, ◌<◌, ◌≤◌, ◌+◌, ℕ, zero, suc, Bool, true, false, cond, map, drop, List, [], ◌∷◌, ◌++◌, Option, Some}
use Rattle.std.proofs.Common.{None, MatchOption, length, refl, sym, ap, ◌∙◌, subst, arith, append_assoc, length-append}
use Rattle.std.specs.Prelude.{encode_utf8_all, ◌&&◌}
use lib.Utf8.{scalar, scalars}
use Rattle.std.specs.Str.{chars, IsUtf8, IsCharBoundary}
use Rattle.std.proofs.lemmas.Str.{IsCharBoundary-at_seam, encodes-append, encodes-chars, chars-encodes, scalars-chars, length-le-encodes, chars-nil}
use Rattle.grammar_tree.specs.Written.{WrittenGrammar}
use Rattle.grammar_tree.specs.Lexes.{IsNext, Lexes, LexesTo, Piece, PlacedToken, StopsAt, is_gap_kind, placed_tokens}
use Rattle.lexer_match.specs.declared.nfa.State.{State}
use Rattle.lexer_match.specs.declared.alternative.Alternative.{Alternative}
use Rattle.lexer_nfa.specs.GrammarNfa.{IsNfaOf}
use Rattle.lexer.specs.inner.Candidates.{ComesNext, HasNoNext}
use Rattle.lexer.specs.inner.Tokens.{unless_gap}

module _ (G : WrittenGrammar) where
  -- where the pieces end, the first of which begins at the offset
  abbrev end_of : ℕ → List Piece → ℕ
  end_of at [] = at
  end_of at (p ∷ ps) = end_of (at + length (encode_utf8_all p.text)) ps

  pub lexes_more : {text left rest : List ℕ} {ps : List Piece} {kind : ℕ} {piece : List ℕ} → LexesTo G text ps left → IsNext G left kind piece rest
      → LexesTo G text (ps ++ record { kind = kind; text = piece } ∷ []) rest
  lexes_more {rest = rest} {kind = kind} {piece = piece} (LexesTo.by_end text) next = LexesTo.by_piece text kind piece rest rest [] next (LexesTo.by_end rest)
  lexes_more {rest = rest} (LexesTo.by_piece text k p r left ps first more) next = LexesTo.by_piece text k p r rest _ first (lexes_more more next)

  end_more : (at : ℕ) (ps : List Piece) (p : Piece) → end_of at (ps ++ p ∷ []) ≡ end_of at ps + length (encode_utf8_all p.text)
  end_more at [] p = refl
  end_more at (q ∷ ps) p = end_more (at + length (encode_utf8_all q.text)) ps p

  abbrev token_at : ℕ → Piece → PlacedToken
  token_at at p = record { kind = p.kind; start = at; end = at + length (encode_utf8_all p.text) }

  cond_append : (b : Bool) (t : PlacedToken) (xs ys : List PlacedToken) → cond b (xs ++ ys) (t ∷ (xs ++ ys)) ≡ cond b xs (t ∷ xs) ++ ys
  cond_append true t xs ys = refl
  cond_append false t xs ys = refl

  placed_more : (at : ℕ) (ps : List Piece) (p : Piece)
      → placed_tokens G at (ps ++ p ∷ []) ≡ placed_tokens G at ps ++ cond (is_gap_kind G p.kind) [] (token_at (end_of at ps) p ∷ [])
  placed_more at [] p = refl
  placed_more at (q ∷ ps) p =
      let end = at + length (encode_utf8_all q.text) in
      let tail = cond (is_gap_kind G p.kind) [] (token_at (end_of end ps) p ∷ []) in
      ap (λ l. cond (is_gap_kind G q.kind) l (token_at at q ∷ l)) (placed_more end ps p)
      ∙ cond_append (is_gap_kind G q.kind) (token_at at q) (placed_tokens G end ps) tail

-- The text is cut into pieces up to the offset, with these tokens among them.
pub record IsReadTo (G : WrittenGrammar) (text : List ℕ) (at : ℕ) (tokens : List PlacedToken) : Type 0 where
  pub pieces : List Piece
  pub before : List ℕ
  pub left : List ℕ
  pub bytes : text ≡ encode_utf8_all before ++ left
  pub utf8 : IsUtf8 left
  pub cut : chars text ≡ before ++ chars left
  pub count : at ≡ length (encode_utf8_all before)
  pub lexed : LexesTo G (chars text) pieces (chars left)
  pub tokens_are : tokens ≡ placed_tokens G 0 pieces
  pub ends : end_of G 0 pieces ≡ at

drop_front : (xs ys : List ℕ) (n : ℕ) → n ≡ length xs → drop n (xs ++ ys) ≡ ys
drop_front [] ys zero e = refl
drop_front [] ys (suc n) e = absurd (omega (arith, e))
drop_front (x ∷ xs) ys zero e = absurd (omega (arith, e))
drop_front (x ∷ xs) ys (suc n) e = drop_front xs ys n (omega (arith, e))

module _ (G : WrittenGrammar) (text : List ℕ) where
  pub nothing_read : IsUtf8 text → IsReadTo G text 0 []
  nothing_read utf8 =
      record {
        pieces = [];
        before = [];
        left = text;
        bytes = refl;
        utf8 = utf8;
        cut = refl;
        count = refl;
        lexed = LexesTo.by_end (chars text);
        tokens_are = refl;
        ends = refl;
      }

  module _ (at : ℕ) (tokens : List PlacedToken) (s : IsReadTo G text at tokens) where
    pub left_is : drop at text ≡ s.left
    left_is = ap (λ l. drop at l) s.bytes ∙ drop_front (encode_utf8_all s.before) s.left at s.count

    pub is_boundary : IsCharBoundary text at
    is_boundary =
        let Q : ℕ → Type 0 = λ n. IsCharBoundary text n in
        subst Q (sym s.count) (IsCharBoundary-at_seam text (encode_utf8_all s.before) s.left s.bytes s.utf8)

    pub read_all : length text ≤ at → Lexes G (chars text) s.pieces
    read_all h =
        let Q : List ℕ → Type 0 = λ x. LexesTo G (chars text) s.pieces x in
        subst Q (none s.left (omega (arith, h, s.count, ap length s.bytes, length-append (encode_utf8_all s.before) s.left))) s.lexed
      where
        none : (l : List ℕ) → length l ≡ 0 → chars l ≡ []
        none [] e = chars-nil
        none (c ∷ l) e = absurd (omega (arith, e))

    module _ (P : List State) (all : List Alternative) (of : IsNfaOf G P all) where
      -- no rule matches
      pub stops : (rest : List ℕ) → rest ≡ s.left → at < length text → HasNoNext P all (chars rest) → StopsAt G (chars text) at
      stops rest e h none =
          record {
            pieces = s.pieces;
            before = s.before;
            left = chars s.left;
            lexed = s.lexed;
            cut = s.cut;
            at = s.count;
            more = λ nil. some (encodes-chars s.left s.utf8) nil;
            stuck = λ k front back cut filled m. none k front back (ap chars e ∙ cut) filled ((of.exact k front).1 m);
          }
        where
          some : encode_utf8_all (chars s.left) ≡ s.left → chars s.left ≡ [] → ⊥
          some back nil =
              let empty : [] ≡ s.left = ap encode_utf8_all (sym nil) ∙ back in
              omega (arith, h, s.count, ap length s.bytes, length-append (encode_utf8_all s.before) s.left, ap length empty)

      -- the next piece
      module _ (rest : List ℕ) (kind len : ℕ) (same : rest ≡ s.left) (next : ComesNext P all (chars rest) kind len) where
        piece_cut : chars s.left ≡ next.front ++ next.back
        piece_cut = ap chars (sym same) ∙ next.cut

        is_next : IsNext G (chars s.left) kind next.front next.back
        is_next =
            record {
              cut = piece_cut;
              some = next.some;
              matched = (of.exact kind next.front).0 next.matched;
              longest = λ other f b cut m. next.longest other f b (ap chars same ∙ cut) ((of.exact other f).1 m);
              least = λ other m. next.least other ((of.exact other next.front).1 m);
            }

        -- what comes after the piece
        left_bytes : s.left ≡ encode_utf8_all next.front ++ encode_utf8_all next.back
        left_bytes = sym (encodes-chars s.left s.utf8) ∙ ap encode_utf8_all piece_cut ∙ encodes-append next.front next.back

        back_scalars : (f b : List ℕ) → scalars (f ++ b) ≡ true → scalars b ≡ true
        back_scalars [] b e = e
        back_scalars (c ∷ f) b e = back_scalars f b (second (scalar c) (scalars (f ++ b)) e)
          where
            second : (x y : Bool) → (x && y) ≡ true → y ≡ true
            second true y h = h
            second false y h = absurd (cc)

        scalars_are : scalars next.back ≡ true
        scalars_are = back_scalars next.front next.back (ap scalars (sym piece_cut) ∙ scalars-chars s.left s.utf8)

        bytes_more : text ≡ encode_utf8_all (s.before ++ next.front) ++ encode_utf8_all next.back
        bytes_more =
            s.bytes
            ∙ ap (λ l. encode_utf8_all s.before ++ l) left_bytes
            ∙ sym (append_assoc (encode_utf8_all s.before) (encode_utf8_all next.front) (encode_utf8_all next.back))
            ∙ ap (λ l. l ++ encode_utf8_all next.back) (sym (encodes-append s.before next.front))

        pub fits : at + len ≤ length text
        fits =
            omega (
              arith,
              s.count,
              next.bytes,
              ap length bytes_more,
              ap length (encodes-append s.before next.front),
              length-append (encode_utf8_all s.before) (encode_utf8_all next.front),
              length-append (encode_utf8_all (s.before ++ next.front)) (encode_utf8_all next.back),
            )

        pub some_read : 0 < len
        some_read = omega (arith, next.bytes, filled next.front next.some, length-le-encodes next.front)
          where
            filled : (x : List ℕ) → x ≢ [] → 0 < length x
            filled [] d = absurd (d refl)
            filled (c ∷ x) d = omega arith

        abbrev piece : Piece
        piece = record { kind = kind; text = next.front }

        pub read_more : (now : List PlacedToken) → now ≡ tokens ++ cond (is_gap_kind G kind) [] (record { kind = kind; start = at; end = at + len } ∷ [])
            → IsReadTo G text (at + len) now
        read_more now e =
            let back_is : chars (encode_utf8_all next.back) ≡ next.back = chars-encodes next.back scalars_are in
            let Q : List ℕ → Type 0 = λ x. LexesTo G (chars text) (s.pieces ++ piece ∷ []) x in
            let R : ℕ → Type 0 = λ n. now ≡ tokens ++ cond (is_gap_kind G kind) [] (record { kind = kind; start = at; end = at + n } ∷ []) in
            let S : ℕ → Type 0 =
            λ n. now ≡ tokens ++ cond (is_gap_kind G kind) [] (record { kind = kind; start = n; end = n + length (encode_utf8_all next.front) } ∷ []) in
            let placed = subst S (sym s.ends) (subst R next.bytes e) in
            record {
              pieces = s.pieces ++ piece ∷ [];
              before = s.before ++ next.front;
              left = encode_utf8_all next.back;
              bytes = bytes_more;
              utf8 = (next.back, (scalars_are, refl));
              cut =
                  s.cut ∙ ap (λ l. s.before ++ l) piece_cut ∙ sym (append_assoc s.before next.front next.back)
                  ∙ ap (λ l. (s.before ++ next.front) ++ l) (sym back_is);
              count =
                  omega (
                    arith,
                    s.count,
                    next.bytes,
                    ap length (encodes-append s.before next.front),
                    length-append (encode_utf8_all s.before) (encode_utf8_all next.front),
                  );
              lexed = subst Q (sym back_is) (lexes_more G s.lexed is_next);
              tokens_are =
                  placed ∙ ap (λ l. l ++ cond (is_gap_kind G kind) [] (token_at G (end_of G 0 s.pieces) piece ∷ [])) s.tokens_are
                  ∙ sym (placed_more G 0 s.pieces piece);
              ends = end_more G 0 s.pieces piece ∙ omega (arith, s.ends, next.bytes);
            }

pub found_some : {X : Type 0} (found : Option X) (m : X) (A : Type 0) (B : X → Type 0) → found ≡ Some m → MatchOption found A B → B m
found_some {X} found m A B e h = let Q : Option X → Type 0 = λ o. MatchOption o A B in subst Q e h

pub found_none : {X : Type 0} (found : Option X) (A : Type 0) (B : X → Type 0) → found ≡ None → MatchOption found A B → A
found_none {X} found A B e h = let Q : Option X → Type 0 = λ o. MatchOption o A B in subst Q e h

pub map_snoc : {X Y : Type 0} (f : X → Y) (xs : List X) (x : X) → map f (xs ++ x ∷ []) ≡ map f xs ++ f x ∷ []
map_snoc f [] x = refl
map_snoc f (y ∷ xs) x = ap (λ l. f y ∷ l) (map_snoc f xs x)

pub none_unless : (G : WrittenGrammar) (t : PlacedToken) → is_gap_kind G t.kind ≡ true → [] ≡ unless_gap G t
none_unless G t e = ap (λ b. cond b [] (t ∷ [])) (sym e)

pub some_unless : (G : WrittenGrammar) (t : PlacedToken) → is_gap_kind G t.kind ≡ false → t ∷ [] ≡ unless_gap G t
some_unless G t e = ap (λ b. cond b [] (t ∷ [])) (sym e)
