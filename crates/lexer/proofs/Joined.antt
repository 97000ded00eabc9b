-- Pieces of a text, read one after another.
use Rattle.std.proofs.Common.{◌≡◌, ◌<◌, ◌≤◌, ◌+◌, ◌*◌, ℕ, List, [], ◌∷◌, ◌++◌, take, drop, length, refl, sym, ap, ◌∙◌, subst, arith}
use Rattle.std.specs.List.{All}
use Rattle.std.specs.Str.{chars, IsUtf8, IsCharBoundary}
use Rattle.std.specs.Prelude.{encode_utf8_all}
use Rattle.std.proofs.lemmas.List.{length-drop, length-take, take-append-drop}
use Rattle.std.proofs.lemmas.List.Elements.{All-push}
use Rattle.std.proofs.lemmas.Str.{IsCharBoundary-start, IsUtf8-drop, IsUtf8-take, chars-append, encodes-chars}
use Rattle.grammar_tree.specs.Written.{WrittenGrammar}
use Rattle.grammar_tree.specs.Lexes.{LexesTo, Piece as PlainPiece, StopsAt}
use Rattle.lexer.specs.declared.piece.Piece.{Piece}
use Rattle.lexer.specs.Pieces.{AreCutTo, AreFarthest, AreJoined, HasBlocks, HasNoPieceAt, IsPieceOf}
use Rattle.lexer_match.proofs.Lent.{get_within}
use Rattle.lexer.proofs.Cut.{lexes_more}

joined_more : (from at : ℕ) (items : List Piece) (p : Piece) → AreJoined from at items → p.start ≡ at → AreJoined from p.end (items ++ p ∷ [])
joined_more from at [] p e s = (s ∙ sym e, refl)
joined_more from at (q ∷ items) p (first, rest) s = (first, joined_more q.end at items p rest s)

-- The text is cut into these pieces up to the offset.
pub record IsCutUpTo (G : WrittenGrammar) (text : List ℕ) (at : ℕ) (items : List Piece) : Type 0 where
  pub utf8 : IsUtf8 text
  pub boundary : IsCharBoundary text at
  pub joined : AreJoined 0 at items
  pub each : All (IsPieceOf G text) items
  pub plain : List PlainPiece
  pub lexed : LexesTo G (chars text) plain (chars (drop at text))

module _ (G : WrittenGrammar) (text : List ℕ) where
  pub cut_none : IsUtf8 text → (items : List Piece) → items ≡ [] → IsCutUpTo G text 0 items
  cut_none utf8 items none =
      let Q : List Piece → Type 0 = λ l. IsCutUpTo G text 0 l in
      subst Q (sym none)
      (record {
        utf8 = utf8;
        boundary = IsCharBoundary-start text utf8;
        joined = refl;
        each = λ k d h. absurd (omega (arith, h));
        plain = [];
        lexed = LexesTo.by_end (chars text);
      })

  module _ (at : ℕ) (items : List Piece) (s : IsCutUpTo G text at items) where
    -- one piece more
    pub cut_more : (new : List Piece) (p : Piece) → new ≡ items ++ p ∷ [] → p.start ≡ at → IsPieceOf G text p → IsCutUpTo G text p.end new
    cut_more new p e starts is =
        let Q : List Piece → Type 0 = λ l. IsCutUpTo G text p.end l in
        let R : ℕ → Type 0 = λ n. LexesTo G (chars text) s.plain (chars (drop n text)) in
        subst Q (sym e)
        (record {
          utf8 = s.utf8;
          boundary = is.ends;
          joined = joined_more 0 at items p s.joined starts;
          each = All-push (IsPieceOf G text) items p s.each is;
          plain = _;
          lexed = lexes_more G (subst R (sym starts) s.lexed) is.next;
        })

    pub cut_all : length text ≤ at → AreCutTo G text 0 (length text) items
    cut_all h =
        let end : at ≡ length text = omega (arith, h, s.boundary.0) in
        let Q : ℕ → Type 0 = λ n. AreJoined 0 n items in
        record { joined = subst Q end s.joined; each = s.each }

    -- no rule matches at the offset
    pub cut_stops : at < length text → HasNoPieceAt G text at → StopsAt G (chars text) at
    cut_stops h none =
        let front_utf8 = IsUtf8-take text at s.utf8 s.boundary in
        record {
          pieces = s.plain;
          before = chars (take at text);
          left = chars (drop at text);
          lexed = s.lexed;
          cut = ap chars (sym (take-append-drop at text)) ∙ chars-append (take at text) (drop at text) front_utf8;
          at = omega (arith, s.boundary.0, length-take at text, ap length (encodes-chars (take at text) front_utf8));
          more =
              λ nil. omega (
                arith,
                h,
                length-drop at text,
                ap length (encodes-chars (drop at text) (IsUtf8-drop text at s.utf8 s.boundary)),
                ap (λ l. length (encode_utf8_all l)) nil,
              );
          stuck = none;
        }

-- no piece has no blocks
pub farthest_none : (items : List Piece) (farthest : List ℕ) → items ≡ [] → farthest ≡ [] → AreFarthest items farthest × HasBlocks items farthest
farthest_none items farthest e f = (
  λ b k p h at. absurd (omega (arith, get_within items p (b * 64 + k) at, ap length e)),
  record { enough = omega (arith, ap length e); few = omega (arith, ap length f) },
)
