-- The pieces of a text before a mark, and from it on.
use Rattle.std.proofs.Common.{◌≡◌, ◌∙◌, ◌+◌, ◌<◌, ◌≤◌, ℕ, zero, suc, Bool, true, false, cond, not, max, List, [], ◌∷◌, ◌++◌, All, Option, Some}
use Rattle.std.proofs.Common.{length, map, take, drop, refl, sym, ap, arith, length-append}
use Rattle.std.specs.Prelude.{encode_utf8_all, slice_get}
use Rattle.std.specs.List.{between}
use Rattle.std.specs.Option.{option_map_or}
use Rattle.std.specs.Str.{chars, IsUtf8}
use Rattle.std.proofs.Math.Nat.{le-max_right}
use Rattle.std.proofs.lemmas.List.{length-drop}
use Rattle.std.proofs.lemmas.List.Elements.{All-cons, All-head, All-nil, All-tail}
use Rattle.std.proofs.lemmas.Option.{none-some}
use Rattle.std.proofs.lemmas.Str.{IsUtf8-drop, encodes-append, encodes-chars, length-le-encodes}
use Rattle.grammar_tree.specs.Written.{WrittenGrammar}
use Rattle.grammar_tree.specs.Lexes.{KindMatches, Piece as PlainPiece, is_gap_kind, tokens_of}
use Rattle.lexer.specs.declared.piece.Piece.{Piece}
use Rattle.lexer.specs.Pieces.{AreJoined, IsMatched, IsPieceOf, IsSeenOffset}
use Rattle.lexer_match.specs.declared.alternative.Seen.{Seen}
use Rattle.lexer_match.specs.Seen.{IsProperPrefix, IsSeen}
use Rattle.token_print.proofs.Lent.{plain}
use Rattle.spell_shrink.specs.declared.cut_text.Mark.{Mark}
use Rattle.spell_shrink.specs.inner.Changes.{marks_after}

-- ---- lists that are cut in two

pub all_parts : {X : Type 0} (P : X → Type 0) (front back : List X) → All P (front ++ back) → All P front × All P back
all_parts P [] back all = (All-nil P, all)
all_parts P (x ∷ front) back all =
    let rest = all_parts P front back (All-tail P x (front ++ back) all) in
    (All-cons P x front (All-head P x (front ++ back) all) rest.0, rest.1)

pub joined_parts : (at end : ℕ) (front : List Piece) (p : Piece) (back : List Piece) → AreJoined at end (front ++ p ∷ back)
    → AreJoined at p.start front × AreJoined p.start end (p ∷ back)
joined_parts at end [] p back joined = (sym joined.0, (refl, joined.1))
joined_parts at end (q ∷ front) p back joined =
    let rest = joined_parts q.end end front p back joined.1 in ((joined.0, rest.0), rest.1)

-- pieces that end no later than an offset
pub ends_low : (limit at end : ℕ) (pieces : List Piece) → at ≤ limit → AreJoined at end pieces → All (λ (q : Piece). q.end ≤ limit) pieces → end ≤ limit
ends_low limit at end [] low joined all = omega (arith, low, joined)
ends_low limit at end (q ∷ pieces) low joined all =
    ends_low limit q.end end pieces (All-head (λ (x : Piece). x.end ≤ limit) q pieces all) joined.1 (All-tail (λ (x : Piece). x.end ≤ limit) q pieces all)

-- ---- a mark

-- the pieces before the mark at an index, its piece, and those after it
pub record MarkedAt (G : WrittenGrammar) (old : List ℕ) (tokens : ℕ) (pieces : List Piece) (k : ℕ) (mark : Mark) : Type 0 where
  pub front : List Piece
  pub piece : Piece
  pub back : List Piece
  pub whole : pieces ≡ front ++ piece ∷ back
  pub long : length front ≡ k
  pub begins : mark.start ≡ piece.start
  pub counted : mark.tokens ≡ tokens + length (tokens_of G (map (plain G old) front))

module _ (G : WrittenGrammar) (old : List ℕ) where
  -- one more token, or not
  count_one : (gap : Bool) (p : PlainPiece) (later : List PlainPiece) (tokens n : ℕ) → n ≡ cond gap tokens (suc tokens) + length later
      → n ≡ tokens + length (cond (not gap) (p ∷ later) later)
  count_one true p later tokens n is = is
  count_one false p later tokens n is = omega (arith, is)

  pub marked_at : (reach tokens : ℕ) (pieces : List Piece) (k : ℕ) (mark : Mark) → slice_get (marks_after G reach tokens pieces) k ≡ Some mark
      → MarkedAt G old tokens pieces k mark
  marked_at reach tokens [] k mark is = absurd (none-some mark is)
  marked_at reach tokens (p ∷ pieces) zero mark is = record {
    front = [];
    piece = p;
    back = pieces;
    whole = refl;
    long = refl;
    begins = ap (λ (o : Option Mark). option_map_or (λ (m : Mark). m.start) o 0) (sym is);
    counted =
        let same = ap (λ (o : Option Mark). option_map_or (λ (m : Mark). m.tokens) o 0) (sym is) in
        omega (arith, same);
  }
  marked_at reach tokens (p ∷ pieces) (suc k) mark is =
      let later = marked_at (max reach p.seen) (cond (is_gap_kind G p.kind) tokens (suc tokens)) pieces k mark is in
      record {
        front = p ∷ later.front;
        piece = later.piece;
        back = later.back;
        whole = ap (λ (l : List Piece). p ∷ l) later.whole;
        long = omega (arith, later.long);
        begins = later.begins;
        counted =
            count_one (is_gap_kind G p.kind) (plain G old p) (tokens_of G (map (plain G old) later.front)) tokens mark.tokens later.counted;
      }

  -- the pieces whose marks reach no farther than an offset have seen no more
  pub seen_low : (limit reach tokens : ℕ) (front back : List Piece)
      → All (λ (m : Mark). m.reach ≤ limit) (take (length front) (marks_after G reach tokens (front ++ back))) → All (λ (q : Piece). q.seen ≤ limit) front
  seen_low limit reach tokens [] back all = All-nil (λ (q : Piece). q.seen ≤ limit)
  seen_low limit reach tokens (p ∷ front) back all =
      let tokens' : ℕ = cond (is_gap_kind G p.kind) tokens (suc tokens) in
      let first : Mark = record { start = p.start; reach = max reach p.seen; tokens = tokens } in
      let marks : List Mark = take (length front) (marks_after G (max reach p.seen) tokens' (front ++ back)) in
      let high = All-head (λ (m : Mark). m.reach ≤ limit) first marks all in
      All-cons (λ (q : Piece). q.seen ≤ limit) p front (omega (arith, high, le-max_right reach p.seen))
      (seen_low limit (max reach p.seen) tokens' front back (All-tail (λ (m : Mark). m.reach ≤ limit) first marks all))

-- ---- what a piece has seen

-- a text that begins with no character isn't more than a match
no_front : (G : WrittenGrammar) (kind : ℕ) (word : List ℕ) → (word ≡ [] → ⊥) → KindMatches G kind word → IsProperPrefix (IsMatched G) []
no_front G kind [] some matched = absurd (some refl)
no_front G kind (c ∷ word) some matched = (c, word, (kind, matched))

module _ (G : WrittenGrammar) (text : List ℕ) (utf8 : IsUtf8 text) (p : Piece) (is : IsPieceOf G text p) where
  abbrev rest : List ℕ
  rest = drop p.start text

  sizes : (front back : List ℕ) → IsSeen (IsMatched G) (chars rest) front back
      → length rest ≡ length (encode_utf8_all front) + length (encode_utf8_all back)
  sizes front back s =
      ap (λ (l : List ℕ). length l) (sym (encodes-chars rest (IsUtf8-drop text p.start utf8 is.starts)) ∙ ap encode_utf8_all s.cut ∙ encodes-append front back)
      ∙ length-append (encode_utf8_all front) (encode_utf8_all back)

  some_front : (front back : List ℕ) → IsSeen (IsMatched G) (chars rest) front back → 0 < length front
  some_front [] back s = absurd (s.over (no_front G p.kind (chars (between p.start p.end text)) is.next.some is.next.matched))
  some_front (c ∷ front) back s = omega arith

  -- it has seen beyond its beginning
  pub seen_after : p.start < p.seen
  seen_after = by is.seen
    where
      by : IsSeenOffset G text p.start p.seen → p.start < p.seen
      by (Seen.All, all, e) = omega (arith, e, is.rises, is.within)
      by (Seen.Until remaining, (front, back, s, count), e) =
          omega (
            arith,
            e,
            count,
            sizes front back s,
            length-drop p.start text,
            some_front front back s,
            length-le-encodes front,
            is.rises,
            is.within,
          )

  -- and at most one beyond the text
  pub seen_within : p.seen ≤ suc (length text)
  seen_within = by is.seen
    where
      by : IsSeenOffset G text p.start p.seen → p.seen ≤ suc (length text)
      by (Seen.All, all, e) = omega (arith, e)
      by (Seen.Until remaining, seen, e) = omega (arith, e)
