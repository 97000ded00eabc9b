-- The piece at an offset of a text.
use Rattle.std.proofs.Common.{◌≡◌, ◌≢◌, ◌<◌, ◌≤◌, ◌+◌, ◌-◌, ◌↔◌, ℕ, Bool, true, false, List, [], ◌∷◌, ◌++◌, take, drop}
use Rattle.std.proofs.Common.{length, refl, sym, ap, ◌∙◌, subst, arith, append_assoc, length-append}
use Rattle.std.specs.Prelude.{encode_utf8_all, ◌&&◌}
use Rattle.std.specs.List.{between}
use lib.Utf8.{scalar, scalars}
use Rattle.std.specs.Str.{chars, IsUtf8, IsCharBoundary}
use Rattle.std.proofs.lemmas.List.{drop-drop, drop_at, take_at, take-append-drop, length-drop}
use Rattle.std.proofs.lemmas.Str.{IsCharBoundary-at_seam, IsUtf8-drop, encodes-append, encodes-chars, chars-encodes, scalars-chars, length-le-encodes}
use Rattle.grammar_tree.specs.Written.{WrittenGrammar}
use Rattle.grammar_tree.specs.Lexes.{IsNext}
use Rattle.lexer_match.specs.declared.nfa.State.{State}
use Rattle.lexer_match.specs.declared.alternative.Alternative.{Alternative}
use Rattle.lexer_match.specs.declared.alternative.Seen.{Seen}
use Rattle.lexer_match.specs.Seen.{IsSeenTo}
use Rattle.lexer_match.proofs.Lent.{seen_same}
use Rattle.lexer_nfa.specs.GrammarNfa.{IsNfaOf}
use Rattle.lexer.specs.inner.Candidates.{ComesNext, HasNoNext, IsMatchedByOne}
use Rattle.lexer.specs.Pieces.{HasNoPieceAt, IsMatched, IsPieceOf, seen_to}

and_first : (x y : Bool) → (x && y) ≡ true → x ≡ true
and_first true y h = refl
and_first false y h = absurd (cc)

and_second : (x y : Bool) → (x && y) ≡ true → y ≡ true
and_second true y h = h
and_second false y h = absurd (cc)

and_both : (x y : Bool) → x ≡ true → y ≡ true → (x && y) ≡ true
and_both true y e h = h
and_both false y e h = absurd (cc)

scalars_front : (f b : List ℕ) → scalars (f ++ b) ≡ true → scalars f ≡ true
scalars_front [] b e = refl
scalars_front (c ∷ f) b e =
    and_both (scalar c) (scalars f) (and_first (scalar c) (scalars (f ++ b)) e) (scalars_front f b (and_second (scalar c) (scalars (f ++ b)) e))

scalars_back : (f b : List ℕ) → scalars (f ++ b) ≡ true → scalars b ≡ true
scalars_back [] b e = e
scalars_back (c ∷ f) b e = scalars_back f b (and_second (scalar c) (scalars (f ++ b)) e)

module _ (G : WrittenGrammar) (text : List ℕ) (at : ℕ) (P : List State) (all : List Alternative) (of : IsNfaOf G P all) (lent : List ℕ)
    (same : lent ≡ drop at text) where
  -- no rule matches there
  pub no_piece : HasNoNext P all (chars lent) → HasNoPieceAt G text at
  no_piece none k front back cut some m = none k front back (ap chars same ∙ cut) some ((of.exact k front).1 m)

  -- what one of the alternatives matches some rule does
  matched : (w : List ℕ) → IsMatchedByOne P all w ↔ IsMatched G w
  matched w = (λ (a, among, r). (a.kind, (of.exact a.kind w).0 (a, among, refl, r)), λ (k, m). let (a, among, named, r) = (of.exact k w).1 m in (a, among, r))

  module _ (utf8 : IsUtf8 text) (boundary : IsCharBoundary text at) (kind len : ℕ) (next : ComesNext P all (chars lent) kind len) where
    rest_utf8 : IsUtf8 (drop at text)
    rest_utf8 = IsUtf8-drop text at utf8 boundary

    piece_cut : chars (drop at text) ≡ next.front ++ next.back
    piece_cut = ap chars (sym same) ∙ next.cut

    rest_is : drop at text ≡ encode_utf8_all next.front ++ encode_utf8_all next.back
    rest_is = sym (encodes-chars (drop at text) rest_utf8) ∙ ap encode_utf8_all piece_cut ∙ encodes-append next.front next.back

    all_scalars_are : scalars (next.front ++ next.back) ≡ true
    all_scalars_are = ap scalars (sym piece_cut) ∙ scalars-chars (drop at text) rest_utf8

    front_chars : chars (encode_utf8_all next.front) ≡ next.front
    front_chars = chars-encodes next.front (scalars_front next.front next.back all_scalars_are)

    back_chars : chars (encode_utf8_all next.back) ≡ next.back
    back_chars = chars-encodes next.back (scalars_back next.front next.back all_scalars_are)

    pub end_fits : at + len ≤ length text
    end_fits =
        omega (arith, boundary.0, length-drop at text, ap length rest_is, length-append (encode_utf8_all next.front) (encode_utf8_all next.back), next.bytes)

    pub some_len : 0 < len
    some_len = omega (arith, next.bytes, filled next.front next.some, length-le-encodes next.front)
      where
        filled : (x : List ℕ) → x ≢ [] → 0 < length x
        filled [] d = absurd (d refl)
        filled (c ∷ x) d = omega arith

    part : between at (at + len) text ≡ encode_utf8_all next.front
    part =
        let n : (at + len) - at ≡ len = omega arith in
        ap (λ k. take k (drop at text)) n ∙ ap (λ l. take len l) rest_is ∙ take_at (encode_utf8_all next.front) (encode_utf8_all next.back) len (sym next.bytes)

    after : drop (at + len) text ≡ encode_utf8_all next.back
    after = sym (drop-drop len at text) ∙ ap (λ l. drop len l) rest_is ∙ drop_at (encode_utf8_all next.front) (encode_utf8_all next.back) len (sym next.bytes)

    end_boundary : IsCharBoundary text (at + len)
    end_boundary =
        let bytes : text ≡ (take at text ++ encode_utf8_all next.front) ++ encode_utf8_all next.back =
        sym (take-append-drop at text) ∙ ap (λ l. take at text ++ l) rest_is
        ∙ sym (append_assoc (take at text) (encode_utf8_all next.front) (encode_utf8_all next.back)) in
        let size : length (take at text ++ encode_utf8_all next.front) ≡ at + len =
        omega (
          arith,
          ap length bytes,
          length-append (take at text ++ encode_utf8_all next.front) (encode_utf8_all next.back),
          length-append (encode_utf8_all next.front) (encode_utf8_all next.back),
          ap length rest_is,
          length-drop at text,
          boundary.0,
          next.bytes,
        ) in
        let Q : ℕ → Type 0 = λ n. IsCharBoundary text n in
        subst Q size (IsCharBoundary-at_seam text (take at text ++ encode_utf8_all next.front) (encode_utf8_all next.back) bytes
        (next.back, (scalars_back next.front next.back all_scalars_are, refl)))

    is_next : IsNext G (chars (drop at text)) kind (chars (between at (at + len) text)) (chars (drop (at + len) text))
    is_next =
        let piece : chars (between at (at + len) text) ≡ next.front = ap chars part ∙ front_chars in
        let left : chars (drop (at + len) text) ≡ next.back = ap chars after ∙ back_chars in
        let Q : List ℕ → Type 0 = λ x. IsNext G (chars (drop at text)) kind x (chars (drop (at + len) text)) in
        let R : List ℕ → Type 0 = λ y. IsNext G (chars (drop at text)) kind next.front y in
        subst Q (sym piece)
        (subst R (sym left)
        (record {
          cut = piece_cut;
          some = next.some;
          matched = (of.exact kind next.front).0 next.matched;
          longest = λ other f b cut m. next.longest other f b (ap chars same ∙ cut) ((of.exact other f).1 m);
          least = λ other m. next.least other ((of.exact other next.front).1 m);
        }))

    -- the piece, with the offset up to which the text decides it
    pub piece_is : (found : Seen) (offset : ℕ) → IsSeenTo (IsMatchedByOne P all) (chars lent) found → offset ≡ seen_to (length text) found
        → IsPieceOf G text (record { kind = kind; start = at; end = at + len; seen = offset })
    piece_is found offset seen e =
        let Q : List ℕ → Type 0 = λ l. IsSeenTo (IsMatched G) (chars l) found in
        record {
          starts = boundary;
          ends = end_boundary;
          rises = omega (arith, some_len);
          within = end_fits;
          next = is_next;
          seen = (found, subst Q same (seen_same (IsMatchedByOne P all) (IsMatched G) (chars lent) found matched seen), e);
        }
