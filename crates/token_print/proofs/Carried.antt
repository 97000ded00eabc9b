-- What a text decides up to an offset another text decides alike, if it has the same characters up to there.
use Rattle.std.proofs.Common.{◌≡◌, ◌<◌, ◌≤◌, ◌+◌, ◌-◌, ◌⊎◌, inl, inr, ℕ, suc, List, [], ◌∷◌, ◌++◌, take, drop, length}
use Rattle.std.proofs.Common.{refl, sym, ap, ◌∙◌, subst, arith, append_assoc, length-append}
use Rattle.std.specs.List.{between}
use Rattle.std.specs.Prelude.{encode_utf8_all}
use Rattle.std.specs.Str.{chars, IsCharBoundary, IsUtf8}
use Rattle.std.proofs.lemmas.Bool.{cases_lt}
use Rattle.std.proofs.lemmas.List.{drop-drop, drop-take, drop_all, length-drop, take-append-le, take-take}
use Rattle.std.proofs.lemmas.Str.{IsCharBoundary-from_drop, IsUtf8-append, IsUtf8-between, IsUtf8-drop, chars-append, encodes-append, encodes-chars}
use Rattle.grammar_tree.specs.Written.{WrittenGrammar}
use Rattle.grammar_tree.specs.Lexes.{IsNext, KindMatches}
use Rattle.lexer.specs.declared.piece.Piece.{Piece}
use Rattle.lexer.specs.Pieces.{IsMatched, IsPieceOf, IsSeenOffset}
use Rattle.lexer.proofs.Lent.{bytes_order}
use Rattle.lexer_match.specs.declared.alternative.Seen.{Seen}
use Rattle.lexer_match.specs.Seen.{IsProperPrefix, IsSeen}
use Rattle.lexer_match.proofs.Lent.{begins, same_back}
use Rattle.token_print.proofs.Gaps.{join}
use Rattle.token_print.specs.declared.runs.Run.{Run}
use Rattle.token_print.specs.inner.Copies.{IsCopy, run_end}
use Rattle.token_print.proofs.Copied.{length_between}

module _ (G : WrittenGrammar) (front : List ℕ) (over : ¬ IsProperPrefix (IsMatched G) front) where
  -- what begins a text that begins so, and is matched, is no longer
  within : (kind : ℕ) (word left more : List ℕ) → front ++ more ≡ word ++ left → KindMatches G kind word → (x : List ℕ) × (front ≡ word ++ x)
  within kind word left more e m = pick (cases_lt (length front) (length word))
    where
      longer : (y : List ℕ) → word ≡ front ++ y → length front < length word → ⊥
      longer [] is h = omega (arith, h, ap length is, length-append front [])
      longer (d ∷ y) is h = let Q : List ℕ → Type 0 = λ w. KindMatches G kind w in over (d, y, (kind, subst Q is m))

      pick : (length front < length word) ⊎ (length word ≤ length front) → (x : List ℕ) × (front ≡ word ++ x)
      pick (inl h) = let (y, is) = begins front more word left e (omega (arith, h)) in absurd (longer y is h)
      pick (inr h) = begins word left front more (sym e) h

  -- The piece that comes next in the one text comes next in the other.
  pub same_next : (rest other : List ℕ) (kind : ℕ) (piece left back more : List ℕ) → IsNext G rest kind piece left → rest ≡ front ++ back
      → other ≡ front ++ more → (x : List ℕ) × (front ≡ piece ++ x) × IsNext G other kind piece (x ++ more)
  same_next rest other kind piece left back more next e f =
      let (x, is) = within kind piece left back (sym e ∙ next.cut) next.matched in (
        x,
        is,
        record {
          cut = f ∙ ap (λ l. l ++ more) is ∙ append_assoc piece x more;
          some = next.some;
          matched = next.matched;
          longest = λ k w b cut m.
              let (z, inside) = within k w b more (sym f ∙ cut) m in
              next.longest k w (z ++ back) (e ∙ ap (λ l. l ++ back) inside ∙ append_assoc w z back) m;
          least = next.least;
        },
      )

-- what is left of a part of a text, after its first bytes
pub drop_between : (a b d : ℕ) (text : List ℕ) → a + d ≤ b → drop d (between a b text) ≡ between (a + d) b text
drop_between a b d text h =
    let size : b - a ≡ d + (b - (a + d)) = omega (arith, h) in
    ap (λ n. drop d (take n (drop a text))) size ∙ drop-take d (b - (a + d)) (drop a text) ∙ ap (λ l. take (b - (a + d)) l) (drop-drop d a text)

module _ (G : WrittenGrammar) (start text : List ℕ) (utf8 : IsUtf8 start) (text_utf8 : IsUtf8 text) (run : Run) (copy : IsCopy start text run) (p : Piece)
    (is : IsPieceOf G start p) (low : run.from ≤ p.start) (high : p.start < run.to) where
  -- where the piece's copy begins
  abbrev pub copy_at : ℕ
  copy_at = run.at + (p.start - run.from)

  abbrev part : List ℕ
  part = between p.start run.to start

  part_utf8 : IsUtf8 part
  part_utf8 = IsUtf8-between start p.start run.to utf8 (omega (arith, high)) is.starts copy.ends

  part_size : length part ≡ run.to - p.start
  part_size = length_between p.start run.to start (omega (arith, high)) copy.within

  in_start : drop p.start start ≡ part ++ drop run.to start
  in_start = sym (join p.start run.to start (drop run.to start) (omega (arith, high)) refl)

  same_part : between copy_at (run_end run) text ≡ part
  same_part =
      let d = p.start - run.from in
      let there : run.from + d ≡ p.start = omega (arith, low) in
      sym (drop_between run.at (run_end run) d text (omega (arith, low, high, copy.rises)))
      ∙ ap (drop d) copy.same
      ∙ drop_between run.from run.to d start (omega (arith, low, high))
      ∙ ap (λ n. between n run.to start) there

  in_text : drop copy_at text ≡ part ++ drop (run_end run) text
  in_text =
      sym (join copy_at (run_end run) text (drop (run_end run) text) (omega (arith, low, high, copy.rises)) refl)
      ∙ ap (λ l. l ++ drop (run_end run) text) same_part

  start_chars : chars (drop p.start start) ≡ chars part ++ chars (drop run.to start)
  start_chars = ap chars in_start ∙ chars-append part (drop run.to start) part_utf8

  text_chars : chars (drop copy_at text) ≡ chars part ++ chars (drop (run_end run) text)
  text_chars = ap chars in_text ∙ chars-append part (drop (run_end run) text) part_utf8

  abbrev word : List ℕ
  word = between p.start p.end start

  word_utf8 : IsUtf8 word
  word_utf8 = IsUtf8-between start p.start p.end utf8 (omega (arith, is.rises)) is.starts is.ends

  word_size : length word ≡ p.end - p.start
  word_size = length_between p.start p.end start (omega (arith, is.rises)) is.within

  -- the copy of a piece that lies within the run
  word_there : p.end ≤ run.to → between copy_at (copy_at + (p.end - p.start)) text ≡ word
  word_there inside =
      let n = p.end - p.start in
      let long : (copy_at + n) - copy_at ≡ n = omega arith in
      let taken : take n part ≡ word = take-take n (run.to - p.start) (drop p.start start) (omega (arith, inside)) in
      ap (λ k. take k (drop copy_at text)) long ∙ ap (take n) in_text ∙ take-append-le n part (drop (run_end run) text) (omega (arith, part_size, inside))
      ∙ taken

  -- what comes after it
  pub left_is : p.end ≤ run.to → (left : List ℕ) → chars (drop copy_at text) ≡ chars word ++ left → left ≡ chars (drop (copy_at + (p.end - p.start)) text)
  left_is inside left e =
      let end = copy_at + (p.end - p.start) in
      let cut : chars (drop copy_at text) ≡ chars word ++ chars (drop end text) =
      ap chars (sym (join copy_at end text (drop end text) (omega arith) refl) ∙ ap (λ l. l ++ drop end text) (word_there inside))
      ∙ chars-append word (drop end text) word_utf8 in
      same_back (chars word) left (chars (drop end text)) (sym e ∙ cut)

  abbrev IsCarriedNext : Type 0
  IsCarriedNext = (p.end ≤ run.to) × IsNext G (chars (drop copy_at text)) p.kind (chars word) (chars (drop (copy_at + (p.end - p.start)) text))

  -- where the run goes up to the end of the start, the rest of the text is the rest of the start
  to_end : run.to ≡ length start → run_end run ≡ length text → IsCarriedNext
  to_end last end =
      let inside : p.end ≤ run.to = omega (arith, is.within, last) in
      let same : drop copy_at text ≡ drop p.start start =
      in_text ∙ ap (λ l. part ++ l) (drop_all (run_end run) text (omega (arith, end)) ∙ sym (drop_all run.to start (omega (arith, last)))) ∙ sym in_start in
      let Q : List ℕ → Type 0 = λ l. IsNext G l p.kind (chars word) (chars (drop p.end start)) in
      let R : List ℕ → Type 0 = λ l. IsNext G (chars (drop copy_at text)) p.kind (chars word) l in
      let next = subst Q (ap chars (sym same)) is.next in
      (inside, subst R (left_is inside (chars (drop p.end start)) next.cut) next)

  -- where the piece has seen no more than the run has
  before_end : (front back : List ℕ) → IsSeen (IsMatched G) (chars (drop p.start start)) front back → length (encode_utf8_all front) ≤ length part
      → IsCarriedNext
  before_end front back s few =
      let part_chars : length (encode_utf8_all (chars part)) ≡ length part = ap length (encodes-chars part part_utf8) in
      let shorter = bytes_order front back (chars part) (chars (drop run.to start)) (sym s.cut ∙ start_chars) (omega (arith, few, part_chars)) in
      let (y, more) = begins front back (chars part) (chars (drop run.to start)) (sym s.cut ∙ start_chars) shorter in
      let other : chars (drop copy_at text) ≡ front ++ (y ++ chars (drop (run_end run) text)) =
      text_chars ∙ ap (λ l. l ++ chars (drop (run_end run) text)) more ∙ append_assoc front y (chars (drop (run_end run) text)) in
      let (x, begins_so, next) =
      same_next G front s.over (chars (drop p.start start)) (chars (drop copy_at text)) p.kind (chars word) (chars (drop p.end start)) back
      (y ++ chars (drop (run_end run) text)) is.next s.cut other in
      let whole : length (encode_utf8_all front) ≡ length (encode_utf8_all (chars word)) + length (encode_utf8_all x) =
      ap (λ l. length (encode_utf8_all l)) begins_so ∙ ap length (encodes-append (chars word) x)
      ∙ length-append (encode_utf8_all (chars word)) (encode_utf8_all x) in
      let inside : p.end ≤ run.to = omega (arith, few, whole, ap length (encodes-chars word word_utf8), word_size, part_size, is.rises, high) in
      let R : List ℕ → Type 0 = λ l. IsNext G (chars (drop copy_at text)) p.kind (chars word) l in
      (inside, subst R (left_is inside (x ++ (y ++ chars (drop (run_end run) text))) next.cut) next)

  -- A piece that is carried comes next at its copy.
  pub carried_next : p.seen ≤ run.limit → IsCarriedNext
  carried_next few = by is.seen copy.limit
    where
      rest_utf8 : IsUtf8 (drop p.start start)
      rest_utf8 = IsUtf8-drop start p.start utf8 is.starts

      sizes : (front back : List ℕ) → IsSeen (IsMatched G) (chars (drop p.start start)) front back
          → length (drop p.start start) ≡ length (encode_utf8_all front) + length (encode_utf8_all back)
      sizes front back s =
          ap length (sym (encodes-chars (drop p.start start) rest_utf8) ∙ ap encode_utf8_all s.cut ∙ encodes-append front back)
          ∙ length-append (encode_utf8_all front) (encode_utf8_all back)

      by : IsSeenOffset G start p.start p.seen → (run.limit ≡ run.to)
          ⊎ ((run.limit ≡ suc (length start)) × (run.to ≡ length start) × (run_end run ≡ length text)) → IsCarriedNext
      by (Seen.All, all, e) (inl limit) = absurd (omega (arith, few, e, limit, copy.within))
      by (Seen.All, all, e) (inr (limit, last, end)) = to_end last end
      by (Seen.Until remaining, (front, back, s, count), e) (inl limit) =
          before_end front back s (omega (arith, few, e, count, sizes front back s, length-drop p.start start, part_size, is.within, is.rises, high, limit))
      by (Seen.Until remaining, (front, back, s, count), e) (inr (limit, last, end)) =
          before_end front back s (omega (arith, count, sizes front back s, length-drop p.start start, part_size, is.within, is.rises, high, last))

  -- its copy ends between characters
  pub copied_end : p.end ≤ run.to → IsCharBoundary text (copy_at + (p.end - p.start))
  copied_end inside =
      let n = p.end - p.start in
      let end = copy_at + n in
      let there : p.start + n ≡ p.end = omega (arith, is.rises) in
      let fits : copy_at + n ≤ run_end run = omega (arith, low, inside, is.rises) in
      let tail : between end (run_end run) text ≡ between p.end run.to start =
      sym (drop_between copy_at (run_end run) n text fits) ∙ ap (drop n) same_part ∙ drop_between p.start run.to n start (omega (arith, inside, is.rises))
      ∙ ap (λ m. between m run.to start) there in
      let cut : drop end text ≡ between p.end run.to start ++ drop (run_end run) text =
      sym (join end (run_end run) text (drop (run_end run) text) fits refl) ∙ ap (λ l. l ++ drop (run_end run) text) tail in
      let Q : List ℕ → Type 0 = λ l. IsUtf8 l in
      IsCharBoundary-from_drop text end (omega (arith, fits, copy.fits))
      (subst Q (sym cut) (IsUtf8-append (between p.end run.to start) (drop (run_end run) text) (IsUtf8-between start p.end run.to utf8 inside is.ends copy.ends)
      (IsUtf8-drop text (run_end run) text_utf8 copy.text_ends)))
