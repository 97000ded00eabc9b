-- Which tokens the rest of a changed text has.
use Rattle.std.proofs.Common.{◌≡◌, ◌≢◌, ◌∙◌, ◌+◌, ◌-◌, ◌^◌, ◌<◌, ◌≤◌, ◌↔◌, ◌⊎◌, inl, inr, ℕ, cond, not, List, [], ◌∷◌, ◌++◌, All}
use Rattle.std.proofs.Common.{Option, Some, None, length, map, take, drop, refl, sym, ap, subst, arith, drop_at, length-append, length-drop, take-append-drop}
use Rattle.std.proofs.Math.Seq.{take-append_seam}
use Rattle.std.specs.Prelude.{MatchOption, slice_get, slice_index_or, string_bytes}
use Rattle.std.specs.Str.{chars, IsCharBoundary, IsUtf8}
use Rattle.std.proofs.Math.Logic.{∥∥₁_elim}
use Rattle.std.proofs.Props.{props}
use Rattle.std.proofs.lemmas.Bool.{cases_lt}
use Rattle.std.proofs.lemmas.List.{drop_all, map-append}
use Rattle.std.proofs.lemmas.List.Elements.{All-cons, All-head, All-nil, All-tail, filter-append}
use Rattle.std.proofs.lemmas.Option.{none-some, slice_get_within}
use Rattle.std.proofs.lemmas.Str.{IsCharBoundary-start, chars-nil}
use denote.Ref.{Bor}
use Rattle.grammar_tree.specs.Written.{WrittenGrammar}
use Rattle.grammar_tree.specs.Lexes.{IsNext, LexesTo, Piece as PlainPiece, tokens_of}
use Rattle.grammar_tree.proofs.Lent.{one_way}
use Rattle.lexer.specs.declared.piece.Piece.{Piece}
use Rattle.lexer.specs.Pieces.{AreJoined, HasPieces, IsPieceOf}
use Rattle.lexer.specs.Tokens.{token_of}
use Rattle.token_print.specs.LexingLaws.{TokensArePieces}
use Rattle.token_print.specs.Spells.{SpellsTokens}
use Rattle.token_print.specs.inner.Joins.{SpellsFrom}
use Rattle.token_print.proofs.Lent.{AreWithin, carried_next, plain, spells_at_end, spells_from, spells_none, spells_nothing, spells_on, start_lexes, text_lexes}
use Rattle.spell_shrink.specs.declared.change.Change.{Change}
use Rattle.spell_shrink.specs.declared.cut_text.Mark.{Mark}
use Rattle.spell_shrink.specs.declared.cut_text.Progress.{Progress}
use Rattle.spell_shrink.specs.declared.reading.Expected.{Expected}
use Rattle.spell_shrink.specs.declared.reading.Reread.{Reread}
use Rattle.spell_shrink.specs.Respelling.{Respelling, word_at}
use Rattle.spell_shrink.specs.inner.Changes.{AreMarks, HasMarkAt, IsCarriedTo, IsCut, marks_after, respelling_of_words}
use Rattle.spell_shrink.specs.inner.Rereads.{HasRest, IsOffsetBefore, IsOtherPiece, IsPassed, IsReadTo, IsReread, IsStopped, expected_pieces}
use Rattle.spell_shrink.specs.inner.Rereads.{kind_and_text, pieces_before}
use Rattle.spell_shrink.proofs.ChangedPieces.{is_next, next_of, other_dropped, other_taken, same_after, same_before}
use Rattle.spell_shrink.proofs.ChangedTexts.{as_many}
use Rattle.spell_shrink.proofs.Copies.{after_copied, after_run, before_copied, before_run, boundary_before, changed_small, text_size, word_end}
use Rattle.spell_shrink.proofs.Expecting.{pieces_long, same_text}
use Rattle.spell_shrink.proofs.MarkedPieces.{MarkedAt, all_parts, ends_low, joined_parts, marked_at, seen_after, seen_low, seen_within}
use Rattle.spell_shrink.proofs.WordPrinting.{respelling_long, spelling_of}

-- of facts that say when others hold, some proof says it of some
pub merely_both : {A B C : Type 0} → A ↔ B → B ↔ C → ∥ A ∥₁ ↔ ∥ C ∥₁
merely_both first then = (
  λ a. ∥∥₁_elim a (hlevel props) (λ x. ∣ then.0 (first.0 x) ∣₁),
  λ c. ∥∥₁_elim c (hlevel props) (λ x. ∣ first.1 (then.1 x) ∣₁),
)

pub merely_same : {A B C : Type 0} → ∥ A ∥₁ ↔ ∥ B ∥₁ → B ↔ C → ∥ A ∥₁ ↔ ∥ C ∥₁
merely_same first then = (
  λ a. ∥∥₁_elim (first.0 a) (hlevel props) (λ x. ∣ then.0 x ∣₁),
  λ c. first.1 (∥∥₁_elim c (hlevel props) (λ x. ∣ then.1 x ∣₁)),
)

-- the changed text is no longer than a text may be
pub is_small : (G : WrittenGrammar) (r : Reread) → IsReread G r → length r.text.now < 2 ^ 32 - 1
is_small G r is =
    omega (
      arith,
      ap (λ (l : List ℕ). length l) is.changed_text,
      changed_small (string_bytes r.before.now.text) r.change is.rises is.within is.shorter,
      is.small,
    )

-- a piece is passed, or it is another than is expected
pub passed_or_other : (G : WrittenGrammar) (e : Expected) (text : List ℕ) (p : Progress) (piece : Piece) → piece.start ≡ p.at → IsPieceOf G text piece
    → (o : Option Progress) → MatchOption o (IsOtherPiece G e text piece p.found) (IsPassed G e text piece p.found)
    → MatchOption o (IsStopped G e text p) (IsReadTo G e text p)
passed_or_other G e text p piece begins of None other = inr (piece, begins, of, other)
passed_or_other G e text p piece begins of (Some q) passed = (piece, begins, of, passed)

module _ (law : TokensArePieces) (G : WrittenGrammar) (r : Reread) (is : IsReread G r) where
  abbrev text : List ℕ
  text = r.text.now

  abbrev spelled : List PlainPiece
  spelled = expected_pieces r.expected

  -- ---- what is expected, and what was there before

  abbrev earlier : Respelling
  earlier = respelling_of_words r.expected.kept.now r.expected.words.now

  abbrev index : ℕ
  index = r.expected.index

  earlier_long : length earlier ≡ length r.expected.kept.now
  earlier_long = respelling_long r.expected.kept.now r.expected.words.now is.expected_so.long

  pub spelled_long : length (expected_pieces r.expected) ≡ length r.expected.kept.now
  spelled_long =
      pieces_long (map token_of r.expected.tokens.now) _ ∙ as_many earlier index r.expected.word.now ∙ earlier_long

  before_long : length (pieces_before r.expected) ≡ length r.expected.kept.now
  before_long = pieces_long (map token_of r.expected.tokens.now) earlier ∙ earlier_long

  there : index < length earlier
  there = omega (arith, is.expected_so.index, earlier_long)

  -- the spelling that is replaced has other characters
  replaced : chars r.expected.word.now ≢ chars (word_at earlier index)
  replaced same =
      let d : Bor (List ℕ) = r.expected.word in
      let old : List ℕ = (slice_index_or r.expected.words.now index d).now in
      let old_is : word_at earlier index ≡ old =
      spelling_of r.expected.kept.now r.expected.words.now index d is.expected_so.index is.expected_so.long in
      let utf8 : IsUtf8 old = is.expected_so.utf8 index d (omega (arith, is.expected_so.index, is.expected_so.long)) in
      let words = same_text r.expected.word.now old is.expected_so.word_utf8 utf8 (same ∙ ap chars old_is) in
      let shorter = is.expected_so.shorter d in
      omega (arith, ap (λ (l : List ℕ). length l) words, shorter)

  -- ---- one piece that is read

  module _ (p q : Progress) (piece : Piece) (begins : piece.start ≡ p.at) (of : IsPieceOf G r.text.now piece) where
    abbrev read : PlainPiece
    read = kind_and_text r.text.now piece

    one_lexed : (to : ℕ) → to ≡ piece.end → LexesTo G (chars (drop p.at r.text.now)) (read ∷ []) (chars (drop to r.text.now))
    one_lexed to end =
        let P : ℕ → Type 0 = λ n. IsNext G (chars (drop n r.text.now)) piece.kind read.text (chars (drop piece.end r.text.now)) in
        let Q : ℕ → Type 0 = λ n. IsNext G (chars (drop p.at r.text.now)) piece.kind read.text (chars (drop n r.text.now)) in
        let rest : List ℕ = chars (drop to r.text.now) in
        LexesTo.by_piece (chars (drop p.at r.text.now)) piece.kind read.text rest rest [] (subst Q (sym end) (subst P begins of.next)) (LexesTo.by_end rest)

    -- a piece that is passed leaves the tokens after it
    passed : IsPassed G r.expected r.text.now piece p.found q → HasRest G r p ↔ HasRest G r q
    passed (end, inl (gap, same)) =
        spells_on G text p.at q.at (read ∷ []) (one_lexed q.at end) (drop p.found spelled) (drop q.found spelled)
        (ap (λ n. drop n spelled) (sym same) ∙ sym (ap (λ b. cond (not b) (read ∷ []) [] ++ drop q.found spelled) gap))
    passed (end, inr (token, more, next)) =
        spells_on G text p.at q.at (read ∷ []) (one_lexed q.at end) (drop p.found spelled) (drop q.found spelled)
        (next_of spelled p.found read next ∙ ap (λ n. read ∷ drop n spelled) (sym more)
        ∙ sym (ap (λ b. cond (not b) (read ∷ []) [] ++ drop q.found spelled) token))

    -- and no more of them are found than there are
    passed_few : IsPassed G r.expected r.text.now piece p.found q → p.found ≤ length r.expected.kept.now → q.found ≤ length r.expected.kept.now
    passed_few (end, inl (gap, same)) few = omega (arith, same, few)
    passed_few (end, inr (token, more, next)) few = omega (arith, more, slice_get_within spelled p.found read next, spelled_long)

  -- a piece that is read is passed
  pub read_on : (p q : Progress) → IsReadTo G r.expected r.text.now p q → HasRest G r p ↔ HasRest G r q
  read_on p q (piece, begins, of, so) = passed p q piece begins of so

  pub read_few : (p q : Progress) → IsReadTo G r.expected r.text.now p q → p.found ≤ length r.expected.kept.now → q.found ≤ length r.expected.kept.now
  read_few p q (piece, begins, of, so) few = passed_few p q piece begins of so few

  pub read_starts : (p q : Progress) → IsReadTo G r.expected r.text.now p q → IsCharBoundary r.text.now q.at
  read_starts p q (piece, begins, of, (end, so)) = subst (IsCharBoundary r.text.now) (sym end) of.ends

  pub read_rises : (p q : Progress) → IsReadTo G r.expected r.text.now p q → p.at < q.at
  read_rises p q (piece, begins, of, (end, so)) = omega (arith, begins, end, of.rises)

  -- where none is passed, the rest has other tokens
  pub read_none : (p : Progress) → IsCharBoundary r.text.now p.at → p.at < length r.text.now → IsStopped G r.expected r.text.now p → ¬ HasRest G r p
  read_none p starts inside (inl none) = spells_nothing G text is.utf8 p.at starts inside (drop p.found spelled) none
  read_none p starts inside (inr (piece, begins, of, other)) =
      spells_none G text p.at piece.end (kind_and_text text piece ∷ []) (one_lexed p p piece begins of piece.end refl) (drop p.found spelled)
      (λ rest e.
      other.other (is_next spelled p.found (kind_and_text text piece) rest
      (e ∙ ap (λ b. cond (not b) (kind_and_text text piece ∷ []) [] ++ rest) other.visible)))

  -- ---- the end of the text

  pub rest_at_end : (p : Progress) → length r.text.now ≤ p.at → p.found ≤ length r.expected.kept.now
      → HasRest G r p ↔ (p.found ≡ length r.expected.kept.now)
  rest_at_end p end few =
      let ends = spells_at_end G text p.at (drop p.found spelled) end in (
        λ rest.
            let none = ap (λ (l : List PlainPiece). length l) (ends.0 rest) in
            omega (arith, none, length-drop p.found spelled, spelled_long, few),
        λ all. ends.1 (drop_all p.found spelled (omega (arith, all, spelled_long))),
      )

  -- ---- where the text before the change is cut

  module _ (pieces : List Piece) (has : HasPieces G (string_bytes r.before.now.text) pieces) (marks : AreMarks G pieces r.before.now.marks.items)
      (before : SpellsTokens G (string_bytes r.before.now.text) (pieces_before r.expected)) where
    abbrev old : List ℕ
    old = string_bytes r.before.now.text

    abbrev copies_before : List PlainPiece
    copies_before = pieces_before r.expected

    abbrev tokens_in : List Piece → List PlainPiece
    tokens_in ps = tokens_of G (map (plain G old) ps)

    abbrev change : Change
    change = r.change

    in_end : (l : List ℕ) (n : ℕ) → length l ≤ n → chars (drop n l) ≡ []
    in_end l n end = ap chars (drop_all n l end) ∙ chars-nil

    -- its tokens are those before the change
    tokens_before : tokens_in pieces ≡ copies_before
    tokens_before =
        let from = (spells_from law G old copies_before before.utf8).0 before in
        let P : List ℕ → Type 0 = λ l. LexesTo G (chars old) (map (plain G old) pieces) l in
        let lexed = subst P (in_end old (length old) (omega arith)) (start_lexes G old 0 (length old) pieces has.joined has.each) in
        ap (tokens_of G) (one_way G (chars old) (map (plain G old) pieces) from.0 lexed from.1) ∙ from.2

    tokens_parts : (front back : List Piece) → tokens_in (front ++ back) ≡ tokens_in front ++ tokens_in back
    tokens_parts front back =
        ap (tokens_of G) (map-append (plain G old) front back) ∙ filter-append _ (map (plain G old) front) (map (plain G old) back)

    module _ (k : ℕ) (mark : Mark) (at_k : slice_get r.before.now.marks.items k ≡ Some mark) where
      abbrev here : MarkedAt G old 0 pieces k mark
      here = marked_at G old 0 0 pieces k mark (ap (λ (ms : List Mark). slice_get ms k) (sym marks) ∙ at_k)

      abbrev later : List Piece
      later = here.piece ∷ here.back

      counted : mark.tokens ≡ length (tokens_in here.front)
      counted = omega (arith, here.counted)

      both_tokens : tokens_in here.front ++ tokens_in later ≡ copies_before
      both_tokens = sym (tokens_parts here.front later) ∙ ap tokens_in (sym here.whole) ∙ tokens_before

      front_few : mark.tokens ≤ length r.expected.kept.now
      front_few =
          omega (
            arith,
            counted,
            ap (λ (l : List PlainPiece). length l) both_tokens,
            length-append (tokens_in here.front) (tokens_in later),
            before_long,
          )

      front_taken : take mark.tokens copies_before ≡ tokens_in here.front
      front_taken =
          ap (take mark.tokens) (sym both_tokens) ∙ ap (λ n. take n (tokens_in here.front ++ tokens_in later)) counted
          ∙ take-append_seam (tokens_in here.front) (tokens_in later)

      later_left : drop mark.tokens copies_before ≡ tokens_in later
      later_left = ap (drop mark.tokens) (sym both_tokens) ∙ drop_at (tokens_in here.front) (tokens_in later) mark.tokens (sym counted)

      joined : AreJoined here.piece.start (length old) later × AreJoined 0 here.piece.start here.front
      joined =
          let parts = joined_parts 0 (length old) here.front here.piece here.back
          (subst (AreJoined 0 (length old)) here.whole has.joined) in
          (parts.1, parts.0)

      each : All (IsPieceOf G old) here.front × All (IsPieceOf G old) later
      each = all_parts (IsPieceOf G old) here.front later (subst (All (IsPieceOf G old)) here.whole has.each)

      -- ---- up to the mark, where the pieces before it haven't seen the change

      module _ (low : All (λ (m : Mark). m.reach ≤ r.change.from) (take k r.before.now.marks.items)) where
        seen : All (λ (q : Piece). q.seen ≤ r.change.from) here.front
        seen =
            let P : List Mark → Type 0 = λ ms. All (λ (m : Mark). m.reach ≤ r.change.from) (take k ms) in
            let Q : List Piece → Type 0 = λ ps. All (λ (m : Mark). m.reach ≤ r.change.from) (take k (marks_after G 0 0 ps)) in
            seen_low G old r.change.from 0 0 here.front later
            (subst (λ n. All (λ (m : Mark). m.reach ≤ r.change.from) (take n (marks_after G 0 0 (here.front ++ later)))) (sym here.long)
            (subst Q here.whole (subst P marks low)))

        within_before : AreWithin (before_run change) here.front
        within_before = λ j d less.
            let piece : Piece = slice_index_or here.front j d in
            let high = seen j d less in
            (omega arith, omega (arith, high, seen_after G old before.utf8 piece (each.0 j d less)), high)

        -- they end before it
        start_low : here.piece.start ≤ r.change.from
        start_low =
            ends_low r.change.from 0 here.piece.start here.front (omega arith) joined.1
            (λ j d less.
            let piece : Piece = slice_index_or here.front j d in
            let inside = within_before j d less in
            (carried_next G old text before.utf8 is.utf8 _
            (before_copied old text change before.utf8 is.utf8 is.changed_text is.rises is.within is.starts is.ends)
            piece (each.0 j d less) inside.0 inside.1 inside.2).0)

        lexed_before : (at : ℕ) → at ≡ here.piece.start → LexesTo G (chars text) (map (plain G old) here.front) (chars (drop at text))
        lexed_before at begins =
            let first : 0 + (0 - 0) ≡ 0 = omega arith in
            let last : 0 + (here.piece.start - 0) ≡ at = omega (arith, begins) in
            let P : ℕ → Type 0 =
            λ n. LexesTo G (chars (drop n text)) (map (plain G old) here.front) (chars (drop (0 + (here.piece.start - 0)) text)) in
            let Q : ℕ → Type 0 = λ n. LexesTo G (chars text) (map (plain G old) here.front) (chars (drop n text)) in
            subst Q last
            (subst P first
            (text_lexes G old text before.utf8 is.utf8 _
            (before_copied old text change before.utf8 is.utf8 is.changed_text is.rises is.within is.starts is.ends) 0 here.piece.start here.front
            joined.1 each.0 within_before))

        pub carried_starts : (p : Progress) → p.at ≡ mark.start → IsCharBoundary r.text.now p.at
        carried_starts p begins =
            let piece_is : IsPieceOf G old here.piece = All-head (IsPieceOf G old) here.piece here.back each.1 in
            subst (IsCharBoundary text) (sym (begins ∙ here.begins))
            (boundary_before old text change before.utf8 is.utf8 is.changed_text is.rises is.within is.starts is.ends here.piece.start start_low
            piece_is.starts)

        pub carried_few : (p : Progress) → p.found ≡ mark.tokens → p.found ≤ length r.expected.kept.now
        carried_few p found = omega (arith, found, front_few)

        -- the tokens before the mark are the first ones that are expected
        pub carried_on : (p : Progress) → p.at ≡ mark.start → p.found ≡ mark.tokens → p.found ≤ r.expected.index
            → HasRest G r (record { at = 0; found = 0 }) ↔ HasRest G r p
        carried_on p begins found low_found =
            let same : take p.found spelled ≡ tokens_in here.front =
            same_before (map token_of r.expected.tokens.now) r.expected.word.now earlier index p.found low_found
            ∙ ap (λ n. take n copies_before) found ∙ front_taken in
            spells_on G text 0 p.at (map (plain G old) here.front) (lexed_before p.at (begins ∙ here.begins)) spelled (drop p.found spelled)
            (sym (take-append-drop p.found spelled) ∙ ap (λ (l : List PlainPiece). l ++ drop p.found spelled) same)

        -- where the one that is replaced is among them, the text has other tokens
        pub carried_none : (p : Progress) → p.at ≡ mark.start → p.found ≡ mark.tokens → r.expected.index < p.found
            → ¬ HasRest G r (record { at = 0; found = 0 })
        carried_none p begins found high =
            spells_none G text 0 p.at (map (plain G old) here.front) (lexed_before p.at (begins ∙ here.begins)) spelled
            (λ rest e.
            let front : List PlainPiece = tokens_in here.front in
            let taken : take p.found spelled ≡ front =
            ap (λ n. take n spelled) (found ∙ counted) ∙ ap (take (length front)) e ∙ take-append_seam front rest in
            other_taken (map token_of r.expected.tokens.now) r.expected.word.now earlier index p.found high there replaced
            (taken ∙ sym front_taken ∙ ap (λ n. take n copies_before) (sym found)))

      -- ---- from the mark on, where it comes after the change

      module _ (p : Progress) (after : IsOffsetBefore r.change p.at mark.start) where
        start_high : r.change.to ≤ here.piece.start
        start_high = omega (arith, after.0, after.1, here.begins)

        abbrev IsIn : Piece → Type 0
        IsIn q = ((after_run old change).from ≤ q.start) × (q.start < (after_run old change).to) × (q.seen ≤ (after_run old change).limit)

        within_after : (at end : ℕ) (ps : List Piece) → r.change.to ≤ at → AreJoined at end ps → All (IsPieceOf G old) ps
            → AreWithin (after_run old change) ps
        within_after at end [] high joined_so all = All-nil IsIn
        within_after at end (q ∷ ps) high joined_so all =
            let first = All-head (IsPieceOf G old) q ps all in
            All-cons IsIn q ps
            (omega (arith, high, joined_so.0), omega (arith, first.rises, first.within), seen_within G old before.utf8 q first)
            (within_after q.end end ps (omega (arith, high, joined_so.0, first.rises)) joined_so.1 (All-tail (IsPieceOf G old) q ps all))

        lexed_after : LexesTo G (chars (drop p.at text)) (map (plain G old) later) []
        lexed_after =
            let size = text_size old text change before.utf8 is.utf8 is.changed_text is.rises is.within is.starts is.ends in
            let first : word_end change + (here.piece.start - change.to) ≡ p.at =
            omega (arith, after.0, after.1, here.begins, start_high) in
            let last : List ℕ = chars (drop (word_end change + (length old - change.to)) text) in
            let P : ℕ → Type 0 = λ n. LexesTo G (chars (drop n text)) (map (plain G old) later) last in
            let Q : List ℕ → Type 0 = λ l. LexesTo G (chars (drop p.at text)) (map (plain G old) later) l in
            subst Q (in_end text _ (omega (arith, size)))
            (subst P first
            (text_lexes G old text before.utf8 is.utf8 _
            (after_copied old text change before.utf8 is.utf8 is.changed_text is.rises is.within is.starts is.ends) here.piece.start (length old) later
            joined.0 each.1 (within_after here.piece.start (length old) later start_high joined.0 each.1)))

        -- the rest has the tokens that come from the mark on
        rest_is : HasRest G r p ↔ (drop p.found spelled ≡ drop mark.tokens copies_before)
        rest_is = (
          λ (found, lexed, same).
              sym same ∙ ap (tokens_of G) (one_way G (chars (drop p.at text)) found (map (plain G old) later) lexed lexed_after) ∙ sym later_left,
          λ same. (map (plain G old) later, lexed_after, sym later_left ∙ sym same),
        )

        -- these are the expected ones where there are as many before them, and the one that is replaced is among those
        pub goes_on_as : p.found ≤ length r.expected.kept.now
            → HasRest G r p ↔ ((mark.tokens ≡ p.found) × (r.expected.index < p.found))
        goes_on_as few = (
          λ rest.
              let same = rest_is.0 rest in
              let count : mark.tokens ≡ p.found =
              omega (
                arith,
                ap (λ (l : List PlainPiece). length l) same,
                length-drop p.found spelled,
                length-drop mark.tokens copies_before,
                spelled_long,
                before_long,
                few,
                front_few,
              ) in
              (count, after_index (same ∙ ap (λ n. drop n copies_before) count) (cases_lt index p.found)),
          λ both.
              rest_is.1 (same_after (map token_of r.expected.tokens.now) r.expected.word.now earlier index p.found both.1
              ∙ ap (λ n. drop n copies_before) (sym both.0)),
        )
          where
            after_index : drop p.found spelled ≡ drop p.found copies_before → (index < p.found) ⊎ (p.found ≤ index) → index < p.found
            after_index same (inl less) = less
            after_index same (inr more) =
                absurd (other_dropped (map token_of r.expected.tokens.now) r.expected.word.now earlier index p.found more there replaced same)

  -- ---- the whole text

  -- it spells what is expected where all of it has these tokens
  pub whole_text : SpellsTokens G r.text.now (expected_pieces r.expected) ↔ HasRest G r (record { at = 0; found = 0 })
  whole_text = spells_from law G text spelled is.utf8

  -- ---- where reading begins, and where it may end

  abbrev pub begin : Progress
  begin = record { at = 0; found = 0 }

  -- What is carried up to there: the rest has the tokens after those that were found, or one of these is another.
  pub record IsCarriedOn (p : Progress) : Type 0 where
    pub starts : IsCharBoundary r.text.now p.at
    pub few : p.found ≤ length r.expected.kept.now
    pub on : p.found ≤ r.expected.index → HasRest G r begin ↔ HasRest G r p
    pub none : r.expected.index < p.found → ¬ HasRest G r begin

  pub carried_at : (p : Progress) → IsCarriedTo r.before.now r.change.from p → IsCarriedOn p
  carried_at p (inl (at, found)) =
      let P : ℕ → Type 0 = λ n. HasRest G r begin ↔ SpellsFrom G text n (drop p.found spelled) in
      let Q : ℕ → Type 0 = λ n. HasRest G r begin ↔ SpellsFrom G text 0 (drop n spelled) in
      record {
        starts = subst (IsCharBoundary text) (sym at) (IsCharBoundary-start text is.utf8);
        few = omega (arith, found);
        on = λ low. subst P (sym at) (subst Q (sym found) (λ rest. rest, λ rest. rest));
        none = λ high. absurd (omega (arith, found, high));
      }
  carried_at p (inr (k, mark, at_k, begins, found, low)) = by is.cut
    where
      no_marks : r.before.now.marks.items ≢ []
      no_marks none = absurd (none-some mark (ap (λ (ms : List Mark). slice_get ms k) (sym none) ∙ at_k))

      by : IsCut G r.before.now → IsCarriedOn p
      by (inl none) = absurd (no_marks none)
      by (inr (pieces, has, marks)) =
          let before = is.spelled no_marks in
          record {
            starts = carried_starts pieces has marks before k mark at_k low p begins;
            few = carried_few pieces has marks before k mark at_k low p found;
            on = carried_on pieces has marks before k mark at_k low p begins found;
            none = carried_none pieces has marks before k mark at_k low p begins found;
          }

  pub goes_on_at : (p : Progress) (offset tokens : ℕ) → IsOffsetBefore r.change p.at offset → HasMarkAt r.before.now offset tokens
      → p.found ≤ length r.expected.kept.now → HasRest G r p ↔ ((tokens ≡ p.found) × (r.expected.index < p.found))
  goes_on_at p offset tokens after (k, mark, at_k, begins, count) few = by is.cut
    where
      P : ℕ → Type 0
      P n = HasRest G r p ↔ ((n ≡ p.found) × (r.expected.index < p.found))

      no_marks : r.before.now.marks.items ≢ []
      no_marks none = absurd (none-some mark (ap (λ (ms : List Mark). slice_get ms k) (sym none) ∙ at_k))

      by : IsCut G r.before.now → P tokens
      by (inl none) = absurd (no_marks none)
      by (inr (pieces, has, marks)) =
          subst P count
          (goes_on_as pieces has marks (is.spelled no_marks) k mark at_k p (subst (IsOffsetBefore r.change p.at) (sym begins) after) few)
