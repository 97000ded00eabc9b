-- A stretch of carried pieces is passed.
use Rattle.std.proofs.Common.{◌≡◌, ◌<◌, ◌≤◌, ◌+◌, ◌-◌, ◌⊎◌, inl, inr, ℕ, zero, suc, Bool, true, false, List, [], ◌∷◌, ◌++◌, map}
use Rattle.std.proofs.Common.{take, drop, slice_index_or, length, refl, sym, ap, ap₂, ◌∙◌, subst, arith}
use Rattle.std.specs.Prelude.{nat_le, nat_lt, ◌&&◌}
use Rattle.std.specs.List.{All, between, filter}
use Rattle.std.specs.Str.{chars, IsCharBoundary, IsUtf8}
use Rattle.std.proofs.lemmas.Bool.{and_from, and_left, and_right, cases_lt, le-leb, le-ltb, lt-leb, lt-ltb}
use Rattle.std.proofs.lemmas.List.{append-nil, drop-drop, get_or-drop, get_or-take, length-drop, length-take, take-append-drop}
use Rattle.std.proofs.lemmas.List.Elements.{All-drop, All-head, All-tail, All-take, filter-append}
use Rattle.grammar_tree.specs.Written.{WrittenGrammar}
use Rattle.grammar_tree.specs.Lexes.{LexesTo, Piece as PlainPiece, PlacedToken, tokens_of}
use Rattle.lexer.specs.declared.piece.Piece.{Piece}
use Rattle.lexer.specs.Pieces.{AreJoined, HasPieces, IsPieceOf}
use Rattle.token_print.specs.Spelling.{kind_and_spelling}
use Rattle.token_print.specs.declared.joins.Joins.{Joins}
use Rattle.token_print.specs.declared.joins.Progress.{Progress}
use Rattle.token_print.specs.declared.joins.Stretch.{Stretch}
use Rattle.token_print.specs.declared.runs.Run.{Run}
use Rattle.token_print.specs.inner.Copies.{IsCopy}
use Rattle.token_print.specs.inner.Joins.{AreCarried, AreOthers, ArePassed, IsJoinsOf, IsKeptFrom, IsPassed, items_of, placed_of}
use Rattle.token_print.specs.inner.Joins.{spelled_from, spelled_in, start_of, stretch_from, stretch_to}
use Rattle.token_print.proofs.Carried.{carried_next, copied_end}
use Rattle.token_print.proofs.Going.{keeps_none, passed_over}
use Rattle.token_print.proofs.StartPieces.{all_pass, ends_before, joined_drop, joined_take, no_piece, none_passes, piece_tokens}
use Rattle.token_print.proofs.StartPieces.{plain, rise_all, spelled_pieces, tokens_among, tokens_append}

-- what a run carries of the pieces
abbrev pub AreWithin : Run → List Piece → Type 0
AreWithin run ps = All (λ p. (run.from ≤ p.start) × (p.start < run.to) × (p.seen ≤ run.limit)) ps

module _ (G : WrittenGrammar) (start text : List ℕ) (utf8 : IsUtf8 start) (text_utf8 : IsUtf8 text) (run : Run) (copy : IsCopy start text run) where
  -- an offset of the start in the run's copy
  abbrev pub copy_of : ℕ → ℕ
  copy_of offset = run.at + (offset - run.from)

  -- Pieces that are carried are read one after another at their copies.
  pub text_lexes : (at end : ℕ) (ps : List Piece) → AreJoined at end ps → All (IsPieceOf G start) ps → AreWithin run ps
      → LexesTo G (chars (drop (copy_of at) text)) (map (plain G start) ps) (chars (drop (copy_of end) text))
  text_lexes at end [] same all within = let P : ℕ → Type 0 =
      λ n. LexesTo G (chars (drop (copy_of at) text)) [] (chars (drop (copy_of n) text)) in subst P same (LexesTo.by_end (chars (drop (copy_of at) text)))
  text_lexes at end (p ∷ ps) (s, joined) all within =
      let is = All-head (IsPieceOf G start) p ps all in
      let (low, high, few) = within 0 p (omega arith) in
      let (inside, next) = carried_next G start text utf8 text_utf8 run copy p is low high few in
      let ends : copy_of p.start + (p.end - p.start) ≡ copy_of p.end = omega (arith, low, is.rises) in
      let P : ℕ → Type 0 = λ n. LexesTo G (chars (drop (copy_of n) text)) (plain G start p ∷ map (plain G start) ps) (chars (drop (copy_of end) text)) in
      let Q : ℕ → Type 0 = λ n. LexesTo G (chars (drop n text)) (map (plain G start) ps) (chars (drop (copy_of end) text)) in
      subst P s
      (LexesTo.by_piece _ p.kind (chars (between p.start p.end start)) (chars (drop (copy_of p.start + (p.end - p.start)) text))
      (chars (drop (copy_of end) text)) (map (plain G start) ps) next
      (subst Q (sym ends) (text_lexes p.end end ps joined (All-tail (IsPieceOf G start) p ps all) (λ k d h. within (suc k) d (omega (arith, h))))))

module _ (G : WrittenGrammar) (start : List ℕ) (items : List Piece) (cut : HasPieces G start items) (s : Stretch) (rises : s.first < s.end)
    (inside : s.end ≤ length items) where
  abbrev first_piece : Piece
  first_piece = slice_index_or items s.first no_piece

  abbrev last_piece : Piece
  last_piece = slice_index_or items (s.end - 1) no_piece

  abbrev count : ℕ
  count = s.end - s.first

  -- the pieces of the stretch
  abbrev pub middle : List Piece
  middle = take count (drop s.first items)

  abbrev front : List Piece
  front = take s.first items

  abbrev back : List Piece
  back = drop count (drop s.first items)

  whole : items ≡ front ++ (middle ++ back)
  whole = sym (take-append-drop s.first items) ∙ ap (λ l. front ++ l) (sym (take-append-drop count (drop s.first items)))

  pub middle_joined : AreJoined first_piece.start last_piece.end middle
  middle_joined =
      let n = count - 1 in
      let size : suc n ≡ count = omega (arith, rises) in
      let last : s.first + n ≡ s.end - 1 = omega (arith, rises) in
      let P : ℕ → Type 0 = λ m. AreJoined first_piece.start last_piece.end (take m (drop s.first items)) in
      let Q : Piece → Type 0 = λ p. AreJoined first_piece.start p.end (take (suc n) (drop s.first items)) in
      subst P size
      (subst Q (get_or-drop s.first items n no_piece ∙ ap (λ m. slice_index_or items m no_piece) last)
      (joined_take n first_piece.start (length start) (drop s.first items)
      (joined_drop s.first 0 (length start) items cut.joined (omega (arith, rises, inside))) (omega (arith, length-drop s.first items, rises, inside))))

  pub middle_pieces : All (IsPieceOf G start) middle
  middle_pieces = All-take (IsPieceOf G start) count (drop s.first items) (All-drop (IsPieceOf G start) s.first items cut.each)

  rise : All (λ p. p.start < p.end) items
  rise = rise_all G start items cut.each

  before : (i k : ℕ) → i < k → k < length items → (slice_index_or items i no_piece).end ≤ (slice_index_or items k no_piece).start
  before = ends_before 0 (length start) items cut.joined rise

  rise_at : (k : ℕ) → k < length items → (slice_index_or items k no_piece).start < (slice_index_or items k no_piece).end
  rise_at k h = rise k no_piece h

  default : (items : List Piece) (n : ℕ) (d : Piece) → n < length items → slice_index_or items n d ≡ slice_index_or items n no_piece
  default [] n d m = absurd (omega (arith, m))
  default (p ∷ items) zero d m = refl
  default (p ∷ items) (suc n) d m = default items n d (omega (arith, m))

  -- each piece of the stretch by its number among all
  pub middle_at : (P : Piece → Type 0) → ((k : ℕ) → s.first ≤ k → k < s.end → P (slice_index_or items k no_piece)) → All P middle
  middle_at P each k d h =
      let low : k < count = omega (arith, h, length-take count (drop s.first items)) in
      subst P
      (sym (get_or-take count (drop s.first items) k d low ∙ get_or-drop s.first items k d ∙ default items (s.first + k) d (omega (arith, low, rises, inside))))
      (each (s.first + k) (omega arith) (omega (arith, low, rises)))

  abbrev begun : PlacedToken → Bool
  begun t = nat_le first_piece.start t.start && nat_lt t.start last_piece.end

  front_no : All (λ p. begun (record { kind = p.kind; start = p.start; end = p.end }) ≡ false) front
  front_no k d h =
      let low : k < s.first = omega (arith, h, length-take s.first items) in
      let P : Piece → Type 0 = λ p. begun (record { kind = p.kind; start = p.start; end = p.end }) ≡ false in
      subst P (sym (get_or-take s.first items k d low ∙ default items k d (omega (arith, low, rises, inside))))
      (and_left _ _ (lt-leb first_piece.start (slice_index_or items k no_piece).start
      (omega (arith, before k s.first low (omega (arith, rises, inside)), rise_at k (omega (arith, low, rises, inside))))))

  back_no : All (λ p. begun (record { kind = p.kind; start = p.start; end = p.end }) ≡ false) back
  back_no k d h =
      let end : s.first + count ≡ s.end = omega (arith, rises) in
      let P : Piece → Type 0 = λ p. begun (record { kind = p.kind; start = p.start; end = p.end }) ≡ false in
      let far : s.end + k < length items = omega (arith, h, length-drop count (drop s.first items), length-drop s.first items, rises, inside) in
      let at : slice_index_or back k d ≡ slice_index_or items (s.end + k) no_piece =
      ap (λ l. slice_index_or l k d) (drop-drop count s.first items) ∙ get_or-drop (s.first + count) items k d ∙ ap (λ n. slice_index_or items (n + k) d) end
      ∙ default items (s.end + k) d far in
      subst P (sym at)
      (and_right _ _ (le-ltb (slice_index_or items (s.end + k) no_piece).start last_piece.end (before (s.end - 1) (s.end + k) (omega (arith, rises)) far)))

  middle_yes : All (λ p. begun (record { kind = p.kind; start = p.start; end = p.end }) ≡ true) middle
  middle_yes =
      middle_at (λ p. begun (record { kind = p.kind; start = p.start; end = p.end }) ≡ true)
      (λ k low high. and_from _ _ (le-leb _ _ (from k low high (cases_lt s.first k))) (lt-ltb _ _ (to k low high (cases_lt k (s.end - 1)))))
    where
      from : (k : ℕ) → s.first ≤ k → k < s.end → (s.first < k) ⊎ (k ≤ s.first) → first_piece.start ≤ (slice_index_or items k no_piece).start
      from k low high (inl h) = omega (arith, before s.first k h (omega (arith, high, inside)), rise_at s.first (omega (arith, rises, inside)))
      from k low high (inr h) = let same : s.first ≡ k = omega (arith, low, h) in omega (arith, ap (λ n. (slice_index_or items n no_piece).start) same)

      to : (k : ℕ) → s.first ≤ k → k < s.end → (k < s.end - 1) ⊎ (s.end - 1 ≤ k) → (slice_index_or items k no_piece).start < last_piece.end
      to k low high (inl h) =
          omega (
            arith,
            before k (s.end - 1) h (omega (arith, rises, inside)),
            rise_at k (omega (arith, high, inside)),
            rise_at (s.end - 1) (omega (arith, rises, inside)),
          )
      to k low high (inr h) = let same : k ≡ s.end - 1 =
          omega (arith, high, h) in omega (arith, ap (λ n. (slice_index_or items n no_piece).start) same, rise_at (s.end - 1) (omega (arith, rises, inside)))

  -- The tokens that begin in the stretch are those among its pieces.
  pub begun_are : filter begun (piece_tokens G items) ≡ piece_tokens G middle
  begun_are =
      ap (λ l. filter begun (piece_tokens G l)) whole
      ∙ ap (filter begun) (tokens_append G front (middle ++ back) ∙ ap (λ l. piece_tokens G front ++ l) (tokens_append G middle back))
      ∙ filter-append begun (piece_tokens G front) (piece_tokens G middle ++ piece_tokens G back)
      ∙ ap₂ ◌++◌ (none_passes G begun front front_no)
      (filter-append begun (piece_tokens G middle) (piece_tokens G back) ∙ ap₂ ◌++◌ (all_pass G begun middle middle_yes) (none_passes G begun back back_no))
      ∙ append-nil (piece_tokens G middle)

module _ (G : WrittenGrammar) (j : Joins) (of : IsJoinsOf G j) (p : Progress) (s : Stretch) where
  abbrev parts : List Piece
  parts = take (s.end - s.first) (drop s.first (items_of j))

  module _ (run : Run) (copy : IsCopy (start_of j) j.text.now run) (carried : AreCarried (items_of j) run p.at s) where
    abbrev read : List PlainPiece
    read = map (plain G (start_of j)) parts

    -- the kinds and spellings of the tokens among the pieces that are read
    spelled : spelled_in j (stretch_from j s) (stretch_to j s) ≡ tokens_of G read
    spelled =
        ap (λ l. map (kind_and_spelling (start_of j)) (filter (λ t. nat_le (stretch_from j s) t.start && nat_lt t.start (stretch_to j s)) l))
        (tokens_among G (start_of j) of.utf8 (items_of j) (placed_of j) of.pieces.cut of.tokens)
        ∙ ap (map (kind_and_spelling (start_of j))) (begun_are G (start_of j) (items_of j) of.pieces.cut s carried.rises carried.within)
        ∙ sym (spelled_pieces G (start_of j) parts)

    within : AreWithin run parts
    within =
        middle_at G (start_of j) (items_of j) of.pieces.cut s carried.rises carried.within
        (λ x. (run.from ≤ x.start) × (x.start < run.to) × (x.seen ≤ run.limit))
        (λ k low high. (from k low high (cases_lt s.first k), (carried.each k no_piece low high).0, (carried.each k no_piece low high).1))
      where
        from : (k : ℕ) → s.first ≤ k → k < s.end → (s.first < k) ⊎ (k ≤ s.first) → run.from ≤ (slice_index_or (items_of j) k no_piece).start
        from k low high (inl h) = omega (arith, carried.begins no_piece, of.rise s.first k no_piece h (omega (arith, high, carried.within)))
        from k low high (inr h) = let same : s.first ≡ k =
            omega (arith, low, h) in omega (arith, carried.begins no_piece, ap (λ n. (slice_index_or (items_of j) n no_piece).start) same)

    last_within : (run.from ≤ (slice_index_or (items_of j) (s.end - 1) no_piece).start) × ((slice_index_or (items_of j) (s.end - 1) no_piece).start < run.to)
        × ((slice_index_or (items_of j) (s.end - 1) no_piece).seen ≤ run.limit)
    last_within = at_last (s.end - 1) refl
      where
        at_last : (k : ℕ) → k ≡ s.end - 1 → (run.from ≤ (slice_index_or (items_of j) k no_piece).start)
            × ((slice_index_or (items_of j) k no_piece).start < run.to) × ((slice_index_or (items_of j) k no_piece).seen ≤ run.limit)
        at_last k e =
            let high : k < s.end = omega (arith, e, carried.rises) in
            let low : s.first ≤ k = omega (arith, e, carried.rises) in
            (begin k low high (cases_lt s.first k), (carried.each k no_piece low high).0, (carried.each k no_piece low high).1)
          where
            begin : (k : ℕ) → s.first ≤ k → k < s.end → (s.first < k) ⊎ (k ≤ s.first) → run.from ≤ (slice_index_or (items_of j) k no_piece).start
            begin k low high (inl h) = omega (arith, carried.begins no_piece, of.rise s.first k no_piece h (omega (arith, high, carried.within)))
            begin k low high (inr h) = let same : s.first ≡ k =
                omega (arith, low, h) in omega (arith, carried.begins no_piece, ap (λ n. (slice_index_or (items_of j) n no_piece).start) same)

    -- where the stretch begins and ends in the text
    begin_is : run.at + (stretch_from j s - run.from) ≡ p.at
    begin_is = omega (arith, carried.here no_piece, carried.begins no_piece)

    last_is : IsPieceOf G (start_of j) (slice_index_or (items_of j) (s.end - 1) no_piece)
    last_is = of.pieces.cut.each (s.end - 1) no_piece (omega (arith, carried.rises, carried.within))

    pub first_le : stretch_from j s ≤ stretch_to j s
    first_le = pick (cases_lt s.first (s.end - 1))
      where
        pick : (s.first < s.end - 1) ⊎ (s.end - 1 ≤ s.first) → stretch_from j s ≤ stretch_to j s
        pick (inl h) = omega (arith, of.rise s.first (s.end - 1) no_piece h (omega (arith, carried.rises, carried.within)), last_is.rises)
        pick (inr h) = let same : s.first ≡ s.end - 1 =
            omega (arith, carried.rises, h) in omega (arith, ap (λ n. (slice_index_or (items_of j) n no_piece).start) same, last_is.rises)

    end_is : run.at + (stretch_to j s - run.from) ≡ p.at + (stretch_to j s - stretch_from j s)
    end_is = omega (arith, begin_is, first_le, carried.begins no_piece)

    pub rises_by : stretch_from j s < stretch_to j s
    rises_by = pick (cases_lt s.first (s.end - 1))
      where
        pick : (s.first < s.end - 1) ⊎ (s.end - 1 ≤ s.first) → stretch_from j s < stretch_to j s
        pick (inl h) = omega (arith, of.rise s.first (s.end - 1) no_piece h (omega (arith, carried.rises, carried.within)), last_is.rises)
        pick (inr h) =
            let same : s.first ≡ s.end - 1 =
            omega (arith, carried.rises, h) in omega (arith, ap (λ n. (slice_index_or (items_of j) n no_piece).start) same, last_is.rises)

    lexed : LexesTo G (chars (drop p.at j.text.now)) read (chars (drop (p.at + (stretch_to j s - stretch_from j s)) j.text.now))
    lexed =
        let P : ℕ → Type 0 = λ n. LexesTo G (chars (drop n j.text.now)) read (chars (drop (run.at + (stretch_to j s - run.from)) j.text.now)) in
        let Q : ℕ → Type 0 = λ n. LexesTo G (chars (drop p.at j.text.now)) read (chars (drop n j.text.now)) in
        subst Q end_is
        (subst P begin_is
        (text_lexes G (start_of j) j.text.now of.utf8 of.text run copy (stretch_from j s) (stretch_to j s) parts
        (middle_joined G (start_of j) (items_of j) of.pieces.cut s carried.rises carried.within)
        (middle_pieces G (start_of j) (items_of j) of.pieces.cut s carried.rises carried.within) within))

    ends : IsCharBoundary j.text.now (p.at + (stretch_to j s - stretch_from j s))
    ends =
        let Q : ℕ → Type 0 = λ n. IsCharBoundary j.text.now n in
        let (low, high, few) = last_within in
        let last = slice_index_or (items_of j) (s.end - 1) no_piece in
        let same : (run.at + (last.start - run.from)) + (last.end - last.start) ≡ p.at + (stretch_to j s - stretch_from j s) =
        omega (arith, end_is, low, last_is.rises) in
        subst Q same (copied_end G (start_of j) j.text.now of.utf8 of.text run copy last last_is low high
        (carried_next G (start_of j) j.text.now of.utf8 of.text run copy last last_is low high few).0)

    pub passed_by : (q : Progress) → IsCharBoundary j.text.now p.at → ArePassed j s p q → (reads : ℕ) → IsPassed G j p q reads reads
    passed_by q begins passed reads =
        let Q : ℕ → Type 0 = λ n. LexesTo G (chars (drop p.at j.text.now)) read (chars (drop n j.text.now)) in
        let R : ℕ → Type 0 = λ n. IsCharBoundary j.text.now n in
        passed_over G j of.text p q read (subst Q (sym passed.at) lexed) begins (subst R (sym passed.at) ends) passed.few
        (passed.next ∙ ap (λ l. l ++ spelled_from j q.found) spelled) reads

    pub others_by : AreOthers j s p.found → ¬ IsKeptFrom G j p
    others_by others =
        let q : Progress = record { at = p.at + (stretch_to j s - stretch_from j s); found = p.found } in
        keeps_none G j of.text p q read lexed (λ rest e. others rest (e ∙ ap (λ l. l ++ rest) (sym spelled)))
