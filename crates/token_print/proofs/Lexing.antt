-- Texts that are cut into pieces: parts that follow one another, how long they are, and how they are counted.
use Rattle.std.proofs.Common.{◌≡◌, ◌≤◌, ◌+◌, inl, inr, ℕ, suc, Bool, true, false, cond, List, [], ◌∷◌, ◌++◌}
use Rattle.std.proofs.Common.{length, refl, sym, ap, ap₂, ◌∙◌, subst, arith, length-append}
use Rattle.std.specs.Prelude.{encode_utf8_all}
use Rattle.std.proofs.lemmas.Str.{encodes-append}
use Rattle.grammar_tree.specs.Written.{WrittenGrammar}
use Rattle.grammar_tree.specs.Lexes.{IsNext, KindMatches, LexesTo, Piece}
use Rattle.lexer.specs.declared.piece.Piece.{Piece as Placed}
use Rattle.token_print.specs.declared.runs.Run.{Run}
use Rattle.token_print.specs.Reads.{IsEndWith}
use Rattle.token_print.specs.Runs.{is_carried, uncarried}

append_same : (a b c d : List ℕ) → a ++ b ≡ c ++ d → length a ≡ length c → (a ≡ c) × (b ≡ d)
append_same [] b [] d e h = (refl, e)
append_same [] b (x ∷ c) d e h = absurd (omega (arith, h))
append_same (x ∷ a) b [] d e h = absurd (omega (arith, h))
append_same (x ∷ a) b (y ∷ c) d e h =
    let heads : x ≡ y = cc in
    let tails : a ++ b ≡ c ++ d = cc in
    let rest = append_same a b c d tails (omega (arith, h)) in
    (ap₂ ◌∷◌ heads rest.0, rest.1)

nothing_before : (p r : List ℕ) → [] ≡ p ++ r → p ≡ []
nothing_before [] r e = refl
nothing_before (x ∷ p) r e = absurd cc

-- how many bytes the pieces have
abbrev pub size_of : List Piece → ℕ
size_of [] = 0
size_of (p ∷ pieces) = length (encode_utf8_all p.text) + size_of pieces

module _ (G : WrittenGrammar) where
  -- what comes next is one piece
  pub next_same : {text : List ℕ} {k l : ℕ} {p q r s : List ℕ} → IsNext G text k p r → IsNext G text l q s → (k ≡ l) × (p ≡ q) × (r ≡ s)
  next_same {k = k} {l = l} {p = p} {q = q} {r = r} {s = s} a b =
      let short = b.longest k p r a.cut a.matched in
      let long = a.longest l q s b.cut b.matched in
      let same = append_same p r q s (sym a.cut ∙ b.cut) (omega (arith, short, long)) in
      let P : List ℕ → Type 0 = λ x. KindMatches G l x in
      let Q : List ℕ → Type 0 = λ x. KindMatches G k x in
      let below = a.least l (subst P (sym same.0) b.matched) in
      let above = b.least k (subst Q same.0 a.matched) in
      (omega (arith, below, above), same.0, same.1)

  -- nothing comes next
  abbrev pub NoNext : List ℕ → Type 0
  NoNext text = (kind : ℕ) (piece rest : List ℕ) → ¬ IsNext G text kind piece rest

  pub none_at_end : NoNext []
  none_at_end kind piece rest next = next.some (nothing_before piece rest next.cut)

  pub none_left : (left : List ℕ) (more : ℕ) → IsEndWith G left more → NoNext left
  none_left left more (inl (e, z)) = let P : List ℕ → Type 0 = λ l. NoNext l in subst P (sym e) none_at_end
  none_left left more (inr (o, stuck)) = λ kind piece rest next. stuck kind piece rest next.cut next.some next.matched

  -- pieces, and then more pieces
  pub lexes_append : {text middle left : List ℕ} {ps qs : List Piece} → LexesTo G text ps middle → LexesTo G middle qs left → LexesTo G text (ps ++ qs) left
  lexes_append (LexesTo.by_end text) more = more
  lexes_append (LexesTo.by_piece text k p r l ps next first) more = LexesTo.by_piece text k p r _ _ next (lexes_append first more)

  -- Pieces that are read begin those that are read up to an end.
  pub through : {text middle left : List ℕ} {ps qs : List Piece} → LexesTo G text ps middle → LexesTo G text qs left → NoNext left → (rest : List Piece)
      × (qs ≡ ps ++ rest) × LexesTo G middle rest left
  through {qs = qs} (LexesTo.by_end text) other none = (qs, refl, other)
  through (LexesTo.by_piece text k p r l ps next first) (LexesTo.by_end text') none = absurd (none k p r next)
  through (LexesTo.by_piece text k p r l ps next first) (LexesTo.by_piece text' k' p' r' l' qs next' more) none =
      let same = next_same next next' in
      let P : List ℕ → Type 0 = λ x. LexesTo G x qs l' in
      let (rest, is, lexed) = through first (subst P (sym same.2) more) none in
      (rest, ap₂ ◌∷◌ (ap₂ (λ x y. record { kind = x; text = y }) (sym same.0) (sym same.1)) is, lexed)

  -- the bytes of a text are those of its pieces and of what is left
  pub sizes : {text left : List ℕ} {ps : List Piece} → LexesTo G text ps left → length (encode_utf8_all text) ≡ size_of ps + length (encode_utf8_all left)
  sizes (LexesTo.by_end text) = omega arith
  sizes (LexesTo.by_piece text k p r l ps next more) =
      omega (
        arith,
        sizes more,
        ap (λ x. length (encode_utf8_all x)) next.cut,
        ap length (encodes-append p r),
        length-append (encode_utf8_all p) (encode_utf8_all r),
      )

  -- nothing is read of the empty text
  pub none_read : {left : List ℕ} {ps : List Piece} → (text : List ℕ) → LexesTo G text ps left → text ≡ [] → ps ≡ []
  none_read text (LexesTo.by_end same) e = refl
  none_read text (LexesTo.by_piece same k p r l ps next more) e = let P : List ℕ → Type 0 = λ t. IsNext G t k p r in absurd (none_at_end k p r (subst P e next))

module _ (items : List Placed) (runs : List Run) where
  abbrev count : ℕ → List Piece → ℕ
  count at found = uncarried items runs at found

  no_more : (b : Bool) (n r : ℕ) → n ≤ r → n ≤ cond b r (suc r)
  no_more true n r h = h
  no_more false n r h = omega (arith, h)

  -- what is not carried of the later pieces is not carried of all
  pub uncarried_over : (ps rest : List Piece) (at to : ℕ) → to ≡ at + size_of ps → count to rest ≤ count at (ps ++ rest)
  uncarried_over [] rest at to e = let same : to ≡ at = omega (arith, e) in let P : ℕ → Type 0 =
      λ n. count n rest ≤ count at rest in subst P (sym same) (omega arith)
  uncarried_over (p ∷ ps) rest at to e =
      let next = at + length (encode_utf8_all p.text) in
      no_more (is_carried items runs at) (count to rest) (count next (ps ++ rest)) (uncarried_over ps rest next to (omega (arith, e)))

  -- a piece that isn't carried counts
  pub uncarried_one : (p : Piece) (rest : List Piece) (at to : ℕ) → to ≡ at + length (encode_utf8_all p.text) → is_carried items runs at ≡ false
      → count at (p ∷ rest) ≡ suc (count to rest)
  uncarried_one p rest at to e f =
      let next = at + length (encode_utf8_all p.text) in
      ap (λ b. cond b (count next rest) (suc (count next rest))) f ∙ ap (λ n. suc (count n rest)) (sym e)
