-- A text is cut into pieces in one way.
use Rattle.std.proofs.Common.{◌≡◌, ◌≢◌, ℕ, ◌<◌, ◌≤◌, List, [], ◌∷◌, ◌++◌, length, refl, sym, ap, ap₂, ◌∙◌, subst, arith}
use Rattle.std.proofs.lemmas.List.{append_assoc, length-append, append-nil}
use Rattle.std.specs.Prelude.{encode_utf8_all}
use Rattle.std.specs.List.{flat_map}
use Rattle.grammar_tree.specs.Written.{WrittenGrammar}
use Rattle.grammar_tree.specs.Lexes.{IsNext, KindMatches, LexesTo, Piece}
use Rattle.grammar_tree.specs.Laws.{PiecesCover, LexesOneWay, LexedStopsNowhere, ReadsOneWay, StopsOnce}

append_same : (a b c d : List ℕ) → a ++ b ≡ c ++ d → length a ≡ length c → (a ≡ c) × (b ≡ d)
append_same [] b [] d e h = (refl, e)
append_same [] b (x ∷ c) d e h = absurd (omega (arith, h))
append_same (x ∷ a) b [] d e h = absurd (omega (arith, h))
append_same (x ∷ a) b (y ∷ c) d e h =
    let heads : x ≡ y = cc in
    let tails : a ++ b ≡ c ++ d = cc in
    let rest = append_same a b c d tails (omega (arith, h)) in
    (ap₂ ◌∷◌ heads rest.0, rest.1)

-- Two fronts before the same rest are the same.
front_same : (a c l : List ℕ) → a ++ l ≡ c ++ l → a ≡ c
front_same a c l e = (append_same a l c l e (omega (arith, ap length e, length-append a l, length-append c l))).0

nothing_before : (p r : List ℕ) → [] ≡ p ++ r → p ≡ []
nothing_before [] r e = refl
nothing_before (x ∷ p) r e = absurd cc

module _ (G : WrittenGrammar) where
  covers : {text left : List ℕ} {pieces : List Piece} → LexesTo G text pieces left → flat_map (λ (p : Piece). p.text) pieces ++ left ≡ text
  covers (LexesTo.by_end text) = refl
  covers (LexesTo.by_piece text kind piece rest left pieces next more) =
      append_assoc piece (flat_map (λ (p : Piece). p.text) pieces) left ∙ ap (λ l. piece ++ l) (covers more) ∙ sym next.cut

  -- nothing comes next
  abbrev NoNext : List ℕ → Type 0
  NoNext text = (kind : ℕ) (piece rest : List ℕ) → ¬ IsNext G text kind piece rest

  at_end : (left : List ℕ) → left ≡ [] → NoNext left
  at_end left e kind piece rest next = next.some (nothing_before piece rest (sym e ∙ next.cut))

  where_stuck : (left : List ℕ) → ((kind : ℕ) (front back : List ℕ) → left ≡ front ++ back → front ≢ [] → ¬ KindMatches G kind front) → NoNext left
  where_stuck left stuck kind piece rest next = stuck kind piece rest next.cut next.some next.matched

  -- what comes next is one piece
  next_same : {text : List ℕ} {k l : ℕ} {p q r s : List ℕ} → IsNext G text k p r → IsNext G text l q s → (k ≡ l) × (p ≡ q) × (r ≡ s)
  next_same {k = k} {l = l} {p = p} {q = q} {r = r} {s = s} a b =
      let short = b.longest k p r a.cut a.matched in
      let long = a.longest l q s b.cut b.matched in
      let same = append_same p r q s (sym a.cut ∙ b.cut) (omega (arith, short, long)) in
      let P : List ℕ → Type 0 = λ x. KindMatches G l x in
      let Q : List ℕ → Type 0 = λ x. KindMatches G k x in
      let below = a.least l (subst P (sym same.0) b.matched) in
      let above = b.least k (subst Q same.0 a.matched) in
      (omega (arith, below, above), same.0, same.1)

  same_end : {text left other : List ℕ} {ps qs : List Piece} → LexesTo G text ps left → NoNext left → LexesTo G text qs other → NoNext other → (ps ≡ qs)
      × (left ≡ other)
  same_end (LexesTo.by_end text) none (LexesTo.by_end text') none' = (refl, refl)
  same_end (LexesTo.by_end text) none (LexesTo.by_piece text' k p r l ps next more) none' = absurd (none k p r next)
  same_end (LexesTo.by_piece text k p r l ps next more) none (LexesTo.by_end text') none' = absurd (none' k p r next)
  same_end (LexesTo.by_piece text k p r l ps next more) none (LexesTo.by_piece text' k' p' r' l' ps' next' more') none' =
      let same = next_same next next' in
      let P : List ℕ → Type 0 = λ x. LexesTo G x ps l in
      let rest = same_end (subst P same.2 more) none more' none' in
      (ap₂ ◌∷◌ (ap₂ (λ x y. record { kind = x; text = y }) same.0 same.1) rest.0, rest.1)

-- what is left is shorter where a piece was read
module _ (G : WrittenGrammar) where
  left_within : {text left : List ℕ} {pieces : List Piece} → LexesTo G text pieces left → length left ≤ length text
  left_within (LexesTo.by_end text) = omega arith
  left_within (LexesTo.by_piece text kind piece rest left pieces next more) = omega (arith, left_within more, ap length next.cut, length-append piece rest)

  nonempty : (p : List ℕ) → p ≢ [] → 0 < length p
  nonempty [] h = absurd (h refl)
  nonempty (x ∷ p) h = omega arith

  reads : {text left : List ℕ} {ps qs : List Piece} → LexesTo G text ps left → (other : List ℕ) → LexesTo G text qs other → left ≡ other → ps ≡ qs
  reads (LexesTo.by_end text) other (LexesTo.by_end text') e = refl
  reads (LexesTo.by_end text) other (LexesTo.by_piece text' k p r l qs next more) e =
      absurd (omega (arith, left_within more, ap length next.cut, length-append p r, nonempty p next.some, ap length e))
  reads (LexesTo.by_piece text k p r l ps next more) other (LexesTo.by_end text') e =
      absurd (omega (arith, left_within more, ap length next.cut, length-append p r, nonempty p next.some, ap length e))
  reads (LexesTo.by_piece text k p r l ps next more) other (LexesTo.by_piece text' k' p' r' l' qs next' more') e =
      let same = next_same G next next' in
      let P : List ℕ → Type 0 = λ x. LexesTo G x ps l in
      ap₂ ◌∷◌ (ap₂ (λ x y. record { kind = x; text = y }) same.0 same.1) (reads (subst P same.2 more) l' more' e)

pub reads_one_way : ReadsOneWay
reads_one_way G text left pieces others a b = reads G a left b refl

pub pieces_cover : PiecesCover
pieces_cover G text pieces h = sym (append-nil (flat_map (λ (p : Piece). p.text) pieces)) ∙ covers G h

pub one_way : LexesOneWay
one_way G text pieces others a b = (same_end G a (at_end G [] refl) b (at_end G [] refl)).0

pub lexed_stops_nowhere : LexedStopsNowhere
lexed_stops_nowhere G text pieces offset a b = b.more (sym (same_end G a (at_end G [] refl) b.lexed (where_stuck G b.left b.stuck)).1)

pub stops_once : StopsOnce
stops_once G text offset other a b =
    let same = (same_end G a.lexed (where_stuck G a.left a.stuck) b.lexed (where_stuck G b.left b.stuck)).1 in
    let P : List ℕ → Type 0 = λ x. a.before ++ x ≡ b.before ++ b.left in
    let fronts = front_same a.before b.before b.left (subst P same (sym a.cut ∙ b.cut)) in
    a.at ∙ ap (λ x. length (encode_utf8_all x)) fronts ∙ sym b.at
