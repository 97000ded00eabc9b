-- The corners that are computed are the left corners, and so are the loops.
use Rattle.std.proofs.Common.{◌≡◌, inl, inr, ℕ, zero, suc, Bool, true, List, [], ◌∷◌, Some, slice_get, sym, ◌∙◌, subst, arith, true≢false, if◌then◌else◌}
use Rattle.std.specs.List.{Contains}
use Rattle.std.proofs.lemmas.Bool.{cases_Bool}
use Rattle.std.proofs.lemmas.List.Elements.{Contains-append_left, Contains-append_right, Contains-append_cases}
use Rattle.std.proofs.lemmas.Option.{same_Some}
use Rattle.grammar_tree.specs.Derives.{Term, Seq, Alts, Derives, DerivesAlts}
use Rattle.grammar_tree.specs.Corners.{Begins, BeginsSeq, BeginsAlts, HasEmptyLoop, HasEmptyLoopSeq, HasEmptyLoopAlts, IsLeftCorner, LeadsTo, bases, rests}
use Rattle.grammar_check_parser_rules.specs.Corners.{alts_corners, corners, rule_corners, seq_corners}
use Rattle.grammar_check_nodes.specs.Flags.{flag}
use Rattle.grammar_check_parser_rules.specs.Empty.{AreEmptyRules, alts_is_empty, is_empty}
use Rattle.grammar_check_nodes.specs.Graph.{HasEdge, Reaches}
use Rattle.grammar_check_parser_rules.specs.Loops.{alts_has_loop, has_loop, seq_has_loop}
use Rattle.grammar_check_parser_rules.proofs.EmptyRules.{alts_empty, empty, found, found_in_alts, or_one, from_first, from_second}

only_one : (j x : ℕ) → Contains (j ∷ []) x → x ≡ j
only_one j x (zero, lt, e) = sym e
only_one j x (suc k, lt, e) = absurd (omega (arith, lt))

nothing : (x : ℕ) → Contains [] x → ⊥
nothing x (k, lt, e) = omega (arith, lt)

module _ (G : List Alts) (flags : List Bool) (exact : AreEmptyRules G flags) where
  abbrev e : ℕ → Bool
  e = flag flags

  sound : (r : ℕ) → e r ≡ true → Derives G (Term.rule r) []
  sound r = (exact r).0

  complete : (r : ℕ) (a : Alts) → slice_get G r ≡ Some a → alts_is_empty e a ≡ true → e r ≡ true
  complete r a at h = (exact r).1 (Derives.by_rule r a [] at (alts_empty G e sound a h))

  pub is_empty_of : (t : Term) → Derives G t [] → is_empty e t ≡ true
  is_empty_of t d = found G e complete d

  pub empty_of : (t : Term) → is_empty e t ≡ true → Derives G t []
  empty_of t h = empty G e sound t h

  pub alts_is_empty_of : (a : Alts) → DerivesAlts G a [] → alts_is_empty e a ≡ true
  alts_is_empty_of a d = found_in_alts G e complete d

  pub alts_empty_of : (a : Alts) → alts_is_empty e a ≡ true → DerivesAlts G a []
  alts_empty_of a h = alts_empty G e sound a h

  mutual
    begins : (q : ℕ) (t : Term) → Contains (corners e t) q → Begins G q t
    begins q (Term.kind k) c = nothing q c
    begins q (Term.among ks) c = nothing q c
    begins q (Term.rule r) c = only_one r q c
    begins q (Term.block a) c = begins_alts q a c
    begins q (Term.opt t) c = begins q t c
    begins q (Term.star t) c = begins q t c
    begins q (Term.plus t) c = begins q t c
    begins q Term.eof c = nothing q c

    begins_seq : (q : ℕ) (s : Seq) → Contains (seq_corners e s) q → BeginsSeq G q s
    begins_seq q Seq.done c = nothing q c
    begins_seq q (Seq.next t s) c = elim (Contains-append_cases (corners e t) (if is_empty e t then seq_corners e s else []) q c) [
      | inl first ↦ inl (begins q t first)
      | inr later ↦ elim (cases_Bool (is_empty e t)) [
        | inl h ↦ inr (empty_of t h, begins_seq q s (rw h at later))
        | inr h ↦ absurd (nothing q (rw h at later))
      ]
    ]

    pub begins_alts : (q : ℕ) (a : Alts) → Contains (alts_corners e a) q → BeginsAlts G q a
    begins_alts q Alts.none c = nothing q c
    begins_alts q (Alts.or s a) c = elim (Contains-append_cases (seq_corners e s) (alts_corners e a) q c) [
      | inl first ↦ inl (begins_seq q s first)
      | inr later ↦ inr (begins_alts q a later)
    ]

  mutual
    corner : (q : ℕ) (t : Term) → Begins G q t → Contains (corners e t) q
    corner q (Term.kind k) b = absurd b
    corner q (Term.among ks) b = absurd b
    corner q (Term.rule r) b = (0, omega arith, sym b)
    corner q (Term.block a) b = corner_alts q a b
    corner q (Term.opt t) b = corner q t b
    corner q (Term.star t) b = corner q t b
    corner q (Term.plus t) b = corner q t b
    corner q Term.eof b = absurd b

    corner_seq : (q : ℕ) (s : Seq) → BeginsSeq G q s → Contains (seq_corners e s) q
    corner_seq q Seq.done b = absurd b
    corner_seq q (Seq.next t s) (inl first) = Contains-append_left (corners e t) (if is_empty e t then seq_corners e s else []) q (corner q t first)
    corner_seq q (Seq.next t s) (inr (h, later)) =
        let is = is_empty_of t h in
        Contains-append_right (corners e t) (if is_empty e t then seq_corners e s else []) q (rw is (corner_seq q s later))

    pub corner_alts : (q : ℕ) (a : Alts) → BeginsAlts G q a → Contains (alts_corners e a) q
    corner_alts q Alts.none b = absurd b
    corner_alts q (Alts.or s a) (inl first) = Contains-append_left (seq_corners e s) (alts_corners e a) q (corner_seq q s first)
    corner_alts q (Alts.or s a) (inr later) = Contains-append_right (seq_corners e s) (alts_corners e a) q (corner_alts q a later)

  pub is_corner : (r q : ℕ) (a : Alts) → slice_get G r ≡ Some a → Contains (rule_corners e r a) q → IsLeftCorner G r q
  is_corner r q a at c =
      elim (Contains-append_cases (alts_corners e (bases r a)) (if alts_is_empty e (bases r a) then alts_corners e (rests r a) else []) q c) [
        | inl base ↦ IsLeftCorner.in_base a at (begins_alts q (bases r a) base)
        | inr rest ↦ elim (cases_Bool (alts_is_empty e (bases r a))) [
          | inl h ↦ IsLeftCorner.in_rest a at (alts_empty_of (bases r a) h) (begins_alts q (rests r a) (rw h at rest))
          | inr h ↦ absurd (nothing q (rw h at rest))
        ]
      ]

  pub corner_of : (r q : ℕ) (a : Alts) → slice_get G r ≡ Some a → IsLeftCorner G r q → Contains (rule_corners e r a) q
  corner_of r q a at (IsLeftCorner.in_base b at' h) =
      let same : b ≡ a = same_Some b a (sym at' ∙ at) in
      let P : Alts → Type 0 = λ x. BeginsAlts G q (bases r x) in
      Contains-append_left (alts_corners e (bases r a)) (if alts_is_empty e (bases r a) then alts_corners e (rests r a) else []) q
      (corner_alts q (bases r a) (subst P same h))
  corner_of r q a at (IsLeftCorner.in_rest b at' d h) =
      let same : b ≡ a = same_Some b a (sym at' ∙ at) in
      let P : Alts → Type 0 = λ x. BeginsAlts G q (rests r x) in
      let Q : Alts → Type 0 = λ x. DerivesAlts G (bases r x) [] in
      let is = alts_is_empty_of (bases r a) (subst Q same d) in
      Contains-append_right (alts_corners e (bases r a)) (if alts_is_empty e (bases r a) then alts_corners e (rests r a) else []) q
      (rw is (corner_alts q (rests r a) (subst P same h)))

  mutual
    loop : (t : Term) → has_loop e t ≡ true → HasEmptyLoop G t
    loop (Term.kind k) h = true≢false (sym h)
    loop (Term.among ks) h = true≢false (sym h)
    loop (Term.rule r) h = true≢false (sym h)
    loop (Term.block a) h = loop_alts a h
    loop (Term.opt t) h = loop t h
    loop (Term.star t) h = elim (or_one (is_empty e t) (has_loop e t) h) [ inl one ↦ inl (empty_of t one) | inr more ↦ inr (loop t more) ]
    loop (Term.plus t) h = elim (or_one (is_empty e t) (has_loop e t) h) [ inl one ↦ inl (empty_of t one) | inr more ↦ inr (loop t more) ]
    loop Term.eof h = true≢false (sym h)

    loop_seq : (s : Seq) → seq_has_loop e s ≡ true → HasEmptyLoopSeq G s
    loop_seq Seq.done h = true≢false (sym h)
    loop_seq (Seq.next t s) h = elim (or_one (has_loop e t) (seq_has_loop e s) h) [ inl one ↦ inl (loop t one) | inr more ↦ inr (loop_seq s more) ]

    pub loop_alts : (a : Alts) → alts_has_loop e a ≡ true → HasEmptyLoopAlts G a
    loop_alts Alts.none h = true≢false (sym h)
    loop_alts (Alts.or s a) h = elim (or_one (seq_has_loop e s) (alts_has_loop e a) h) [ inl one ↦ inl (loop_seq s one) | inr more ↦ inr (loop_alts a more) ]

  mutual
    looped : (t : Term) → HasEmptyLoop G t → has_loop e t ≡ true
    looped (Term.kind k) h = absurd h
    looped (Term.among ks) h = absurd h
    looped (Term.rule r) h = absurd h
    looped (Term.block a) h = looped_alts a h
    looped (Term.opt t) h = looped t h
    looped (Term.star t) (inl h) = from_first (is_empty e t) (has_loop e t) (is_empty_of t h)
    looped (Term.star t) (inr h) = from_second (is_empty e t) (has_loop e t) (looped t h)
    looped (Term.plus t) (inl h) = from_first (is_empty e t) (has_loop e t) (is_empty_of t h)
    looped (Term.plus t) (inr h) = from_second (is_empty e t) (has_loop e t) (looped t h)
    looped Term.eof h = absurd h

    looped_seq : (s : Seq) → HasEmptyLoopSeq G s → seq_has_loop e s ≡ true
    looped_seq Seq.done h = absurd h
    looped_seq (Seq.next t s) (inl h) = from_first (has_loop e t) (seq_has_loop e s) (looped t h)
    looped_seq (Seq.next t s) (inr h) = from_second (has_loop e t) (seq_has_loop e s) (looped_seq s h)

    pub looped_alts : (a : Alts) → HasEmptyLoopAlts G a → alts_has_loop e a ≡ true
    looped_alts Alts.none h = absurd h
    looped_alts (Alts.or s a) (inl h) = from_first (seq_has_loop e s) (alts_has_loop e a) (looped_seq s h)
    looped_alts (Alts.or s a) (inr h) = from_second (seq_has_loop e s) (alts_has_loop e a) (looped_alts a h)

  -- The edges are those of the rules, in the order of their numbers.
  module _ (edges : List (List ℕ)) (are : (r : ℕ) (successors : List ℕ) → slice_get edges r ≡ Some successors → (a : Alts) × (slice_get G r ≡ Some a)
      × (successors ≡ rule_corners e r a))
      (has : (r : ℕ) (a : Alts) → slice_get G r ≡ Some a → slice_get edges r ≡ Some (rule_corners e r a)) where
    edge_corner : (r q : ℕ) → HasEdge edges r q → IsLeftCorner G r q
    edge_corner r q (successors, at, c) =
        let it = are r successors at in
        let P : List ℕ → Type 0 = λ l. Contains l q in
        is_corner r q it.0 it.1 (subst P it.2 c)

    body_of : {r q : ℕ} → IsLeftCorner G r q → (a : Alts) × (slice_get G r ≡ Some a)
    body_of (IsLeftCorner.in_base a at h) = (a, at)
    body_of (IsLeftCorner.in_rest a at d h) = (a, at)

    corner_edge : (r q : ℕ) → IsLeftCorner G r q → HasEdge edges r q
    corner_edge r q c = let it = body_of c in (rule_corners e r it.0, has r it.0 it.1, corner_of r q it.0 it.1 c)

    pub leads : {r q : ℕ} → Reaches edges r q → LeadsTo G r q
    leads (Reaches.by_edge r q c) = LeadsTo.by_corner r q (edge_corner r q c)
    leads (Reaches.by_edges r m q c path) = LeadsTo.by_corners r m q (edge_corner r m c) (leads path)

    pub reaches : {r q : ℕ} → LeadsTo G r q → Reaches edges r q
    reaches (LeadsTo.by_corner r q c) = Reaches.by_edge r q (corner_edge r q c)
    reaches (LeadsTo.by_corners r m q c path) = Reaches.by_edges r m q (corner_edge r m c) (reaches path)
