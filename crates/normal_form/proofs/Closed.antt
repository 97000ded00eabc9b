-- The terms of a checked grammar name rules that are there, and have `EOF` only where it is left out.
use Rattle.std.proofs.Common.{◌≡◌, ℕ, zero, suc, ◌⊎◌, inl, inr, Bool, true, false, ◌||◌, List, [], ◌∷◌, ◌++◌, Option}
use Rattle.std.proofs.Common.{Some, None, slice_get, map, refl, sym, ap, ◌∙◌, subst, true≢false}
use Rattle.std.specs.List.{Contains}
use Rattle.std.proofs.lemmas.List.Quantifiers.{position-Some}
use Rattle.std.proofs.lemmas.List.Elements.{Contains-append_left, Contains-append_right}
use Rattle.std.proofs.lemmas.Option.{slice_get-map, slice_get-get_or}
use Rattle.std.specs.Option.{option_map}
use Rattle.std.proofs.Common.{get_or}
use Rattle.grammar_check_recursion.proofs.Lent.{kind_term, name_term}
use Rattle.normal_form.proofs.Lists.{Contains-here}
use Rattle.grammar_tree.specs.Written.{WrittenTerm, WrittenSeq, WrittenAlts, ParserRule, WrittenRule, WrittenGrammar}
use Rattle.grammar_tree.specs.Kinds.{parser_rules, rule_number, name_kind, literal_kind, same_text}
use Rattle.grammar_tree.specs.Derives.{Term, Seq, Alts, bodies, resolved, resolved_seq, resolved_alts}
use Rattle.grammar_tree.specs.Faults.{IsWellFormed, is_misplaced, is_misplaced_in}
use Rattle.normal_form.specs.NormalOf.{term_sets, seq_sets, alts_sets}

-- Each rule that a term names is there, each of its sets is known, and `EOF` is under no suffix.
abbrev mutual
  pub IsClosed : List Alts → (List ℕ → Type 0) → Term → Type 0
  IsClosed G K (Term.kind k) = Unit {0}
  IsClosed G K (Term.among ks) = K ks
  IsClosed G K (Term.rule r) = (a : Alts) × (slice_get G r ≡ Some a)
  IsClosed G K (Term.block a) = IsClosedAlts G K a
  IsClosed G K (Term.opt t) = IsClosed G K t
  IsClosed G K (Term.star t) = IsClosed G K t
  IsClosed G K (Term.plus t) = IsClosed G K t
  IsClosed G K Term.eof = ⊥

  pub IsClosedSeq : List Alts → (List ℕ → Type 0) → Seq → Type 0
  IsClosedSeq G K Seq.done = Unit {0}
  IsClosedSeq G K (Seq.next t s) = ((t ≡ Term.eof) ⊎ IsClosed G K t) × IsClosedSeq G K s

  pub IsClosedAlts : List Alts → (List ℕ → Type 0) → Alts → Type 0
  IsClosedAlts G K Alts.none = Unit {0}
  IsClosedAlts G K (Alts.or s a) = IsClosedSeq G K s × IsClosedAlts G K a

-- `EOF` is in the term, as the definition of well-formed grammars has it
abbrev mutual
  has_eof : WrittenTerm → Bool
  has_eof (WrittenTerm.literal t) = false
  has_eof (WrittenTerm.name n) = false
  has_eof WrittenTerm.any = false
  has_eof (WrittenTerm.but refs) = false
  has_eof (WrittenTerm.block a) = alts_have_eof a
  has_eof (WrittenTerm.opt t) = has_eof t
  has_eof (WrittenTerm.star t) = has_eof t
  has_eof (WrittenTerm.plus t) = has_eof t
  has_eof WrittenTerm.eof = true

  seq_has_eof : WrittenSeq → Bool
  seq_has_eof WrittenSeq.done = false
  seq_has_eof (WrittenSeq.next t s) = has_eof t || seq_has_eof s

  alts_have_eof : WrittenAlts → Bool
  alts_have_eof WrittenAlts.none = false
  alts_have_eof (WrittenAlts.or s a) = seq_has_eof s || alts_have_eof a

neither : (a b : Bool) → (a || b) ≡ false → (a ≡ false) × (b ≡ false)
neither false false e = (refl, refl)
neither false true e = absurd (true≢false e)
neither true b e = absurd (true≢false e)

-- a fact of each element of a list
abbrev Each : (List ℕ → Type 0) → List (List ℕ) → Type 0
Each K kss = (ks : List ℕ) → Contains kss ks → K ks

Each-left : (K : List ℕ → Type 0) (xs ys : List (List ℕ)) → Each K (xs ++ ys) → Each K xs
Each-left K xs ys h ks c = h ks (Contains-append_left xs ys ks c)

Each-right : (K : List ℕ → Type 0) (xs ys : List (List ℕ)) → Each K (xs ++ ys) → Each K ys
Each-right K xs ys h ks c = h ks (Contains-append_right xs ys ks c)

closed_kind : (G : List Alts) (K : List ℕ → Type 0) (o : Option ℕ) → Each K (term_sets (kind_term o)) → IsClosed G K (kind_term o)
closed_kind G K None h = h [] (Contains-here [] [])
closed_kind G K (Some k) h = tt

closed_name : (G : List Alts) (K : List ℕ → Type 0) (o token : Option ℕ) → ((r : ℕ) → o ≡ Some r → (a : Alts) × (slice_get G r ≡ Some a))
    → Each K (term_sets (name_term o token)) → IsClosed G K (name_term o token)
closed_name G K (Some r) token there h = there r refl
closed_name G K None token there h = closed_kind G K token h

-- the rule that a name means is there
rule_is_there : (G : WrittenGrammar) (n : List ℕ) (r : ℕ) → rule_number G n ≡ Some r → (a : Alts) × (slice_get (bodies G) r ≡ Some a)
rule_is_there G n r e =
    let any : ParserRule = record { name = []; alts = WrittenAlts.none } in
    let found = position-Some (λ (p : ParserRule). same_text p.name n) (parser_rules G.rules) r any e in
    let body = λ (p : ParserRule). resolved_alts G p.alts in (
      body (get_or (parser_rules G.rules) r any),
      slice_get-map body (parser_rules G.rules) r ∙ ap (option_map body) (slice_get-get_or (parser_rules G.rules) r any found.0),
    )

module _ (G : WrittenGrammar) (K : List ℕ → Type 0) where
  mutual
    closed : (t : WrittenTerm) → has_eof t ≡ false → Each K (term_sets (resolved G t)) → IsClosed (bodies G) K (resolved G t)
    closed (WrittenTerm.literal t) e h = closed_kind (bodies G) K (literal_kind G t) h
    closed (WrittenTerm.name n) e h = closed_name (bodies G) K (rule_number G n) (name_kind G n) (rule_is_there G n) h
    closed WrittenTerm.any e h = h _ (Contains-here _ [])
    closed (WrittenTerm.but refs) e h = h _ (Contains-here _ [])
    closed (WrittenTerm.block a) e h = closed_alts a e h
    closed (WrittenTerm.opt t) e h = closed t e h
    closed (WrittenTerm.star t) e h = closed t e h
    closed (WrittenTerm.plus t) e h = closed t e h
    closed WrittenTerm.eof e h = absurd (true≢false e)

    closed_seq : (s : WrittenSeq) → seq_has_eof s ≡ false → Each K (seq_sets (resolved_seq G s)) → IsClosedSeq (bodies G) K (resolved_seq G s)
    closed_seq WrittenSeq.done e h = tt
    closed_seq (WrittenSeq.next t s) e h =
        let no = neither (has_eof t) (seq_has_eof s) e in (
          inr (closed t no.0 (Each-left K (term_sets (resolved G t)) (seq_sets (resolved_seq G s)) h)),
          closed_seq s no.1 (Each-right K (term_sets (resolved G t)) (seq_sets (resolved_seq G s)) h),
        )

    closed_alts : (a : WrittenAlts) → alts_have_eof a ≡ false → Each K (alts_sets (resolved_alts G a)) → IsClosedAlts (bodies G) K (resolved_alts G a)
    closed_alts WrittenAlts.none e h = tt
    closed_alts (WrittenAlts.or s a) e h =
        let no = neither (seq_has_eof s) (alts_have_eof a) e in (
          closed_seq s no.0 (Each-left K (seq_sets (resolved_seq G s)) (alts_sets (resolved_alts G a)) h),
          closed_alts a no.1 (Each-right K (seq_sets (resolved_seq G s)) (alts_sets (resolved_alts G a)) h),
        )

  -- `EOF` may be last in a top-level alternative
  closed_next : (t : WrittenTerm) (s : WrittenSeq) → (has_eof t || is_misplaced_in s) ≡ false
      → (is_misplaced_in s ≡ false → IsClosedSeq (bodies G) K (resolved_seq G s)) → Each K (seq_sets (resolved_seq G (WrittenSeq.next t s)))
      → IsClosedSeq (bodies G) K (resolved_seq G (WrittenSeq.next t s))
  closed_next t s e more h =
      let no = neither (has_eof t) (is_misplaced_in s) e in
      (inr (closed t no.0 (Each-left K (term_sets (resolved G t)) (seq_sets (resolved_seq G s)) h)), more no.1)

  closed_top : (s : WrittenSeq) → is_misplaced_in s ≡ false → Each K (seq_sets (resolved_seq G s)) → IsClosedSeq (bodies G) K (resolved_seq G s)
  closed_top WrittenSeq.done e h = tt
  closed_top (WrittenSeq.next WrittenTerm.eof WrittenSeq.done) e h = (inl refl, tt)
  closed_top (WrittenSeq.next WrittenTerm.eof (WrittenSeq.next t s)) e h = absurd (true≢false e)
  closed_top (WrittenSeq.next (WrittenTerm.literal x) s) e h =
      closed_next (WrittenTerm.literal x) s e (λ k. closed_top s k
      (Each-right K (term_sets (resolved G (WrittenTerm.literal x))) (seq_sets (resolved_seq G s)) h)) h
  closed_top (WrittenSeq.next (WrittenTerm.name x) s) e h =
      closed_next (WrittenTerm.name x) s e (λ k. closed_top s k (Each-right K (term_sets (resolved G (WrittenTerm.name x))) (seq_sets (resolved_seq G s)) h)) h
  closed_top (WrittenSeq.next WrittenTerm.any s) e h =
      closed_next WrittenTerm.any s e (λ k. closed_top s k (Each-right K (term_sets (resolved G WrittenTerm.any)) (seq_sets (resolved_seq G s)) h)) h
  closed_top (WrittenSeq.next (WrittenTerm.but x) s) e h =
      closed_next (WrittenTerm.but x) s e (λ k. closed_top s k (Each-right K (term_sets (resolved G (WrittenTerm.but x))) (seq_sets (resolved_seq G s)) h)) h
  closed_top (WrittenSeq.next (WrittenTerm.block x) s) e h =
      closed_next (WrittenTerm.block x) s e (λ k. closed_top s k (Each-right K (term_sets (resolved G (WrittenTerm.block x))) (seq_sets (resolved_seq G s)) h))
      h
  closed_top (WrittenSeq.next (WrittenTerm.opt x) s) e h =
      closed_next (WrittenTerm.opt x) s e (λ k. closed_top s k (Each-right K (term_sets (resolved G (WrittenTerm.opt x))) (seq_sets (resolved_seq G s)) h)) h
  closed_top (WrittenSeq.next (WrittenTerm.star x) s) e h =
      closed_next (WrittenTerm.star x) s e (λ k. closed_top s k (Each-right K (term_sets (resolved G (WrittenTerm.star x))) (seq_sets (resolved_seq G s)) h)) h
  closed_top (WrittenSeq.next (WrittenTerm.plus x) s) e h =
      closed_next (WrittenTerm.plus x) s e (λ k. closed_top s k (Each-right K (term_sets (resolved G (WrittenTerm.plus x))) (seq_sets (resolved_seq G s)) h)) h

  closed_body : (a : WrittenAlts) → is_misplaced a ≡ false → Each K (alts_sets (resolved_alts G a)) → IsClosedAlts (bodies G) K (resolved_alts G a)
  closed_body WrittenAlts.none e h = tt
  closed_body (WrittenAlts.or s a) e h =
      let no = neither (is_misplaced_in s) (is_misplaced a) e in (
        closed_top s no.0 (Each-left K (seq_sets (resolved_seq G s)) (alts_sets (resolved_alts G a)) h),
        closed_body a no.1 (Each-right K (seq_sets (resolved_seq G s)) (alts_sets (resolved_alts G a)) h),
      )

-- a parser rule is at some position
at_number : (rules : List WrittenRule) (r : ℕ) (rule : ParserRule) → slice_get (parser_rules rules) r ≡ Some rule → (i : ℕ)
    × (slice_get rules i ≡ Some (WrittenRule.parser_rule rule))
at_number [] r rule e = absurd (cc)
at_number (WrittenRule.lexer_rule x ∷ rules) r rule e = let h = at_number rules r rule e in (suc h.0, h.1)
at_number (WrittenRule.parser_rule x ∷ rules) zero rule e = (0, let same : x ≡ rule = cc in ap (λ y. Some (WrittenRule.parser_rule y)) same)
at_number (WrittenRule.parser_rule x ∷ rules) (suc r) rule e = let h = at_number rules r rule e in (suc h.0, h.1)

is_false : (b : Bool) → ¬ (b ≡ true) → b ≡ false
is_false false h = refl
is_false true h = absurd (h refl)

-- the rule whose alternatives are the r-th
rule_at : (G : WrittenGrammar) (rules : List ParserRule) (r : ℕ) (a : Alts) → slice_get (map (λ (p : ParserRule). resolved_alts G p.alts) rules) r ≡ Some a
    → (rule : ParserRule) × (slice_get rules r ≡ Some rule) × (resolved_alts G rule.alts ≡ a)
rule_at G [] r a e = absurd (cc)
rule_at G (x ∷ rules) zero a e = (x, refl, cc)
rule_at G (x ∷ rules) (suc r) a e = rule_at G rules r a e

-- each alternative of a checked grammar is closed
pub bodies_closed : (G : WrittenGrammar) (start : ℕ) (K : List ℕ → Type 0) → IsWellFormed G start
    → ((a : Alts) (r : ℕ) → slice_get (bodies G) r ≡ Some a → (ks : List ℕ) → Contains (alts_sets a) ks → K ks) → (r : ℕ) (a : Alts)
    → slice_get (bodies G) r ≡ Some a → IsClosedAlts (bodies G) K a
bodies_closed G start K well known r a e =
    let found = rule_at G (parser_rules G.rules) r a e in
    let position = at_number G.rules r found.0 found.1 in
    let P : Alts → Type 0 = λ x. IsClosedAlts (bodies G) K x in
    let Q : Alts → Type 0 = λ x. Each K (alts_sets x) in
    subst P found.2 (closed_body G K found.0.alts (is_false (is_misplaced found.0.alts) (λ h. well.eof_at_ends position.0 (found.0, position.1, inl h)))
    (subst Q (sym found.2) (known a r e)))
