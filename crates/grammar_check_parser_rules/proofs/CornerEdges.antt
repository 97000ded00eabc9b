-- The edges of left corners, one after another, and that they lead to rules.
use Rattle.std.proofs.Common.{◌≡◌, inl, inr, ℕ, zero, suc, ◌+◌, ◌<◌, Bool, List, [], ◌∷◌, ◌++◌, Option, Some, None}
use Rattle.std.proofs.Common.{length, map, slice_get, refl, sym, ap, ◌∙◌, subst, arith, if◌then◌else◌}
use Rattle.std.specs.List.{Contains}
use Rattle.std.proofs.lemmas.Bool.{cases_Bool, cases_lt}
use Rattle.std.proofs.lemmas.List.{length-map, map-append}
use Rattle.std.proofs.lemmas.List.Elements.{Contains-append_cases}
use Rattle.std.proofs.lemmas.Option.{same_Some, slice_get_within}
use Rattle.grammar_tree.specs.Corners.{and_base, and_rest, bases, rest_of, rests, LeadsTo}
use Rattle.grammar_tree.specs.Derives.{Term, Seq, Alts, bodies, name_term, resolved, resolved_alts, resolved_seq}
use Rattle.grammar_tree.specs.Kinds.{name_kind, parser_rules, rule_number}
use Rattle.grammar_tree.specs.Written.{ParserRule, WrittenTerm, WrittenSeq, WrittenAlts, WrittenGrammar}
use Rattle.grammar_tree.proofs.Lent.{leads as front, numbers}
use Rattle.grammar_check_parser_rules.specs.Corners.{AreCornerEdges, alts_corners, corners, rule_corners, seq_corners}
use Rattle.grammar_check_nodes.specs.Flags.{flag}
use Rattle.grammar_check_parser_rules.specs.Empty.{AreEmptyRules, alts_is_empty, is_empty}
use Rattle.grammar_check_nodes.specs.Graph.{IsClosed, IsOnCycle}
use Rattle.grammar_check_parser_rules.proofs.CornerFacts.{leads, reaches}

nothing : (x : ℕ) → Contains [] x → ⊥
nothing x (k, lt, e) = omega (arith, lt)

only_one : (j x : ℕ) → Contains (j ∷ []) x → x ≡ j
only_one j x (zero, lt, e) = sym e
only_one j x (suc k, lt, e) = absurd (omega (arith, lt))

module _ {X : Type 0} where
  get_front : (xs ys : List X) (r : ℕ) → r < length xs → slice_get (xs ++ ys) r ≡ slice_get xs r
  get_front [] ys r lt = absurd (omega (arith, lt))
  get_front (x ∷ xs) ys zero lt = refl
  get_front (x ∷ xs) ys (suc r) lt = get_front xs ys r (omega arith)

  get_last : (xs : List X) (y : X) (r : ℕ) → r ≡ length xs → slice_get (xs ++ y ∷ []) r ≡ Some y
  get_last [] y zero e = refl
  get_last [] y (suc r) e = absurd (omega (arith, e))
  get_last (x ∷ xs) y zero e = absurd (omega (arith, e))
  get_last (x ∷ xs) y (suc r) e = get_last xs y r (omega (arith, e))

-- one more successors
pub successors_push : {X : Type 0} (items : X → List ℕ) (G : List Alts) (e : ℕ → Bool) (edges : List X) (successors : X) (n : ℕ) (b : Alts) → n ≡ length edges
    → slice_get G n ≡ Some b → items successors ≡ rule_corners e n b →
    ((r : ℕ) (a : Alts) → r < n → slice_get G r ≡ Some a → slice_get (map items edges) r ≡ Some (rule_corners e r a)) →
    (r : ℕ) (a : Alts) → r < n + 1 → slice_get G r ≡ Some a → slice_get (map items (edges ++ successors ∷ [])) r ≡ Some (rule_corners e r a)
successors_push items G e edges successors n b len at is so_far r a lt at' =
    let cut = map-append items edges (successors ∷ []) in
    elim (cases_lt r n) [
      | inl below ↦ ap (λ l. slice_get l r) cut ∙ get_front (map items edges) (items successors ∷ []) r (omega (arith, length-map edges items))
          ∙ so_far r a below at'
      | inr above ↦
          let same : n ≡ r = omega arith in
          let P : ℕ → Type 0 = λ m. slice_get G m ≡ Some b in
          let alts : b ≡ a = same_Some b a (sym (subst P same at) ∙ at') in
          ap (λ l. slice_get l r) cut ∙ get_last (map items edges) (items successors) r (omega (arith, length-map edges items))
          ∙ ap Some (is ∙ ap (λ m. rule_corners e m b) same ∙ ap (rule_corners e r) alts)
    ]

-- each rule in a term is one of the first n
abbrev mutual
  Within : ℕ → Term → Type 0
  Within n (Term.kind k) = Unit {0}
  Within n (Term.among ks) = Unit {0}
  Within n (Term.rule r) = r < n
  Within n (Term.block a) = WithinAlts n a
  Within n (Term.opt t) = Within n t
  Within n (Term.star t) = Within n t
  Within n (Term.plus t) = Within n t
  Within n Term.eof = Unit {0}

  WithinSeq : ℕ → Seq → Type 0
  WithinSeq n Seq.done = Unit {0}
  WithinSeq n (Seq.next t s) = Within n t × WithinSeq n s

  WithinAlts : ℕ → Alts → Type 0
  WithinAlts n Alts.none = Unit {0}
  WithinAlts n (Alts.or s a) = WithinSeq n s × WithinAlts n a

module _ (G : WrittenGrammar) where
  abbrev count : ℕ
  count = length (bodies G)

  number_within : (n : List ℕ) (r : ℕ) → rule_number G n ≡ Some r → r < count
  number_within n r e =
      let it = (numbers G).named n r e in
      omega (arith, slice_get_within (parser_rules G.rules) r it.0 it.1, length-map (parser_rules G.rules) (λ (x : ParserRule). resolved_alts G x.alts))

  token_within : (token : Option ℕ) → Within count (name_term None token)
  token_within None = tt
  token_within (Some k) = tt

  name_within : (n : List ℕ) (o : Option ℕ) → rule_number G n ≡ o → (token : Option ℕ) → Within count (name_term o token)
  name_within n (Some r) e token = number_within n r e
  name_within n None e token = token_within token

  literal_within : (o : Option ℕ) → Within count (name_term None o)
  literal_within o = token_within o

  mutual
    term_within : (t : WrittenTerm) → Within count (resolved G t)
    term_within (WrittenTerm.literal t) = literal_within _
    term_within (WrittenTerm.name n) = name_within n (rule_number G n) refl (name_kind G n)
    term_within WrittenTerm.any = tt
    term_within (WrittenTerm.but refs) = tt
    term_within (WrittenTerm.block a) = alts_within a
    term_within (WrittenTerm.opt t) = term_within t
    term_within (WrittenTerm.star t) = term_within t
    term_within (WrittenTerm.plus t) = term_within t
    term_within WrittenTerm.eof = tt

    seq_within : (s : WrittenSeq) → WithinSeq count (resolved_seq G s)
    seq_within WrittenSeq.done = tt
    seq_within (WrittenSeq.next t s) = (term_within t, seq_within s)

    alts_within : (a : WrittenAlts) → WithinAlts count (resolved_alts G a)
    alts_within WrittenAlts.none = tt
    alts_within (WrittenAlts.or s a) = (seq_within s, alts_within a)

  body_within : (r : ℕ) (a : Alts) → slice_get (bodies G) r ≡ Some a → WithinAlts count a
  body_within r a at = of (parser_rules G.rules) r at
    where
      of : (rules : List ParserRule) (k : ℕ) → slice_get (map (λ (x : ParserRule). resolved_alts G x.alts) rules) k ≡ Some a → WithinAlts count a
      of [] k e = absurd cc
      of (x ∷ rules) zero e = let P : Alts → Type 0 = λ b. WithinAlts count b in subst P (same_Some (resolved_alts G x.alts) a e) (alts_within x.alts)
      of (x ∷ rules) (suc k) e = of rules k e

-- a rest is the alternative without its first part
rest_within : (n r : ℕ) (s : Seq) (rest : Seq) → rest_of r s ≡ Some rest → WithinSeq n s → WithinSeq n rest
rest_within n r s rest e w = let P : Seq → Type 0 = λ x. WithinSeq n x in let whole : WithinSeq n (Seq.next (Term.rule r) rest) =
    subst P (front r s rest e) w in whole.1

base_step : (n : ℕ) (s : Seq) (o : Option Seq) (a : Alts) → WithinSeq n s → WithinAlts n a → WithinAlts n (and_base s o a)
base_step n s None a w v = (w, v)
base_step n s (Some rest) a w v = v

bases_within : (n r : ℕ) (a : Alts) → WithinAlts n a → WithinAlts n (bases r a)
bases_within n r Alts.none w = tt
bases_within n r (Alts.or s a) (w, v) = base_step n s (rest_of r s) (bases r a) w (bases_within n r a v)

rest_step : (n : ℕ) (o : Option Seq) (a : Alts) → ((rest : Seq) → o ≡ Some rest → WithinSeq n rest) → WithinAlts n a → WithinAlts n (and_rest o a)
rest_step n None a w v = v
rest_step n (Some rest) a w v = (w rest refl, v)

rests_within : (n r : ℕ) (a : Alts) → WithinAlts n a → WithinAlts n (rests r a)
rests_within n r Alts.none w = tt
rests_within n r (Alts.or s a) (w, v) = rest_step n (rest_of r s) (rests r a) (λ rest e. rest_within n r s rest e w) (rests_within n r a v)

module _ (e : ℕ → Bool) (n q : ℕ) where
  mutual
    corner_within : (t : Term) → Within n t → Contains (corners e t) q → q < n
    corner_within (Term.kind k) w c = absurd (nothing q c)
    corner_within (Term.among ks) w c = absurd (nothing q c)
    corner_within (Term.rule r) w c = omega (arith, w, only_one r q c)
    corner_within (Term.block a) w c = alts_corner_within a w c
    corner_within (Term.opt t) w c = corner_within t w c
    corner_within (Term.star t) w c = corner_within t w c
    corner_within (Term.plus t) w c = corner_within t w c
    corner_within Term.eof w c = absurd (nothing q c)

    seq_corner_within : (s : Seq) → WithinSeq n s → Contains (seq_corners e s) q → q < n
    seq_corner_within Seq.done w c = absurd (nothing q c)
    seq_corner_within (Seq.next t s) w c = elim (Contains-append_cases (corners e t) (if is_empty e t then seq_corners e s else []) q c) [
      | inl first ↦ corner_within t w.0 first
      | inr later ↦ elim (cases_Bool (is_empty e t)) [ inl h ↦ seq_corner_within s w.1 (rw h at later) | inr h ↦ absurd (nothing q (rw h at later)) ]
    ]

    alts_corner_within : (a : Alts) → WithinAlts n a → Contains (alts_corners e a) q → q < n
    alts_corner_within Alts.none w c = absurd (nothing q c)
    alts_corner_within (Alts.or s a) w c = elim (Contains-append_cases (seq_corners e s) (alts_corners e a) q c) [
      | inl first ↦ seq_corner_within s w.0 first
      | inr later ↦ alts_corner_within a w.1 later
    ]

  rule_corner_within : (r : ℕ) (a : Alts) → WithinAlts n a → Contains (rule_corners e r a) q → q < n
  rule_corner_within r a w c =
      elim (Contains-append_cases (alts_corners e (bases r a)) (if alts_is_empty e (bases r a) then alts_corners e (rests r a) else []) q c) [
        | inl base ↦ alts_corner_within (bases r a) (bases_within n r a w) base
        | inr rest ↦ elim (cases_Bool (alts_is_empty e (bases r a))) [
          | inl h ↦ alts_corner_within (rests r a) (rests_within n r a w) (rw h at rest)
          | inr h ↦ absurd (nothing q (rw h at rest))
        ]
      ]

some_body : (G : List Alts) (r : ℕ) → r < length G → (a : Alts) × (slice_get G r ≡ Some a)
some_body [] r lt = absurd (omega (arith, lt))
some_body (a ∷ G) zero lt = (a, refl)
some_body (b ∷ G) (suc r) lt = some_body G r (omega arith)

module _ (G : WrittenGrammar) (e : ℕ → Bool) (edges : List (List ℕ)) (are : AreCornerEdges (bodies G) e edges) where
  pub successors_are : (r : ℕ) (successors : List ℕ) → slice_get edges r ≡ Some successors → (a : Alts) × (slice_get (bodies G) r ≡ Some a)
      × (successors ≡ rule_corners e r a)
  successors_are r successors at =
      let it = some_body (bodies G) r (omega (arith, slice_get_within edges r successors at, are.only)) in
      (it.0, it.1, same_Some successors (rule_corners e r it.0) (sym at ∙ are.there r it.0 it.1))

  pub closed : IsClosed edges
  closed r q (successors, at, c) =
      let it = successors_are r successors at in
      let P : List ℕ → Type 0 = λ l. Contains l q in
      omega (arith, rule_corner_within e (length (bodies G)) q r it.0 (body_within G r it.0 it.1) (subst P it.2 c), are.only)

-- A rule is on a cycle of the edges exactly where it is on a cycle of left corners.
pub leads_back : (G : WrittenGrammar) (flags : List Bool) (edges : List (List ℕ)) → AreEmptyRules (bodies G) flags
    → AreCornerEdges (bodies G) (flag flags) edges → (r : ℕ) → IsOnCycle edges r → LeadsTo (bodies G) r r
leads_back G flags edges exact are r cycle = leads (bodies G) flags exact edges (successors_are G (flag flags) edges are) are.there cycle

pub back_leads : (G : WrittenGrammar) (flags : List Bool) (edges : List (List ℕ)) → AreEmptyRules (bodies G) flags
    → AreCornerEdges (bodies G) (flag flags) edges → (r : ℕ) → LeadsTo (bodies G) r r → IsOnCycle edges r
back_leads G flags edges exact are r path = reaches (bodies G) flags exact edges (successors_are G (flag flags) edges are) are.there path
