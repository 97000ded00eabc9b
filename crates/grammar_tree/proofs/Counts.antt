-- The start, the kinds of rules, and how many kinds and rules a grammar has.
use Rattle.std.proofs.Common.{◌≡◌, ◌≢◌, ◌⊎◌, inl, inr, ℕ, suc, ◌+◌, ◌<◌, ◌≤◌, Bool, true, false, not, List, [], ◌∷◌, ◌++◌}
use Rattle.std.proofs.Common.{Option, Some, None, map, length, slice_get, refl, sym, ap, ◌∙◌, subst, arith}
use Rattle.std.specs.Prelude.{⊤, filter, find, is_none}
use Rattle.std.specs.List.{Contains, cons_option, filter_map, position, sum_by}
use Rattle.std.proofs.lemmas.Bool.{cases_Bool, false≢true}
use Rattle.std.proofs.lemmas.List.{length-append, length-map}
use Rattle.std.proofs.lemmas.List.Elements.{Contains-append_cases}
use Rattle.std.proofs.lemmas.List.Quantifiers.{position-Some}
use Rattle.std.proofs.lemmas.List.Sums.{count_by-le-length, length-filter, sum_by-cons}
use Rattle.std.proofs.lemmas.Option.{none-some, get_or_from_slice_get}
use Rattle.std.proofs.lemmas.Slice.Eq.{bytes_eq-Decides}
use Rattle.grammar_tree.specs.Written.{ParserRule, LexerRule, WrittenTerm, WrittenSeq, WrittenAlts, WrittenRule, WrittenGrammar, Source, TokenKind}
use Rattle.grammar_tree.specs.Kinds.{all_references, as_literal, declared_kind, declared_names, distinct, implicit_kind, implicit_literals, is_named_by}
use Rattle.grammar_tree.specs.Kinds.{kinds_of, makes_token, parser_rules, references, same_text, seq_references, term_references, written_kinds}
use Rattle.grammar_tree.specs.Faults.{AtParserRule, NoStart, is_parser_rule, is_parser_rule_named, number_at, start_of}
use Rattle.grammar_tree.specs.Places.{CountsFit, KindsAreRules, StartIsFound}
use Rattle.grammar_tree.specs.Size.{alts_size, grammar_size, rule_size, seq_size, term_size}
use Rattle.grammar_tree.proofs.Elements.{contains_none, contains_cases, contains_map, mapped}
use Rattle.grammar_tree.proofs.Names.{some_position}
use Rattle.grammar_tree.proofs.Places.{at_of_contains, contains_at, numbers, place_of}
use Rattle.grammar_tree.proofs.Resolved.{makes_kind, written_among}
use Rattle.grammar_tree.proofs.StartLaws.{there}

module _ (G : WrittenGrammar) where
  no_position : (p : WrittenRule → Bool) (i : ℕ) (rule : ParserRule) → position p G.rules ≡ None → slice_get G.rules i ≡ Some (WrittenRule.parser_rule rule)
      → p (WrittenRule.parser_rule rule) ≡ true → ⊥
  no_position p i rule e at h = let found =
      some_position p G.rules (WrittenRule.parser_rule rule) (contains_at G.rules i (WrittenRule.parser_rule rule) at) h in none-some found.0 (sym e ∙ found.1)

  -- a parser rule among the parser rules has a place
  placed : (rule : ParserRule) → Contains (parser_rules G.rules) rule → (i : ℕ) × (slice_get G.rules i ≡ Some (WrittenRule.parser_rule rule))
  placed rule c = let at = at_of_contains (parser_rules G.rules) rule c in let it = place_of G.rules at.0 rule at.1 in (it.0, it.2)

  missing : (wanted : Option (List ℕ)) (rules : List ParserRule) → parser_rules G.rules ≡ rules → start_of G wanted ≡ None → (name : List ℕ)
      × NoStart G wanted name
  missing wanted [] e h = ([], NoStart.no_parser_rule wanted e)
  missing None (r ∷ rules) e h =
      let at = place_of G.rules 0 r (ap (λ xs. slice_get xs 0) e) in absurd (no_position is_parser_rule at.0 r h at.2 refl)
  missing (Some n) (r ∷ rules) e h =
      let some : parser_rules G.rules ≢ [] = λ none. let bad : r ∷ rules ≡ [] = sym e ∙ none in absurd cc in (
        n,
        NoStart.not_there n some (λ c.
            let it = mapped (λ (q : ParserRule). q.name) (parser_rules G.rules) n c in
            let at = placed it.0 it.1 in
            no_position (is_parser_rule_named n) at.0 it.0 h at.1 ((bytes_eq-Decides it.0.name n).1 it.2)),
      )

  found : (wanted : Option (List ℕ)) (i : ℕ) (name : List ℕ) → start_of G wanted ≡ Some i → NoStart G wanted name → ⊥
  found wanted i name e (NoStart.no_parser_rule wanted' none) =
      let it = there G wanted i e in
      let at : slice_get [] (number_at G i) ≡ Some it.0 = sym (ap (λ xs. slice_get xs (number_at G i)) none) ∙ (numbers G).rule i it.0 it.1 in absurd cc
  found wanted i name e (NoStart.not_there n some missing) =
      let it = there G (Some n) i e in
      let at = (numbers G).rule i it.0 it.1 in
      let named : it.0.name ≡ n = it.2 n refl in
      missing (contains_named (parser_rules G.rules) it.0 n (contains_at (parser_rules G.rules) (number_at G i) it.0 at) named)
    where
      contains_named : (rules : List ParserRule) (rule : ParserRule) (n : List ℕ) → Contains rules rule → rule.name ≡ n
          → Contains (map (λ (r : ParserRule). r.name) rules) n
      contains_named rules rule n c same = let P : List ℕ → Type 0 =
          λ x. Contains (map (λ (r : ParserRule). r.name) rules) x in subst P same (contains_map (λ (r : ParserRule). r.name) rules rule c)

  first : (i j : ℕ) → start_of G None ≡ Some i → j < i → AtParserRule G j (λ rule. ⊤) → ⊥
  first i j e lt (rule, at, t) =
      let before = (position-Some is_parser_rule G.rules i (WrittenRule.parser_rule rule) e).2 j lt in
      false≢true (sym before ∙ ap is_parser_rule (get_or_from_slice_get G.rules j (WrittenRule.parser_rule rule) (WrittenRule.parser_rule rule) at))

pub start_is_found : (G : WrittenGrammar) → StartIsFound G
start_is_found G =
    record { missing = λ wanted e. missing G wanted (parser_rules G.rules) refl e; there = λ wanted i e name. found G wanted i name e; first = first G }

-- a kind of a lexer rule is that of a rule that isn't a fragment
abbrev RuleOfKind : List WrittenRule → ℕ → TokenKind → Type 0
RuleOfKind rules j kind =
    (rule : LexerRule) × (slice_get rules j ≡ Some (WrittenRule.lexer_rule rule)) × (rule.fragment ≡ false) × (rule.name ≡ kind.name) × (rule.gap ≡ kind.gap)

is_of_rule : (from : ℕ) (rules : List WrittenRule) (kind : TokenKind) (i : ℕ) → Contains (written_kinds from rules) kind → kind.source ≡ Source.written i
    → (j : ℕ) × (i ≡ from + j) × RuleOfKind rules j kind
is_of_rule from [] kind i c e = absurd (contains_none kind c)
is_of_rule from (WrittenRule.parser_rule r ∷ rules) kind i c e = let it = is_of_rule (suc from) rules kind i c e in (suc it.0, omega (arith, it.1), it.2)
is_of_rule from (WrittenRule.lexer_rule r ∷ rules) kind i c e = elim (cases_Bool r.fragment) [
  | inl f ↦ let it = is_of_rule (suc from) rules kind i (rw f at c) e in (suc it.0, omega (arith, it.1), it.2)
  | inr f ↦ elim (contains_cases (record { name = r.name; gap = r.gap; source = Source.written from }) (written_kinds (suc from) rules) kind (rw f at c)) [
    | inl same ↦ let place : from ≡ i =
        cc (ap (λ (k : TokenKind). k.source) same) in
        (0, omega (arith, place), (r, refl, f, ap (λ (k : TokenKind). k.name) same, ap (λ (k : TokenKind). k.gap) same))
    | inr later ↦ let it = is_of_rule (suc from) rules kind i later e in (suc it.0, omega (arith, it.1), it.2)
  ]
]

module _ (G : WrittenGrammar) where
  pub kind_cases : (kind : TokenKind) → Contains (kinds_of G) kind → Contains (map implicit_kind (implicit_literals G.rules)) kind
      ⊎ (Contains (written_kinds 0 G.rules) kind ⊎ Contains (map declared_kind (declared_names G)) kind)
  unfolding kinds_of
  kind_cases kind c =
      elim (Contains-append_cases (map implicit_kind (implicit_literals G.rules)) (written_kinds 0 G.rules ++ map declared_kind (declared_names G)) kind c) [
        | inl a ↦ inl a
        | inr b ↦ inr (Contains-append_cases (written_kinds 0 G.rules) (map declared_kind (declared_names G)) kind b)
      ]

  rule_of_kind : (kind : TokenKind) (i : ℕ) → Contains (kinds_of G) kind → kind.source ≡ Source.written i → RuleOfKind G.rules i kind
  rule_of_kind kind i c e = elim (kind_cases kind c) [
    | inl a ↦ let it = mapped implicit_kind (implicit_literals G.rules) kind a in let bad : Source.implicit ≡ Source.written i =
        ap (λ (k : TokenKind). k.source) it.2 ∙ e in absurd cc
    | inr (inl b) ↦
        let it = is_of_rule 0 G.rules kind i b e in
        let P : ℕ → Type 0 = λ j. RuleOfKind G.rules j kind in
        let place : it.0 ≡ i = omega (arith, it.1) in subst P place it.2
    | inr (inr d) ↦ let it = mapped declared_kind (declared_names G) kind d in let bad : Source.declared ≡ Source.written i =
        ap (λ (k : TokenKind). k.source) it.2 ∙ e in absurd cc
  ]

  kind_of_rule : (i : ℕ) (rule : LexerRule) → slice_get G.rules i ≡ Some (WrittenRule.lexer_rule rule) → rule.fragment ≡ false
      → Contains (kinds_of G) (record { name = rule.name; gap = rule.gap; source = Source.written i })
  kind_of_rule i rule at f =
      let it = makes_kind 0 G.rules i rule at f in
      let place : it.0 ≡ i = omega (arith, it.1) in
      let P : ℕ → Type 0 = λ j. Contains (kinds_of G) (record { name = rule.name; gap = rule.gap; source = Source.written j }) in
      subst P place (written_among G (record { name = rule.name; gap = rule.gap; source = Source.written it.0 }) it.2)

pub kinds_are_rules : (G : WrittenGrammar) → KindsAreRules G
kinds_are_rules G =
    record {
      rule = λ kind i c e. let it = rule_of_kind G kind i c e in (it.0, it.1, (it.2, it.3, it.4));
      kind = kind_of_rule G;
    }

-- how many: a filter, a filter by options and the distinct texts keep at most as many
filter_within : {X : Type 0} (p : X → Bool) (xs : List X) → length (filter p xs) ≤ length xs
filter_within p xs = omega (arith, length-filter p xs, count_by-le-length p xs)

filter_map_within : {X Y : Type 0} (h : X → Option Y) (xs : List X) → length (filter_map h xs) ≤ length xs
filter_map_within h [] = omega arith
filter_map_within {Y = Y} h (x ∷ xs) = step (h x) (filter_map_within h xs)
  where
    step : (o : Option Y) → length (filter_map h xs) ≤ length xs → length (cons_option o (filter_map h xs)) ≤ suc (length xs)
    step None le = omega arith
    step (Some y) le = omega arith

distinct_within : (ts : List (List ℕ)) → length (distinct ts) ≤ length ts
distinct_within [] = omega arith
distinct_within (t ∷ ts) = omega (arith, distinct_within ts, filter_within (λ u. not (same_text t u)) (distinct ts))

mutual
  term_within : (t : WrittenTerm) → length (term_references t) ≤ term_size t
  term_within (WrittenTerm.literal t) = omega arith
  term_within (WrittenTerm.name n) = omega arith
  term_within WrittenTerm.any = omega arith
  term_within (WrittenTerm.but refs) = omega arith
  term_within (WrittenTerm.block a) = omega (arith, alts_within a)
  term_within (WrittenTerm.opt t) = omega (arith, term_within t)
  term_within (WrittenTerm.star t) = omega (arith, term_within t)
  term_within (WrittenTerm.plus t) = omega (arith, term_within t)
  term_within WrittenTerm.eof = omega arith

  seq_within : (s : WrittenSeq) → length (seq_references s) ≤ seq_size s
  seq_within WrittenSeq.done = omega arith
  seq_within (WrittenSeq.next t s) = omega (arith, length-append (term_references t) (seq_references s), term_within t, seq_within s)

  alts_within : (a : WrittenAlts) → length (references a) ≤ alts_size a
  alts_within WrittenAlts.none = omega arith
  alts_within (WrittenAlts.or s a) = omega (arith, length-append (seq_references s) (references a), seq_within s, alts_within a)

-- the references of the parser rules and the kinds of the lexer rules are no more than the rules' sizes
rules_within : (from : ℕ) (rules : List WrittenRule) → length (all_references rules) + length (written_kinds from rules) ≤ sum_by rule_size rules
rules_within from [] = omega arith
rules_within from (WrittenRule.parser_rule r ∷ rules) =
    omega (
      arith,
      length-append (references r.alts) (all_references rules),
      alts_within r.alts,
      rules_within (suc from) rules,
      sum_by-cons rule_size (WrittenRule.parser_rule r) rules,
    )
rules_within from (WrittenRule.lexer_rule r ∷ rules) =
    omega (arith, rules_within (suc from) rules, sum_by-cons rule_size (WrittenRule.lexer_rule r) rules, kinds_step (cases_Bool r.fragment))
  where
    kinds_step : (r.fragment ≡ true) ⊎ (r.fragment ≡ false)
        → length (written_kinds from (WrittenRule.lexer_rule r ∷ rules)) ≤ suc (length (written_kinds (suc from) rules))
    kinds_step (inl f) = rw f (omega arith)
    kinds_step (inr f) = rw f (omega arith)

each_counts : (rules : List WrittenRule) → length rules ≤ sum_by rule_size rules
each_counts [] = omega arith
each_counts (WrittenRule.parser_rule r ∷ rules) = omega (arith, each_counts rules, sum_by-cons rule_size (WrittenRule.parser_rule r) rules)
each_counts (WrittenRule.lexer_rule r ∷ rules) = omega (arith, each_counts rules, sum_by-cons rule_size (WrittenRule.lexer_rule r) rules)

parser_rules_within : (rules : List WrittenRule) → length (parser_rules rules) ≤ length rules
parser_rules_within [] = omega arith
parser_rules_within (WrittenRule.parser_rule r ∷ rules) = omega (arith, parser_rules_within rules)
parser_rules_within (WrittenRule.lexer_rule r ∷ rules) = omega (arith, parser_rules_within rules)

kinds_within : (G : WrittenGrammar) → length (kinds_of G) ≤ grammar_size G
unfolding kinds_of grammar_size
kinds_within G =
    let literals = filter_map as_literal (all_references G.rules) in
    omega (
      arith,
      length-append (map implicit_kind (implicit_literals G.rules)) (written_kinds 0 G.rules ++ map declared_kind (declared_names G)),
      length-append (written_kinds 0 G.rules) (map declared_kind (declared_names G)),
      length-map (implicit_literals G.rules) implicit_kind,
      length-map (declared_names G) declared_kind,
      filter_within (λ t. is_none (find (is_named_by t) G.rules)) (distinct literals),
      distinct_within literals,
      filter_map_within as_literal (all_references G.rules),
      filter_within (λ n. is_none (find (makes_token n) G.rules)) (distinct G.tokens),
      distinct_within G.tokens,
      rules_within 0 G.rules,
    )

pub counts_fit : (G : WrittenGrammar) → CountsFit G
unfolding grammar_size
counts_fit G =
    record {
      kinds = kinds_within G;
      rules = omega (arith, each_counts G.rules);
      parser_rules = parser_rules_within G.rules;
      tokens = omega arith;
    }
