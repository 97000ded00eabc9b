-- Names and literals stand for something in a well-formed grammar.
use Rattle.std.proofs.Common.{◌≡◌, ◌≢◌, ◌⊎◌, inl, inr, ℕ, zero, suc, ◌+◌, Bool, true, false, not, List, [], ◌∷◌, ◌++◌, Option}
use Rattle.std.proofs.Common.{Some, None, map, slice_get, slice_index_or, refl, sym, ap, ◌∙◌, subst, arith}
use Rattle.std.specs.Prelude.{filter, find, is_none}
use Rattle.std.specs.List.{Contains, filter_map, flat_map, position}
use Rattle.std.specs.Option.{option_map_or}
use Rattle.std.proofs.lemmas.Bool.{cases_Bool, false≢true}
use Rattle.std.proofs.lemmas.Bool.Decides.{Decides-eqb}
use Rattle.std.proofs.lemmas.List.Elements.{Contains-append_left, Contains-append_right, Contains-append_cases}
use Rattle.std.proofs.lemmas.List.Quantifiers.{position-Some}
use Rattle.std.proofs.lemmas.Option.{none-some, slice_get-get_or}
use Rattle.std.proofs.lemmas.Slice.Eq.{bytes_eq-Decides}
use Rattle.grammar_tree.specs.Written.{Reference, LexerTerm, ParserRule, LexerRule, WrittenAlts, WrittenRule, WrittenGrammar, Source, TokenKind}
use Rattle.grammar_tree.specs.Kinds.{all_references, as_literal, as_name, declared_kind, declared_names, distinct, has_name, implicit_kind}
use Rattle.grammar_tree.specs.Kinds.{implicit_literals, is_implicit, is_named_by, is_written_at, kinds_of, lexer_rules, literal_kind, makes_token}
use Rattle.grammar_tree.specs.Kinds.{name_kind, parser_rules, references, rule_number, same_text, written_kinds}
use Rattle.grammar_tree.specs.Matches.{Matches, MatchesAlts, MatchesRule, any_is_short}
use Rattle.grammar_tree.specs.Faults.{NameUse, NamesNothing, NoRule, Uses, UsesThrough, name_uses, rule_uses, used_names}
use Rattle.grammar_tree.specs.Places.{NameIsItsRule, WellFormedNames}
use Rattle.grammar_tree.proofs.Places.{at_of_contains, contains_at, lexer_places, one_name}
use Rattle.grammar_tree.proofs.Names.{number_of, some_position}
use Rattle.grammar_tree.proofs.Elements.{contains_none, contains_first, contains_later, contains_cases, contains_distinct, contains_filter}
use Rattle.grammar_tree.proofs.Elements.{contains_filter_map, contains_map, filtered, found, found_none, mapped}
use Rattle.grammar_tree.proofs.MatchForms.{by_form, greedily}

same_of : (a b : List ℕ) → same_text a b ≡ true → a ≡ b
same_of a b = (bytes_eq-Decides a b).0

same_is : (a b : List ℕ) → a ≡ b → same_text a b ≡ true
same_is a b = (bytes_eq-Decides a b).1

-- a lexer rule that isn't a fragment makes a kind
pub makes_kind : (from : ℕ) (rules : List WrittenRule) (i : ℕ) (rule : LexerRule) → slice_get rules i ≡ Some (WrittenRule.lexer_rule rule)
    → rule.fragment ≡ false →
    (place : ℕ) × (place ≡ from + i) × Contains (written_kinds from rules) (record { name = rule.name; gap = rule.gap; source = Source.written place })
makes_kind from [] i rule e h = absurd cc
makes_kind from (WrittenRule.parser_rule r ∷ rules) zero rule e h = absurd cc
makes_kind from (WrittenRule.parser_rule r ∷ rules) (suc i) rule e h = let it = makes_kind (suc from) rules i rule e h in (it.0, omega (arith, it.1), it.2)
makes_kind from (WrittenRule.lexer_rule r ∷ rules) zero rule e h =
    let same : r ≡ rule = cc in
    let f : r.fragment ≡ false = ap (λ (x : LexerRule). x.fragment) same ∙ h in (
      from,
      omega arith,
      rw f (contains_first _ (written_kinds (suc from) rules) _
          (ap (λ (x : LexerRule). record { name = x.name; gap = x.gap; source = Source.written from }) same)),
    )
makes_kind from (WrittenRule.lexer_rule r ∷ rules) (suc i) rule e h =
    let it = makes_kind (suc from) rules i rule e h in
    let kind : TokenKind = record { name = rule.name; gap = rule.gap; source = Source.written it.0 } in
    (it.0, omega (arith, it.1), elim (cases_Bool r.fragment) [ inl f ↦ rw f it.2 | inr f ↦ rw f (contains_later _ (written_kinds (suc from) rules) kind it.2) ])

-- a rule that a literal can name is a lexer rule that isn't a fragment
named_rule : (t : List ℕ) (rule : WrittenRule) → is_named_by t rule ≡ true → (r : LexerRule) × (rule ≡ WrittenRule.lexer_rule r) × (r.fragment ≡ false)
named_rule t (WrittenRule.parser_rule r) e = absurd (false≢true e)
named_rule t (WrittenRule.lexer_rule r) e = (r, refl, elim (cases_Bool r.fragment) [ inl f ↦ absurd (false≢true (rw f at e)) | inr f ↦ f ])

-- a rule that makes tokens of a name is a lexer rule of this name that isn't a fragment
making_rule : (n : List ℕ) (rule : WrittenRule) → makes_token n rule ≡ true → (r : LexerRule) × (rule ≡ WrittenRule.lexer_rule r) × (r.fragment ≡ false)
    × (r.name ≡ n)
making_rule n (WrittenRule.parser_rule r) e = absurd (false≢true e)
making_rule n (WrittenRule.lexer_rule r) e =
    elim (cases_Bool r.fragment) [ inl f ↦ absurd (false≢true (rw f at e)) | inr f ↦ (r, refl, f, same_of r.name n (rw f at e)) ]

-- the kinds of the three sources are among all kinds
implicit_among : (G : WrittenGrammar) (t : List ℕ) → Contains (implicit_literals G.rules) t → Contains (kinds_of G) (implicit_kind t)
unfolding kinds_of
implicit_among G t c =
    let rest = written_kinds 0 G.rules ++ map declared_kind (declared_names G) in
    Contains-append_left (map implicit_kind (implicit_literals G.rules)) rest (implicit_kind t) (contains_map implicit_kind (implicit_literals G.rules) t c)

pub written_among : (G : WrittenGrammar) (kind : TokenKind) → Contains (written_kinds 0 G.rules) kind → Contains (kinds_of G) kind
unfolding kinds_of
written_among G kind c =
    let declared = map declared_kind (declared_names G) in
    Contains-append_right (map implicit_kind (implicit_literals G.rules)) (written_kinds 0 G.rules ++ declared) kind
    (Contains-append_left (written_kinds 0 G.rules) declared kind c)

declared_among : (G : WrittenGrammar) (n : List ℕ) → Contains (declared_names G) n → Contains (kinds_of G) (declared_kind n)
unfolding kinds_of
declared_among G n c =
    let declared = map declared_kind (declared_names G) in
    Contains-append_right (map implicit_kind (implicit_literals G.rules)) (written_kinds 0 G.rules ++ declared) (declared_kind n)
    (Contains-append_right (written_kinds 0 G.rules) declared (declared_kind n) (contains_map declared_kind (declared_names G) n c))

module _ (G : WrittenGrammar) where
  abbrev any_rule : WrittenRule
  any_rule = WrittenRule.parser_rule (record { name = []; alts = WrittenAlts.none })

  -- the kind of the lexer rule at a place
  kind_at : (i : ℕ) (rule : LexerRule) → slice_get G.rules i ≡ Some (WrittenRule.lexer_rule rule) → rule.fragment ≡ false → (k : ℕ)
      × (position (is_written_at i) (kinds_of G) ≡ Some k)
  kind_at i rule e f =
      let it = makes_kind 0 G.rules i rule e f in
      let kind : TokenKind = record { name = rule.name; gap = rule.gap; source = Source.written it.0 } in
      let same : it.0 ≡ i = omega (arith, it.1) in
      some_position (is_written_at i) (kinds_of G) kind (written_among G kind it.2) ((Decides-eqb it.0 i).1 same)

  abbrev LiteralHasKind : List ℕ → Type 0
  LiteralHasKind t = (k : ℕ) × (literal_kind G t ≡ Some k)

  literal_has_kind : (t : List ℕ) → Contains (all_references G.rules) (Reference.literal t) → LiteralHasKind t
  literal_has_kind t c = step (position (is_named_by t) G.rules) refl
    where
      step : (o : Option ℕ) → position (is_named_by t) G.rules ≡ o → LiteralHasKind t
      step (Some i) e =
          let found = position-Some (is_named_by t) G.rules i any_rule e in
          let it = named_rule t (slice_index_or G.rules i any_rule) found.1 in
          let at = slice_get-get_or G.rules i any_rule found.0 ∙ ap Some it.1 in
          let kind = kind_at i it.0 at it.2 in
          (kind.0, ap (λ o. option_map_or (λ place. position (is_written_at place) (kinds_of G)) o (position (is_implicit t) (kinds_of G))) e ∙ kind.1)
      step None e =
          let literals = contains_filter_map as_literal (all_references G.rules) (Reference.literal t) t refl c in
          let among =
          contains_filter (λ u. is_none (find (is_named_by u) G.rules)) (distinct (filter_map as_literal (all_references G.rules))) t
          (found_none (is_named_by t) G.rules e) (contains_distinct (filter_map as_literal (all_references G.rules)) t literals) in
          let kind = some_position (is_implicit t) (kinds_of G) (implicit_kind t) (implicit_among G t among) (same_is t t refl) in
          (kind.0, ap (λ o. option_map_or (λ place. position (is_written_at place) (kinds_of G)) o (position (is_implicit t) (kinds_of G))) e ∙ kind.1)

  -- a name of a parser rule is used
  used : (rules : List WrittenRule) (n : List ℕ) → Contains (all_references rules) (Reference.name n)
      → Contains (flat_map rule_uses rules) (NameUse.by_parser_rule n)
  used [] n c = absurd (contains_none (Reference.name n) c)
  used (WrittenRule.lexer_rule r ∷ rules) n c =
      Contains-append_right (rule_uses (WrittenRule.lexer_rule r)) (flat_map rule_uses rules) (NameUse.by_parser_rule n) (used rules n c)
  used (WrittenRule.parser_rule r ∷ rules) n c = elim (Contains-append_cases (references r.alts) (all_references rules) (Reference.name n) c) [
    | inl here ↦
        Contains-append_left (rule_uses (WrittenRule.parser_rule r)) (flat_map rule_uses rules) (NameUse.by_parser_rule n)
        (contains_map NameUse.by_parser_rule (filter_map as_name (references r.alts)) n
        (contains_filter_map as_name (references r.alts) (Reference.name n) n refl here))
    | inr later ↦ Contains-append_right (rule_uses (WrittenRule.parser_rule r)) (flat_map rule_uses rules) (NameUse.by_parser_rule n) (used rules n later)
  ]

  used_in_lexer : (rules : List WrittenRule) (rule : LexerRule) (n : List ℕ) → Contains (lexer_rules rules) rule → Contains (used_names rule.alts) n
      → Contains (flat_map rule_uses rules) (NameUse.by_lexer_rule n)
  used_in_lexer [] rule n c d = absurd (contains_none rule c)
  used_in_lexer (WrittenRule.parser_rule r ∷ rules) rule n c d =
      Contains-append_right (rule_uses (WrittenRule.parser_rule r)) (flat_map rule_uses rules) (NameUse.by_lexer_rule n) (used_in_lexer rules rule n c d)
  used_in_lexer (WrittenRule.lexer_rule r ∷ rules) rule n c d = elim (contains_cases r (lexer_rules rules) rule c) [
    | inl same ↦
        let P : LexerRule → Type 0 = λ x. Contains (used_names x.alts) n in
        Contains-append_left (rule_uses (WrittenRule.lexer_rule r)) (flat_map rule_uses rules) (NameUse.by_lexer_rule n)
        (contains_map NameUse.by_lexer_rule (used_names r.alts) n (subst P (sym same) d))
    | inr later ↦ Contains-append_right (rule_uses (WrittenRule.lexer_rule r)) (flat_map rule_uses rules) (NameUse.by_lexer_rule n)
        (used_in_lexer rules rule n later d)
  ]

  no_position : {X : Type 0} (p : X → Bool) (xs : List X) (x : X) → position p xs ≡ None → Contains xs x → p x ≡ true → ⊥
  no_position p xs x e c h = let at = some_position p xs x c h in none-some at.0 (sym e ∙ at.1)

  -- a name with no number and no kind names nothing
  pub names_nothing : (n : List ℕ) → rule_number G n ≡ None → name_kind G n ≡ None → NamesNothing G n
  names_nothing n e f =
      record {
        no_parser_rule = λ c. let it =
            mapped (λ (r : ParserRule). r.name) (parser_rules G.rules) n c in
            no_position (λ (r : ParserRule). same_text r.name n) (parser_rules G.rules) it.0 e it.1 (same_is it.0.name n it.2);
        no_token_rule = λ c.
            let it = mapped (λ (r : LexerRule). r.name) (filter (λ (r : LexerRule). not r.fragment) (lexer_rules G.rules)) n c in
            let in_rules = filtered (λ (r : LexerRule). not r.fragment) (lexer_rules G.rules) it.0 it.1 in
            let at = lexer_places G it.0 in_rules.0 in
            written_kind at.0 it.0 at.1 (elim (cases_Bool it.0.fragment) [ inl g ↦ absurd (false≢true (rw g at in_rules.1)) | inr g ↦ g ]) it.2;
        no_token = λ c. declared_name (find (makes_token n) G.rules) refl c;
      }
    where
      written_kind : (i : ℕ) (rule : LexerRule) → slice_get G.rules i ≡ Some (WrittenRule.lexer_rule rule) → rule.fragment ≡ false → rule.name ≡ n → ⊥
      written_kind i rule at g same =
          let it = makes_kind 0 G.rules i rule at g in
          let kind : TokenKind = record { name = rule.name; gap = rule.gap; source = Source.written it.0 } in
          no_position (has_name n) (kinds_of G) kind f (written_among G kind it.2) (same_is rule.name n same)

      declared_name : (o : Option WrittenRule) → find (makes_token n) G.rules ≡ o → Contains G.tokens n → ⊥
      declared_name (Some rule) g c =
          let it = found (makes_token n) G.rules rule g in
          let made = making_rule n rule it.1 in
          let at = at_of_contains G.rules rule it.0 in
          written_kind at.0 made.0 (at.1 ∙ ap Some made.1) made.2 made.3
      declared_name None g c =
          let among = contains_filter (λ m. is_none (find (makes_token m) G.rules)) (distinct G.tokens) n (ap is_none g) (contains_distinct G.tokens n c) in
          no_position (has_name n) (kinds_of G) (declared_kind n) f (declared_among G n among) (same_is n n refl)

  abbrev NameStands : List ℕ → Type 0
  NameStands n = ((r : ℕ) × (rule_number G n ≡ Some r)) ⊎ ((k : ℕ) × (name_kind G n ≡ Some k))

  module _ (known : (name : List ℕ) → ¬ NoRule G name) where
    name_stands : (n : List ℕ) → Contains (all_references G.rules) (Reference.name n) → NameStands n
    name_stands n c = step (rule_number G n) (name_kind G n) refl refl
      where
        step : (o p : Option ℕ) → rule_number G n ≡ o → name_kind G n ≡ p → NameStands n
        step (Some r) p e f = inl (r, e)
        step None (Some k) e f = inr (k, f)
        step None None e f =
            let at = at_of_contains (name_uses G) (NameUse.by_parser_rule n) (used G.rules n c) in
            absurd (known n (at.0, (NameUse.by_parser_rule n, at.1, refl, names_nothing n e f)))

    lexer_name_stands : (user n : List ℕ) → Uses G user n → (rule : LexerRule) × Contains (lexer_rules G.rules) rule × (rule.name ≡ n)
    lexer_name_stands user n u = step (position (λ (r : LexerRule). same_text r.name n) (lexer_rules G.rules)) refl
      where
        step : (o : Option ℕ) → position (λ (r : LexerRule). same_text r.name n) (lexer_rules G.rules) ≡ o → (rule : LexerRule)
            × Contains (lexer_rules G.rules) rule × (rule.name ≡ n)
        step (Some i) e =
            let rules = lexer_rules G.rules in
            let it = position-Some (λ (r : LexerRule). same_text r.name n) rules i u.rule e in (
              slice_index_or rules i u.rule,
              contains_at rules i (slice_index_or rules i u.rule) (slice_get-get_or rules i u.rule it.0),
              same_of (slice_index_or rules i u.rule).name n it.1,
            )
        step None e =
            let at = at_of_contains (name_uses G) (NameUse.by_lexer_rule n) (used_in_lexer G.rules u.rule n u.of_grammar u.uses) in
            let unknown : ¬ Contains (map (λ (r : LexerRule). r.name) (lexer_rules G.rules)) n = λ c.
            let it = mapped (λ (r : LexerRule). r.name) (lexer_rules G.rules) n c in
            no_position (λ (r : LexerRule). same_text r.name n) (lexer_rules G.rules) it.0 e it.1 (same_is it.0.name n it.2) in
            absurd (known n (at.0, (NameUse.by_lexer_rule n, at.1, refl, unknown)))

pub well_formed_names : WellFormedNames
well_formed_names G start ok =
    record {
      one_rule = one_name G ok.one_rule_a_name;
      number = number_of G ok.one_rule_a_name;
      literal = literal_has_kind G;
      name = name_stands G ok.each_name_known;
      lexer_name = lexer_name_stands G ok.each_name_known;
    }

lexer_same : (a b : LexerRule) → Some (WrittenRule.lexer_rule a) ≡ Some (WrittenRule.lexer_rule b) → a ≡ b
lexer_same a b e = cc

pub name_is_its_rule : NameIsItsRule
name_is_its_rule G start ok user rule w u c = (there, back)
  where
    there : Matches (lexer_rules G.rules) (LexerTerm.name rule.name) w → MatchesRule (lexer_rules G.rules) rule.alts w
    there m =
        let it = ((by_form (lexer_rules G.rules)).name rule.name w).0 m in
        let here = lexer_places G rule c in
        let other = lexer_places G it.0 it.1 in
        let place : other.0 ≡ here.0 =
        one_name G ok.one_rule_a_name other.0 here.0 (WrittenRule.lexer_rule it.0) (WrittenRule.lexer_rule rule) other.1 here.1 it.2 in
        let same : it.0 ≡ rule = lexer_same it.0 rule (sym other.1 ∙ ap (slice_get G.rules) place ∙ here.1) in
        let P : LexerRule → Type 0 = λ r. MatchesAlts (lexer_rules G.rules) r.alts w in
        let itself : user ≢ rule.name = λ e. let Q : List ℕ → Type 0 =
        λ x. Uses G x rule.name in ok.no_fragment_loop here.0 (rule, here.1, UsesThrough.directly rule.name rule.name (subst Q e u)) in
        elim (cases_Bool (any_is_short rule.alts)) [
          | inl short ↦ absurd (ok.no_short_use here.0 (rule, here.1, (short, (user, itself, u))))
          | inr long ↦ (greedily (lexer_rules G.rules)).all rule.alts w long (subst P same it.3)
        ]

    back : MatchesRule (lexer_rules G.rules) rule.alts w → Matches (lexer_rules G.rules) (LexerTerm.name rule.name) w
    back m = ((by_form (lexer_rules G.rules)).name rule.name w).1 (rule, c, refl, (greedily (lexer_rules G.rules)).within rule.alts w m)
