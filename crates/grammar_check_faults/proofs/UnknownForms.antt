-- The test of a use says what holds of it, and the first use that fails it is the first unknown one.
use Rattle.std.proofs.Common.{◌≡◌, inl, inr, ℕ, zero, suc, ◌<◌, Bool, true, false, not, ◌&&◌, cond, List, [], ◌∷◌, Option, Some, None}
use Rattle.std.proofs.Common.{map, slice_get, slice_index_or, refl, sym, ap, ◌∙◌, subst, arith, true≢false}
use Rattle.std.specs.Prelude.{filter, find, is_none, option_map}
use Rattle.std.specs.List.{Contains}
use Rattle.std.proofs.lemmas.Bool.{cases_Bool, false≢true}
use Rattle.std.proofs.lemmas.List.Quantifiers.{position-Some}
use Rattle.std.proofs.lemmas.Option.{none-some, same_Some, slice_get-get_or}
use Rattle.std.proofs.lemmas.Slice.Eq.{bytes_eq-Decides}
use Rattle.grammar_tree.specs.Faults.{IsUnknown, NameUse, NamesNothing, name_uses, used_name}
use Rattle.grammar_tree.specs.Kinds.{declared_kind, declared_names, distinct, has_name, implicit_kind, implicit_literals, kinds_of}
use Rattle.grammar_tree.specs.Kinds.{lexer_rules, makes_token, name_kind, parser_rules, rule_number, same_text, written_kinds}
use Rattle.grammar_tree.specs.Written.{ParserRule, LexerRule, WrittenRule, WrittenGrammar, Source, TokenKind}
use Rattle.grammar_tree.proofs.Lent.{kind_cases, kinds_are_rules, contains_cases, contains_filter, contains_first, elements_contains_later as contains_later}
use Rattle.grammar_tree.proofs.Lent.{contains_map, contains_none, filtered, mapped, some_position, contains_at, lexer_places, numbers, names_nothing}
use Rattle.grammar_check_lexer_rules.specs.Lexer.{lexer_index}
use Rattle.grammar_check_parser_rules.specs.Rules.{has_key}
use Rattle.grammar_check_parser_rules.specs.declared.rules.Key.TheVariants.{LexerName}
use Rattle.grammar_check_faults.specs.Unknown.{IsFirstUnknown}
use Rattle.grammar_check_faults.specs.inner.Unknown.{is_unknown}
use Rattle.grammar_check_lexer_rules.proofs.Lent.{contains_rule, rule_of_index}

distinct_are : (ts : List (List ℕ)) (t : List ℕ) → Contains (distinct ts) t → Contains ts t
distinct_are [] t c = absurd (contains_none t c)
distinct_are (u ∷ ts) t c = elim (contains_cases u (filter (λ v. not (same_text u v)) (distinct ts)) t c) [
  | inl same ↦ contains_first u ts t same
  | inr later ↦ contains_later u ts t (distinct_are ts t (filtered (λ v. not (same_text u v)) (distinct ts) t later).0)
]

written_source : (from : ℕ) (rules : List WrittenRule) (kind : TokenKind) → Contains (written_kinds from rules) kind → (i : ℕ)
    × (kind.source ≡ Source.written i)
written_source from [] kind c = absurd (contains_none kind c)
written_source from (WrittenRule.parser_rule r ∷ rules) kind c = written_source (suc from) rules kind c
written_source from (WrittenRule.lexer_rule r ∷ rules) kind c = elim (cases_Bool r.fragment) [
  | inl f ↦ written_source (suc from) rules kind (rw f at c)
  | inr f ↦ elim (contains_cases (record { name = r.name; gap = r.gap; source = Source.written from }) (written_kinds (suc from) rules) kind (rw f at c)) [
    | inl same ↦ (from, sym (ap (λ (k : TokenKind). k.source) same))
    | inr later ↦ written_source (suc from) rules kind later
  ]
]

none_of_test : {X : Type 0} (o : Option X) → is_none o ≡ true → o ≡ None
none_of_test None e = refl
none_of_test (Some x) e = absurd (false≢true e)

both : (a b : Bool) → (a && b) ≡ true → (a ≡ true) × (b ≡ true)
both true b e = (refl, e)
both false b e = absurd (false≢true e)

module _ (G : WrittenGrammar) where
  abbrev parser_names : List (List ℕ)
  parser_names = map (λ (r : ParserRule). r.name) (parser_rules G.rules)

  abbrev token_names : List (List ℕ)
  token_names = map (λ (r : LexerRule). r.name) (filter (λ (r : LexerRule). not r.fragment) (lexer_rules G.rules))

  module _ (n : List ℕ) (h : NamesNothing G n) where
    no_number : rule_number G n ≡ None
    no_number = by (rule_number G n) refl
      where
        by : (o : Option ℕ) → rule_number G n ≡ o → rule_number G n ≡ None
        by None e = e
        by (Some r) e =
            let it = (numbers G).named n r e in
            let P : List ℕ → Type 0 = λ x. Contains parser_names x in
            absurd (h.no_parser_rule
            (subst P it.2 (contains_map (λ (r : ParserRule). r.name) (parser_rules G.rules) it.0 (contains_at (parser_rules G.rules) r it.0 it.1))))

    no_such_kind : (kind : TokenKind) → Contains (kinds_of G) kind → has_name n kind ≡ true → ⊥
    no_such_kind kind c named = by kind.source refl
      where
        by : (s : Source) → kind.source ≡ s → ⊥
        by Source.implicit e = false≢true (rw e at named)
        by (Source.written i) e =
            let same : same_text kind.name n ≡ true = rw e at named in
            let it = (kinds_are_rules G).rule kind i c e in
            let P : List ℕ → Type 0 = λ x. Contains token_names x in
            h.no_token_rule (subst P (it.2.1 ∙ (bytes_eq-Decides kind.name n).0 same)
            (contains_map (λ (r : LexerRule). r.name) (filter (λ (r : LexerRule). not r.fragment) (lexer_rules G.rules)) it.0
            (contains_filter (λ (r : LexerRule). not r.fragment) (lexer_rules G.rules) it.0 (ap not it.2.0) (contains_rule G.rules i it.0 it.1))))
        by Source.declared e =
            let same : same_text kind.name n ≡ true = rw e at named in
            elim (kind_cases G kind c) [
              | inl a ↦ let it = mapped implicit_kind (implicit_literals G.rules) kind a in let bad : Source.implicit ≡ Source.declared =
                  ap (λ (k : TokenKind). k.source) it.2 ∙ e in absurd cc
              | inr (inl b) ↦ let it = written_source 0 G.rules kind b in let bad : Source.written it.0 ≡ Source.declared = sym it.1 ∙ e in absurd cc
              | inr (inr d) ↦
                  let it = mapped declared_kind (declared_names G) kind d in
                  let among = filtered (λ m. is_none (find (makes_token m) G.rules)) (distinct G.tokens) it.0 it.1 in
                  let P : List ℕ → Type 0 = λ x. Contains G.tokens x in
                  h.no_token (subst P (ap (λ (k : TokenKind). k.name) it.2 ∙ (bytes_eq-Decides kind.name n).0 same) (distinct_are G.tokens it.0 among.0))
            ]

    no_kind : name_kind G n ≡ None
    no_kind = by (name_kind G n) refl
      where
        by : (o : Option ℕ) → name_kind G n ≡ o → name_kind G n ≡ None
        by None e = e
        by (Some k) e =
            let none : TokenKind = declared_kind [] in
            let at = position-Some (has_name n) (kinds_of G) k none e in
            let kind = slice_index_or (kinds_of G) k none in
            absurd (no_such_kind kind (contains_at (kinds_of G) k kind (slice_get-get_or (kinds_of G) k none at.0)) at.1)

  abbrev lexer_names : List (List ℕ)
  lexer_names = map (λ (r : LexerRule). r.name) (lexer_rules G.rules)

  is_lexer_rule : (n : List ℕ) → Contains lexer_names n → (i : ℕ) × (lexer_index G.rules n ≡ Some i)
  is_lexer_rule n c =
      let it = mapped (λ (r : LexerRule). r.name) (lexer_rules G.rules) n c in
      let at = lexer_places G it.0 it.1 in
      some_position (has_key LexerName n) G.rules (WrittenRule.lexer_rule it.0) (contains_at G.rules at.0 (WrittenRule.lexer_rule it.0) at.1)
      ((bytes_eq-Decides it.0.name n).1 it.2)

  not_lexer_rule : (n : List ℕ) (i : ℕ) → lexer_index G.rules n ≡ Some i → Contains lexer_names n
  not_lexer_rule n i e =
      let it = rule_of_index G.rules n i e in
      let P : List ℕ → Type 0 = λ x. Contains lexer_names x in
      subst P it.2 (contains_map (λ (r : LexerRule). r.name) (lexer_rules G.rules) it.0 (contains_rule G.rules i it.0 it.1))

  pub is_so : (it : NameUse) → is_unknown G it ≡ true → IsUnknown G it
  is_so (NameUse.by_parser_rule n) e =
      let parts = both (is_none (rule_number G n)) (is_none (name_kind G n)) e in
      names_nothing G n (none_of_test (rule_number G n) parts.0) (none_of_test (name_kind G n) parts.1)
  is_so (NameUse.by_lexer_rule n) e = λ c.
      let at = is_lexer_rule n c in
      none-some at.0 (sym (none_of_test (lexer_index G.rules n) e) ∙ at.1)

  pub says_so : (it : NameUse) → IsUnknown G it → is_unknown G it ≡ true
  says_so (NameUse.by_parser_rule n) h = ap (λ o. is_none o && is_none (name_kind G n)) (no_number n h) ∙ ap is_none (no_kind n h)
  says_so (NameUse.by_lexer_rule n) h = by (lexer_index G.rules n) refl
    where
      by : (o : Option ℕ) → lexer_index G.rules n ≡ o → is_none (lexer_index G.rules n) ≡ true
      by None e = ap is_none e
      by (Some i) e = absurd (h (not_lexer_rule n i e))

module _ {X : Type 0} (p : X → Bool) where
  none_passes : (xs : List X) → find p xs ≡ None → (i : ℕ) (x : X) → slice_get xs i ≡ Some x → p x ≡ true → ⊥
  none_passes [] e i x at t = none-some x at
  none_passes (y ∷ xs) e zero x at t = none-some y (sym e ∙ ap (λ b. cond b (Some y) (find p xs)) (ap p (same_Some y x at) ∙ t))
  none_passes (y ∷ xs) e (suc i) x at t = elim (cases_Bool (p y)) [
    | inl passes ↦ none-some y (sym e ∙ ap (λ b. cond b (Some y) (find p xs)) passes)
    | inr fails ↦ none_passes xs (sym (ap (λ b. cond b (Some y) (find p xs)) fails) ∙ e) i x at t
  ]

  record IsFound (xs : List X) (y : X) : Type 0 where
    index : ℕ
    at : slice_get xs index ≡ Some y
    passes : p y ≡ true
    before : (j : ℕ) (x : X) → j < index → slice_get xs j ≡ Some x → p x ≡ true → ⊥

  the_first : (xs : List X) (y : X) → find p xs ≡ Some y → IsFound xs y
  the_first [] y e = absurd (none-some y e)
  the_first (x ∷ xs) y e = elim (cases_Bool (p x)) [
    | inl passes ↦
        let same : x ≡ y = same_Some x y (sym (ap (λ b. cond b (Some x) (find p xs)) passes) ∙ e) in
        record { index = 0; at = ap Some same; passes = sym (ap p same) ∙ passes; before = λ j z lt at t. omega (arith, lt) }
    | inr fails ↦
        let it = the_first xs y (sym (ap (λ b. cond b (Some x) (find p xs)) fails) ∙ e) in
        record { index = suc it.index; at = it.at; passes = it.passes; before = earlier it fails }
  ]
    where
      earlier : (it : IsFound xs y) → p x ≡ false → (j : ℕ) (z : X) → j < suc it.index → slice_get (x ∷ xs) j ≡ Some z → p z ≡ true → ⊥
      earlier it fails zero z lt at t = true≢false (sym t ∙ ap p (sym (same_Some x z at)) ∙ fails)
      earlier it fails (suc j) z lt at t = it.before j z (omega (arith, lt)) at t

module _ (G : WrittenGrammar) where
  pub first_unknown_is : (o : Option (List ℕ)) → o ≡ option_map used_name (find (is_unknown G) (name_uses G)) → IsFirstUnknown G o
  first_unknown_is o e = by (find (is_unknown G) (name_uses G)) refl o e
    where
      by : (f : Option NameUse) → find (is_unknown G) (name_uses G) ≡ f → (o : Option (List ℕ)) → o ≡ option_map used_name (find (is_unknown G) (name_uses G))
          → IsFirstUnknown G o
      by None g None e = λ u h. none_passes (is_unknown G) (name_uses G) g u h.0 h.1 (says_so G h.0 h.2)
      by None g (Some name) e = absurd (none-some name (sym (e ∙ ap (option_map used_name) g)))
      by (Some it) g None e = absurd (none-some (used_name it) (e ∙ ap (option_map used_name) g))
      by (Some it) g (Some name) e =
          let named : name ≡ used_name it = same_Some name (used_name it) (e ∙ ap (option_map used_name) g) in
          let found = the_first (is_unknown G) (name_uses G) it g in (
            found.index,
            record { holds = (it, found.at, is_so G it found.passes); before = λ j lt h. found.before j h.0 lt h.1 (says_so G h.0 h.2) },
            (it, found.at, sym named, is_so G it found.passes),
          )
