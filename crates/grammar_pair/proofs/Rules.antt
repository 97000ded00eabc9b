-- What the names and literals of the parser rules mean.
use Rattle.std.proofs.Common.{◌≡◌, ◌↔◌, inl, inr, ℕ, suc, ◌+◌, ◌<◌, ◌≤◌, Bool, true, false, not, ◌&&◌, cond, List, [], ◌∷◌, ◌++◌}
use Rattle.std.proofs.Common.{Option, Some, None, length, refl, ap, sym, subst, ◌∙◌, arith, lt-ltb, ltb-false}
use Rattle.std.specs.Prelude.{map, filter, nat_eq, nat_lt, position}
use Rattle.std.specs.List.{position_or_len}
use Rattle.std.specs.Option.{option_map_or}
use Rattle.std.proofs.lemmas.Bool.{cases_Bool, eqb-false, eqb-true, ltb-true}
use Rattle.grammar_tree.specs.Derives.{Derives, Term, RuleDerives, bodies, resolved_alts}
use Rattle.grammar_tree.specs.Kinds.{declared_kind, declared_names, has_name, is_implicit, is_just, is_named_by, is_written_at, kinds_of}
use Rattle.grammar_tree.specs.Kinds.{lexer_rules, literal_kind, name_kind, parser_rules, same_text, written_kinds}
use Rattle.grammar_tree.specs.Written.{LexerAlts, LexerRule, ParserRule, Source, TokenKind, WrittenGrammar, WrittenRule}
use Rattle.grammar_pair.specs.Joined.{IsLexerText, IsParserText, RulesAreAsWritten, first_implicit, is_just_rule, joined, token_rules, wrong_rules}
use Rattle.grammar_pair.proofs.JoinedKinds.{joined_kinds, moved, no_lexer_rules, parser_rules_same}

abbrev pub shifted : Option ℕ → Option ℕ
shifted None = None
shifted (Some k) = Some (suc k)

first_or : (b : Bool) (m n : ℕ) → cond (nat_lt (cond (not b) (1 + m) 0) (suc n)) (Some (cond (not b) (1 + m) 0)) None ≡ cond b (Some 0)
    (shifted (cond (nat_lt m n) (Some m) None))
first_or true m n = ap (λ t. cond t (Some 0) None) (lt-ltb 0 (suc n) (omega arith))
first_or false m n = elim (cases_Bool (nat_lt m n)) [
  | inl t ↦ let less : m < n = ltb-true m n t in
      let more : 1 + m ≡ suc m = omega arith in
      ap (λ b. cond b (Some (1 + m)) None) (lt-ltb (1 + m) (suc n) (omega arith)) ∙ ap Some more ∙ sym (ap (λ b. shifted (cond b (Some m) None)) t)
  | inr t ↦ let less : n ≤ m = ltb-false m n t in
      elim (cases_Bool (nat_lt (1 + m) (suc n))) [
        | inl u ↦ let bad : 1 + m < suc n = ltb-true (1 + m) (suc n) u in absurd (omega arith)
        | inr u ↦ ap (λ b. cond b (Some (1 + m)) None) u ∙ sym (ap (λ b. shifted (cond b (Some m) None)) t)
      ]
]

-- the first element, or one of the others
pub position_cons : {X : Type 0} (p : X → Bool) (x : X) (xs : List X) → position p (x ∷ xs) ≡ cond (p x) (Some 0) (shifted (position p xs))
position_cons p x xs = first_or (p x) (position_or_len p xs) (length xs)

-- tests that agree find the same place
pub position_agrees : {X Y : Type 0} (p : X → Bool) (q : Y → Bool) (xs : List X) (ys : List Y) → map p xs ≡ map q ys → position p xs ≡ position q ys
position_agrees p q [] [] e = refl
position_agrees p q [] (y ∷ ys) e = cc e
position_agrees p q (x ∷ xs) [] e = cc e
position_agrees p q (x ∷ xs) (y ∷ ys) e =
    let heads : p x ≡ q y = cc e in
    let tails : map p xs ≡ map q ys = cc e in
    position_cons p x xs ∙ ap (λ b. cond b (Some 0) (shifted (position p xs))) heads
    ∙ ap (λ o. cond (q y) (Some 0) (shifted o)) (position_agrees p q xs ys tails) ∙ sym (position_cons q y ys)

-- the names of the kinds
named_declared : (n : List ℕ) (more : List (List ℕ)) → map (has_name n) (map declared_kind more) ≡ map (λ other. same_text other n) more
named_declared n [] = refl
named_declared n (m ∷ more) = ap (λ bs. same_text m n ∷ bs) (named_declared n more)

named_written : (n : List ℕ) (shift place : ℕ) (rules : List WrittenRule) (more : List (List ℕ)) →
    map (has_name n) (map (moved shift) (written_kinds place rules) ++ map declared_kind more) ≡ map (λ other. same_text other n)
    (map (λ (r : LexerRule). r.name) (filter (λ (r : LexerRule). not r.fragment) (lexer_rules rules)) ++ more)
named_written n shift place [] more = named_declared n more
named_written n shift place (WrittenRule.parser_rule r ∷ rules) more = named_written n shift (suc place) rules more
named_written n shift place (WrittenRule.lexer_rule r ∷ rules) more = elim (cases_Bool r.fragment) [
  | inl f ↦ rw f (named_written n shift (suc place) rules more)
  | inr f ↦ rw f (ap (λ bs. same_text r.name n ∷ bs) (named_written n shift (suc place) rules more))
]

-- no kind is implicit
not_implicit : (t : List ℕ) (shift place : ℕ) (rules : List WrittenRule) (more : List (List ℕ))
    → position (is_implicit t) (map (moved shift) (written_kinds place rules) ++ map declared_kind more) ≡ None
not_implicit t shift place [] [] = refl
not_implicit t shift place [] (n ∷ more) =
    position_cons (is_implicit t) (declared_kind n) (map declared_kind more) ∙ ap shifted (not_implicit t shift place [] more)
not_implicit t shift place (WrittenRule.parser_rule r ∷ rules) more = not_implicit t shift (suc place) rules more
not_implicit t shift place (WrittenRule.lexer_rule r ∷ rules) more = elim (cases_Bool r.fragment) [
  | inl f ↦ rw f (not_implicit t shift (suc place) rules more)
  | inr f ↦ rw f (
      position_cons (is_implicit t) (record { name = r.name; gap = r.gap; source = Source.written (shift + place) })
      (map (moved shift) (written_kinds (suc place) rules) ++ map declared_kind more)
      ∙ ap shifted (not_implicit t shift (suc place) rules more))
]

same_number : (n : ℕ) → nat_eq n n ≡ true
same_number n = elim (cases_Bool (nat_eq n n)) [ inl e ↦ e | inr e ↦ absurd (eqb-false n n e refl) ]

other_number : (m n : ℕ) → m < n → nat_eq m n ≡ false
other_number m n lt = elim (cases_Bool (nat_eq m n)) [ inl e ↦ let same : m ≡ n = eqb-true m n e in absurd (omega arith) | inr e ↦ e ]

-- the kind of the rule with this number, where there is one
abbrev of_rule : (ℕ → Option ℕ) → Option ℕ → Option ℕ
of_rule f o = option_map_or f o None

later_rule : (f g : ℕ → Option ℕ) → ((j : ℕ) → f (suc j) ≡ g j) → (o : Option ℕ) → of_rule f (shifted o) ≡ of_rule g o
later_rule f g h None = refl
later_rule f g h (Some j) = h j

shifted_rule : (g : ℕ → Option ℕ) (o : Option ℕ) → of_rule (λ j. shifted (g j)) o ≡ shifted (of_rule g o)
shifted_rule g None = refl
shifted_rule g (Some j) = refl

module _ (t : List ℕ) (shift : ℕ) (more : List (List ℕ)) where
  abbrev kinds_from : ℕ → List WrittenRule → List TokenKind
  kinds_from place rules = map (moved shift) (written_kinds place rules) ++ map declared_kind more

  abbrev kind_at : ℕ → List WrittenRule → ℕ → Option ℕ
  kind_at place rules j = position (is_written_at (shift + (place + j))) (kinds_from place rules)

  abbrev tokens_in : List WrittenRule → List LexerRule
  tokens_in rules = filter (λ (r : LexerRule). not r.fragment) (lexer_rules rules)

  abbrev rule_with : Bool → List ℕ → Bool → LexerAlts → WrittenRule
  rule_with b name gap alts = WrittenRule.lexer_rule (record { name = name; fragment = b; gap = gap; alts = alts })

  abbrev Holds : ℕ → List WrittenRule → Type 0
  Holds place rules = of_rule (kind_at place rules) (position (is_named_by t) rules) ≡ position (is_just_rule t) (tokens_in rules)

  -- a rule that makes no tokens
  passed : (place : ℕ) (rule : WrittenRule) (rules : List WrittenRule) → is_named_by t rule ≡ false
      → ((j : ℕ) → kind_at place (rule ∷ rules) (suc j) ≡ kind_at (suc place) rules j) → tokens_in (rule ∷ rules) ≡ tokens_in rules →
      Holds (suc place) rules → Holds place (rule ∷ rules)
  passed place rule rules named kinds tokens ih =
      ap (of_rule (kind_at place (rule ∷ rules)))
      (position_cons (is_named_by t) rule rules ∙ ap (λ b. cond b (Some 0) (shifted (position (is_named_by t) rules))) named)
      ∙ later_rule (kind_at place (rule ∷ rules)) (kind_at (suc place) rules) kinds (position (is_named_by t) rules)
      ∙ ih ∙ ap (position (is_just_rule t)) (sym tokens)

  further : (place j : ℕ) (rules : List WrittenRule)
      → position (is_written_at (shift + (place + suc j))) (kinds_from (suc place) rules) ≡ kind_at (suc place) rules j
  further place j rules = let same : shift + (place + suc j) ≡ shift + (suc place + j) =
      omega arith in ap (λ n. position (is_written_at n) (kinds_from (suc place) rules)) same

  abbrev kind_with : List ℕ → Bool → ℕ → TokenKind
  kind_with name gap place = record { name = name; gap = gap; source = Source.written (shift + place) }

  at : (name : List ℕ) (gap : Bool) (place : ℕ) (rules : List WrittenRule) (n : ℕ) →
      position (is_written_at n) (kind_with name gap place ∷ kinds_from (suc place) rules) ≡ cond (nat_eq (shift + place) n) (Some 0)
      (shifted (position (is_written_at n) (kinds_from (suc place) rules)))
  at name gap place rules n = position_cons (is_written_at n) (kind_with name gap place) (kinds_from (suc place) rules)

  by_just : (b : Bool) (name : List ℕ) (gap : Bool) (alts : LexerAlts) (place : ℕ) (rules : List WrittenRule) → Holds (suc place) rules →
      of_rule (kind_at place (rule_with false name gap alts ∷ rules)) (cond b (Some 0) (shifted (position (is_named_by t) rules))) ≡ cond b (Some 0)
      (shifted (position (is_just_rule t) (tokens_in rules)))
  by_just true name gap alts place rules ih =
      let here : shift + (place + 0) ≡ shift + place = omega arith in
      ap (λ n. position (is_written_at n) (kind_with name gap place ∷ kinds_from (suc place) rules)) here ∙ at name gap place rules (shift + place)
      ∙ ap (λ b. cond b (Some 0) (shifted (position (is_written_at (shift + place)) (kinds_from (suc place) rules)))) (same_number (shift + place))
  by_just false name gap alts place rules ih =
      later_rule (kind_at place (rule_with false name gap alts ∷ rules)) (λ j. shifted (kind_at (suc place) rules j))
      (λ j. at name gap place rules (shift + (place + suc j))
      ∙ ap (λ b. cond b (Some 0) (shifted (position (is_written_at (shift + (place + suc j))) (kinds_from (suc place) rules))))
      (other_number (shift + place) (shift + (place + suc j)) (omega arith))
      ∙ ap shifted (further place j rules)) (position (is_named_by t) rules)
      ∙ shifted_rule (kind_at (suc place) rules) (position (is_named_by t) rules) ∙ ap shifted ih

  by_fragment : (b : Bool) (name : List ℕ) (gap : Bool) (alts : LexerAlts) (place : ℕ) (rules : List WrittenRule) → Holds (suc place) rules
      → Holds place (rule_with b name gap alts ∷ rules)
  by_fragment true name gap alts place rules ih = passed place (rule_with true name gap alts) rules refl (λ j. further place j rules) refl ih
  by_fragment false name gap alts place rules ih =
      ap (of_rule (kind_at place (rule_with false name gap alts ∷ rules))) (position_cons (is_named_by t) (rule_with false name gap alts) rules)
      ∙ by_just (not gap && is_just t alts) name gap alts place rules ih
      ∙ sym (position_cons (is_just_rule t) (record { name = name; fragment = false; gap = gap; alts = alts }) (tokens_in rules))

  -- The kind of the first rule that the literal names is that rule's number among the token rules.
  pub literal_rule : (place : ℕ) (rules : List WrittenRule)
      → of_rule (kind_at place rules) (position (is_named_by t) rules) ≡ position (is_just_rule t) (tokens_in rules)
  literal_rule place [] = refl
  literal_rule place (WrittenRule.parser_rule r ∷ rules) =
      passed place (WrittenRule.parser_rule r) rules refl (λ j. further place j rules) refl (literal_rule (suc place) rules)
  literal_rule place (WrittenRule.lexer_rule r ∷ rules) = by_fragment r.fragment r.name r.gap r.alts place rules (literal_rule (suc place) rules)

-- a number after so many others
abbrev past : ℕ → Option ℕ → Option ℕ
past n None = None
past n (Some j) = Some (n + j)

past_one : (n : ℕ) (o : Option ℕ) → shifted (past n o) ≡ past (suc n) o
past_one n None = refl
past_one n (Some j) = let e : suc (n + j) ≡ suc n + j = omega arith in ap Some e

-- A literal names no parser rule.
named_past : (t : List ℕ) (xs ys : List WrittenRule) → lexer_rules xs ≡ []
    → position (is_named_by t) (xs ++ ys) ≡ past (length xs) (position (is_named_by t) ys)
named_past t [] ys e = none_past (position (is_named_by t) ys) where
  none_past : (o : Option ℕ) → o ≡ past 0 o
  none_past None = refl
  none_past (Some j) = let e : j ≡ 0 + j = omega arith in ap Some e
named_past t (WrittenRule.parser_rule r ∷ xs) ys e =
    position_cons (is_named_by t) (WrittenRule.parser_rule r) (xs ++ ys) ∙ ap shifted (named_past t xs ys e)
    ∙ past_one (length xs) (position (is_named_by t) ys)
named_past t (WrittenRule.lexer_rule r ∷ xs) ys e = cc e

module _ (L P : WrittenGrammar) (own : wrong_rules L P ≡ []) where
  pub rules_derive : (r : ℕ) (w : List ℕ) → RuleDerives (joined L P) r w
      ↔ Derives (map (λ (rule : ParserRule). resolved_alts (joined L P) rule.alts) (parser_rules P.rules)) (Term.rule r) w
  rules_derive r w =
      let same : bodies (joined L P) ≡ map (λ (rule : ParserRule). resolved_alts (joined L P) rule.alts) (parser_rules P.rules) =
      ap (map (λ (rule : ParserRule). resolved_alts (joined L P) rule.alts)) (parser_rules_same L P own) in
      ((λ d. subst (λ G. Derives G (Term.rule r) w) same d), (λ d. subst (λ G. Derives G (Term.rule r) w) (sym same) d))

  module _ (named : first_implicit (joined L P).rules ≡ None) where
    pub name_means : (name : List ℕ) → name_kind (joined L P) name ≡ position (λ other. same_text other name)
        (map (λ (r : LexerRule). r.name) (token_rules L) ++ declared_names (joined L P))
    name_means name =
        ap (position (has_name name)) (joined_kinds L P own named)
        ∙ position_agrees (has_name name) (λ other. same_text other name)
        (map (moved (length P.rules)) (written_kinds 0 L.rules) ++ map declared_kind (declared_names (joined L P)))
        (map (λ (r : LexerRule). r.name) (token_rules L) ++ declared_names (joined L P))
        (named_written name (length P.rules) 0 L.rules (declared_names (joined L P)))

    at_kind : (t : List ℕ) (o : Option ℕ) → of_rule (λ place. position (is_written_at place) (kinds_of (joined L P))) (past (length P.rules) o) ≡ of_rule
        (kind_at t (length P.rules) (declared_names (joined L P)) 0 L.rules) o
    at_kind t None = refl
    at_kind t (Some j) =
        let same : length P.rules + j ≡ length P.rules + (0 + j) = omega arith in
        ap (position (is_written_at (length P.rules + j))) (joined_kinds L P own named)
        ∙ ap (λ n. position (is_written_at n) (map (moved (length P.rules)) (written_kinds 0 L.rules) ++ map declared_kind (declared_names (joined L P)))) same

    literal_means : (t : List ℕ) → literal_kind (joined L P) t ≡ position (is_just_rule t) (token_rules L)
    literal_means t =
        ap (λ o. option_map_or (λ place. position (is_written_at place) (kinds_of (joined L P))) (position (is_named_by t) (P.rules ++ L.rules)) o)
        (ap (position (is_implicit t)) (joined_kinds L P own named) ∙ not_implicit t (length P.rules) 0 L.rules (declared_names (joined L P)))
        ∙ ap (of_rule (λ place. position (is_written_at place) (kinds_of (joined L P)))) (named_past t P.rules L.rules (no_lexer_rules L P own))
        ∙ at_kind t (position (is_named_by t) L.rules)
        ∙ literal_rule t (length P.rules) (declared_names (joined L P)) 0 L.rules

    pub are_as_written : (lexer parser : List ℕ) → IsLexerText lexer L → IsParserText parser P → RulesAreAsWritten lexer parser (joined L P)
    are_as_written lexer parser lt pt = record {
      lexer_grammar = L;
      parser_grammar = P;
      lexer_text = lt;
      parser_text = pt;
      rules = parser_rules_same L P own;
      derives = rules_derive;
      numbers = λ name. ap (position (λ (r : ParserRule). same_text r.name name)) (parser_rules_same L P own);
      tokens = name_means;
      literals = literal_means;
    }
