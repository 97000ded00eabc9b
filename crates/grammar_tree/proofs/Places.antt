-- Where the rules of a grammar stand.
use Rattle.std.proofs.Common.{◌≡◌, inl, inr, ℕ, zero, suc, ◌<◌, ◌≤◌, Bool, true, cond, List, [], ◌∷◌, Some, map}
use Rattle.std.proofs.Common.{take, length, slice_get, slice_index_or, refl, ap, ◌∙◌, arith}
use Rattle.std.specs.List.{Contains, count_by}
use Rattle.std.proofs.lemmas.Bool.{cases_order}
use Rattle.std.proofs.lemmas.List.Sums.{sum_by-cons}
use Rattle.std.proofs.lemmas.Option.{same_Some, slice_get-get_or, slice_get_within, get_or_from_slice_get}
use Rattle.std.proofs.lemmas.Slice.Eq.{bytes_eq-Decides}
use Rattle.std.proofs.lemmas.List.Quantifiers.{position-Some}
use Rattle.grammar_tree.specs.Written.{ParserRule, LexerRule, WrittenAlts, WrittenRule, WrittenGrammar}
use Rattle.grammar_tree.specs.Kinds.{lexer_rules, parser_rules, rule_name, rule_number, same_text}
use Rattle.grammar_tree.specs.Derives.{resolved_alts}
use Rattle.grammar_tree.specs.Faults.{TwoRules, number_at}
use Rattle.grammar_tree.specs.Places.{LexerRulesHavePlaces, PlacesHaveNumbers}

-- an element of a list, by its place
pub contains_at : {X : Type 0} (xs : List X) (k : ℕ) (x : X) → slice_get xs k ≡ Some x → Contains xs x
contains_at xs k x e = (k, slice_get_within xs k x e, get_or_from_slice_get xs k x x e)

pub at_of_contains : {X : Type 0} (xs : List X) (x : X) → Contains xs x → (k : ℕ) × (slice_get xs k ≡ Some x)
at_of_contains xs x (k, lt, e) = (k, slice_get-get_or xs k x lt ∙ ap Some e)

pub contains_later : {X : Type 0} (y : X) (xs : List X) (x : X) → Contains xs x → Contains (y ∷ xs) x
contains_later y xs x (k, lt, e) = (suc k, omega arith, e)

-- the number of rules before a place
abbrev pub before : List WrittenRule → ℕ → ℕ
before rules i = length (parser_rules (take i rules))

rule_at : (rules : List WrittenRule) (i : ℕ) (rule : ParserRule) → slice_get rules i ≡ Some (WrittenRule.parser_rule rule)
    → slice_get (parser_rules rules) (before rules i) ≡ Some rule
rule_at [] i rule e = absurd cc
rule_at (WrittenRule.parser_rule r ∷ rules) zero rule e = cc
rule_at (WrittenRule.lexer_rule r ∷ rules) zero rule e = absurd cc
rule_at (WrittenRule.parser_rule r ∷ rules) (suc i) rule e = rule_at rules i rule e
rule_at (WrittenRule.lexer_rule r ∷ rules) (suc i) rule e = rule_at rules i rule e

pub place_of : (rules : List WrittenRule) (r : ℕ) (rule : ParserRule) → slice_get (parser_rules rules) r ≡ Some rule → (i : ℕ) × (before rules i ≡ r)
    × (slice_get rules i ≡ Some (WrittenRule.parser_rule rule))
place_of [] r rule e = absurd cc
place_of (WrittenRule.parser_rule p ∷ rules) zero rule e = (0, refl, cc)
place_of (WrittenRule.parser_rule p ∷ rules) (suc r) rule e = let it = place_of rules r rule e in (suc it.0, ap suc it.1, it.2)
place_of (WrittenRule.lexer_rule p ∷ rules) r rule e = let it = place_of rules r rule e in (suc it.0, it.1, it.2)

one_place : (rules : List WrittenRule) (i j : ℕ) (a b : ParserRule) → slice_get rules i ≡ Some (WrittenRule.parser_rule a)
    → slice_get rules j ≡ Some (WrittenRule.parser_rule b) → before rules i ≡ before rules j → i ≡ j
one_place [] i j a b p q e = absurd cc
one_place (WrittenRule.parser_rule r ∷ rules) zero zero a b p q e = refl
one_place (WrittenRule.parser_rule r ∷ rules) zero (suc j) a b p q e = absurd (omega (arith, e))
one_place (WrittenRule.parser_rule r ∷ rules) (suc i) zero a b p q e = absurd (omega (arith, e))
one_place (WrittenRule.parser_rule r ∷ rules) (suc i) (suc j) a b p q e = ap suc (one_place rules i j a b p q (omega (arith, e)))
one_place (WrittenRule.lexer_rule r ∷ rules) zero j a b p q e = absurd cc
one_place (WrittenRule.lexer_rule r ∷ rules) (suc i) zero a b p q e = absurd cc
one_place (WrittenRule.lexer_rule r ∷ rules) (suc i) (suc j) a b p q e = ap suc (one_place rules i j a b p q e)

mapped : {X Y : Type 0} (f : X → Y) (xs : List X) (k : ℕ) (y : Y) → slice_get (map f xs) k ≡ Some y → (x : X) × (slice_get xs k ≡ Some x) × (f x ≡ y)
mapped f [] k y e = absurd cc
mapped f (x ∷ xs) zero y e = (x, refl, same_Some (f x) y e)
mapped f (x ∷ xs) (suc k) y e = mapped f xs k y e

map_at : {X Y : Type 0} (f : X → Y) (xs : List X) (k : ℕ) (x : X) → slice_get xs k ≡ Some x → slice_get (map f xs) k ≡ Some (f x)
map_at f [] k x e = absurd cc
map_at f (y ∷ xs) zero x e = cc
map_at f (y ∷ xs) (suc k) x e = map_at f xs k x e

named : (G : WrittenGrammar) (name : List ℕ) (r : ℕ) → rule_number G name ≡ Some r → (rule : ParserRule) × (slice_get (parser_rules G.rules) r ≡ Some rule)
    × (rule.name ≡ name)
named G name r e =
    let rules = parser_rules G.rules in
    let none : ParserRule = record { name = []; alts = WrittenAlts.none } in
    let found = position-Some (λ (rule : ParserRule). same_text rule.name name) rules r none e in
    (slice_index_or rules r none, slice_get-get_or rules r none found.0, (bytes_eq-Decides (slice_index_or rules r none).name name).0 found.1)

pub numbers : (G : WrittenGrammar) → PlacesHaveNumbers G
numbers G =
    record {
      rule = rule_at G.rules;
      body = λ i rule e. map_at (λ (r : ParserRule). resolved_alts G r.alts) (parser_rules G.rules) (number_at G i) rule (rule_at G.rules i rule e);
      place = λ r body e.
          let it = mapped (λ (r : ParserRule). resolved_alts G r.alts) (parser_rules G.rules) r body e in
          let at = place_of G.rules r it.0 it.1 in
          (at.0, at.1, (it.0, at.2, it.2));
      named = named G;
      one = one_place G.rules;
    }

pub lexer_place : (rules : List WrittenRule) (r : ℕ) (rule : LexerRule) → slice_get (lexer_rules rules) r ≡ Some rule → (i : ℕ)
    × (slice_get rules i ≡ Some (WrittenRule.lexer_rule rule))
lexer_place [] r rule e = absurd cc
lexer_place (WrittenRule.lexer_rule p ∷ rules) zero rule e = (0, cc)
lexer_place (WrittenRule.lexer_rule p ∷ rules) (suc r) rule e = let it = lexer_place rules r rule e in (suc it.0, it.1)
lexer_place (WrittenRule.parser_rule p ∷ rules) r rule e = let it = lexer_place rules r rule e in (suc it.0, it.1)

pub lexer_places : LexerRulesHavePlaces
lexer_places G rule c = let it = at_of_contains (lexer_rules G.rules) rule c in lexer_place G.rules it.0 rule it.1

-- the first place that passes, where one passes
passes_once : {X : Type 0} (p : X → Bool) (xs : List X) (k : ℕ) (x : X) → slice_get xs k ≡ Some x → p x ≡ true → 1 ≤ count_by p xs
passes_once p [] k x e h = absurd cc
passes_once p (y ∷ xs) zero x e h =
    let same : y ≡ x = same_Some y x e in
    let one : ◌≡◌ {A = ℕ} (cond (p y) 1 0) 1 = ap (λ z. cond (p z) 1 0) same ∙ ap (λ b. cond b 1 0) h in
    omega (arith, sum_by-cons (λ z. cond (p z) 1 0) y xs, one)
passes_once p (y ∷ xs) (suc k) x e h = omega (arith, sum_by-cons (λ z. cond (p z) 1 0) y xs, passes_once p xs k x e h)

pub passes_twice : {X : Type 0} (p : X → Bool) (xs : List X) (i j : ℕ) (a b : X) → i < j → slice_get xs i ≡ Some a → slice_get xs j ≡ Some b → p a ≡ true
    → p b ≡ true → 2 ≤ count_by p xs
passes_twice p [] i j a b lt e f g h = absurd cc
passes_twice p (y ∷ xs) i zero a b lt e f g h = absurd (omega (arith, lt))
passes_twice p (y ∷ xs) zero (suc j) a b lt e f g h =
    let same : y ≡ a = same_Some y a e in
    let one : ◌≡◌ {A = ℕ} (cond (p y) 1 0) 1 = ap (λ z. cond (p z) 1 0) same ∙ ap (λ b. cond b 1 0) g in
    omega (arith, sum_by-cons (λ z. cond (p z) 1 0) y xs, one, passes_once p xs j b f h)
passes_twice p (y ∷ xs) (suc i) (suc j) a b lt e f g h = omega (arith, sum_by-cons (λ z. cond (p z) 1 0) y xs, passes_twice p xs i j a b (omega arith) e f g h)

same_is : (a b : List ℕ) → a ≡ b → same_text a b ≡ true
same_is a b = (bytes_eq-Decides a b).1

-- Two places with one name make two rules of this name.
pub one_name : (G : WrittenGrammar) → ((name : List ℕ) → ¬ TwoRules G name) → (i j : ℕ) (a b : WrittenRule) → slice_get G.rules i ≡ Some a
    → slice_get G.rules j ≡ Some b → rule_name a ≡ rule_name b → i ≡ j
one_name G one i j a b p q e =
    let test : WrittenRule → Bool = λ rule. same_text (rule_name rule) (rule_name b) in
    let left : same_text (rule_name a) (rule_name b) ≡ true = same_is (rule_name a) (rule_name b) e in
    let right : same_text (rule_name b) (rule_name b) ≡ true = same_is (rule_name b) (rule_name b) refl in
    elim (cases_order i j) [
      | inl same ↦ same
      | inr (inl lt) ↦ absurd (one (rule_name b) (passes_twice test G.rules i j a b lt p q left right))
      | inr (inr lt) ↦ absurd (one (rule_name b) (passes_twice test G.rules j i b a lt q p right left))
    ]
