-- What names and literals stand for in a well-formed grammar.
use Rattle.std.proofs.Common.{◌≡◌, ◌⊎◌, inl, inr, ℕ, zero, suc, ◌+◌, ◌<◌, Bool, true, false, not, cond, List, [], ◌∷◌}
use Rattle.std.proofs.Common.{Some, None, length, slice_get, slice_index_or, refl, ap, ◌∙◌, arith}
use Rattle.std.specs.Prelude.{nat_lt}
use Rattle.std.specs.List.{Contains, position, position_or_len}
use Rattle.std.proofs.lemmas.Bool.{cases_Bool, lt-ltb}
use Rattle.std.proofs.lemmas.List.Sums.{position_or_len_is}
use Rattle.std.proofs.lemmas.Option.{same_Some, slice_get-get_or, slice_get_within, get_or_from_slice_get}
use Rattle.std.proofs.lemmas.Slice.Eq.{bytes_eq-Decides}
use Rattle.grammar_tree.specs.Written.{ParserRule, WrittenRule, WrittenGrammar}
use Rattle.grammar_tree.specs.Kinds.{parser_rules, rule_number, same_text}
use Rattle.grammar_tree.specs.Faults.{TwoRules, number_at}
use Rattle.grammar_tree.proofs.Places.{at_of_contains, numbers, one_name, place_of}

-- a place that passes where none before it does is the first
first_place : {X : Type 0} (p : X → Bool) (xs : List X) (k : ℕ) (d : X) → k < length xs → p (slice_index_or xs k d) ≡ true
    → ((j : ℕ) → j < k → p (slice_index_or xs j d) ≡ false) → position p xs ≡ Some k
first_place p xs k d lt here none =
    let is : position_or_len p xs ≡ k = position_or_len_is p xs k d (omega arith) none (λ _. here) in
    ap (λ n. cond (nat_lt n (length xs)) (Some n) None) is ∙ ap (λ b. cond b (Some k) None) (lt-ltb k (length xs) lt)

module _ (G : WrittenGrammar) (one : (name : List ℕ) → ¬ TwoRules G name) where
  abbrev rule_or : ℕ → ParserRule → ParserRule
  rule_or j d = slice_index_or (parser_rules G.rules) j d

  -- no lesser number has the name
  number_once : (i : ℕ) (rule : ParserRule) → slice_get G.rules i ≡ Some (WrittenRule.parser_rule rule) → (j : ℕ) → j < number_at G i
      → j < length (parser_rules G.rules) → same_text (rule_or j rule).name rule.name ≡ true → ⊥
  number_once i rule e j lt within same =
      let it = place_of G.rules j (rule_or j rule) (slice_get-get_or (parser_rules G.rules) j rule within) in
      let names = (bytes_eq-Decides (rule_or j rule).name rule.name).0 same in
      let place : it.0 ≡ i = one_name G one it.0 i (WrittenRule.parser_rule (rule_or j rule)) (WrittenRule.parser_rule rule) it.2 e names in
      omega (arith, lt, it.1, ap (number_at G) place)

  other : (i : ℕ) (rule : ParserRule) → slice_get G.rules i ≡ Some (WrittenRule.parser_rule rule) → (j : ℕ) → j < number_at G i
      → j < length (parser_rules G.rules) →
      (same_text (rule_or j rule).name rule.name ≡ true) ⊎ (same_text (rule_or j rule).name rule.name ≡ false)
      → same_text (rule_or j rule).name rule.name ≡ false
  other i rule e j lt within (inl same) = absurd (number_once i rule e j lt within same)
  other i rule e j lt within (inr differ) = differ

  pub number_of : (i : ℕ) (rule : ParserRule) → slice_get G.rules i ≡ Some (WrittenRule.parser_rule rule) → rule_number G rule.name ≡ Some (number_at G i)
  number_of i rule e =
      let rules = parser_rules G.rules in
      let test : ParserRule → Bool = λ r. same_text r.name rule.name in
      let at = (numbers G).rule i rule e in
      let within : number_at G i < length rules = slice_get_within rules (number_at G i) rule at in
      let is : rule_or (number_at G i) rule ≡ rule = get_or_from_slice_get rules (number_at G i) rule rule at in
      first_place test rules (number_at G i) rule within (ap test is ∙ (bytes_eq-Decides rule.name rule.name).1 refl)
      (λ j lt. other i rule e j lt (omega arith) (cases_Bool (test (rule_or j rule))))

-- where an element passes, a first one does
passes_somewhere : {X : Type 0} (p : X → Bool) (xs : List X) (k : ℕ) (x : X) → slice_get xs k ≡ Some x → p x ≡ true → position_or_len p xs < length xs
passes_somewhere p [] k x e h = absurd cc
passes_somewhere p (y ∷ xs) zero x e h =
    let same : p y ≡ true = ap p (same_Some y x e) ∙ h in
    let none : ◌≡◌ {A = ℕ} (position_or_len p (y ∷ xs)) 0 = ap (λ b. cond (not b) (1 + position_or_len p xs) 0) same in
    omega (arith, none)
passes_somewhere p (y ∷ xs) (suc k) x e h = further (p y) (position_or_len p xs) (length xs) (passes_somewhere p xs k x e h)
  where
    further : (b : Bool) (m n : ℕ) → m < n → cond (not b) (1 + m) 0 < suc n
    further true m n lt = omega arith
    further false m n lt = omega arith

pub some_position : {X : Type 0} (p : X → Bool) (xs : List X) (x : X) → Contains xs x → p x ≡ true → (k : ℕ) × (position p xs ≡ Some k)
some_position p xs x c h =
    let at = at_of_contains xs x c in
    let lt = passes_somewhere p xs at.0 x at.1 h in
    (position_or_len p xs, ap (λ b. cond b (Some (position_or_len p xs)) None) (lt-ltb (position_or_len p xs) (length xs) lt))
