-- The name of the rule at the first index of a fault.
use Rattle.std.proofs.Common.{◌≡◌, inl, inr, ℕ, List, Option, Some, None, sym, ap, ◌∙◌, slice_get, subst}
use Rattle.std.specs.Prelude.{option_map}
use Rattle.std.proofs.lemmas.Option.{none-some}
use Rattle.grammar_tree.specs.Faults.{EmptyLoop, EmptyToken, EofPlace, FragmentLoop, LeftRecursion, NoBase, ShortUse}
use Rattle.grammar_tree.specs.Kinds.{rule_name}
use Rattle.grammar_tree.specs.Written.{WrittenRule, WrittenGrammar}
use Rattle.grammar_check_faults.specs.Answer.{IsNamedOrNone, name_at}
use Rattle.grammar_check_nodes.specs.First.{IsFirstOrNone}
use Rattle.grammar_check_faults.specs.Twins.{IsTwinAt}

-- The fact holds only where there is a rule.
abbrev pub HasRules : WrittenGrammar → (ℕ → Type 0) → Type 0
HasRules G P = (i : ℕ) → P i → (rule : WrittenRule) × (slice_get G.rules i ≡ Some rule)

module _ (G : WrittenGrammar) (P : ℕ → Type 0) (rules : HasRules G P) where
  pub named_first : (o : Option ℕ) (name : Option (List ℕ)) → name ≡ name_at G o → IsFirstOrNone P o → IsNamedOrNone G P name
  named_first None None e h = h
  named_first None (Some name) e h = absurd (none-some name (sym e))
  named_first (Some i) (Some name) e h = record { index = i; first = h; named = sym e }
  named_first (Some i) None e h = let it = rules i h.holds in absurd (none-some (rule_name it.0) (e ∙ ap (option_map rule_name) it.1))

pub with_name : (G : WrittenGrammar) (P : ℕ → Type 0) (name is : Option (List ℕ)) → name ≡ is → IsNamedOrNone G P name → IsNamedOrNone G P is
with_name G P name is e h = let Q : Option (List ℕ) → Type 0 = λ n. IsNamedOrNone G P n in subst Q e h

module _ (G : WrittenGrammar) where
  pub twins_are_rules : HasRules G (IsTwinAt G)
  twins_are_rules i p = (p.0, p.1)

  pub eof_in_rules : (start : ℕ) → HasRules G (EofPlace G start)
  eof_in_rules start i p = (WrittenRule.parser_rule p.0, p.1)

  pub loops_are_rules : HasRules G (FragmentLoop G)
  loops_are_rules i p = (WrittenRule.lexer_rule p.0, p.1)

  pub shorts_are_rules : HasRules G (ShortUse G)
  shorts_are_rules i p = (WrittenRule.lexer_rule p.0, p.1)

  pub tokens_are_rules : HasRules G (EmptyToken G)
  tokens_are_rules i p = (WrittenRule.lexer_rule p.0, p.1)

  pub baseless_are_rules : HasRules G (NoBase G)
  baseless_are_rules i p = (WrittenRule.parser_rule p.0, p.1)

  pub empty_loops_in_rules : HasRules G (EmptyLoop G)
  empty_loops_in_rules i (inl p) = (WrittenRule.parser_rule p.0, p.1)
  empty_loops_in_rules i (inr p) = (WrittenRule.lexer_rule p.0, p.1)

  pub recursive_are_rules : HasRules G (LeftRecursion G)
  recursive_are_rules i p = (WrittenRule.parser_rule p.0, p.1)
