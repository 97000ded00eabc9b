-- What is known of the lexer rules of a checked grammar.
use Rattle.std.proofs.Common.{◌≡◌, inr, ℕ, List, map, sym, ap, ◌∙◌}
use Rattle.grammar_tree.specs.Written.{WrittenRule, WrittenGrammar}
use Rattle.grammar_tree.specs.Faults.{IsWellFormed}
use Rattle.grammar_tree.specs.GrammarView.{grammar_of, rule_of}
use Rattle.grammar_tree.specs.declared.rule.Grammar.{Grammar}
use Rattle.grammar_tree.specs.declared.rule.Rule.{Rule}
use Rattle.grammar_tree.proofs.Lent.{well_formed_names}
use Rattle.lexer_nfa.specs.inner.Names.{HaveNoLoops, HaveOneName}
use Rattle.lexer_nfa.proofs.Compiled.{lexer_from}

module _ (G : WrittenGrammar) (start : ℕ) (W : IsWellFormed G start) where
  pub has_no_loops : HaveNoLoops G.rules
  has_no_loops rule c h = let (i, at) = lexer_from G.rules rule c in W.no_empty_loop i (inr (rule, at, h))

  pub has_one_name : HaveOneName G.rules
  has_one_name i j a b at there e = (well_formed_names G start W).one_rule i j (WrittenRule.lexer_rule a) (WrittenRule.lexer_rule b) at there e

-- the rules of the grammar, as they were lent
pub rules_are : (G : WrittenGrammar) (grammar : Grammar) (lent : List Rule) → grammar_of grammar ≡ G → lent ≡ grammar.rules.items → G.rules ≡ map rule_of lent
rules_are G grammar lent e f = sym (ap (λ x. map rule_of x) f ∙ ap (λ (g : WrittenGrammar). g.rules) e)
