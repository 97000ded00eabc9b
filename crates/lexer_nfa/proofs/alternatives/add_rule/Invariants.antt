use Rattle.std.proofs.Common.{◌≡◌, ◌⊎◌, ◌↔◌, ℕ, List, map, take}
use Rattle.grammar_tree.specs.GrammarView.{rule_of}
use Rattle.grammar_tree.specs.Kinds.{lexer_rules}
use Rattle.grammar_tree.specs.Matches.{MatchesRule}
use Rattle.grammar_tree.specs.View.{lex_terms}
use Rattle.grammar_tree.specs.Written.{lexer_alts}
use Rattle.grammar_tree.specs.declared.lex_term.LexAlts.{out-LexAlts}
use Rattle.lexer_match.specs.Alternatives.{HasAlternative, IsNfa}
use Rattle.lexer_nfa.specs.inner.GrammarNfa.{KindsAreUpTo}
use Rattle.lexer_nfa.proofs.alternatives.add_rule.Given as goal

abbrev pub invariant-loop-i : goal.invariant-loop-i
invariant-loop-i l = record {
  nfa : IsNfa l.states.items l.alternatives.items;
  added : (k : ℕ) (w : List ℕ) → HasAlternative l.states.items l.alternatives.items k w
      ↔ (HasAlternative l.initial.states.items l.initial.alternatives.items k w
      ⊎ ((k ≡ l.kind) × MatchesRule (lexer_rules (map rule_of l.names.rules.now)) (lexer_alts (map lex_terms (take l.i (out-LexAlts l.alts).items.items))) w));
  order : KindsAreUpTo l.initial.alternatives.items l.kind → KindsAreUpTo l.alternatives.items l.kind;
}
