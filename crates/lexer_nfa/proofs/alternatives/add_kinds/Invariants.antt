use Rattle.std.proofs.Common.{◌<◌, ◌↔◌, ℕ, List}
use Rattle.grammar_tree.specs.Lexes.{KindMatches}
use Rattle.lexer_match.specs.Alternatives.{HasAlternative, IsNfa}
use Rattle.lexer_nfa.specs.inner.GrammarNfa.{KindsAreUpTo}
use Rattle.lexer_nfa.proofs.alternatives.add_kinds.Given as goal

abbrev pub invariant-loop-i : goal.invariant-loop-i
invariant-loop-i l = record {
  nfa : IsNfa l.states.items l.alternatives.items;
  exact : (k : ℕ) (w : List ℕ) → HasAlternative l.states.items l.alternatives.items k w ↔ ((k < l.i) × KindMatches l.checked.grammar k w);
  order : KindsAreUpTo l.alternatives.items l.i;
}
