use Rattle.std.proofs.Common.{◌≤◌, ◌-◌, ◌^◌, map}
use Rattle.grammar_tree.specs.GrammarView.{rule_of}
use Rattle.lexer_nfa.specs.inner.Compile.{AreExpanded}
use Rattle.lexer_nfa.proofs.compile.expand_all.Given as goal

abbrev pub invariant-loop-number : goal.invariant-loop-number
invariant-loop-number l = record {
  from : l.first ≤ l.number;
  expanded : AreExpanded (map rule_of l.names.rules.now) l.initial.states.items l.states.items l.first l.number;
}

abbrev pub decreases-loop-number : goal.decreases-loop-number
decreases-loop-number l = 2 ^ 63 - l.number
