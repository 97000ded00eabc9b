use Rattle.std.proofs.Common.{map, take}
use Rattle.grammar_tree.specs.GrammarView.{rule_of}
use Rattle.grammar_names.specs.Index.{Finds}
use Rattle.lexer_nfa.specs.inner.Names.{rule_index}
use Rattle.lexer_nfa.proofs.names.indexes_of.Given as goal

abbrev pub invariant-loop-index : goal.invariant-loop-index
invariant-loop-index l = Finds l.indexes (rule_index (map rule_of (take l.index l.rules)))
