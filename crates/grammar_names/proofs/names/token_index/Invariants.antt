use Rattle.std.proofs.Common.{map, take}
use Rattle.std.specs.Prelude.{position}
use Rattle.grammar_tree.specs.GrammarView.{kind_of}
use Rattle.grammar_tree.specs.Kinds.{has_name}
use Rattle.grammar_names.specs.Index.{Finds}
use Rattle.grammar_names.proofs.names.token_index.Given as goal

abbrev pub invariant-loop-number : goal.invariant-loop-number
invariant-loop-number l = Finds l.index (λ n. position (has_name n) (map kind_of (take l.number l.kinds)))
