use Rattle.std.proofs.Common.{map, take}
use Rattle.std.specs.Prelude.{position}
use Rattle.grammar_tree.specs.GrammarView.{kind_of, rule_of}
use Rattle.grammar_names.specs.Index.{Finds}
use Rattle.grammar_names.specs.inner.Names.{can_stand_for}
use Rattle.grammar_names.proofs.names.literal_index.Given as goal

abbrev pub invariant-loop-number : goal.invariant-loop-number
invariant-loop-number l = Finds l.index (λ t. position (λ kind. can_stand_for (map rule_of l.rules) kind t) (map kind_of (take l.number l.kinds)))
