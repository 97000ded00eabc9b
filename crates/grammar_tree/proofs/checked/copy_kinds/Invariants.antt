use Rattle.std.proofs.Common.{◌≡◌, map, take}
use Rattle.grammar_tree.specs.GrammarView.{kind_of}
use Rattle.grammar_tree.proofs.checked.copy_kinds.Given as goal

abbrev pub invariant-loop-kind : goal.invariant-loop-kind
invariant-loop-kind l = map kind_of l.copies.items ≡ map kind_of (take l.kind-index l.kinds)
