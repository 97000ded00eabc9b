use Rattle.std.proofs.Common.{◌≡◌, take}
use Rattle.grammar_names.specs.KindLists.{lacking}
use Rattle.grammar_names.proofs.kinds.without.Given as goal

abbrev pub invariant-loop-kind : goal.invariant-loop-kind
invariant-loop-kind l = l.others.items ≡ lacking (take l.kind-index l.kinds) l.left_out
