use Rattle.std.proofs.Common.{◌≡◌, vec_len}
use Rattle.grammar_check_nodes.specs.Marking.{IsMarked}
use Rattle.grammar_check_nodes.proofs.marking.mark_in_order.Given as goal

abbrev pub invariant-loop-node : goal.invariant-loop-node
invariant-loop-node g l =
    (vec_len l.flags ≡ vec_len l.initial.flags) × (IsMarked (g.T.Test.test l.test) l.initial.flags.items → IsMarked (g.T.Test.test l.test) l.flags.items)
