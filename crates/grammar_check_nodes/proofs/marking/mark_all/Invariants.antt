use Rattle.std.proofs.Common.{◌≡◌, ℕ, ◌<◌, true, false, not, count_by, vec_len}
use Rattle.grammar_check_nodes.specs.Marking.{IsClosedAt, IsMarked}
use Rattle.grammar_check_nodes.proofs.marking.mark_all.Given as goal

abbrev pub invariant-loop-node : goal.invariant-loop-node
invariant-loop-node g l = record {
  table : vec_len l.flags ≡ vec_len l.initial.flags;
  marked : IsMarked (g.T.Test.test l.test) l.initial.flags.items → IsMarked (g.T.Test.test l.test) l.flags.items;
  fewer : l.changed ≡ true → count_by not l.flags.items < count_by not l.initial.flags.items;
  same : l.changed ≡ false → l.flags.items ≡ l.initial.flags.items;
  closed : l.changed ≡ false → (node : ℕ) → node < l.node → IsClosedAt (g.T.Test.test l.test) l.flags.items node;
}
