use Rattle.std.proofs.Common.{◌≡◌}
use Rattle.syntax_tree.specs.Trees.{PlainTrees, count}
use Rattle.syntax_tree.specs.inner.Nodes.{HaveAfters}
use Rattle.syntax_tree.proofs.Afters.{IsAfterSome}
use Rattle.syntax_tree.proofs.tree.after_children.Given as goal

abbrev pub invariant-loop-i : goal.invariant-loop-i
invariant-loop-i l = (ts : PlainTrees) → count ts ≡ l.children → HaveAfters l.after l.first ts → IsAfterSome l.after l.i l.first l.number ts
