use Rattle.std.proofs.Common.{◌≡◌, length}
use Rattle.syntax_tree.specs.Nodes.{whole_of}
use Rattle.syntax_tree.proofs.Afters.{AreAftersFrom}
use Rattle.syntax_tree.proofs.tree.afters.Given as goal

abbrev pub invariant-loop-number : goal.invariant-loop-number
invariant-loop-number l = record {
  long : length l.after.items ≡ length l.nodes;
  are : AreAftersFrom l.after.items l.number (whole_of l.nodes);
}
