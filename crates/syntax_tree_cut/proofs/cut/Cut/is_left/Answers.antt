use Rattle.std.proofs.Common.{length, sym, ap, ◌∙◌, arith}
use Rattle.std.proofs.lemmas.Bool.{false≢true}
use Rattle.syntax_tree_cut.specs.Cuts.{CutForm}
use Rattle.syntax_tree_cut.proofs.CutFacts.{nodes_count}
use Rattle.syntax_tree_cut.proofs.Questions.{left_number}
use Rattle.syntax_tree_cut.proofs.cut.Cut.is_left.Goals as goal

pub returns-then-node-nodes : goal.returns-then-node-nodes
returns-then-node-nodes c = (
  λ t. absurd (false≢true t),
  λ is. absurd (
      let lt = left_number c.args.tree.now c.tree_laws.ensures c.nodes-nodes.ensures.whole c.args.self.now c.requires c.args.node is in
      let same = ap length c.nodes-nodes.ensures.nodes in
      let end = c.if-node-nodes.true in
      omega (arith, lt, same, end)),
)

pub leads_to-requires-clause-marks : goal.leads_to-requires-clause-marks
leads_to-requires-clause-marks c =
    ap length (c.as_slice.ensures.value ∙ ap (λ (f : CutForm). f.marks) c.self.view_is) ∙ c.requires.for_each
    ∙ sym (nodes_count c.args.tree.now c.tree_laws.ensures c.nodes-nodes.ensures.whole)
