use Rattle.std.proofs.Common.{List, length, sym, ap, ◌∙◌, subst}
use Rattle.std.specs.Prelude.{◌↔◌, IsSome, IsTrue}
use Rattle.std.specs.Option.{option_and_then}
use Rattle.std.proofs.lemmas.Bool.{false≢true}
use Rattle.syntax_tree.specs.Numbered.{subtree}
use Rattle.syntax_tree.specs.Nodes.{whole}
use Rattle.syntax_tree_cut.specs.declared.mark.Mark.{Mark}
use Rattle.syntax_tree_cut.specs.Cuts.{CutForm, left_at}
use Rattle.syntax_tree_cut.proofs.CutFacts.{facts_of, nodes_count}
use Rattle.syntax_tree_cut.proofs.Questions.{below_is, not_below_itself, through}
use Rattle.syntax_tree_cut.proofs.cut.Cut.has_below.Goals as goal

pub returns-then-by-node : goal.returns-then-by-node
returns-then-by-node c = (
  λ t. absurd (false≢true t),
  λ has. absurd (not_below_itself c.args.tree.now c.tree_laws.ensures c.nodes-nodes.ensures.whole c.args.self.now c.requires.of c.args.node c.args.by
      c.if-by-node.true has),
)

pub leads_to-requires-clause-from : goal.leads_to-requires-clause-from
leads_to-requires-clause-from c =
    (facts_of c.args.tree.now c.tree_laws.ensures c.nodes-nodes.ensures.whole c.args.self.now c.requires.of c.args.node c.requires.left).2.node

pub leads_to-requires-clause-marks : goal.leads_to-requires-clause-marks
leads_to-requires-clause-marks c =
    ap length (c.as_slice.ensures.value ∙ ap (λ (f : CutForm). f.marks) c.self.view_is) ∙ c.requires.of.for_each
    ∙ sym (nodes_count c.args.tree.now c.tree_laws.ensures c.nodes-nodes.ensures.whole)

pub returns : goal.returns
returns c =
    let it = facts_of c.args.tree.now c.tree_laws.ensures c.nodes-nodes.ensures.whole c.args.self.now c.requires.of c.args.node c.requires.left in
    let led =
    subst (λ (l : List Mark). IsTrue c.leads_to.result ↔ IsSome (option_and_then (subtree c.args.by) (left_at l c.args.node (whole c.args.tree.now))))
    (c.as_slice.ensures.value ∙ ap (λ (f : CutForm). f.marks) c.self.view_is) c.leads_to.ensures in
    through led (below_is c.args.tree.now c.tree_laws.ensures c.nodes-nodes.ensures.whole c.args.self.now c.requires.of c.args.node c.args.by it.0 it.1
    c.if-by-node.false)
