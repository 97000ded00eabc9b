use Rattle.std.proofs.Common.{ℕ}
use Rattle.syntax_tree.specs.Trees.{PlainTree}
use Rattle.syntax_tree.specs.Nodes.{AreNodesOf, SyntaxTree, whole}
use Rattle.syntax_tree_cut.specs.Cuts.{CanDelete, CutForm, IsCutOf, cut_tree}
use Rattle.syntax_tree_cut.specs.inner.TreeLaws.{TreeLaws}
use Rattle.syntax_tree_cut.proofs.CutFacts.{NodeFacts, node_facts}
use Rattle.syntax_tree_cut.proofs.CutCalls.{child_left, element_deleted}
use Rattle.syntax_tree_cut.proofs.cut.Cut.delete_element.Goals as goal

element_facts : (tree : SyntaxTree) (laws : TreeLaws) (are : AreNodesOf tree.form tree.start tree.nodes (whole tree)) (c : CutForm) (of : IsCutOf tree c)
    (list element : ℕ) → CanDelete tree.form (cut_tree tree c) list element → (u : PlainTree) × NodeFacts tree c element u
element_facts tree laws are c of list element can =
    let it = child_left tree laws are c of list element can.rule can.alt can.elements can.node can.is_element in
    (it.0, node_facts tree laws are c of element it.0 it.1)

pub delete-requires-clause-mark : goal.delete-requires-clause-mark
delete-requires-clause-mark c =
    (element_facts c.args.tree.now c.tree_laws.ensures c.nodes-nodes.ensures.whole c.args.self.now c.requires.of c.args.list c.args.element
    c.requires.can).1.mark

pub delete-requires-clause-node : goal.delete-requires-clause-node
delete-requires-clause-node c =
    (element_facts c.args.tree.now c.tree_laws.ensures c.nodes-nodes.ensures.whole c.args.self.now c.requires.of c.args.list c.args.element
    c.requires.can).1.node

pub delete-requires-clause-rising : goal.delete-requires-clause-rising
delete-requires-clause-rising c =
    (element_facts c.args.tree.now c.tree_laws.ensures c.nodes-nodes.ensures.whole c.args.self.now c.requires.of c.args.list c.args.element
    c.requires.can).1.rising

pub delete-requires-clause-span : goal.delete-requires-clause-span
delete-requires-clause-span c =
    (element_facts c.args.tree.now c.tree_laws.ensures c.nodes-nodes.ensures.whole c.args.self.now c.requires.of c.args.list c.args.element
    c.requires.can).1.span

pub returns-clause-tree : goal.returns-clause-tree
returns-clause-tree c =
    (element_deleted c.args.tree.now c.tree_laws.ensures c.nodes-nodes.ensures.whole c.args.self.now c.requires.of c.delete.new.self c.args.list c.args.element
    c.requires.can c.delete.ensures).0

pub returns-clause-of : goal.returns-clause-of
returns-clause-of c =
    (element_deleted c.args.tree.now c.tree_laws.ensures c.nodes-nodes.ensures.whole c.args.self.now c.requires.of c.delete.new.self c.args.list c.args.element
    c.requires.can c.delete.ensures).1
