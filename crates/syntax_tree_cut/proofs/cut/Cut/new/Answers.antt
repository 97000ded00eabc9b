use Rattle.std.proofs.Common.{◌≡◌, ℕ, List, length, replicate, ap, ◌∙◌}
use Rattle.std.specs.List.{range_with_len}
use Rattle.syntax_tree.specs.declared.node.Node.{Node}
use Rattle.syntax_tree.specs.Nodes.{AreNodesOf, SyntaxTree, whole}
use Rattle.syntax_tree_cut.specs.declared.mark.Mark.{Mark}
use Rattle.syntax_tree_cut.specs.declared.mark.Mark.TheVariants.{Kept}
use Rattle.syntax_tree_cut.specs.Cuts.{IsCutOf, cut_tree}
use Rattle.syntax_tree_cut.specs.inner.TreeLaws.{TreeLaws}
use Rattle.syntax_tree_cut.proofs.CutFacts.{index_is, new_cut, some_nodes, tokens_count}
use Rattle.std.specs.Prelude.{slice_index_or}
use Rattle.syntax_tree_cut.proofs.cut.Cut.new.Goals as goal

made : (tree : SyntaxTree) (laws : TreeLaws) (are : AreNodesOf tree.form tree.start tree.nodes (whole tree)) (nodes : List Node) (d : Node) (marks : List Mark)
    (positions kept : List ℕ) → nodes ≡ tree.nodes →
    marks ≡ replicate (length nodes) Kept → positions ≡ range_with_len 0 (length nodes) → kept ≡ range_with_len 0 (slice_index_or nodes 0 d).end →
    (cut_tree tree (record { marks = marks; positions = positions; kept = kept }) ≡ whole tree)
    × IsCutOf tree (record { marks = marks; positions = positions; kept = kept })
made tree laws are nodes d marks positions kept same m p k =
    new_cut tree laws are (record { marks = marks; positions = positions; kept = kept })
    (m ∙ ap (λ (ns : List Node). replicate (length ns) Kept) same)
    (p ∙ ap (λ (ns : List Node). range_with_len 0 (length ns)) same)
    (k ∙ ap (range_with_len 0) (tokens_count tree laws are (slice_index_or nodes 0 d) (index_is tree.nodes nodes 0 d same (some_nodes tree laws are))))

pub returns-clause-of : goal.returns-clause-of
returns-clause-of c =
    (made c.args.tree.now c.tree_laws.ensures c.nodes-nodes.ensures.whole c.nodes-nodes.result.now _ c.in_ok-marks.marks.items c.in_ok-positions.positions.items
    c.in_ok-kept.kept.items c.nodes-nodes.ensures.nodes c.in_ok-marks.ensures c.in_ok-positions.ensures c.in_ok-kept.ensures).1

pub returns-clause-whole : goal.returns-clause-whole
returns-clause-whole c =
    (made c.args.tree.now c.tree_laws.ensures c.nodes-nodes.ensures.whole c.nodes-nodes.result.now _ c.in_ok-marks.marks.items c.in_ok-positions.positions.items
    c.in_ok-kept.kept.items c.nodes-nodes.ensures.nodes c.in_ok-marks.ensures c.in_ok-positions.ensures c.in_ok-kept.ensures).0
