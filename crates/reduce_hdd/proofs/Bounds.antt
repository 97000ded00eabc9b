-- A tree has fewer levels, and fewer deletable nodes at each depth, than it has nodes.
use Rattle.std.proofs.Common.{◌≡◌, ℕ, zero, suc, ◌+◌, ◌^◌, ◌<◌, ◌≤◌, ◌++◌, Bool, true, false, cond, List, [], ◌∷◌, None, length, ap, ◌∙◌, arith, length-append}
use Rattle.std.specs.Prelude.{nat_lt}
use Rattle.std.specs.List.{flat_map}
use Rattle.std.proofs.lemmas.List.{length-map}
use Rattle.std.proofs.lemmas.List.Concat.{flat_map-append}
use Rattle.normal_form.specs.Form.{NormalForm}
use Rattle.syntax_tree.specs.Trees.{PlainTree, PlainTrees, children_of, size, size_all, weight}
use Rattle.syntax_tree.specs.Numbered.{number_of}
use Rattle.syntax_tree.specs.Left.{AreRemaindersOf, IsRemainderOf, IsRemainderOfSome, below_left, kept}
use Rattle.syntax_tree.specs.Left.{leaf_left, left_out, node_left, none_left, of_first, of_later}
use Rattle.syntax_tree.specs.Nodes.{AreNodesOf, SyntaxTree, whole}
use Rattle.syntax_tree.specs.Levels.{at_depth, at_depth_all, depth, height}
use Rattle.syntax_tree.proofs.Lent.{as_many}
use Rattle.syntax_tree_cut.specs.Cuts.{CutForm, IsCutOf, cut_tree}
use Rattle.syntax_tree_cut.specs.WithoutNodes.{loses_children}
use Rattle.hdd_levels.specs.Levels.{deletable_at, deletable_children, level, with_leaves}

mutual
  some_nodes : (t : PlainTree) → depth t < size t
  some_nodes (PlainTree.leaf n k i) = omega arith
  some_nodes (PlainTree.node n r a ts) = let more = some_nodes_all ts in omega (arith, more)

  some_nodes_all : (ts : PlainTrees) → height ts ≤ size_all ts
  some_nodes_all PlainTrees.none = omega arith
  some_nodes_all (PlainTrees.next t ts) = let one = some_nodes t in let more = some_nodes_all ts in omega (arith, one, more)

-- what is left of a tree has no more nodes
mutual
  smaller : (t u : PlainTree) → IsRemainderOf t u → size u ≤ size t
  smaller t u (leaf_left n k i) = omega arith
  smaller t u (node_left n r a ts us d) = let more = smaller_all ts us d in omega (arith, more)
  smaller t u (below_left n r a ts u' d) = let more = smaller_some ts u d in omega (arith, more)

  smaller_all : (ts us : PlainTrees) → AreRemaindersOf ts us → size_all us ≤ size_all ts
  smaller_all ts us none_left = omega arith
  smaller_all ts us (kept t u ts' us' d more) = let one = smaller t u d in let all = smaller_all ts' us' more in omega (arith, one, all)
  smaller_all ts us (left_out t ts' us' more) = let all = smaller_all ts' us more in omega (arith, all)

  smaller_some : (ts : PlainTrees) (u : PlainTree) → IsRemainderOfSome ts u → size u ≤ size_all ts
  smaller_some ts u (of_first t ts' u' d) = let one = smaller t u d in omega (arith, one)
  smaller_some ts u (of_later t ts' u' d) = let all = smaller_some ts' u d in omega (arith, all)

pub depth_bound : (whole t : PlainTree) → IsRemainderOf whole t → depth t < size whole
depth_bound whole t left = let some = some_nodes t in let less = smaller whole t left in omega (arith, some, less)

some_size : (t : PlainTree) → 0 < size t
some_size (PlainTree.leaf n k i) = omega arith
some_size (PlainTree.node n r a ts) = omega arith

few_leaves : (ts : PlainTrees) → length (with_leaves ts) ≤ size_all ts
few_leaves PlainTrees.none = omega arith
few_leaves (PlainTrees.next t ts) = by_test (nat_lt 0 (weight t)) (few_leaves ts) (some_size t)
  where
    by_test : (b : Bool) → length (with_leaves ts) ≤ size_all ts → 0 < size t → length (cond b (t ∷ with_leaves ts) (with_leaves ts)) ≤ size t + size_all ts
    by_test true more one = omega (arith, more, one)
    by_test false more one = omega (arith, more)

module _ (N : NormalForm) where
  few_children : (t : PlainTree) → length (deletable_children N t) ≤ size_all (children_of t)
  few_children (PlainTree.leaf n k i) = omega arith
  few_children (PlainTree.node n r a ts) = by_test (loses_children N r) (few_leaves ts)
    where
      by_test : (b : Bool) → length (with_leaves ts) ≤ size_all ts → length (cond b (with_leaves ts) []) ≤ size_all ts
      by_test true few = few
      by_test false few = omega arith

  mutual
    few_at : (d : ℕ) (t : PlainTree) → length (flat_map (deletable_children N) (at_depth d t)) < size t
    few_at zero (PlainTree.leaf n k i) = omega arith
    few_at zero (PlainTree.node n r a ts) =
        let few = few_children (PlainTree.node n r a ts) in
        let same : length (deletable_children N (PlainTree.node n r a ts) ++ []) ≡ length (deletable_children N (PlainTree.node n r a ts)) + 0 =
        length-append (deletable_children N (PlainTree.node n r a ts)) [] in
        omega (arith, few, same)
    few_at (suc d) (PlainTree.leaf n k i) = omega arith
    few_at (suc d) (PlainTree.node n r a ts) = let few = few_at_all d ts in omega (arith, few)

    few_at_all : (d : ℕ) (ts : PlainTrees) → length (flat_map (deletable_children N) (at_depth_all d ts)) ≤ size_all ts
    few_at_all d PlainTrees.none = omega arith
    few_at_all d (PlainTrees.next t ts) =
        let one = few_at d t in
        let more = few_at_all d ts in
        let both =
        ap length (flat_map-append (deletable_children N) (at_depth d t) (at_depth_all d ts))
        ∙ length-append (flat_map (deletable_children N) (at_depth d t)) (flat_map (deletable_children N) (at_depth_all d ts)) in
        omega (arith, one, more, both)

  few_deletable : (d : ℕ) (t : PlainTree) → length (deletable_at N d t) ≤ size t
  few_deletable zero t = omega arith
  few_deletable (suc d) t = let few = few_at d t in omega (arith, few)

  pub level_bound : (d : ℕ) (whole t : PlainTree) → IsRemainderOf whole t → length (level N d t) ≤ size whole
  level_bound d whole t left =
      let few = few_deletable d t in
      let less = smaller whole t left in
      let same = length-map (deletable_at N d t) number_of in
      omega (arith, few, less, same)

-- the parsed tree has fewer nodes than numbers of 32 bits
module _ (tree : SyntaxTree) (are : AreNodesOf tree.form tree.start tree.nodes (whole tree)) (c : CutForm) (of : IsCutOf tree c)
    (few : length tree.nodes < 2 ^ 32) where
  nodes_size : length tree.nodes ≡ size (whole tree)
  nodes_size = ap length are.are ∙ as_many tree.form tree.start None 0 (whole tree) are.whole.valid

  pub depth_fits : (d : ℕ) → d ≤ depth (cut_tree tree c) → d < 2 ^ 32
  depth_fits d deep =
      let same = nodes_size in
      let less = depth_bound (whole tree) (cut_tree tree c) of.part in
      omega (arith, same, less, deep, few)

  pub level_fits : (d : ℕ) (nodes : List ℕ) → nodes ≡ level tree.form d (cut_tree tree c) → length nodes < 2 ^ 32
  level_fits d nodes are_nodes =
      let same = nodes_size in
      let less = level_bound tree.form d (whole tree) (cut_tree tree c) of.part in
      let long = ap length are_nodes in
      omega (arith, same, less, long, few)
