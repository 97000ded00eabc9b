-- No tree without some of its nodes is deeper.
use Rattle.std.proofs.Common.{ℕ, suc, ◌≤◌, Bool, true, false, cond, List, arith}
use Rattle.std.specs.Prelude.{max}
use Rattle.syntax_tree.specs.Trees.{PlainTree, PlainTrees}
use Rattle.syntax_tree.specs.Numbered.{number_of}
use Rattle.syntax_tree.specs.Levels.{depth, height}
use Rattle.syntax_tree_cut.specs.WithoutNodes.{dropped, is_among, without_nodes, without_nodes_all}
use Rattle.hdd_levels.specs.Levels.{kept_tree}

mutual
  no_deeper : (qs : List ℕ) (t : PlainTree) → depth (without_nodes qs t) ≤ depth t
  no_deeper qs (PlainTree.leaf n k i) = omega arith
  no_deeper qs (PlainTree.node n r a ts) = no_higher qs ts

  no_higher : (qs : List ℕ) (ts : PlainTrees) → height (without_nodes_all qs ts) ≤ height ts
  no_higher qs PlainTrees.none = omega arith
  no_higher qs (PlainTrees.next t ts) = by_test (is_among qs (number_of t)) (no_deeper qs t) (no_higher qs ts)
    where
      by_test : (b : Bool) → depth (without_nodes qs t) ≤ depth t → height (without_nodes_all qs ts) ≤ height ts →
          height (cond b (without_nodes_all qs ts) (PlainTrees.next (without_nodes qs t) (without_nodes_all qs ts))) ≤ max (suc (depth t)) (height ts)
      by_test true one rest = omega (arith, rest)
      by_test false one rest = omega (arith, one, rest)

pub kept_no_deeper : (nodes : List ℕ) (keep : List Bool) (t : PlainTree) → depth (kept_tree nodes keep t) ≤ depth t
kept_no_deeper nodes keep t = no_deeper (dropped nodes keep) t
