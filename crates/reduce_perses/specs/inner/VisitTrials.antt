-- What is still tried within a visit of a node, and then by the nodes that wait.
use Rattle.std.specs.Prelude.{ℕ, List, drop, Option, Some, None}
use Rattle.normal_form.specs.declared.normal.Sym.{Sym}
use Rattle.normal_form.specs.Form.{NormalForm}
use Rattle.list_ddmin.specs.Machine.{State, kept}
use Rattle.node_queue.specs.Waiting.{Waiting}
use Rattle.reduce_rounds.specs.Trials.{Trials, Done}
use Rattle.reduce_rounds.specs.ListTrials.{list_trials}
use Rattle.syntax_tree.specs.Trees.{PlainTree}
use Rattle.syntax_tree.specs.Valid.{slot_at}
use Rattle.syntax_tree.specs.Numbered.{subtree, with_subtree}
use Rattle.syntax_tree.specs.Left.{selected_trees}
use Rattle.descend_replace.specs.Compatible.{compatible}
use Rattle.reduce_perses.specs.Queued.{with_trees}
use Rattle.reduce_perses.specs.Visit.{each_tried, optional_visited, visit_from}
use Rattle.reduce_perses.specs.declared.visit.Visit.{Visit}
use Rattle.reduce_perses.specs.declared.visit.Visit.TheVariants.{Elements, Content, Descendants}
use Rattle.descend_replace.specs.FitsIn.{fits_in}

-- the tree t, in which the node v, a star or plus, has those of its elements that the list step keeps
abbrev pub with_kept : PlainTree → State → Option PlainTree → PlainTree
with_kept t step None = t
with_kept t step (Some (PlainTree.leaf n k i)) = t
with_kept t step (Some (PlainTree.node n r a ts)) = with_subtree n (PlainTree.node n r a (selected_trees (kept step) ts)) t

-- what is left of the tree t within a visit
abbrev pub tree_within : PlainTree → Visit → PlainTree
tree_within t (Elements list step) = with_kept t step (subtree list t)
tree_within t (Content node) = t
tree_within t (Descendants node found at) = t

-- the same, where there may be no visit
abbrev pub tree_left : PlainTree → Option Visit → PlainTree
tree_left t None = t
tree_left t (Some visit) = tree_within t visit

module _ (N : NormalForm) (s : Sym) where
  -- the nodes that wait are visited
  abbrev pub goes_on : PlainTree → List Waiting → Trials PlainTree
  goes_on t queue = visit_from N (fits_in N) s t queue

  -- the list step over the elements of a node, and then those that remain wait
  abbrev pub elements_tried : PlainTree → List Waiting → State → Option PlainTree → Trials PlainTree
  elements_tried t queue step None = Done
  elements_tried t queue step (Some (PlainTree.leaf n k i)) = Done
  elements_tried t queue step (Some (PlainTree.node n r a ts)) =
      list_trials (λ keep. with_subtree n (PlainTree.node n r a (selected_trees keep ts)) t)
      (λ keep. goes_on (with_subtree n (PlainTree.node n r a (selected_trees keep ts)) t) (with_trees (selected_trees keep ts) queue))
      step

  -- the tree without the content of a node
  abbrev pub content_tried : PlainTree → List Waiting → Option PlainTree → Trials PlainTree
  content_tried t queue None = Done
  content_tried t queue (Some (PlainTree.leaf n k i)) = Done
  content_tried t queue (Some (PlainTree.node n r a ts)) = optional_visited (goes_on) t queue n r a ts

  -- the compatible descendants of a node in its slot, from the one with this index on
  abbrev pub descendants_tried : PlainTree → List Waiting → ℕ → Option Sym → Option PlainTree → Trials PlainTree
  descendants_tried t queue at None v = Done
  descendants_tried t queue at (Some slot) None = Done
  descendants_tried t queue at (Some slot) (Some (PlainTree.leaf n k i)) = Done
  descendants_tried t queue at (Some slot) (Some (PlainTree.node n r a ts)) =
      each_tried (goes_on) t queue n (drop at (compatible (fits_in N) slot (PlainTree.node n r a ts))) (goes_on t (with_trees ts queue))

  -- within a visit
  abbrev pub visit_trials : PlainTree → List Waiting → Visit → Trials PlainTree
  visit_trials t queue (Elements list step) = elements_tried t queue step (subtree list t)
  visit_trials t queue (Content node) = content_tried t queue (subtree node t)
  visit_trials t queue (Descendants node found at) = descendants_tried t queue at (slot_at N s node t) (subtree node t)

  -- within a visit, or where none is going on by the next node that waits
  abbrev pub trials_from : PlainTree → List Waiting → Option Visit → Trials PlainTree
  trials_from t queue None = goes_on t queue
  trials_from t queue (Some visit) = visit_trials t queue visit

  -- within a visit, or nothing
  abbrev pub trials_within : PlainTree → List Waiting → Option Visit → Trials PlainTree
  trials_within t queue None = Done
  trials_within t queue (Some visit) = visit_trials t queue visit
