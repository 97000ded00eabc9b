-- What one round of mode `perses` tries. It visits the nodes of a tree, the heaviest first.
use Rattle.std.specs.Prelude.{ℕ, zero, suc, Bool, true, false, List, [], ◌∷◌, Option, Some, None, slice_get}
use Rattle.normal_form.specs.declared.normal.Sym.{Sym}
use Rattle.normal_form.specs.Form.{RuleForm, NormalForm}
use Rattle.node_queue.specs.Waiting.{Waiting}
use Rattle.list_ddmin.specs.Machine.{start}
use Rattle.reduce_rounds.specs.Trials.{Trials, Done, Try}
use Rattle.reduce_rounds.specs.ListTrials.{list_trials}
use Rattle.syntax_tree.specs.Trees.{PlainTree, PlainTrees, count}
use Rattle.syntax_tree.specs.Valid.{slot_at}
use Rattle.syntax_tree.specs.Numbered.{subtree, with_subtree}
use Rattle.syntax_tree.specs.Left.{selected_trees}
use Rattle.descend_replace.specs.Compatible.{compatible}
use Rattle.reduce_perses.specs.Queued.{nodes_in, with_trees}

-- A visit of a node of the tree t, where the nodes `later` wait too. After it the round goes on by `go`, from a tree and the nodes that wait in it.
module _ (go : PlainTree → List Waiting → Trials PlainTree) (t : PlainTree) (later : List Waiting) where
  -- the tree in which u has the position of the node n is tried; at yes u waits
  abbrev pub tried_at : ℕ → PlainTree → Trials PlainTree → Trials PlainTree
  tried_at n u at_no = Try (with_subtree n u t) (go (with_subtree n u t) (with_trees (PlainTrees.next u PlainTrees.none) later)) at_no

  -- a star or a plus: the list step on its elements; then the elements that remain wait
  abbrev pub list_visited : Bool → ℕ → ℕ → ℕ → PlainTrees → Trials PlainTree
  list_visited may_be_empty n r a ts =
      list_trials (λ keep. with_subtree n (PlainTree.node n r a (selected_trees keep ts)) t)
      (λ keep. go (with_subtree n (PlainTree.node n r a (selected_trees keep ts)) t) (with_trees (selected_trees keep ts) later))
      (start (count ts) may_be_empty)

  -- an optional: the tree without its content is tried; at no the content waits
  abbrev pub optional_visited : ℕ → ℕ → ℕ → PlainTrees → Trials PlainTree
  optional_visited n r a PlainTrees.none = go t later
  optional_visited n r a (PlainTrees.next u us) =
      Try (with_subtree n (PlainTree.node n r a PlainTrees.none) t) (go (with_subtree n (PlainTree.node n r a PlainTrees.none) t) later)
      (go t (with_trees (PlainTrees.next u us) later))

  -- these trees in the position of the node n, one after another up to the first yes
  abbrev pub each_tried : ℕ → List PlainTree → Trials PlainTree → Trials PlainTree
  each_tried n [] at_no = at_no
  each_tried n (u ∷ us) at_no = tried_at n u (each_tried n us at_no)

  -- a regular node that is in the slot: its compatible descendants, in level order, in its position; at no its children wait
  abbrev pub regular_visited : (Sym → Sym → Bool) → Option Sym → ℕ → ℕ → ℕ → PlainTrees → Trials PlainTree
  regular_visited fits None n r a ts = go t later
  regular_visited fits (Some s) n r a ts = each_tried n (compatible fits s (PlainTree.node n r a ts)) (go t (with_trees ts later))

  -- a node, by the form of its rule
  abbrev pub form_visited : (Sym → Sym → Bool) → Option Sym → Option RuleForm → ℕ → ℕ → ℕ → PlainTrees → Trials PlainTree
  form_visited fits slot None n r a ts = go t later
  form_visited fits slot (Some (RuleForm.star x)) n r a ts = list_visited true n r a ts
  form_visited fits slot (Some (RuleForm.plus x)) n r a ts = list_visited false n r a ts
  form_visited fits slot (Some (RuleForm.opt x)) n r a ts = optional_visited n r a ts
  form_visited fits slot (Some (RuleForm.regular alts)) n r a ts = regular_visited fits slot n r a ts

  -- a node of the tree, which is itself in the slot s
  abbrev pub node_visited : NormalForm → (Sym → Sym → Bool) → Sym → Option PlainTree → Trials PlainTree
  node_visited N fits s None = go t later
  node_visited N fits s (Some (PlainTree.leaf n k i)) = go t later
  node_visited N fits s (Some (PlainTree.node n r a ts)) = form_visited fits (slot_at N s n t) (slice_get N.rules r) n r a ts

-- The next node that waits is visited, again and again, so many times at most.
unfoldable pub visit_within : NormalForm → (Sym → Sym → Bool) → Sym → ℕ → PlainTree → List Waiting → Trials PlainTree
visit_within N fits s zero t queue = Done
visit_within N fits s (suc times) t [] = Done
visit_within N fits s (suc times) t (next ∷ later) = node_visited (λ u queue. visit_within N fits s times u queue) t later N fits s (subtree next.node t)

-- As often as there are nodes in those that wait is enough, since after a visit only nodes below the one that was visited wait in its stead.
abbrev pub visit_from : NormalForm → (Sym → Sym → Bool) → Sym → PlainTree → List Waiting → Trials PlainTree
visit_from N fits s t queue = visit_within N fits s (nodes_in t queue) t queue

-- A round of mode `perses` from the tree t, which is in the slot s: first the root waits.
abbrev pub visit : NormalForm → (Sym → Sym → Bool) → Sym → PlainTree → Trials PlainTree
visit N fits s t = visit_from N fits s t (with_trees (PlainTrees.next t PlainTrees.none) [])
