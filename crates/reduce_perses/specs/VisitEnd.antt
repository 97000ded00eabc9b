-- What a round of mode `perses` comes to, as a recursion over a verdict on every text: the
-- texts that it asks, the tree that remains, and whether there was a yes.
use Rattle.std.specs.Prelude.{ℕ, zero, suc, Bool, true, false, List, [], ◌∷◌, Option, Some, None, slice_get}
use Rattle.normal_form.specs.declared.normal.Sym.{Sym}
use Rattle.normal_form.specs.Form.{RuleForm, NormalForm}
use Rattle.node_queue.specs.Waiting.{Waiting}
use Rattle.list_ddmin.specs.ListStep.{Outcome, list_step}
use Rattle.reduce_rounds.specs.StateTexts.{StateTexts}
use Rattle.reduce_rounds.specs.Reduction.{RoundEnd, end_at, tested}
use Rattle.reduce_rounds.specs.ListEnd.{after_step, keep_verdict}
use Rattle.syntax_tree.specs.Trees.{PlainTree, PlainTrees, count}
use Rattle.syntax_tree.specs.Valid.{slot_at}
use Rattle.syntax_tree.specs.Numbered.{subtree, with_subtree}
use Rattle.syntax_tree.specs.Left.{selected_trees}
use Rattle.descend_replace.specs.Compatible.{compatible}
use Rattle.reduce_perses.specs.Queued.{nodes_in, with_trees}

-- the tree t, in which the node n keeps some of its elements ts
abbrev pub with_elements : PlainTree → ℕ → ℕ → ℕ → PlainTrees → List Bool → PlainTree
with_elements t n r a ts keep = with_subtree n (PlainTree.node n r a (selected_trees keep ts)) t

-- Trees have texts, and some of them are listed. A verdict on every text is given.
module _ (texts : StateTexts PlainTree) (verdict : List ℕ → Bool) where
  -- A visit of a node of the tree t, where the nodes `later` wait too; then `go`, from a tree and the nodes that wait in it.
  module _ (go : PlainTree → List Waiting → RoundEnd PlainTree) (t : PlainTree) (later : List Waiting) where
    -- what a list step over elements asked, and then those that it kept wait
    abbrev pub after_list : ℕ → ℕ → ℕ → PlainTrees → Outcome → RoundEnd PlainTree
    after_list n r a ts step =
        after_step texts verdict (with_elements t n r a ts) (λ keep. go (with_elements t n r a ts keep) (with_trees (selected_trees keep ts) later)) step

    -- a star or a plus gets its list step
    abbrev pub list_end : Bool → ℕ → ℕ → ℕ → PlainTrees → RoundEnd PlainTree
    list_end may_be_empty n r a ts = after_list n r a ts (list_step (keep_verdict texts verdict (with_elements t n r a ts)) (count ts) may_be_empty)

    -- an optional gets one test, without its content, which waits at no
    abbrev pub optional_end : ℕ → ℕ → ℕ → PlainTrees → RoundEnd PlainTree
    optional_end n r a PlainTrees.none = go t later
    optional_end n r a (PlainTrees.next u us) =
        tested texts verdict (with_subtree n (PlainTree.node n r a PlainTrees.none) t) (go (with_subtree n (PlainTree.node n r a PlainTrees.none) t) later)
        (go t (with_trees (PlainTrees.next u us) later))

    -- these trees in the position of the node n are tested up to the first yes, which waits
    abbrev pub first_yes : ℕ → List PlainTree → RoundEnd PlainTree → RoundEnd PlainTree
    first_yes n [] at_no = at_no
    first_yes n (u ∷ us) at_no =
        tested texts verdict (with_subtree n u t) (go (with_subtree n u t) (with_trees (PlainTrees.next u PlainTrees.none) later)) (first_yes n us at_no)

    -- a regular node in the slot gets a test for each compatible descendant, in level order; if each has a no, its children wait
    abbrev pub regular_end : (Sym → Sym → Bool) → Option Sym → ℕ → ℕ → ℕ → PlainTrees → RoundEnd PlainTree
    regular_end fits None n r a ts = go t later
    regular_end fits (Some s) n r a ts = first_yes n (compatible fits s (PlainTree.node n r a ts)) (go t (with_trees ts later))

    -- a node, by the form of its rule
    abbrev pub form_end : (Sym → Sym → Bool) → Option Sym → Option RuleForm → ℕ → ℕ → ℕ → PlainTrees → RoundEnd PlainTree
    form_end fits slot None n r a ts = go t later
    form_end fits slot (Some (RuleForm.star x)) n r a ts = list_end true n r a ts
    form_end fits slot (Some (RuleForm.plus x)) n r a ts = list_end false n r a ts
    form_end fits slot (Some (RuleForm.opt x)) n r a ts = optional_end n r a ts
    form_end fits slot (Some (RuleForm.regular alts)) n r a ts = regular_end fits slot n r a ts

    -- a node of the tree, which is itself in the slot s
    abbrev pub node_end : NormalForm → (Sym → Sym → Bool) → Sym → Option PlainTree → RoundEnd PlainTree
    node_end N fits s None = go t later
    node_end N fits s (Some (PlainTree.leaf n k i)) = go t later
    node_end N fits s (Some (PlainTree.node n r a ts)) = form_end fits (slot_at N s n t) (slice_get N.rules r) n r a ts

  -- The next node that waits is visited, again and again, so many times at most.
  unfoldable pub visits_end : NormalForm → (Sym → Sym → Bool) → Sym → ℕ → PlainTree → List Waiting → RoundEnd PlainTree
  visits_end N fits s zero t queue = end_at t
  visits_end N fits s (suc times) t [] = end_at t
  visits_end N fits s (suc times) t (next ∷ later) = node_end (λ u queue. visits_end N fits s times u queue) t later N fits s (subtree next.node t)

  -- As often as there are nodes in those that wait is enough.
  abbrev pub end_from : NormalForm → (Sym → Sym → Bool) → Sym → PlainTree → List Waiting → RoundEnd PlainTree
  end_from N fits s t queue = visits_end N fits s (nodes_in t queue) t queue

  -- A round of mode `perses` from the tree t, which is in the slot s: first the root waits.
  abbrev pub visit_end : NormalForm → (Sym → Sym → Bool) → Sym → PlainTree → RoundEnd PlainTree
  visit_end N fits s t = end_from N fits s t (with_trees (PlainTrees.next t PlainTrees.none) [])
