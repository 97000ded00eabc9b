-- Visits of regular nodes: what is tried, by the indexes of the compatible descendants, and where the round goes on.
use Rattle.std.proofs.Common.{◌≡◌, inr, ℕ, zero, suc, ◌+◌, ◌<◌, ◌≤◌, true, false, List, [], ◌∷◌, Option, Some, None, Result}
use Rattle.std.proofs.Common.{length, map, drop, get_or, slice_get, sym, ap, ◌∙◌, subst, refl, arith}
use Rattle.std.specs.Prelude.{IfOk}
use Rattle.std.specs.List.{AllByRecursion}
use Rattle.std.proofs.lemmas.List.{drop_all, drop_more, get_or-map, get_or_default, length-map}
use Rattle.std.proofs.lemmas.Option.{same_Some}
use Rattle.normal_form.specs.declared.normal.Sym.{Sym}
use Rattle.normal_form.specs.Form.{NormalForm}
use Rattle.node_queue.specs.Waiting.{Waiting}
use Rattle.reduce_rounds.specs.Trials.{Trials, Try, state_after, trials_after}
use Rattle.syntax_tree.specs.Trees.{PlainTree, PlainTrees, below}
use Rattle.syntax_tree.specs.Valid.{IsValid}
use Rattle.syntax_tree.specs.Numbered.{number_of, subtree, with_subtree}
use Rattle.syntax_tree.specs.Edits.{by_descendant}
use Rattle.syntax_tree.specs.Left.{IsRemainderOf}
use Rattle.syntax_tree.proofs.Lent.{within_from, is_found, have_slots, root_found, levels, other_nodes, local_edits}
use Rattle.syntax_tree_cut.specs.Cuts.{CanReplace}
use Rattle.descend_replace.specs.Compatible.{compatible}
use Rattle.descend_replace.proofs.Lent.{decides, below_found}
use Rattle.reduce_perses.specs.Queued.{IsInRound, nodes_in, with_trees}
use Rattle.reduce_perses.specs.Visit.{each_tried, form_visited, node_visited}
use Rattle.reduce_perses.specs.Laws.{GoesOn}
use Rattle.reduce_perses.proofs.Descending.{IsCompatible, all_compatible}
use Rattle.reduce_perses.proofs.NodeFacts.{is_some, node_rises}
use Rattle.reduce_perses.specs.declared.visit.Visit.{Visit}
use Rattle.descend_replace.specs.FitsIn.{fits_in}
use Rattle.reduce_perses.specs.inner.VisitTrials.{descendants_tried, goes_on}
use Rattle.reduce_perses.specs.inner.Visiting.{AreFound, GoesOnWith, HasFewer, IsRegular, IsTaken, descendants_at, node_trials}
use Rattle.reduce_perses.proofs.WaitingLemmas.{children_fewer}

-- where all that holds, it holds at an index
all_at : {A : Type 0} (P : A → Type 0) (xs : List A) (k : ℕ) (d : A) → AllByRecursion P xs → k < length xs → P (get_or xs k d)
all_at P [] k d all lt = absurd (omega (arith, lt))
all_at P (x ∷ xs) zero d all lt = all.0
all_at P (x ∷ xs) (suc k) d all lt = all_at P xs k d all.1 (omega (arith, lt))

-- The same is left, and the same is tried.
pub same_goes : {E : Type 0} (N : NormalForm) (s : Sym) (t : PlainTree) (queue : List Waiting) (left left' : PlainTree) (rest rest' : Trials PlainTree)
    (result : Result (Option Visit) E) →
    left ≡ left' → rest ≡ rest' → IfOk result (GoesOnWith N s t queue left rest) → IfOk result (GoesOnWith N s t queue left' rest')
same_goes N s t queue left left' rest rest' result same_left same_rest on =
    let P : PlainTree → Trials PlainTree → Type 0 = λ x y. IfOk result (GoesOnWith N s t queue x y) in
    subst (λ x. P x rest') same_left (subst (λ y. P left y) same_rest on)

-- The round is at another tree and queue, which are equal.
pub same_round : (N : NormalForm) (s : Sym) (t u : PlainTree) (queue waiting : List Waiting) → t ≡ u → queue ≡ waiting → IsInRound N s u waiting
    → IsInRound N s t queue
same_round N s t u queue waiting tree waits round =
    let P : PlainTree → List Waiting → Type 0 = λ x y. IsInRound N s x y in
    subst (λ x. P x queue) (sym tree) (subst (λ y. P u y) (sym waits) round)

module _ (N : NormalForm) (s : Sym) (t : PlainTree) (later : List Waiting) (n : ℕ) (found : List ℕ) (are : AreFound N s t later n found) where
  -- the node
  abbrev node : PlainTree
  node = PlainTree.node n are.rule are.alt are.children

  -- its compatible descendants
  abbrev trees : List PlainTree
  trees = compatible (fits_in N) are.slot node

  -- the one with this index
  abbrev pub tree_at : ℕ → PlainTree
  tree_at at = get_or trees at node

  within_trees : (at : ℕ) → at < length found → at < length trees
  within_trees at lt = let one = ap length are.found_are in let two = length-map trees number_of in omega (arith, lt, one, two)

  are_tried : (at : ℕ) → descendants_at N s t later at n ≡ each_tried (goes_on N s) t later n (drop at trees) (goes_on N s t (with_trees are.children later))
  are_tried at =
      ap (λ o. descendants_tried N s t later at o (subtree n t)) are.next.slot_is ∙ ap (λ o. descendants_tried N s t later at (Some are.slot) o) are.next.node

  -- the visit of the node begins with the first one
  pub begins_at : descendants_at N s t later 0 n ≡ node_trials N s t later n
  begins_at =
      are_tried 0
      ∙ sym (
      ap (λ o. node_visited (goes_on N s) t later N (fits_in N) s o) are.next.node
      ∙ ap (λ o. form_visited (goes_on N s) t later (fits_in N) o (slice_get N.rules are.rule) n are.rule are.alt are.children) are.next.slot_is
      ∙ ap (λ o. form_visited (goes_on N s) t later (fits_in N) (Some are.slot) o n are.rule are.alt are.children) are.is_regular
      )

  -- after the last one the children wait
  pub ends_at : (at : ℕ) → length found ≤ at → descendants_at N s t later at n ≡ goes_on N s t (with_trees are.children later)
  ends_at at over =
      are_tried at
      ∙ ap (λ us. each_tried (goes_on N s) t later n us (goes_on N s t (with_trees are.children later)))
      (drop_all at trees (let one = ap length are.found_are in let two = length-map trees number_of in omega (arith, over, one, two)))

  module _ (at : ℕ) (lt : at < length found) where
    -- one of them is tried, and at no the next one
    pub tries_at : descendants_at N s t later at n ≡ Try (with_subtree n (tree_at at) t)
        (goes_on N s (with_subtree n (tree_at at) t) (with_trees (PlainTrees.next (tree_at at) PlainTrees.none) later)) (descendants_at N s t later (at + 1) n)
    tries_at =
        are_tried at
        ∙ ap (λ us. each_tried (goes_on N s) t later n us (goes_on N s t (with_trees are.children later))) (drop_more trees at node (within_trees at lt))
        ∙ ap (λ at_no. Try (with_subtree n (tree_at at) t)
        (goes_on N s (with_subtree n (tree_at at) t) (with_trees (PlainTrees.next (tree_at at) PlainTrees.none) later)) at_no) (sym (are_tried (at + 1)))

    compatible_at : IsCompatible N are.slot node (tree_at at)
    compatible_at = all_at (IsCompatible N are.slot node) trees at node (all_compatible N (fits_in N) (decides N) are.slot node) (within_trees at lt)

    number_at : (by d : ℕ) → by ≡ get_or found at d → by ≡ number_of (tree_at at)
    number_at by d is = is ∙ ap (λ l. get_or l at d) are.found_are ∙ get_or-map number_of trees at node d (within_trees at lt)

    -- its number is that of the same tree
    pub found_at : (by d : ℕ) → by ≡ get_or found at d → subtree by t ≡ Some (tree_at at)
    found_at by d is =
        ap (λ q. subtree q t) (number_at by d is)
        ∙ below_found t node (tree_at at) n are.next.goes_on.nothing.round.rise are.next.node ((levels node (tree_at at)).1 compatible_at.is_below)

    -- it can take the node's position
    pub can_replace : (by d : ℕ) → by ≡ get_or found at d → CanReplace N s t n by
    can_replace by d is = record {
      rule = are.rule;
      alt = are.alt;
      children = are.children;
      alternatives = are.alternatives;
      slot = are.slot;
      other = tree_at at;
      node = are.next.node;
      is_regular = are.is_regular;
      slot_is = are.next.slot_is;
      other_is = found_at by d is;
      below = compatible_at.is_below;
      fits = compatible_at.fits;
    }

    left_at_node : IsRemainderOf node (tree_at at)
    left_at_node =
        let round = are.next.goes_on.nothing.round in
        let slots = have_slots N s n t node round.tree.valid round.rise are.next.node in
        let same : slots.0 ≡ are.slot = same_Some slots.0 are.slot (sym slots.1 ∙ are.next.slot_is) in
        (local_edits N are.slot node (tree_at at) (subst (λ (x : Sym). IsValid N x node) same slots.2)
        (inr (by_descendant are.slot n are.rule are.alt are.children are.alternatives (tree_at at) are.is_regular compatible_at.is_below compatible_at.fits))).1

    -- there it still has its number
    pub stays_found : (by d : ℕ) → by ≡ get_or found at d → subtree by (with_subtree n (tree_at at) t) ≡ Some (tree_at at)
    stays_found by d is =
        let round = are.next.goes_on.nothing.round in
        let within = within_from node (node_rises n t node round.rise are.next.node) in
        let inside = is_found 0 within.0 node (tree_at at) within.1 (below (tree_at at) n are.rule are.alt are.children compatible_at.is_below) in
        let others = other_nodes N s are.slot n t node (tree_at at) round.tree.valid round.rise are.next.node are.next.slot_is left_at_node in
        ap (λ q. subtree q (with_subtree n (tree_at at) t)) (number_at by d is)
        ∙ others.node_in (number_of (tree_at at)) (is_some (subtree (number_of (tree_at at)) node) (tree_at at) inside)
        ∙ root_found (tree_at at)

    -- and the round can go on
    pub goes_on_at : GoesOn N s t (with_subtree n (tree_at at) t) (with_trees (PlainTrees.next (tree_at at) PlainTrees.none) later)
    goes_on_at =
        are.next.goes_on.regular are.alternatives (tree_at at) are.is_regular
        (at, within_trees at lt, get_or_default trees at (tree_at at) node (within_trees at lt))

    -- at yes it waits
    pub goes_on_at_yes : (u : PlainTree) (queue : List Waiting) → u ≡ with_subtree n (tree_at at) t
        → queue ≡ with_trees (PlainTrees.next (tree_at at) PlainTrees.none) later →
        GoesOnWith N s u queue (state_after t (descendants_at N s t later at n) true) (trials_after (descendants_at N s t later at n) true) None
    goes_on_at_yes u queue tree waits = record {
      left_is = tree ∙ sym (ap (λ trials. state_after t trials true) tries_at);
      rest_is = (λ i. goes_on N s (tree i) (waits i)) ∙ sym (ap (λ trials. trials_after trials true) tries_at);
      going =
          same_round N s u (with_subtree n (tree_at at) t) queue (with_trees (PlainTrees.next (tree_at at) PlainTrees.none) later) tree waits goes_on_at.round;
    }

    -- at no the tree stays, and the next one is tried
    pub left_at_no : t ≡ state_after t (descendants_at N s t later at n) false
    left_at_no = sym (ap (λ trials. state_after t trials false) tries_at)

    pub rest_at_no : descendants_at N s t later (at + 1) n ≡ trials_after (descendants_at N s t later at n) false
    rest_at_no = sym (ap (λ trials. trials_after trials false) tries_at)

  -- at the end the visit is over
  module _ (at : ℕ) (over : length found ≤ at) (queue : List Waiting) (waits : queue ≡ with_trees are.children later) where
    pub goes_on_at_end : GoesOnWith N s t queue t (descendants_at N s t later at n) None
    goes_on_at_end = record {
      left_is = refl;
      rest_is = ap (goes_on N s t) waits ∙ sym (ends_at at over);
      going = same_round N s t t queue (with_trees are.children later) refl waits are.next.goes_on.children.round;
    }

    pub fewer_at_end : HasFewer t n later queue None
    fewer_at_end none = let fewer = children_fewer t n are.rule are.alt are.children later are.next.goes_on.nothing.round.rise are.next.node in let same =
        ap (nodes_in t) waits in omega (arith, fewer, same)

-- the descendants that were found, of a node that was taken out of the queue
pub are_found : (N : NormalForm) (s : Sym) (t : PlainTree) (later : List Waiting) (n : ℕ) (found : List ℕ) (taken : IsTaken N s t later n) → IsRegular N t n →
    found ≡ map number_of (compatible (fits_in N) taken.slot (PlainTree.node n taken.rule taken.alt taken.children)) → AreFound N s t later n found
are_found N s t later n found taken regular same =
    let form = regular taken.rule taken.alt taken.children taken.next.node in
    record {
      rule = taken.rule;
      alt = taken.alt;
      children = taken.children;
      slot = taken.slot;
      alternatives = form.0;
      next = taken.next;
      is_regular = form.1;
      found_are = same;
    }
