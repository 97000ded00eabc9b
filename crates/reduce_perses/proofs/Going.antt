-- A visit goes by what the round goes on with, and the bound on the number of visits is never met.
use Rattle.std.proofs.Common.{◌≡◌, ℕ, zero, suc, ◌<◌, ◌≤◌, Bool, true, false, List, [], ◌∷◌, Option, Some, None, slice_get, refl, sym, ap, ◌∙◌, arith}
use Rattle.std.specs.List.{AllByRecursion}
use Rattle.normal_form.specs.declared.normal.Sym.{Sym}
use Rattle.normal_form.specs.Form.{RuleForm, NormalForm}
use Rattle.node_queue.specs.Waiting.{Waiting}
use Rattle.reduce_rounds.specs.Trials.{Trials, Done, Try}
use Rattle.reduce_rounds.proofs.Lent.{same_by_keep_lists}
use Rattle.syntax_tree.specs.Trees.{PlainTree, PlainTrees, count, weight_all}
use Rattle.syntax_tree.specs.Numbered.{subtree, with_subtree}
use Rattle.syntax_tree.specs.Left.{selected_trees}
use Rattle.descend_replace.specs.Compatible.{DecidesFits, compatible}
use Rattle.reduce_perses.specs.Queued.{IsInRound, nodes_in, with_trees}
use Rattle.reduce_perses.specs.Visit.{each_tried, form_visited, list_visited, node_visited, optional_visited, visit_from, visit_within}
use Rattle.reduce_perses.proofs.Descending.{IsCompatible, all_compatible}
use Rattle.reduce_perses.proofs.Visits.{GoesTo, IsVisited}
use Rattle.reduce_perses.proofs.Forms.{IsListRule, Next, content_goes, descendant_goes, goes_down, goes_past, list_goes, next_of, nodes_next}

module _ (N : NormalForm) (fits : Sym → Sym → Bool) (decides : DecidesFits N fits) (s : Sym) where
  -- the next node is visited by the form of its rule, in its slot
  pub at_next : (go : PlainTree → List Waiting → Trials PlainTree) (t : PlainTree) (next : Waiting) (later : List Waiting) (it : Next N s t next later) →
      node_visited go t later N fits s (subtree next.node t) ≡ form_visited go t later fits (Some it.slot) (slice_get N.rules it.r) it.n it.r it.a it.ts
  at_next go t next later it =
      ap (node_visited go t later N fits s) (ap (λ p. subtree p t) (sym it.number_is) ∙ it.visited.node_is)
      ∙ ap (λ o. form_visited go t later fits o (slice_get N.rules it.r) it.n it.r it.a it.ts) it.visited.slot_is

  -- Visits are the same that go on in the same way.
  module _ (go go' : PlainTree → List Waiting → Trials PlainTree) (t : PlainTree) (later : List Waiting) (n r a : ℕ) (ts : PlainTrees) (slot : Sym)
      (is : IsVisited N s t n slot (PlainTree.node n r a ts) later) (heavy : 0 < weight_all ts)
      (same : (u : PlainTree) (queue : List Waiting) → GoesTo N s t (PlainTree.node n r a ts) later u queue → go u queue ≡ go' u queue) where
    same_list : (may_be_empty : Bool) (x : Sym) → IsListRule N may_be_empty r x
        → list_visited go t later may_be_empty n r a ts ≡ list_visited go' t later may_be_empty n r a ts
    same_list may_be_empty x rule =
        same_by_keep_lists (λ keep. with_subtree n (PlainTree.node n r a (selected_trees keep ts)) t)
        (λ keep. with_subtree n (PlainTree.node n r a (selected_trees keep ts)) t)
        (λ keep. go (with_subtree n (PlainTree.node n r a (selected_trees keep ts)) t) (with_trees (selected_trees keep ts) later))
        (λ keep. go' (with_subtree n (PlainTree.node n r a (selected_trees keep ts)) t) (with_trees (selected_trees keep ts) later))
        (count ts) may_be_empty (λ keep some. refl)
        (λ keep remain. same _ _ (list_goes N s t later n r a ts slot is heavy may_be_empty x keep rule remain))

    same_each : (alts : List (List Sym)) (us : List PlainTree) → slice_get N.rules r ≡ Some (RuleForm.regular alts)
        → AllByRecursion (IsCompatible N slot (PlainTree.node n r a ts)) us →
        each_tried go t later n us (go t (with_trees ts later)) ≡ each_tried go' t later n us (go' t (with_trees ts later))
    same_each alts [] rule all = same t (with_trees ts later) (goes_down N s t later n r a ts slot is heavy)
    same_each alts (u ∷ us) rule all =
        let at_yes =
        same (with_subtree n u t) (with_trees (PlainTrees.next u PlainTrees.none) later)
        (descendant_goes N s t later n r a ts slot is heavy alts u rule all.0) in
        let at_no = same_each alts us rule all.1 in
        λ i. Try (with_subtree n u t) (at_yes i) (at_no i)

  same_optional : (go go' : PlainTree → List Waiting → Trials PlainTree) (t : PlainTree) (later : List Waiting) (n r a : ℕ) (ts : PlainTrees) (slot : Sym)
      → IsVisited N s t n slot (PlainTree.node n r a ts) later → 0 < weight_all ts
      → ((u : PlainTree) (queue : List Waiting) → GoesTo N s t (PlainTree.node n r a ts) later u queue → go u queue ≡ go' u queue)
      → (y : Sym) → slice_get N.rules r ≡ Some (RuleForm.opt y) → optional_visited go t later n r a ts ≡ optional_visited go' t later n r a ts
  same_optional go go' t later n r a PlainTrees.none slot is heavy same y rule = same t later (goes_past N s t later n r a PlainTrees.none slot is heavy)
  same_optional go go' t later n r a (PlainTrees.next u us) slot is heavy same y rule =
      let at_yes = same (with_subtree n (PlainTree.node n r a PlainTrees.none) t) later (content_goes N s t later n r a u us slot is y rule) in
      let at_no = same t (with_trees (PlainTrees.next u us) later) (goes_down N s t later n r a (PlainTrees.next u us) slot is heavy) in
      λ i. Try (with_subtree n (PlainTree.node n r a PlainTrees.none) t) (at_yes i) (at_no i)

  module _ (go go' : PlainTree → List Waiting → Trials PlainTree) (t : PlainTree) (later : List Waiting) (n r a : ℕ) (ts : PlainTrees) (slot : Sym)
      (is : IsVisited N s t n slot (PlainTree.node n r a ts) later) (heavy : 0 < weight_all ts)
      (same : (u : PlainTree) (queue : List Waiting) → GoesTo N s t (PlainTree.node n r a ts) later u queue → go u queue ≡ go' u queue) where
    same_form : (o : Option RuleForm) → slice_get N.rules r ≡ o
        → form_visited go t later fits (Some slot) o n r a ts ≡ form_visited go' t later fits (Some slot) o n r a ts
    same_form None rule = same t later (goes_past N s t later n r a ts slot is heavy)
    same_form (Some (RuleForm.star x)) rule = same_list go go' t later n r a ts slot is heavy same true x rule
    same_form (Some (RuleForm.plus x)) rule = same_list go go' t later n r a ts slot is heavy same false x rule
    same_form (Some (RuleForm.opt x)) rule = same_optional go go' t later n r a ts slot is heavy same x rule
    same_form (Some (RuleForm.regular alts)) rule =
        same_each go go' t later n r a ts slot is heavy same alts (compatible fits slot (PlainTree.node n r a ts)) rule
        (all_compatible N fits decides slot (PlainTree.node n r a ts))

  same_visit : (go go' : PlainTree → List Waiting → Trials PlainTree) (t : PlainTree) (next : Waiting) (later : List Waiting) → IsInRound N s t (next ∷ later) →
      ((u : PlainTree) (queue : List Waiting) → IsInRound N s u queue → nodes_in u queue < nodes_in t (next ∷ later) → go u queue ≡ go' u queue) →
      node_visited go t later N fits s (subtree next.node t) ≡ node_visited go' t later N fits s (subtree next.node t)
  same_visit go go' t next later round same =
      let it = next_of N s t next later round in
      let nodes = nodes_next N s t next later round it in
      at_next go t next later it
      ∙ same_form go go' t later it.n it.r it.a it.ts it.slot it.visited it.heavy
      (λ u queue goes. same u queue goes.round (let fewer = goes.fewer in omega (arith, nodes, fewer))) (slice_get N.rules it.r) refl
      ∙ sym (at_next go' t next later it)

  some_nodes : (t : PlainTree) (next : Waiting) (later : List Waiting) → IsInRound N s t (next ∷ later) → 0 < nodes_in t (next ∷ later)
  some_nodes t next later round = let nodes = nodes_next N s t next later round (next_of N s t next later round) in omega (arith, nodes)

  -- more visits than there are nodes change nothing
  pub same_times : (m k : ℕ) (t : PlainTree) (queue : List Waiting) → IsInRound N s t queue → nodes_in t queue ≤ m → nodes_in t queue ≤ k
      → visit_within N fits s m t queue ≡ visit_within N fits s k t queue
  unfolding visit_within
  same_times zero zero t queue round few few' = refl
  same_times zero (suc k) t [] round few few' = refl
  same_times zero (suc k) t (next ∷ later) round few few' = absurd (let some = some_nodes t next later round in omega (arith, some, few))
  same_times (suc m) zero t [] round few few' = refl
  same_times (suc m) zero t (next ∷ later) round few few' = absurd (let some = some_nodes t next later round in omega (arith, some, few'))
  same_times (suc m) (suc k) t [] round few few' = refl
  same_times (suc m) (suc k) t (next ∷ later) round few few' =
      same_visit (λ u queue. visit_within N fits s m u queue) (λ u queue. visit_within N fits s k u queue) t next later round
      (λ u queue is fewer. same_times m k u queue is (omega (arith, few, fewer)) (omega (arith, few', fewer)))

  -- a round ends where no node waits
  pub ends : (t : PlainTree) → visit_from N fits s t [] ≡ Done
  unfolding visit_within
  ends t = refl

  -- and else it visits the next node, and then goes on
  pub goes_by_visits : (t : PlainTree) (next : Waiting) (later : List Waiting) → IsInRound N s t (next ∷ later) →
      visit_from N fits s t (next ∷ later) ≡ node_visited (λ u queue. visit_from N fits s u queue) t later N fits s (subtree next.node t)
  unfolding visit_within
  goes_by_visits t next later round =
      same_times (nodes_in t (next ∷ later)) (suc (nodes_in t (next ∷ later))) t (next ∷ later) round (omega arith) (omega arith)
      ∙ same_visit (λ u queue. visit_within N fits s (nodes_in t (next ∷ later)) u queue) (λ u queue. visit_from N fits s u queue) t next later round
      (λ u queue is fewer. same_times (nodes_in t (next ∷ later)) (nodes_in u queue) u queue is (omega (arith, fewer)) (omega arith))
