-- A round whose answers are all no has tried each single edit.
use Rattle.std.proofs.Common.{◌≡◌, ◌⊎◌, inl, inr, ℕ, zero, suc, ◌+◌, ◌<◌, ◌≤◌, Bool, true, false, cond, List, [], ◌∷◌}
use Rattle.std.proofs.Common.{Option, Some, None, nat_eq, slice_get, refl, sym, ap, ◌∙◌, subst, arith}
use Rattle.std.proofs.lemmas.Bool.{cases_Bool, cond-false, eqb-true, false≢true}
use Rattle.std.proofs.lemmas.Bool.Decides.{Decides-ltb}
use Rattle.std.proofs.lemmas.Option.{none-some, same_Some}
use Rattle.normal_form.specs.declared.normal.Sym.{Sym}
use Rattle.normal_form.specs.Form.{RuleForm, NormalForm}
use Rattle.node_queue.specs.Waiting.{Waiting, comes_before, with_node}
use Rattle.node_queue.proofs.Lent.{by_test, with_node-after, with_node-before}
use Rattle.reduce_rounds.specs.Trials.{Trials, IsTriedAtNo}
use Rattle.reduce_rounds.proofs.Lent as lists
use Rattle.syntax_tree.specs.Trees.{PlainTree, PlainTrees, count, weight, weight_all}
use Rattle.syntax_tree.specs.Valid.{slot_at}
use Rattle.syntax_tree.specs.Numbered.{number_of, subtree, subtree_among, with_subtree}
use Rattle.syntax_tree.specs.Edits.{IsLocalDeletion, IsLocalEdit, IsLocalReplacement, LeavesOut, by_descendant, of_opt, of_plus, of_star}
use Rattle.syntax_tree.specs.Left.{selected_trees}
use Rattle.syntax_tree.specs.EditLaws.{IsEditAt}
use Rattle.syntax_tree.proofs.Lent.{AreWithin, or_some, root_found}
use Rattle.descend_replace.specs.Compatible.{DecidesFits, compatible}
use Rattle.reduce_perses.specs.Queued.{IsInRound, nodes_in, waiting_of, waits, with_trees}
use Rattle.reduce_perses.specs.Visit.{each_tried, form_visited, list_visited, optional_visited, visit_within}
use Rattle.reduce_perses.proofs.NodeFacts.{child_found, children_within, first_found, later_found, node_deeper, same_node}
use Rattle.reduce_perses.proofs.Queues.{AreIn}
use Rattle.reduce_perses.proofs.Selecting.{left_out_at, left_out_count, selected_all}
use Rattle.reduce_perses.proofs.Descending.{IsOneOf, each_compatible, waits_around}
use Rattle.reduce_perses.proofs.Visits.{IsVisited, same_with, v_rises}
use Rattle.reduce_perses.proofs.Forms.{Next, goes_down, next_of, nodes_next, rule_exists}
use Rattle.reduce_perses.proofs.Going.{at_next}

tried_same : (trials : Trials PlainTree) (u w : PlainTree) → u ≡ w → IsTriedAtNo trials u → IsTriedAtNo trials w
tried_same trials u w e tried = subst (λ (x : PlainTree). IsTriedAtNo trials x) e tried

-- Which nodes are still to be visited.

-- The node q, which is the tree v, is one of the nodes that wait, or below one.
abbrev pub IsToCome : PlainTree → ℕ → PlainTree → List Waiting → Type 0
IsToCome t q v [] = ⊥
IsToCome t q v (entry ∷ queue) = ((f : PlainTree) × (subtree entry.node t ≡ Some f) × (subtree q f ≡ Some v)) ⊎ IsToCome t q v queue

module _ (t : PlainTree) (q : ℕ) (v : PlainTree) where
  come_first : (added : Waiting) (queue : List Waiting) (f : PlainTree) → subtree added.node t ≡ Some f → subtree q f ≡ Some v
      → IsToCome t q v (with_node added queue)
  come_first added [] f e at = inl (f, e, at)
  come_first added (next ∷ later) f e at =
      by_test (comes_before next added)
      (λ is. subst (IsToCome t q v) (sym (with_node-after added next later is)) (inr (come_first added later f e at)))
      (λ is. subst (IsToCome t q v) (sym (with_node-before added next later is)) (inl (f, e, at)))

  come_still : (added : Waiting) (queue : List Waiting) → IsToCome t q v queue → IsToCome t q v (with_node added queue)
  come_still added [] come = absurd come
  come_still added (next ∷ later) (inl here) =
      by_test (comes_before next added)
      (λ is. subst (IsToCome t q v) (sym (with_node-after added next later is)) (inl here))
      (λ is. subst (IsToCome t q v) (sym (with_node-before added next later is)) (inr (inl here)))
  come_still added (next ∷ later) (inr come) =
      by_test (comes_before next added)
      (λ is. subst (IsToCome t q v) (sym (with_node-after added next later is)) (inr (come_still added later come)))
      (λ is. subst (IsToCome t q v) (sym (with_node-before added next later is)) (inr (inr come)))

  still_one : (b : Bool) (x : PlainTree) (queue : List Waiting) → IsToCome t q v queue → IsToCome t q v (cond b (with_node (waiting_of x) queue) queue)
  still_one true x queue come = come_still (waiting_of x) queue come
  still_one false x queue come = come

  still_all : (us : PlainTrees) (queue : List Waiting) → IsToCome t q v queue → IsToCome t q v (with_trees us queue)
  still_all PlainTrees.none queue come = come
  still_all (PlainTrees.next x us) queue come = still_all us (cond (waits x) (with_node (waiting_of x) queue) queue) (still_one (waits x) x queue come)

  come_one : (b : Bool) (x : PlainTree) (queue : List Waiting) → b ≡ true → subtree (number_of x) t ≡ Some x → subtree q x ≡ Some v
      → IsToCome t q v (cond b (with_node (waiting_of x) queue) queue)
  come_one true x queue is e at = come_first (waiting_of x) queue x e at
  come_one false x queue is e at = absurd (false≢true is)

  -- what is in these trees is to come, once those of them wait that can
  pub come_all : (low high : ℕ) (us : PlainTrees) (queue : List Waiting) → AreWithin low high us → AreIn t us → waits v ≡ true → 0 < weight v
      → subtree_among q us ≡ Some v → IsToCome t q v (with_trees us queue)
  come_all low high PlainTrees.none queue within inside is heavy e = absurd (none-some v e)
  come_all low high (PlainTrees.next x us) queue within inside is heavy e = elim (or_some (subtree q x) (subtree_among q us) v e) [
    | inl first ↦
        still_all us (cond (waits x) (with_node (waiting_of x) queue) queue)
        (come_one (waits x) x queue (waits_around q x v first is heavy) (inside (number_of x) x (first_found (number_of x) x us x (root_found x))) first)
    | inr later ↦
        come_all within.0 high us (cond (waits x) (with_node (waiting_of x) queue) queue) within.2
        (λ p y at. inside p y (later_found low within.0 high p x us y within.1 within.2 at)) is heavy later.1
  ]

-- What is tried at no in a visit.

each_tried_at : (go : PlainTree → List Waiting → Trials PlainTree) (t : PlainTree) (later : List Waiting) (n : ℕ) (us : List PlainTree)
    (at_no : Trials PlainTree) (w : PlainTree) →
    IsOneOf us w → IsTriedAtNo (each_tried go t later n us at_no) (with_subtree n w t)
each_tried_at go t later n [] at_no w one = absurd one
each_tried_at go t later n (u ∷ us) at_no w (inl same) = inl (ap (λ x. with_subtree n x t) same)
each_tried_at go t later n (u ∷ us) at_no w (inr one) = inr (each_tried_at go t later n us at_no w one)

each_at_no : (go : PlainTree → List Waiting → Trials PlainTree) (t : PlainTree) (later : List Waiting) (n : ℕ) (us : List PlainTree) (at_no : Trials PlainTree)
    (w : PlainTree) →
    IsTriedAtNo at_no w → IsTriedAtNo (each_tried go t later n us at_no) w
each_at_no go t later n [] at_no w tried = tried
each_at_no go t later n (u ∷ us) at_no w tried = inr (each_at_no go t later n us at_no w tried)

optional_goes_on : (go : PlainTree → List Waiting → Trials PlainTree) (t : PlainTree) (later : List Waiting) (n r a : ℕ) (ts : PlainTrees) (u : PlainTree) →
    IsTriedAtNo (go t (with_trees ts later)) u → IsTriedAtNo (optional_visited go t later n r a ts) u
optional_goes_on go t later n r a PlainTrees.none u tried = tried
optional_goes_on go t later n r a (PlainTrees.next x us) u tried = inr tried

module _ (N : NormalForm) (fits : Sym → Sym → Bool) (decides : DecidesFits N fits) (s : Sym) where
  module _ (go : PlainTree → List Waiting → Trials PlainTree) (t : PlainTree) (later : List Waiting) (n r a : ℕ) (ts : PlainTrees) (slot : Sym)
      (is : IsVisited N s t n slot (PlainTree.node n r a ts) later) where
    list_goes_on : (may_be_empty : Bool) (u : PlainTree) → IsTriedAtNo (go t (with_trees ts later)) u
        → IsTriedAtNo (list_visited go t later may_be_empty n r a ts) u
    list_goes_on may_be_empty u tried =
        let same : with_subtree n (PlainTree.node n r a ts) t ≡ t = same_with n t (PlainTree.node n r a ts) is.rise is.node_is in
        (lists.tries_deletions (λ keep. with_subtree n (PlainTree.node n r a (selected_trees keep ts)) t)
        (λ keep. go (with_subtree n (PlainTree.node n r a (selected_trees keep ts)) t) (with_trees (selected_trees keep ts) later)) (count ts) may_be_empty).1 u
        (subst (λ (us : PlainTrees). IsTriedAtNo (go (with_subtree n (PlainTree.node n r a us) t) (with_trees us later)) u) (sym (selected_all ts))
        (subst (λ (x : PlainTree). IsTriedAtNo (go x (with_trees ts later)) u) (sym same) tried))

    list_tried : (may_be_empty : Bool) (us : PlainTrees) → LeavesOut ts us → (may_be_empty ≡ false → 2 ≤ count ts)
        → IsTriedAtNo (list_visited go t later may_be_empty n r a ts) (with_subtree n (PlainTree.node n r a us) t)
    list_tried may_be_empty us out many =
        let at = left_out_at ts us out in
        tried_same (list_visited go t later may_be_empty n r a ts) _ (with_subtree n (PlainTree.node n r a us) t)
        (ap (λ ys. with_subtree n (PlainTree.node n r a ys) t) at.2)
        ((lists.tries_deletions (λ keep. with_subtree n (PlainTree.node n r a (selected_trees keep ts)) t)
        (λ keep. go (with_subtree n (PlainTree.node n r a (selected_trees keep ts)) t) (with_trees (selected_trees keep ts) later)) (count ts) may_be_empty).0
        at.0 at.1 many)

    -- after a visit with noes alone the children wait
    form_goes_on : (o : Option RuleForm) (u : PlainTree) → slice_get N.rules r ≡ o → IsTriedAtNo (go t (with_trees ts later)) u
        → IsTriedAtNo (form_visited go t later fits (Some slot) o n r a ts) u
    form_goes_on None u rule tried = absurd (rule_exists N slot n r a ts is.valid rule)
    form_goes_on (Some (RuleForm.star x)) u rule tried = list_goes_on true u tried
    form_goes_on (Some (RuleForm.plus x)) u rule tried = list_goes_on false u tried
    form_goes_on (Some (RuleForm.opt x)) u rule tried = optional_goes_on go t later n r a ts u tried
    form_goes_on (Some (RuleForm.regular alts)) u rule tried =
        each_at_no go t later n (compatible fits slot (PlainTree.node n r a ts)) (go t (with_trees ts later)) u tried

  -- each edit at the node is tried
  deletion_tried : (go : PlainTree → List Waiting → Trials PlainTree) (t : PlainTree) (later : List Waiting) (n r a : ℕ) (ts : PlainTrees) (slot : Sym)
      → IsVisited N s t n slot (PlainTree.node n r a ts) later →
      (w : PlainTree) → IsLocalDeletion N (PlainTree.node n r a ts) w
      → IsTriedAtNo (form_visited go t later fits (Some slot) (slice_get N.rules r) n r a ts) (with_subtree n w t)
  deletion_tried go t later n r a ts slot is w (of_star n' r' a' ts' us x rule out) =
      subst (λ (o : Option RuleForm). IsTriedAtNo (form_visited go t later fits (Some slot) o n r a ts) (with_subtree n (PlainTree.node n r a us) t)) (sym rule)
      (list_tried go t later n r a ts slot is true us out (λ no. absurd (false≢true (sym no))))
  deletion_tried go t later n r a ts slot is w (of_plus n' r' a' ts' u us x rule out) =
      subst (λ (o : Option RuleForm). IsTriedAtNo (form_visited go t later fits (Some slot) o n r a ts)
      (with_subtree n (PlainTree.node n r a (PlainTrees.next u us)) t)) (sym rule)
      (list_tried go t later n r a ts slot is false (PlainTrees.next u us) out
      (λ no. let counts = left_out_count ts (PlainTrees.next u us) out in omega (arith, counts)))
  deletion_tried go t later n r a ts slot is w (of_opt n' r' a' x y rule) =
      subst (λ (o : Option RuleForm). IsTriedAtNo (form_visited go t later fits (Some slot) o n r a (PlainTrees.next x PlainTrees.none))
      (with_subtree n (PlainTree.node n r a PlainTrees.none) t)) (sym rule) (inl refl)

  replacement_tried : (go : PlainTree → List Waiting → Trials PlainTree) (t : PlainTree) (later : List Waiting) (n r a : ℕ) (ts : PlainTrees) (slot : Sym)
      (w : PlainTree) → IsLocalReplacement N slot (PlainTree.node n r a ts) w →
      weight w < weight_all ts → IsTriedAtNo (form_visited go t later fits (Some slot) (slice_get N.rules r) n r a ts) (with_subtree n w t)
  replacement_tried go t later n r a ts slot w (by_descendant s' n' r' a' ts' alts u rule is_below fit) light =
      subst (λ (o : Option RuleForm). IsTriedAtNo (form_visited go t later fits (Some slot) o n r a ts) (with_subtree n w t)) (sym rule)
      (each_tried_at go t later n (compatible fits slot (PlainTree.node n r a ts)) (go t (with_trees ts later)) w
      (each_compatible N fits decides slot (PlainTree.node n r a ts) w is_below fit light))

  edit_tried : (go : PlainTree → List Waiting → Trials PlainTree) (t : PlainTree) (later : List Waiting) (n r a : ℕ) (ts : PlainTrees) (slot : Sym)
      → IsVisited N s t n slot (PlainTree.node n r a ts) later →
      (w : PlainTree) → IsLocalEdit N slot (PlainTree.node n r a ts) w → weight w < weight_all ts
      → IsTriedAtNo (form_visited go t later fits (Some slot) (slice_get N.rules r) n r a ts) (with_subtree n w t)
  edit_tried go t later n r a ts slot is w (inl deletion) light = deletion_tried go t later n r a ts slot is w deletion
  edit_tried go t later n r a ts slot is w (inr replacement) light = replacement_tried go t later n r a ts slot w replacement light

  -- a node with an edit waits
  pub edit_waits : (x : Sym) (v w : PlainTree) → IsLocalEdit N x v w → weight w < weight v → waits v ≡ true
  edit_waits x (PlainTree.leaf n k i) w (inl d) light = elim d [ ]
  edit_waits x (PlainTree.leaf n k i) w (inr d) light = elim d [ ]
  edit_waits x (PlainTree.node n r a ts) w e light = let some : 0 < weight_all ts = omega (arith, light) in (Decides-ltb 0 (weight_all ts)).1 some

  module _ (t u : PlainTree) (q : ℕ) (x : Sym) (v w : PlainTree) (edit : IsEditAt N s t u q x v w) where
    here_tried : (go : PlainTree → List Waiting → Trials PlainTree) (next : Waiting) (later : List Waiting) (it : Next N s t next later) → it.n ≡ q →
        IsTriedAtNo (form_visited go t later fits (Some it.slot) (slice_get N.rules it.r) it.n it.r it.a it.ts) u
    here_tried go next later it same =
        let node : PlainTree = PlainTree.node it.n it.r it.a it.ts in
        let v_is : v ≡ node = same_node (subtree q t) v node edit.node (ap (λ p. subtree p t) (sym same) ∙ it.visited.node_is) in
        let x_is : x ≡ it.slot = same_Some x it.slot (sym edit.slot ∙ ap (λ p. slot_at N s p t) (sym same) ∙ it.visited.slot_is) in
        let local : IsLocalEdit N it.slot node w =
        subst (λ (y : Sym). IsLocalEdit N y node w) x_is (subst (λ (y : PlainTree). IsLocalEdit N x y w) v_is edit.edit) in
        let weights : weight v ≡ weight_all it.ts = ap weight v_is in
        let less = edit.smaller in
        tried_same (form_visited go t later fits (Some it.slot) (slice_get N.rules it.r) it.n it.r it.a it.ts) (with_subtree it.n w t) u
        (ap (λ p. with_subtree p w t) same ∙ sym edit.tree)
        (edit_tried go t later it.n it.r it.a it.ts it.slot it.visited w local (omega (arith, weights, less)))

    pub visit_tries : (times : ℕ) (queue : List Waiting) → IsInRound N s t queue → nodes_in t queue ≤ times → IsToCome t q v queue
        → IsTriedAtNo (visit_within N fits s times t queue) u
    unfolding visit_within
    visit_tries times [] round few come = absurd come
    visit_tries zero (next ∷ later) round few come =
        absurd (let nodes = nodes_next N s t next later round (next_of N s t next later round) in omega (arith, nodes, few))
    visit_tries (suc times) (next ∷ later) round few come =
        let it = next_of N s t next later round in
        let node : PlainTree = PlainTree.node it.n it.r it.a it.ts in
        let nodes = nodes_next N s t next later round it in
        let go : PlainTree → List Waiting → Trials PlainTree = λ u' queue. visit_within N fits s times u' queue in
        let down = goes_down N s t later it.n it.r it.a it.ts it.slot it.visited it.heavy in
        let fewer = down.fewer in
        let on : IsToCome t q v (with_trees it.ts later)
        → IsTriedAtNo (form_visited go t later fits (Some it.slot) (slice_get N.rules it.r) it.n it.r it.a it.ts) u =
        λ come'. form_goes_on go t later it.n it.r it.a it.ts it.slot it.visited (slice_get N.rules it.r) u refl
        (visit_tries times (with_trees it.ts later) down.round (omega (arith, nodes, few, fewer)) come') in
        subst (λ trials. IsTriedAtNo trials u) (sym (at_next N fits decides s go t next later it)) (
        elim come [
          | inl here ↦
              let node_is : here.0 ≡ node =
              same_node (subtree next.node t) here.0 node here.1 (ap (λ p. subtree p t) (sym it.number_is) ∙ it.visited.node_is) in
              let found : subtree q node ≡ Some v = ap (subtree q) (sym node_is) ∙ here.2 in
              elim (cases_Bool (nat_eq it.n q)) [
                | inl same ↦ here_tried go next later it (eqb-true it.n q same)
                | inr other ↦
                    let among : subtree_among q it.ts ≡ Some v = sym (cond-false (nat_eq it.n q) (Some node) (subtree_among q it.ts) other) ∙ found in
                    let within = children_within it.n it.r it.a it.ts (v_rises N s t it.n it.slot node later it.visited) in
                    on (come_all t q v (it.n + 1) within.0 it.ts later within.1
                    (λ p y e. node_deeper it.n p t node y it.visited.rise it.visited.node_is (child_found within.0 it.n it.r it.a p it.ts y within.1 e))
                    (edit_waits x v w edit.edit edit.smaller) (let less = edit.smaller in omega (arith, less)) among)
              ]
          | inr come' ↦ on (still_all t q v it.ts later come')
        ]
        )
