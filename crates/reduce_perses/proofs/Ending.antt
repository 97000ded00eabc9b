-- The trials of a round end as its recursion over a verdict does.
use Rattle.std.proofs.Common.{◌≡◌, inl, ℕ, zero, suc, ◌<◌, Bool, true, false, List, [], ◌∷◌, Option, Some, None, slice_get, refl, sym, ap, ◌∙◌, subst}
use Rattle.std.specs.List.{AllByRecursion, list_any}
use Rattle.normal_form.specs.declared.normal.Sym.{Sym}
use Rattle.normal_form.specs.Form.{RuleForm, NormalForm}
use Rattle.node_queue.specs.Waiting.{Waiting}
use Rattle.list_ddmin.specs.ListStep.{Outcome, list_step}
use Rattle.list_ddmin.specs.Machine.{State, IsSound, after, rest_of, start}
use Rattle.list_ddmin.proofs.Lent.{IsSound-start, begins_list_step, rest_of-after, stops_at_end}
use Rattle.reduce_rounds.specs.StateTexts.{StateTexts}
use Rattle.reduce_rounds.specs.Reduction.{RoundEnd, end_at, tested}
use Rattle.reduce_rounds.specs.ByTrials.{trials_end}
use Rattle.reduce_rounds.specs.Trials.{Trials}
use Rattle.reduce_rounds.specs.ListEnd.{after_texts, keep_verdict, listed_texts}
use Rattle.reduce_rounds.specs.Selections.{IsRemainder}
use Rattle.reduce_rounds.specs.inner.Selections.{IsRemainderAt}
use Rattle.reduce_rounds.proofs.Lent.{ends_as_list_step, by_steps, remainder-after, remainder-start}
use Rattle.syntax_tree.specs.Trees.{PlainTree, PlainTrees, count, weight_all}
use Rattle.syntax_tree.specs.Numbered.{subtree, with_subtree}
use Rattle.syntax_tree.specs.Left.{selected_trees}
use Rattle.descend_replace.specs.Compatible.{DecidesFits, compatible}
use Rattle.reduce_perses.specs.Queued.{IsInRound, nodes_in, with_trees}
use Rattle.reduce_perses.specs.Visit.{each_tried, form_visited, list_visited, node_visited, optional_visited, visit_from, visit_within}
use Rattle.reduce_perses.specs.VisitEnd.{end_from, first_yes, form_end, list_end, node_end, optional_end, visits_end, with_elements}
use Rattle.reduce_perses.proofs.Descending.{IsCompatible, all_compatible}
use Rattle.reduce_perses.proofs.Visits.{GoesTo, IsVisited}
use Rattle.reduce_perses.proofs.Forms.{IsListRule, Next, all_elements, content_goes, descendant_goes, goes_down, goes_past, list_goes, next_of}
use Rattle.reduce_perses.proofs.Going.{at_next, goes_by_visits}

-- What a list step ends with is all elements, or a selection of them.
module _ (verdict : List Bool → Bool) where
  record Remains (step : State) : Type 0 where
    remains : IsRemainderAt step (rest_of verdict step).result

  after_each : (step : State) (answer : Bool) → Remains (after step true) → Remains (after step false)
      → IsRemainderAt (after step answer) (rest_of verdict (after step answer)).result
  after_each step true at_yes at_no = at_yes.remains
  after_each step false at_yes at_no = at_no.remains

  remains_from : (step : State) → IsSound step → Remains step
  remains_from =
      by_steps Remains
      (λ step sound none. record { remains = inl (ap (λ (o : Outcome). o.result) (stops_at_end verdict step none)) })
      (λ step question sound is at_yes at_no. record {
        remains =
            subst (λ (o : Outcome). IsRemainderAt step o.result) (sym (rest_of-after verdict step question sound is))
            (remainder-after step question sound is (verdict question) (rest_of verdict (after step (verdict question))).result
            (after_each step (verdict question) at_yes at_no));
      })

  result_remains : (len : ℕ) (may_be_empty : Bool) → IsRemainder len may_be_empty (list_step verdict len may_be_empty).result
  result_remains len may_be_empty =
      remainder-start len may_be_empty (list_step verdict len may_be_empty).result
      (subst (λ (o : Outcome). IsRemainderAt (start len may_be_empty) o.result) (begins_list_step verdict len may_be_empty).1
      (remains_from (start len may_be_empty) (IsSound-start len may_be_empty)).remains)

module _ (texts : StateTexts PlainTree) (verdict : List ℕ → Bool) (N : NormalForm) (fits : Sym → Sym → Bool) (decides : DecidesFits N fits) (s : Sym) where
  -- A visit ends as the recursion does, where what it goes on with ends so.
  module _ (go : PlainTree → List Waiting → Trials PlainTree) (ends : PlainTree → List Waiting → RoundEnd PlainTree) (t : PlainTree) (later : List Waiting)
      (n r a : ℕ) (ts : PlainTrees) (slot : Sym)
      (is : IsVisited N s t n slot (PlainTree.node n r a ts) later) (heavy : 0 < weight_all ts)
      (same : (u : PlainTree) (queue : List Waiting) → GoesTo N s t (PlainTree.node n r a ts) later u queue
      → trials_end texts verdict u (go u queue) ≡ ends u queue) where
    list_ends : (may_be_empty : Bool) (x : Sym) → IsListRule N may_be_empty r x
        → trials_end texts verdict t (list_visited go t later may_be_empty n r a ts) ≡ list_end texts verdict ends t later may_be_empty n r a ts
    list_ends may_be_empty x rule =
        let state_of : List Bool → PlainTree = with_elements t n r a ts in
        let next : List Bool → Trials PlainTree = λ keep. go (with_elements t n r a ts keep) (with_trees (selected_trees keep ts) later) in
        let step : Outcome = list_step (keep_verdict texts verdict state_of) (count ts) may_be_empty in
        ap (λ (u : PlainTree). trials_end texts verdict u (list_visited go t later may_be_empty n r a ts))
        (sym (all_elements N s t later n r a ts slot is heavy))
        ∙ ends_as_list_step texts verdict state_of next (count ts) may_be_empty
        ∙ ap (after_texts (listed_texts texts state_of step.questions) (list_any (keep_verdict texts verdict state_of) step.questions))
        (same _ _ (list_goes N s t later n r a ts slot is heavy may_be_empty x step.result rule
        (result_remains (keep_verdict texts verdict state_of) (count ts) may_be_empty)))

    each_ends : (alts : List (List Sym)) (us : List PlainTree) → slice_get N.rules r ≡ Some (RuleForm.regular alts)
        → AllByRecursion (IsCompatible N slot (PlainTree.node n r a ts)) us →
        trials_end texts verdict t (each_tried go t later n us (go t (with_trees ts later))) ≡ first_yes texts verdict ends t later n us
        (ends t (with_trees ts later))
    each_ends alts [] rule all = same t (with_trees ts later) (goes_down N s t later n r a ts slot is heavy)
    each_ends alts (u ∷ us) rule all =
        let at_yes =
        same (with_subtree n u t) (with_trees (PlainTrees.next u PlainTrees.none) later)
        (descendant_goes N s t later n r a ts slot is heavy alts u rule all.0) in
        let at_no = each_ends alts us rule all.1 in
        λ i. tested texts verdict (with_subtree n u t) (at_yes i) (at_no i)

  optional_ends : (go : PlainTree → List Waiting → Trials PlainTree) (ends : PlainTree → List Waiting → RoundEnd PlainTree) (t : PlainTree)
      (later : List Waiting) (n r a : ℕ) (ts : PlainTrees) (slot : Sym)
      → IsVisited N s t n slot (PlainTree.node n r a ts) later → 0 < weight_all ts
      → ((u : PlainTree) (queue : List Waiting) → GoesTo N s t (PlainTree.node n r a ts) later u queue → trials_end texts verdict u (go u queue) ≡ ends u queue)
      → (y : Sym) → slice_get N.rules r ≡ Some (RuleForm.opt y)
      → trials_end texts verdict t (optional_visited go t later n r a ts) ≡ optional_end texts verdict ends t later n r a ts
  optional_ends go ends t later n r a PlainTrees.none slot is heavy same y rule = same t later (goes_past N s t later n r a PlainTrees.none slot is heavy)
  optional_ends go ends t later n r a (PlainTrees.next u us) slot is heavy same y rule =
      let at_yes = same (with_subtree n (PlainTree.node n r a PlainTrees.none) t) later (content_goes N s t later n r a u us slot is y rule) in
      let at_no = same t (with_trees (PlainTrees.next u us) later) (goes_down N s t later n r a (PlainTrees.next u us) slot is heavy) in
      λ i. tested texts verdict (with_subtree n (PlainTree.node n r a PlainTrees.none) t) (at_yes i) (at_no i)

  module _ (go : PlainTree → List Waiting → Trials PlainTree) (ends : PlainTree → List Waiting → RoundEnd PlainTree) (t : PlainTree)
      (later : List Waiting) (n r a : ℕ) (ts : PlainTrees) (slot : Sym)
      (is : IsVisited N s t n slot (PlainTree.node n r a ts) later) (heavy : 0 < weight_all ts)
      (same : (u : PlainTree) (queue : List Waiting)
      → GoesTo N s t (PlainTree.node n r a ts) later u queue → trials_end texts verdict u (go u queue) ≡ ends u queue) where
    form_ends : (o : Option RuleForm) → slice_get N.rules r ≡ o
        → trials_end texts verdict t (form_visited go t later fits (Some slot) o n r a ts) ≡ form_end texts verdict ends t later fits (Some slot) o n r a ts
    form_ends None rule = same t later (goes_past N s t later n r a ts slot is heavy)
    form_ends (Some (RuleForm.star x)) rule = list_ends go ends t later n r a ts slot is heavy same true x rule
    form_ends (Some (RuleForm.plus x)) rule = list_ends go ends t later n r a ts slot is heavy same false x rule
    form_ends (Some (RuleForm.opt x)) rule = optional_ends go ends t later n r a ts slot is heavy same x rule
    form_ends (Some (RuleForm.regular alts)) rule =
        each_ends go ends t later n r a ts slot is heavy same alts (compatible fits slot (PlainTree.node n r a ts)) rule
        (all_compatible N fits decides slot (PlainTree.node n r a ts))

  -- the next node is visited by the form of its rule, in its slot
  end_at_next : (ends : PlainTree → List Waiting → RoundEnd PlainTree) (t : PlainTree) (next : Waiting) (later : List Waiting) (it : Next N s t next later) →
      node_end texts verdict ends t later N fits s (subtree next.node t) ≡ form_end texts verdict ends t later fits (Some it.slot)
      (slice_get N.rules it.r) it.n it.r it.a it.ts
  end_at_next ends t next later it =
      ap (node_end texts verdict ends t later N fits s) (ap (λ p. subtree p t) (sym it.number_is) ∙ it.visited.node_is)
      ∙ ap (λ o. form_end texts verdict ends t later fits o (slice_get N.rules it.r) it.n it.r it.a it.ts) it.visited.slot_is

  node_ends : (go : PlainTree → List Waiting → Trials PlainTree) (ends : PlainTree → List Waiting → RoundEnd PlainTree) (t : PlainTree) (next : Waiting)
      (later : List Waiting) → IsInRound N s t (next ∷ later)
      → ((u : PlainTree) (queue : List Waiting) → IsInRound N s u queue → trials_end texts verdict u (go u queue) ≡ ends u queue)
      → trials_end texts verdict t (node_visited go t later N fits s (subtree next.node t)) ≡ node_end texts verdict ends t later N fits s (subtree next.node t)
  node_ends go ends t next later round same =
      let it = next_of N s t next later round in
      ap (trials_end texts verdict t) (at_next N fits decides s go t next later it)
      ∙ form_ends go ends t later it.n it.r it.a it.ts it.slot it.visited it.heavy (λ u queue goes. same u queue goes.round) (slice_get N.rules it.r) refl
      ∙ sym (end_at_next ends t next later it)

  pub visits_within_end : (times : ℕ) (t : PlainTree) (queue : List Waiting) → IsInRound N s t queue
      → trials_end texts verdict t (visit_within N fits s times t queue) ≡ visits_end texts verdict N fits s times t queue
  unfolding visit_within visits_end
  visits_within_end zero t queue round = refl
  visits_within_end (suc times) t [] round = refl
  visits_within_end (suc times) t (next ∷ later) round =
      node_ends (λ u queue. visit_within N fits s times u queue) (λ u queue. visits_end texts verdict N fits s times u queue) t next later round
      (λ u queue is. visits_within_end times u queue is)

  -- the recursion ends where no node waits
  pub ends_with_none : (t : PlainTree) → end_from texts verdict N fits s t [] ≡ end_at t
  unfolding visits_end
  ends_with_none t = refl

  -- and else it visits the next node, and then goes on
  pub ends_by_visits : (t : PlainTree) (next : Waiting) (later : List Waiting) → IsInRound N s t (next ∷ later) →
      end_from texts verdict N fits s t (next ∷ later) ≡ node_end texts verdict (λ u queue. end_from texts verdict N fits s u queue) t later N fits s
      (subtree next.node t)
  ends_by_visits t next later round =
      sym (visits_within_end (nodes_in t (next ∷ later)) t (next ∷ later) round)
      ∙ ap (trials_end texts verdict t) (goes_by_visits N fits decides s t next later round)
      ∙ node_ends (λ u queue. visit_from N fits s u queue) (λ u queue. end_from texts verdict N fits s u queue) t next later round
      (λ u queue is. visits_within_end (nodes_in u queue) u queue is)
