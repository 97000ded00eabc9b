-- Each tree that is tried comes from the last that had a yes by a single edit, or by a selection of the elements of one list.
use Rattle.std.proofs.Common.{◌≡◌, inl, inr, ℕ, zero, suc, ◌<◌, Bool, true, false, List, [], ◌∷◌, nat_eq}
use Rattle.std.proofs.Common.{slice_get, refl, sym, ap, ◌∙◌, subst, arith}
use Rattle.std.proofs.lemmas.Bool.{cases_Bool, cond-false, cond-true}
use Rattle.normal_form.specs.declared.normal.Sym.{Sym}
use Rattle.normal_form.specs.Form.{NormalForm}
use Rattle.node_queue.specs.Waiting.{Waiting}
use Rattle.list_ddmin.specs.ListStep.{kept_of}
use Rattle.list_ddmin.specs.Asked.{KeepsFewer}
use Rattle.reduce_rounds.specs.Trials.{Trials, EachFollows}
use Rattle.reduce_rounds.specs.Selections.{IsRemainder, IsSelection}
use Rattle.syntax_tree.specs.Trees.{PlainTree, PlainTrees, count, weight_all}
use Rattle.syntax_tree.specs.Numbered.{number_of, with_subtree, with_subtree_among}
use Rattle.syntax_tree.specs.Left.{selected_trees}
use Rattle.syntax_tree.specs.EditLaws.{SelectsElements}
use Rattle.syntax_tree.specs.EditLaws as selects
use Rattle.syntax_tree.proofs.Lent.{root_found, root_with, selections}
use Rattle.descend_replace.specs.Compatible.{DecidesFits}
use Rattle.reduce_perses.specs.Queued.{IsInRound, with_trees}
use Rattle.reduce_perses.specs.Visit.{list_visited, visit_within}
use Rattle.reduce_perses.specs.Laws.{IsEditOrSelection, SelectsInTree}
use Rattle.reduce_perses.proofs.Selecting.{count_selected, selected_twice}
use Rattle.reduce_perses.proofs.Visits.{GoesTo, IsVisited, in_changed}
use Rattle.reduce_perses.proofs.Forms.{IsListRule, all_elements, list_goes, next_of, selects_some}
use Rattle.reduce_perses.proofs.Going.{at_next}
use Rattle.reduce_perses.proofs.Tried.{form_holds}
use Rattle.reduce_rounds.proofs.Lent.{list_follows}

-- The last of two trees that take a position is in it.
module _ (q : ℕ) (v w : PlainTree) (number : number_of v ≡ q) where
  in_root : with_subtree q w v ≡ w
  in_root = let P : ℕ → Type 0 = λ p. with_subtree p w v ≡ w in subst P number (root_with w v)

  mutual
    with_twice : (t : PlainTree) → with_subtree q w (with_subtree q v t) ≡ with_subtree q w t
    with_twice (PlainTree.leaf n k i) = elim (cases_Bool (nat_eq n q)) [
      | inl is ↦ ap (with_subtree q w) (cond-true (nat_eq n q) v (PlainTree.leaf n k i) is) ∙ in_root ∙ sym (cond-true (nat_eq n q) w (PlainTree.leaf n k i) is)
      | inr is ↦ ap (with_subtree q w) (cond-false (nat_eq n q) v (PlainTree.leaf n k i) is)
    ]
    with_twice (PlainTree.node n r a ts) = elim (cases_Bool (nat_eq n q)) [
      | inl is ↦ ap (with_subtree q w) (cond-true (nat_eq n q) v (PlainTree.node n r a (with_subtree_among q v ts)) is) ∙ in_root
          ∙ sym (cond-true (nat_eq n q) w (PlainTree.node n r a (with_subtree_among q w ts)) is)
      | inr is ↦
          ap (with_subtree q w) (cond-false (nat_eq n q) v (PlainTree.node n r a (with_subtree_among q v ts)) is)
          ∙ cond-false (nat_eq n q) w (PlainTree.node n r a (with_subtree_among q w (with_subtree_among q v ts))) is
          ∙ ap (λ us. PlainTree.node n r a us) (among_twice ts) ∙ sym (cond-false (nat_eq n q) w (PlainTree.node n r a (with_subtree_among q w ts)) is)
    ]

    among_twice : (ts : PlainTrees) → with_subtree_among q w (with_subtree_among q v ts) ≡ with_subtree_among q w ts
    among_twice PlainTrees.none = refl
    among_twice (PlainTrees.next t ts) = λ i. PlainTrees.next (with_twice t i) (among_twice ts i)

module _ (N : NormalForm) (s : Sym) (t : PlainTree) (later : List Waiting) (n r a : ℕ) (ts : PlainTrees) (slot : Sym)
    (is : IsVisited N s t n slot (PlainTree.node n r a ts) later) (heavy : 0 < weight_all ts) where
  selects_of : (may_be_empty : Bool) (x : Sym) (question keep mask : List Bool) → IsListRule N may_be_empty r x → IsSelection (count ts) may_be_empty question →
      selected_trees mask (selected_trees keep ts) ≡ selected_trees question ts →
      SelectsElements N mask (PlainTree.node n r a (selected_trees keep ts)) (PlainTree.node n r a (selected_trees mask (selected_trees keep ts)))
  selects_of true x question keep mask rule some same = selects.of_star n r a (selected_trees keep ts) x rule
  selects_of false x question keep mask rule some same =
      let counts = ap count same in
      let asked = count_selected question ts some.length in
      let many = some.some refl in
      selects.of_plus n r a (selected_trees keep ts) x rule (omega (arith, counts, asked, many))

  list_selects : (may_be_empty : Bool) (x : Sym) → IsListRule N may_be_empty r x → (question keep : List Bool) → IsRemainder (count ts) may_be_empty keep
      → IsSelection (count ts) may_be_empty question →
      KeepsFewer question keep → SelectsInTree N (with_subtree n (PlainTree.node n r a (selected_trees keep ts)) t)
      (with_subtree n (PlainTree.node n r a (selected_trees question ts)) t)
  list_selects may_be_empty x rule question keep remain some less =
      let v : PlainTree = PlainTree.node n r a ts in
      let w : PlainTree = PlainTree.node n r a (selected_trees keep ts) in
      let mask : List Bool = kept_of keep question in
      let rest : PlainTree = PlainTree.node n r a (selected_trees mask (selected_trees keep ts)) in
      let both = selections N slot keep v w is.valid (selects_some N s t later n r a ts slot is heavy may_be_empty x keep rule remain) in
      let same : selected_trees mask (selected_trees keep ts) ≡ selected_trees question ts = selected_twice question keep ts less.only in
      record {
        number = n;
        list = w;
        mask = mask;
        rest = rest;
        node = in_changed N s t n slot v later is w both.1 n w (root_found w);
        selects = selects_of may_be_empty x question keep mask rule some same;
        tree = ap (λ us. with_subtree n (PlainTree.node n r a us) t) (sym same) ∙ sym (with_twice n w rest refl t);
      }

module _ (N : NormalForm) (fits : Sym → Sym → Bool) (decides : DecidesFits N fits) (s : Sym) where
  abbrev Follows : PlainTree → Trials PlainTree → Type 0
  Follows t trials = EachFollows (IsEditOrSelection N s) t trials

  pub each_follows : (times : ℕ) (t : PlainTree) (queue : List Waiting) → IsInRound N s t queue
      → EachFollows (IsEditOrSelection N s) t (visit_within N fits s times t queue)
  unfolding visit_within
  each_follows zero t queue round = tt
  each_follows (suc times) t [] round = tt
  each_follows (suc times) t (next ∷ later) round =
      let it = next_of N s t next later round in
      let v : PlainTree = PlainTree.node it.n it.r it.a it.ts in
      let go : PlainTree → List Waiting → Trials PlainTree = λ u queue. visit_within N fits s times u queue in
      let on : (u : PlainTree) (queue : List Waiting) → GoesTo N s t v later u queue
      → EachFollows (IsEditOrSelection N s) u (visit_within N fits s times u queue) = λ u queue goes. each_follows times u queue goes.round in
      subst (λ trials. EachFollows (IsEditOrSelection N s) t trials) (sym (at_next N fits decides s go t next later it))
      (form_holds N fits decides s Follows go t later it.n it.r it.a it.ts it.slot it.visited it.heavy
      (record { by_try = λ u queue y n goes edit at_yes at_no. (inl edit, (at_yes, at_no)) }) on
      (λ may_be_empty x rule.
      subst (λ (u : PlainTree). EachFollows (IsEditOrSelection N s) u (list_visited go t later may_be_empty it.n it.r it.a it.ts))
      (all_elements N s t later it.n it.r it.a it.ts it.slot it.visited it.heavy)
      (list_follows (IsEditOrSelection N s) (λ keep. with_subtree it.n (PlainTree.node it.n it.r it.a (selected_trees keep it.ts)) t)
      (λ keep. go (with_subtree it.n (PlainTree.node it.n it.r it.a (selected_trees keep it.ts)) t) (with_trees (selected_trees keep it.ts) later))
      (count it.ts) may_be_empty
      (λ question keep remain some less. inr (list_selects N s t later it.n it.r it.a it.ts it.slot it.visited it.heavy may_be_empty x rule question keep remain
      some less))
      (λ keep remain. on _ _ (list_goes N s t later it.n it.r it.a it.ts it.slot it.visited it.heavy may_be_empty x keep rule remain))))
      (slice_get N.rules it.r) refl)
