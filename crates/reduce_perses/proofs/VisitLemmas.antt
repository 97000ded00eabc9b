-- What is tried within a visit.
use Rattle.std.proofs.Common.{◌≡◌, inr, ℕ, List, Bool, true, false, Option, Some, None, get_or, refl, sym, ap, ◌∙◌, subst}
use Rattle.std.specs.Prelude.{IfSome, not}
use Rattle.std.specs.Option.{is_some}
use Rattle.std.proofs.lemmas.Bool.{false≢true}
use Rattle.std.proofs.lemmas.Option.{none-some, same_Some}
use Rattle.normal_form.specs.declared.normal.Sym.{Sym}
use Rattle.normal_form.specs.Form.{NormalForm}
use Rattle.list_ddmin.specs.Machine.{State, asks}
use Rattle.node_queue.specs.Waiting.{Waiting}
use Rattle.reduce_rounds.specs.Trials.{Trials, Done, Try, is_done, tried_state}
use Rattle.reduce_rounds.proofs.Lent.{by_asked, selection-asked}
use Rattle.syntax_tree.specs.Trees.{PlainTree}
use Rattle.syntax_tree.specs.Valid.{IsTreeFor}
use Rattle.syntax_tree.specs.Numbered.{subtree, with_subtree}
use Rattle.syntax_tree.specs.Nodes.{SyntaxTree, whole}
use Rattle.syntax_tree.specs.Left.{IsRemainderOf, selected_trees}
use Rattle.syntax_tree.proofs.Lent.{transitive}
use Rattle.syntax_tree_cut.specs.Cuts.{CanSelect, CutForm, HasChildren, cut_tree}
use Rattle.syntax_tree_cut.proofs.Lent.{some_of}
use Rattle.reduce_perses.specs.Queued.{IsKeptTree}
use Rattle.reduce_perses.specs.Laws.{GoesOn}
use Rattle.reduce_perses.specs.declared.visit.Visit.{Visit}
use Rattle.reduce_perses.specs.declared.visit.Visit.TheVariants.{Elements, Content, Descendants}
use Rattle.reduce_perses.specs.inner.VisitTrials.{content_tried, elements_tried, trials_within, tree_left, visit_trials}
use Rattle.reduce_perses.specs.inner.Visiting.{AreDescendants, AreVisits, IsElements, IsVisit, IsVisiting, descendants_at}
use Rattle.reduce_perses.proofs.ElementsLemmas as elements
use Rattle.reduce_perses.proofs.ContentLemmas as content
use Rattle.reduce_perses.proofs.DescendantsLemmas as descendants

module _ (N : NormalForm) (s : Sym) (t : PlainTree) (queue : List Waiting) where
  module _ (list : ℕ) (step : State) (is : IsElements N s t queue list step) where
    -- the list can keep what its step asks for
    pub can_keep_asked : IfSome (asks step) (λ keep. CanSelect N t list keep)
    can_keep_asked =
        by_asked (asks step) (λ o. IfSome o (λ keep. CanSelect N t list keep)) (λ e. tt) (λ question e. elements.can_ask N s t queue list step is question e)

    -- and that is the tree that is tried
    pub elements_state : (u : PlainTree) → IfSome (asks step) (λ keep. HasChildren list (selected_trees keep) t u)
        → tried_state (elements_tried N s t queue step (subtree list t)) ≡ Some u
    elements_state u has =
        let it = some_of (asks step) is.step_is.asking in
        elements.tries_kept N s t queue list step is it.0 it.1 u
        (subst (λ (o : Option (List Bool)). IfSome o (λ keep. HasChildren list (selected_trees keep) t u)) it.1 has)

  -- a descendant at the node's position is tried
  pub descendants_state : (node : ℕ) (found : List ℕ) (at : ℕ) → AreDescendants N s t queue node found at → (by d : ℕ) → by ≡ get_or found at d
      → (u : PlainTree)
      → ((x : PlainTree) → subtree by t ≡ Some x → u ≡ with_subtree node x t) → tried_state (descendants_at N s t queue at node) ≡ Some u
  descendants_state node found at is by d same u has =
      ap tried_state (descendants.tries_at N s t queue node found is.are_found at is.within)
      ∙ ap (λ (x : PlainTree). Some x)
      (sym (has (descendants.tree_at N s t queue node found is.are_found at) (descendants.found_at N s t queue node found is.are_found at is.within by d same)))

  -- A tree is tried, which is one for the slot and left of the tree.
  pub record Tries (trials : Trials PlainTree) : Type 0 where
    pub tried : PlainTree
    pub at_yes : Trials PlainTree
    pub at_no : Trials PlainTree
    pub trials_are : trials ≡ Try tried at_yes at_no
    pub tree : IsTreeFor N s tried
    pub left : IsRemainderOf t tried

  tries : (trials : Trials PlainTree) (tried : PlainTree) (at_yes at_no : Trials PlainTree) (later : List Waiting) → trials ≡ Try tried at_yes at_no
      → GoesOn N s t tried later → Tries trials
  tries trials tried at_yes at_no later are goes =
      record { tried = tried; at_yes = at_yes; at_no = at_no; trials_are = are; tree = goes.round.tree; left = goes.left }

  -- Within a visit there is such a tree.
  pub visit_tries : (visit : Visit) → IsVisit N s t queue visit → Tries (visit_trials N s t queue visit)
  visit_tries (Elements list step) is =
      let it = some_of (asks step) is.step_is.asking in
      let goes =
      elements.list_goes N s t queue list is.rule is.alt is.elements is.slot is.may_be_empty is.symbol it.0 is.next is.is_list
      (is.step_is.remainders it.0 (inr (selection-asked step it.0 is.step_is.sound it.1))) in
      tries (elements_tried N s t queue step (subtree list t)) _ _ _ _ (elements.tries N s t queue list step is it.0 it.1) goes
  visit_tries (Content node) is =
      tries (content_tried N s t queue (subtree node t)) _ _ _ _ (content.tries_without N s t queue node is) (is.next.goes_on.optional is.symbol is.is_optional)
  visit_tries (Descendants node found at) is =
      tries (descendants_at N s t queue at node) _ _ _ _ (descendants.tries_at N s t queue node found.items is.are_found at is.within)
      (descendants.goes_on_at N s t queue node found.items is.are_found at is.within)

  pub not_done : (visit : Visit) → IsVisit N s t queue visit → is_done (visit_trials N s t queue visit) ≡ false
  not_done visit is = ap is_done (visit_tries visit is).trials_are

  -- whether nothing more is tried
  pub over_is : (visit : Option Visit) (over : Bool) → IsVisiting N s t queue visit → is_some visit ≡ not over
      → over ≡ is_done (trials_within N s t queue visit)
  over_is None true is e = refl
  over_is None false is e = absurd (let no : false ≡ true = e in cc)
  over_is (Some visit) true is e = absurd (let no : true ≡ false = e in cc)
  over_is (Some visit) false is e = sym (not_done visit is)

  -- where nothing more is tried, that is left which the cut leaves
  pub left_at_end : (visit : Option Visit) → IsVisiting N s t queue visit → trials_within N s t queue visit ≡ Done → tree_left t visit ≡ t
  left_at_end None is over = refl
  left_at_end (Some visit) is over = absurd (false≢true (sym (not_done visit is) ∙ ap is_done over))

-- What is tried is kept.
pub visits_keep : (tree : SyntaxTree) (compat : NormalForm) (cut : CutForm) (queue : List Waiting) (visit : Option Visit)
    → AreVisits tree compat cut queue visit → (u : PlainTree) →
    tried_state (trials_within tree.form tree.start (cut_tree tree cut) queue visit) ≡ Some u → IsKeptTree tree.form tree.start (whole tree) u
visits_keep tree compat cut queue None are u e = absurd (none-some u e)
visits_keep tree compat cut queue (Some visit) are u e =
    let it = visit_tries tree.form tree.start (cut_tree tree cut) queue visit are.visiting in
    let same : it.tried ≡ u = same_Some it.tried u (sym (ap tried_state it.trials_are) ∙ e) in
    subst (IsKeptTree tree.form tree.start (whole tree)) same (it.tree, transitive (whole tree) (cut_tree tree cut) it.tried are.of.part it.left)

-- A copy is one of the same visits.
pub visits_copied : (tree : SyntaxTree) (compat : NormalForm) (cut cut' : CutForm) (queue queue' : List Waiting) (visit visit' : Option Visit)
    → AreVisits tree compat cut queue visit → cut' ≡ cut → queue' ≡ queue
    → ((N : NormalForm) (s : Sym) (t : PlainTree) (waiting : List Waiting) → IsVisiting N s t waiting visit → IsVisiting N s t waiting visit')
    → AreVisits tree compat cut' queue' visit'
visits_copied tree compat cut cut' queue queue' visit visit' are same_cut same_queue copied =
    let P : CutForm → List Waiting → Type 0 = λ c q. AreVisits tree compat c q visit' in
    let begun : AreVisits tree compat cut queue visit' =
    record { of = are.of; compat_is = are.compat_is; visiting = copied tree.form tree.start (cut_tree tree cut) queue are.visiting } in
    subst (λ c. P c queue') (sym same_cut) (subst (λ q. P cut q) (sym same_queue) begun)
