-- What holds of all that a round tries.
use Rattle.std.proofs.Common.{◌≡◌, inl, inr, ℕ, zero, suc, ◌<◌, Bool, true, false, List, [], ◌∷◌, Option}
use Rattle.std.proofs.Common.{Some, None, length, slice_get, refl, sym, subst, arith}
use Rattle.std.specs.List.{AllByRecursion}
use Rattle.normal_form.specs.declared.normal.Sym.{Sym}
use Rattle.normal_form.specs.Form.{RuleForm, NormalForm}
use Rattle.normal_form.specs.NormalOf.{IsNormal}
use Rattle.node_queue.specs.Waiting.{Waiting}
use Rattle.list_ddmin.specs.Asked.{KeepsFewer}
use Rattle.reduce_rounds.specs.Trials.{Trials, Try, AllTried, EachIsSmaller}
use Rattle.reduce_rounds.proofs.Lent as lists
use Rattle.syntax_tree.specs.Trees.{PlainTree, PlainTrees, count, weight, weight_all}
use Rattle.syntax_tree.specs.Valid.{IsValid}
use Rattle.syntax_tree.specs.Numbered.{with_subtree}
use Rattle.syntax_tree.specs.Edits.{IsSingleEdit}
use Rattle.syntax_tree.specs.Left.{IsRemainderOf, selected_trees}
use Rattle.syntax_tree.specs.Laws.{ElementsHaveTokens}
use Rattle.syntax_tree.proofs.Lent.{transitive}
use Rattle.descend_replace.specs.Compatible.{DecidesFits, compatible}
use Rattle.reduce_perses.specs.Queued.{IsInRound, IsKeptTree, with_trees}
use Rattle.reduce_perses.specs.Visit.{each_tried, form_visited, list_visited, optional_visited, visit_within}
use Rattle.reduce_perses.proofs.Selecting.{weight_fewer}
use Rattle.reduce_perses.proofs.Descending.{IsCompatible, all_compatible}
use Rattle.reduce_perses.proofs.Visits.{GoesTo, IsVisited}
use Rattle.reduce_perses.proofs.Forms.{IsListRule, all_elements, content_edit, content_goes, descendant_edit, descendant_goes}
use Rattle.reduce_perses.proofs.Forms.{goes_down, goes_past, list_elements, list_goes, next_of, weight_changes}
use Rattle.reduce_perses.proofs.Going.{at_next}

-- A property of a tree, the last that had a yes, and what is tried then. It holds where nothing
-- is tried; and of a smaller tree that is tried, where it holds of what follows.
module _ (N : NormalForm) (fits : Sym → Sym → Bool) (decides : DecidesFits N fits) (s : Sym) (Q : PlainTree → Trials PlainTree → Type 0) where
  -- The property holds by the trees that are tried in this visit.
  pub record HoldsByTrials (t v : PlainTree) (later : List Waiting) : Type 0 where
    pub by_try : (u : PlainTree) (queue : List Waiting) (y n : Trials PlainTree) → GoesTo N s t v later u queue → IsSingleEdit N s t u → Q u y → Q t n
        → Q t (Try u y n)

  module _ (go : PlainTree → List Waiting → Trials PlainTree) (t : PlainTree) (later : List Waiting) where
    module _ (n r a : ℕ) (ts : PlainTrees) (slot : Sym) (is : IsVisited N s t n slot (PlainTree.node n r a ts) later) (heavy : 0 < weight_all ts)
        (tries : HoldsByTrials t (PlainTree.node n r a ts) later)
        (goes_on : (u : PlainTree) (queue : List Waiting) → GoesTo N s t (PlainTree.node n r a ts) later u queue → Q u (go u queue)) where
      each_holds : (alts : List (List Sym)) (us : List PlainTree) → slice_get N.rules r ≡ Some (RuleForm.regular alts)
          → AllByRecursion (IsCompatible N slot (PlainTree.node n r a ts)) us →
          Q t (each_tried go t later n us (go t (with_trees ts later)))
      each_holds alts [] rule all = goes_on t (with_trees ts later) (goes_down N s t later n r a ts slot is heavy)
      each_holds alts (u ∷ us) rule all =
          let goes = descendant_goes N s t later n r a ts slot is heavy alts u rule all.0 in
          tries.by_try (with_subtree n u t) (with_trees (PlainTrees.next u PlainTrees.none) later) _ _ goes
          (descendant_edit N s t later n r a ts slot is heavy alts u rule all.0) (goes_on _ _ goes) (each_holds alts us rule all.1)

    optional_holds : (n r a : ℕ) (ts : PlainTrees) (slot : Sym) → IsVisited N s t n slot (PlainTree.node n r a ts) later → 0 < weight_all ts
        → HoldsByTrials t (PlainTree.node n r a ts) later →
        ((u : PlainTree) (queue : List Waiting) → GoesTo N s t (PlainTree.node n r a ts) later u queue → Q u (go u queue)) →
        (y : Sym) → slice_get N.rules r ≡ Some (RuleForm.opt y) → Q t (optional_visited go t later n r a ts)
    optional_holds n r a PlainTrees.none slot is heavy tries goes_on y rule = goes_on t later (goes_past N s t later n r a PlainTrees.none slot is heavy)
    optional_holds n r a (PlainTrees.next u us) slot is heavy tries goes_on y rule =
        let goes = content_goes N s t later n r a u us slot is y rule in
        tries.by_try (with_subtree n (PlainTree.node n r a PlainTrees.none) t) later _ _ goes (content_edit N s t later n r a u us slot is heavy y rule)
        (goes_on _ _ goes)
        (goes_on t (with_trees (PlainTrees.next u us) later) (goes_down N s t later n r a (PlainTrees.next u us) slot is heavy))

    module _ (n r a : ℕ) (ts : PlainTrees) (slot : Sym) (is : IsVisited N s t n slot (PlainTree.node n r a ts) later) (heavy : 0 < weight_all ts)
        (tries : HoldsByTrials t (PlainTree.node n r a ts) later)
        (goes_on : (u : PlainTree) (queue : List Waiting) → GoesTo N s t (PlainTree.node n r a ts) later u queue → Q u (go u queue))
        (list_holds : (may_be_empty : Bool) (x : Sym) → IsListRule N may_be_empty r x → Q t (list_visited go t later may_be_empty n r a ts)) where
      pub form_holds : (o : Option RuleForm) → slice_get N.rules r ≡ o → Q t (form_visited go t later fits (Some slot) o n r a ts)
      form_holds None rule = goes_on t later (goes_past N s t later n r a ts slot is heavy)
      form_holds (Some (RuleForm.star x)) rule = list_holds true x rule
      form_holds (Some (RuleForm.plus x)) rule = list_holds false x rule
      form_holds (Some (RuleForm.opt x)) rule = optional_holds n r a ts slot is heavy tries goes_on x rule
      form_holds (Some (RuleForm.regular alts)) rule =
          each_holds n r a ts slot is heavy tries goes_on alts (compatible fits slot (PlainTree.node n r a ts)) rule
          (all_compatible N fits decides slot (PlainTree.node n r a ts))

-- All that is tried is a tree for the slot, and left of the whole tree.
module _ (N : NormalForm) (fits : Sym → Sym → Bool) (decides : DecidesFits N fits) (s : Sym) (whole : PlainTree) where
  kept_by : (t v u : PlainTree) (later queue : List Waiting) → IsRemainderOf whole t → GoesTo N s t v later u queue → IsKeptTree N s whole u
  kept_by t v u later queue left goes = (goes.round.tree, transitive whole t u left goes.left)

  -- Each tree that is tried is kept.
  abbrev AllKept : PlainTree → Trials PlainTree → Type 0
  AllKept t trials = AllTried (IsKeptTree N s whole) trials

  pub all_kept : (times : ℕ) (t : PlainTree) (queue : List Waiting) → IsInRound N s t queue → IsRemainderOf whole t
      → AllTried (IsKeptTree N s whole) (visit_within N fits s times t queue)
  unfolding visit_within
  all_kept zero t queue round left = tt
  all_kept (suc times) t [] round left = tt
  all_kept (suc times) t (next ∷ later) round left =
      let it = next_of N s t next later round in
      let v : PlainTree = PlainTree.node it.n it.r it.a it.ts in
      let go : PlainTree → List Waiting → Trials PlainTree = λ u queue. visit_within N fits s times u queue in
      let on : (u : PlainTree) (queue : List Waiting) → GoesTo N s t v later u queue → AllTried (IsKeptTree N s whole) (visit_within N fits s times u queue) =
      λ u queue goes. all_kept times u queue goes.round (transitive whole t u left goes.left) in
      subst (AllTried (IsKeptTree N s whole)) (sym (at_next N fits decides s go t next later it))
      (form_holds N fits decides s AllKept go t later it.n it.r it.a it.ts it.slot it.visited it.heavy
      (record { by_try = λ u queue y n goes edit at_yes at_no. (kept_by t v u later queue left goes, (at_yes, at_no)) }) on
      (λ may_be_empty x rule.
      lists.tries_selections (IsKeptTree N s whole) (λ keep. with_subtree it.n (PlainTree.node it.n it.r it.a (selected_trees keep it.ts)) t)
      (λ keep. go (with_subtree it.n (PlainTree.node it.n it.r it.a (selected_trees keep it.ts)) t) (with_trees (selected_trees keep it.ts) later))
      (count it.ts) may_be_empty
      (λ keep some. kept_by t v _ later _ left (list_goes N s t later it.n it.r it.a it.ts it.slot it.visited it.heavy may_be_empty x keep rule (inr some)))
      (λ keep remain. on _ _ (list_goes N s t later it.n it.r it.a it.ts it.slot it.visited it.heavy may_be_empty x keep rule remain)))
      (slice_get N.rules it.r) refl)

-- Each yes has fewer leaves.
module _ (N : NormalForm) (fits : Sym → Sym → Bool) (decides : DecidesFits N fits) (normal : IsNormal N) (elements : ElementsHaveTokens) (s : Sym) where
  has_leaf : (may_be_empty : Bool) (r : ℕ) (x : Sym) → IsListRule N may_be_empty r x → (u : PlainTree) → IsValid N x u → 0 < weight u
  has_leaf true r x rule u valid = elements N normal r x u (inl rule) valid
  has_leaf false r x rule u valid = elements N normal r x u (inr rule) valid

  abbrev Smaller : PlainTree → Trials PlainTree → Type 0
  Smaller t trials = EachIsSmaller weight (weight t) trials

  list_smaller : (t : PlainTree) (later : List Waiting) (n r a : ℕ) (ts : PlainTrees) (slot : Sym) → IsVisited N s t n slot (PlainTree.node n r a ts) later
      → 0 < weight_all ts →
      (may_be_empty : Bool) (x : Sym) → IsListRule N may_be_empty r x → (question keep : List Bool) → length keep ≡ count ts → KeepsFewer question keep →
      weight (with_subtree n (PlainTree.node n r a (selected_trees question ts)) t) < weight (with_subtree n (PlainTree.node n r a (selected_trees keep ts)) t)
  list_smaller t later n r a ts slot is heavy may_be_empty x rule question keep same less =
      let asked = weight_changes N s t later n r a ts slot is heavy (PlainTree.node n r a (selected_trees question ts)) in
      let kept = weight_changes N s t later n r a ts slot is heavy (PlainTree.node n r a (selected_trees keep ts)) in
      let fewer =
      weight_fewer N x (has_leaf may_be_empty r x rule) question keep ts same less.only (list_elements N may_be_empty slot n r a ts x rule is.valid) in
      let count_less = less.fewer in
      omega (arith, asked, kept, fewer, count_less)

  pub smaller : (times : ℕ) (t : PlainTree) (queue : List Waiting) → IsInRound N s t queue
      → EachIsSmaller weight (weight t) (visit_within N fits s times t queue)
  unfolding visit_within
  smaller zero t queue round = tt
  smaller (suc times) t [] round = tt
  smaller (suc times) t (next ∷ later) round =
      let it = next_of N s t next later round in
      let v : PlainTree = PlainTree.node it.n it.r it.a it.ts in
      let go : PlainTree → List Waiting → Trials PlainTree = λ u queue. visit_within N fits s times u queue in
      let on : (u : PlainTree) (queue : List Waiting) → GoesTo N s t v later u queue → EachIsSmaller weight (weight u) (visit_within N fits s times u queue) =
      λ u queue goes. smaller times u queue goes.round in
      subst (λ trials. EachIsSmaller weight (weight t) trials) (sym (at_next N fits decides s go t next later it))
      (form_holds N fits decides s Smaller go t later it.n it.r it.a it.ts it.slot it.visited it.heavy
      (record { by_try = λ u queue y n goes edit at_yes at_no. (edit.smaller, (at_yes, at_no)) }) on
      (λ may_be_empty x rule.
      subst (λ (u : PlainTree). EachIsSmaller weight (weight u) (list_visited go t later may_be_empty it.n it.r it.a it.ts))
      (all_elements N s t later it.n it.r it.a it.ts it.slot it.visited it.heavy)
      (lists.becomes_smaller weight (λ keep. with_subtree it.n (PlainTree.node it.n it.r it.a (selected_trees keep it.ts)) t)
      (λ keep. go (with_subtree it.n (PlainTree.node it.n it.r it.a (selected_trees keep it.ts)) t)
      (with_trees (selected_trees keep it.ts) later)) (count it.ts) may_be_empty
      (list_smaller t later it.n it.r it.a it.ts it.slot it.visited it.heavy may_be_empty x rule)
      (λ keep remain. on _ _ (list_goes N s t later it.n it.r it.a it.ts it.slot it.visited it.heavy may_be_empty x keep rule remain))))
      (slice_get N.rules it.r) refl)
