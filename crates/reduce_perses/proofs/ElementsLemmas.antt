-- The list step over the elements of a node: what it tries, what it can keep, and where the round goes on after it.
use Rattle.std.proofs.Common.{◌≡◌, ◌⊎◌, inl, inr, ℕ, suc, ◌+◌, ◌<◌, ◌≤◌, Bool, true, false, List, [], ◌∷◌, length, replicate}
use Rattle.std.proofs.Common.{Option, Some, None, slice_get, Bor, IsSome, refl, sym, ap, ◌∙◌, subst, arith}
use Rattle.std.specs.Prelude.{IfSome, is_some}
use Rattle.std.specs.List.{Contains}
use Rattle.std.specs.Option.{option_copied, option_map}
use Rattle.std.proofs.lemmas.Bool.{false≢true}
use Rattle.std.proofs.lemmas.List.{length-replicate}
use Rattle.std.proofs.lemmas.Option.{slice_get_within}
use Rattle.normal_form.specs.declared.normal.Sym.{Sym}
use Rattle.normal_form.specs.Form.{RuleForm, NormalForm}
use Rattle.list_ddmin.specs.ListStep.{kept_count}
use Rattle.list_ddmin.specs.Machine.{State, after, asks, kept, start}
use Rattle.list_ddmin.proofs.Lent.{IsSound-after, IsSound-start, kept_count-all, keeps_all_at_first, keeps_length, starts_with_all}
use Rattle.node_queue.specs.Waiting.{Waiting}
use Rattle.reduce_rounds.specs.Trials.{Trials, Try, state_after, tried_state, trials_after}
use Rattle.reduce_rounds.specs.ListTrials.{list_trials}
use Rattle.reduce_rounds.specs.Selections.{IsRemainder}
use Rattle.reduce_rounds.specs.inner.Selections.{IsRemainderAt}
use Rattle.reduce_rounds.proofs.Lent.{at_end, at_question, kept_at_no, kept_at_yes, remainder-after, remainder-start, selection-asked}
use Rattle.syntax_tree.specs.Trees.{PlainTree, PlainTrees, children_of, count, weight_all}
use Rattle.syntax_tree.specs.Numbered.{number_of, roots, subtree, subtree_among, with_subtree}
use Rattle.syntax_tree.specs.Valid.{slot_at}
use Rattle.syntax_tree.specs.Nodes.{AreNodesOf, SyntaxTree, whole}
use Rattle.syntax_tree.specs.Left.{node_left, selected_trees}
use Rattle.syntax_tree.proofs.Lent.{AreWithin, IsWithin, bounds, root_found, selected_left, other_nodes}
use Rattle.syntax_tree_cut.specs.Cuts.{CanSelect, CutForm, HasChildren, IsCutOf, cut_tree}
use Rattle.syntax_tree_cut.proofs.Lent.{some_of}
use Rattle.descend_replace.proofs.Lent.{children_are, cut_rises, left_node}
use Rattle.reduce_perses.specs.Queued.{IsInRound, with_trees}
use Rattle.reduce_perses.specs.Visit.{form_visited, list_visited, node_visited}
use Rattle.reduce_perses.specs.Laws.{GoesOn, IsNextVisit}
use Rattle.reduce_perses.proofs.NodeFacts.{child_found, children_within, first_found, later_found, node_deeper, node_rises}
use Rattle.reduce_perses.proofs.Selecting.{selected_all}
use Rattle.reduce_perses.proofs.Visits.{same_with}
use Rattle.reduce_perses.specs.declared.visit.Visit.{Visit}
use Rattle.reduce_perses.specs.declared.visit.Visit.TheVariants.{Elements}
use Rattle.descend_replace.specs.FitsIn.{fits_in}
use Rattle.reduce_perses.specs.inner.VisitTrials.{elements_tried, goes_on, with_kept}
use Rattle.reduce_perses.specs.inner.Visiting.{GoesOnWith, HasFewer, IsElements, IsList, IsTaken, list_rule, node_trials}
use Rattle.reduce_perses.proofs.WaitingLemmas.{children_fewer}

-- What the machine lends.

pub some_asked : (o : Option (Bor (List Bool))) (p : Option (List Bool)) (is_it : Bool) → option_copied o ≡ p → is_it ≡ is_some o → is_it ≡ true → IsSome p
some_asked None p is_it e is holds = absurd (false≢true (sym is ∙ holds))
some_asked (Some x) p is_it e is holds = ap is_some (sym e)

pub none_asked : (o : Option (Bor (List Bool))) (p : Option (List Bool)) (is_it : Bool) → option_copied o ≡ p → is_it ≡ is_some o → is_it ≡ false → p ≡ None
none_asked None p is_it e is fails = sym e
none_asked (Some x) p is_it e is fails = absurd (false≢true (sym fails ∙ is))

pub of_some : {A : Type 0} (P : A → Type 0) (o : Option A) (x : A) → Some x ≡ o → IfSome o P → P x
of_some {A} P o x e holds = let Q : Option A → Type 0 = λ p. IfSome p P in subst Q (sym e) holds

pub to_some : {A : Type 0} (P : A → Type 0) (o : Option A) (x : A) → Some x ≡ o → P x → IfSome o P
to_some {A} P o x e holds = let Q : Option A → Type 0 = λ p. IfSome p P in subst Q e holds

-- What can be kept.

one_kept : (keep : List Bool) → 0 < kept_count keep → Contains keep true
one_kept [] some = absurd (omega (arith, some))
one_kept (true ∷ keep) some = (0, omega arith, refl)
one_kept (false ∷ keep) some =
    let it = one_kept keep (omega (arith, some)) in
    let lt = it.1 in
    (suc it.0, omega (arith, lt), it.2)

some_count : (ts : PlainTrees) → 0 < weight_all ts → 0 < count ts
some_count PlainTrees.none heavy = absurd (let no : 0 < 0 = heavy in omega (arith, no))
some_count (PlainTrees.next t ts) heavy = omega arith

pub remainder_length : (len : ℕ) (may_be_empty : Bool) (keep : List Bool) → IsRemainder len may_be_empty keep → length keep ≡ len
remainder_length len may_be_empty keep (inl all) = ap length all ∙ length-replicate len true
remainder_length len may_be_empty keep (inr some) = some.length

-- a star keeps any of its elements, a plus at least one
list_is : (N : NormalForm) (r len : ℕ) (may_be_empty : Bool) (x : Sym) (keep : List Bool) → slice_get N.rules r ≡ Some (list_rule may_be_empty x) → 0 < len
    → IsRemainder len may_be_empty keep →
    (slice_get N.rules r ≡ Some (RuleForm.star x)) ⊎ ((slice_get N.rules r ≡ Some (RuleForm.plus x)) × Contains keep true)
list_is N r len true x keep rule some remain = inl rule
list_is N r len false x keep rule some (inl all) =
    inr (rule, one_kept keep (let same = ap kept_count all in let many = kept_count-all len in omega (arith, same, many, some)))
list_is N r len false x keep rule some (inr selection) = inr (rule, one_kept keep (selection.some refl))

-- the round goes on from what is kept
pub list_goes : (N : NormalForm) (s : Sym) (t : PlainTree) (queue : List Waiting) (n r a : ℕ) (ts : PlainTrees) (slot : Sym) (may_be_empty : Bool) (x : Sym)
    (keep : List Bool) → IsNextVisit N (fits_in N) s t queue n r a ts slot →
    slice_get N.rules r ≡ Some (list_rule may_be_empty x) → IsRemainder (count ts) may_be_empty keep
    → GoesOn N s t (with_subtree n (PlainTree.node n r a (selected_trees keep ts)) t) (with_trees (selected_trees keep ts) queue)
list_goes N s t queue n r a ts slot true x keep next rule remain = next.goes_on.star x keep rule remain
list_goes N s t queue n r a ts slot false x keep next rule remain = next.goes_on.plus x keep rule remain

-- A node with some of its children is found in its own position.
module _ (N : NormalForm) (s : Sym) (t : PlainTree) (queue : List Waiting) (n r a : ℕ) (ts : PlainTrees) (slot : Sym)
    (next : IsNextVisit N (fits_in N) s t queue n r a ts slot) where
  pub selected_there : (keep : List Bool) → subtree n (with_subtree n (PlainTree.node n r a (selected_trees keep ts)) t) ≡ Some
      (PlainTree.node n r a (selected_trees keep ts))
  selected_there keep =
      let v : PlainTree = PlainTree.node n r a ts in
      let w : PlainTree = PlainTree.node n r a (selected_trees keep ts) in
      let round = next.goes_on.nothing.round in
      let itself : subtree n v ≡ Some v = root_found v in
      let other =
      other_nodes N s slot n t v w round.tree.valid round.rise next.node next.slot_is (node_left n r a ts (selected_trees keep ts) (selected_left keep ts)) in
      other.node_in n (ap is_some itself) ∙ root_found w

  -- the tree in which it keeps these, and what is tried from there
  abbrev pub kept_tree : List Bool → PlainTree
  kept_tree keep = with_subtree n (PlainTree.node n r a (selected_trees keep ts)) t

  abbrev pub kept_trials : List Bool → Trials PlainTree
  kept_trials keep = goes_on N s (kept_tree keep) (with_trees (selected_trees keep ts) queue)

  pub kept_is : (step : State) → with_kept t step (subtree n t) ≡ kept_tree (kept step)
  kept_is step = ap (with_kept t step) next.node

  pub tried_is : (step : State) → elements_tried N s t queue step (subtree n t) ≡ list_trials kept_tree kept_trials step
  tried_is step = ap (elements_tried N s t queue step) next.node

  -- with all of them it is the same tree
  pub all_kept : kept_tree (replicate (count ts) true) ≡ t
  all_kept =
      ap (λ us. with_subtree n (PlainTree.node n r a us) t) (selected_all ts)
      ∙ same_with n t (PlainTree.node n r a ts) next.goes_on.nothing.round.rise next.node

-- The list step at a question.
module _ (N : NormalForm) (s : Sym) (t : PlainTree) (queue : List Waiting) (list : ℕ) (step : State) (is : IsElements N s t queue list step) where
  -- what it may keep it can keep
  pub can_select : (keep : List Bool) → IsRemainder (count is.elements) is.may_be_empty keep → CanSelect N t list keep
  can_select keep remain = record {
    rule = is.rule;
    alt = is.alt;
    elements = is.elements;
    symbol = is.symbol;
    node = is.next.node;
    is_list = list_is N is.rule (count is.elements) is.may_be_empty is.symbol keep is.is_list (some_count is.elements is.next.some) remain;
    each = remainder_length (count is.elements) is.may_be_empty keep remain;
  }

  -- what it keeps, and what it asks
  pub can_keep : CanSelect N t list (kept step)
  can_keep = can_select (kept step) (is.step_is.remainders (kept step) (inl refl))

  pub can_ask : (question : List Bool) → asks step ≡ Some question → CanSelect N t list question
  can_ask question asked = can_select question (is.step_is.remainders question (inr (selection-asked step question is.step_is.sound asked)))

  abbrev tree_of : List Bool → PlainTree
  tree_of = kept_tree N s t queue list is.rule is.alt is.elements is.slot is.next

  abbrev trials_of : List Bool → Trials PlainTree
  trials_of = kept_trials N s t queue list is.rule is.alt is.elements is.slot is.next

  -- what it asks is tried
  pub tries : (question : List Bool) → asks step ≡ Some question
      → elements_tried N s t queue step (subtree list t) ≡ Try (tree_of question) (list_trials tree_of trials_of (after step true))
      (list_trials tree_of trials_of (after step false))
  tries question asked =
      tried_is N s t queue list is.rule is.alt is.elements is.slot is.next step ∙ at_question tree_of trials_of step question is.step_is.sound asked

  pub tries_kept : (question : List Bool) → asks step ≡ Some question → (u : PlainTree) → HasChildren list (selected_trees question) t u
      → tried_state (elements_tried N s t queue step (subtree list t)) ≡ Some u
  tries_kept question asked u has = ap tried_state (tries question asked) ∙ ap (λ (v : PlainTree). Some v) (sym (has is.rule is.alt is.elements is.next.node))

  -- After an answer.

  trials_are : (question : List Bool) → asks step ≡ Some question → (answer : Bool)
      → list_trials tree_of trials_of (after step answer) ≡ trials_after (elements_tried N s t queue step (subtree list t)) answer
  trials_are question asked true = sym (ap (λ trials. trials_after trials true) (tries question asked))
  trials_are question asked false = sym (ap (λ trials. trials_after trials false) (tries question asked))

  tree_is : (question : List Bool) → asks step ≡ Some question → (answer : Bool)
      → tree_of (kept (after step answer)) ≡ state_after (with_kept t step (subtree list t)) (elements_tried N s t queue step (subtree list t)) answer
  tree_is question asked true =
      ap tree_of (kept_at_yes step question is.step_is.sound asked)
      ∙ sym (ap (λ trials. state_after (with_kept t step (subtree list t)) trials true) (tries question asked))
  tree_is question asked false =
      ap tree_of (kept_at_no step question is.step_is.sound asked)
      ∙ sym (kept_is N s t queue list is.rule is.alt is.elements is.slot is.next step)
      ∙ sym (ap (λ trials. state_after (with_kept t step (subtree list t)) trials false) (tries question asked))

  remain_after : (question : List Bool) → asks step ≡ Some question → (answer : Bool) (keep : List Bool) → IsRemainderAt (after step answer) keep
      → IsRemainder (count is.elements) is.may_be_empty keep
  remain_after question asked answer keep remain = is.step_is.remainders keep (remainder-after step question is.step_is.sound asked answer keep remain)

  -- there is one more question
  step_after : (question : List Bool) → asks step ≡ Some question → (answer : Bool) → IsSome (asks (after step answer))
      → IsElements N s t queue list (after step answer)
  step_after question asked answer asking = record {
    rule = is.rule;
    alt = is.alt;
    elements = is.elements;
    slot = is.slot;
    may_be_empty = is.may_be_empty;
    symbol = is.symbol;
    next = is.next;
    is_list = is.is_list;
    step_is = record {
      sound = IsSound-after step answer is.step_is.sound;
      asking = asking;
      each = keeps_length step answer ∙ is.step_is.each;
      remainders = remain_after question asked answer;
    };
  }

  abbrev GoesOnAfter : Bool → PlainTree → List Waiting → Option Visit → Type 0
  GoesOnAfter answer u later =
      GoesOnWith N s u later (state_after (with_kept t step (subtree list t)) (elements_tried N s t queue step (subtree list t)) answer)
      (trials_after (elements_tried N s t queue step (subtree list t)) answer)

  pub goes_on_asking : (answer : Bool) (new : State) → new ≡ after step answer → IsSome (asks new) → GoesOnAfter answer t queue (Some (Elements list new))
  goes_on_asking answer new new_is asking =
      let it = some_of (asks step) is.step_is.asking in
      let P : State → Type 0 = λ (st : State). IsSome (asks st) → GoesOnAfter answer t queue (Some (Elements list st)) in
      subst P (sym new_is) (λ some. record {
        left_is = kept_is N s t queue list is.rule is.alt is.elements is.slot is.next (after step answer) ∙ tree_is it.0 it.1 answer;
        rest_is = tried_is N s t queue list is.rule is.alt is.elements is.slot is.next (after step answer) ∙ trials_are it.0 it.1 answer;
        going = step_after it.0 it.1 answer some;
      }) asking

  -- the elements that it kept can be kept, and then are those of the node
  pub can_end : (answer : Bool) (keep : List Bool) → keep ≡ kept (after step answer) → CanSelect N t list keep
  can_end answer keep keep_is =
      let it = some_of (asks step) is.step_is.asking in
      can_select keep (subst (IsRemainder (count is.elements) is.may_be_empty) (sym keep_is)
      (remain_after it.0 it.1 answer (kept (after step answer)) (inl refl)))

  module _ (keep : List Bool) (u : PlainTree) (has : HasChildren list (selected_trees keep) t u) where
    u_is : u ≡ tree_of keep
    u_is = has is.rule is.alt is.elements is.next.node

    there : subtree list u ≡ Some (PlainTree.node list is.rule is.alt (selected_trees keep is.elements))
    there = ap (subtree list) u_is ∙ selected_there N s t queue list is.rule is.alt is.elements is.slot is.next keep

    pub list_left : IsSome (subtree list u)
    list_left = ap is_some there

    pub goes_on_ended : (answer : Bool) → keep ≡ kept (after step answer) → asks (after step answer) ≡ None → (later : List Waiting)
        → ((v : PlainTree) → subtree list u ≡ Some v → later ≡ with_trees (children_of v) queue) → GoesOnAfter answer u later None
    goes_on_ended answer keep_is over later pushed =
        let it = some_of (asks step) is.step_is.asking in
        let later_is : later ≡ with_trees (selected_trees keep is.elements) queue =
        pushed (PlainTree.node list is.rule is.alt (selected_trees keep is.elements)) there in
        let remain : IsRemainder (count is.elements) is.may_be_empty keep =
        subst (IsRemainder (count is.elements) is.may_be_empty) (sym keep_is) (remain_after it.0 it.1 answer (kept (after step answer)) (inl refl)) in
        let goes = list_goes N s t queue list is.rule is.alt is.elements is.slot is.may_be_empty is.symbol keep is.next is.is_list remain in
        record {
          left_is = u_is ∙ ap tree_of keep_is ∙ tree_is it.0 it.1 answer;
          rest_is =
              ap (λ (v : PlainTree). goes_on N s v later) u_is
              ∙ ap (λ (q : List Waiting). goes_on N s (tree_of keep) q) later_is
              ∙ ap trials_of keep_is
              ∙ sym (at_end tree_of trials_of (after step answer) over)
              ∙ trials_are it.0 it.1 answer;
          going =
              subst (λ (v : PlainTree). IsInRound N s v later) (sym u_is)
              (subst (λ (q : List Waiting). IsInRound N s (tree_of keep) q) (sym later_is) goes.round);
        }

-- The list step at its start.
module _ (N : NormalForm) (s : Sym) (t : PlainTree) (queue : List Waiting) (list : ℕ) (taken : IsTaken N s t queue list) (may_be_empty : Bool)
    (is_list : IsList N t list may_be_empty) where
  abbrev tree_at : List Bool → PlainTree
  tree_at = kept_tree N s t queue list taken.rule taken.alt taken.children taken.slot taken.next

  abbrev trials_at : List Bool → Trials PlainTree
  trials_at = kept_trials N s t queue list taken.rule taken.alt taken.children taken.slot taken.next

  rule_is : (x : Sym) × (slice_get N.rules taken.rule ≡ Some (list_rule may_be_empty x))
  rule_is = is_list taken.rule taken.alt taken.children taken.next.node

  by_form : (empty : Bool) (x : Sym) → form_visited (goes_on N s) t queue (fits_in N) (slot_at N s list t)
      (Some (list_rule empty x)) list taken.rule taken.alt taken.children ≡ list_visited (goes_on N s) t queue empty list taken.rule taken.alt taken.children
  by_form true x = refl
  by_form false x = refl

  visited_is : node_trials N s t queue list ≡ list_trials tree_at trials_at (start (count taken.children) may_be_empty)
  visited_is =
      ap (node_visited (goes_on N s) t queue N (fits_in N) s) taken.next.node
      ∙ ap (λ o. form_visited (goes_on N s) t queue (fits_in N) (slot_at N s list t) o list taken.rule taken.alt taken.children) rule_is.1
      ∙ by_form may_be_empty rule_is.0

  all_at : tree_at (kept (start (count taken.children) may_be_empty)) ≡ t
  all_at =
      ap tree_at (keeps_all_at_first (count taken.children) may_be_empty) ∙ all_kept N s t queue list taken.rule taken.alt taken.children taken.slot taken.next

  begun : IsSome (asks (start (count taken.children) may_be_empty)) → IsElements N s t queue list (start (count taken.children) may_be_empty)
  begun asking = record {
    rule = taken.rule;
    alt = taken.alt;
    elements = taken.children;
    slot = taken.slot;
    may_be_empty = may_be_empty;
    symbol = rule_is.0;
    next = taken.next;
    is_list = rule_is.1;
    step_is = record {
      sound = IsSound-start (count taken.children) may_be_empty;
      asking = asking;
      each = starts_with_all (count taken.children) may_be_empty;
      remainders = remainder-start (count taken.children) may_be_empty;
    };
  }

  pub begins_asking : (step : State) → step ≡ start (count taken.children) may_be_empty → IsSome (asks step)
      → GoesOnWith N s t queue t (node_trials N s t queue list) (Some (Elements list step))
  begins_asking step step_is asking =
      let P : State → Type 0 = λ (st : State). IsSome (asks st) → GoesOnWith N s t queue t (node_trials N s t queue list) (Some (Elements list st)) in
      subst P (sym step_is) (λ some. record {
        left_is = kept_is N s t queue list taken.rule taken.alt taken.children taken.slot taken.next (start (count taken.children) may_be_empty) ∙ all_at;
        rest_is =
            tried_is N s t queue list taken.rule taken.alt taken.children taken.slot taken.next (start (count taken.children) may_be_empty) ∙ sym visited_is;
        going = begun some;
      }) asking

  -- nothing is asked: the elements wait
  all_tried : trials_at (kept (start (count taken.children) may_be_empty)) ≡ goes_on N s t (with_trees taken.children queue)
  all_tried =
      ap trials_at (keeps_all_at_first (count taken.children) may_be_empty)
      ∙ ap (λ (u : PlainTree). goes_on N s u (with_trees (selected_trees (replicate (count taken.children) true) taken.children) queue))
      (all_kept N s t queue list taken.rule taken.alt taken.children taken.slot taken.next)
      ∙ ap (λ (us : PlainTrees). goes_on N s t (with_trees us queue)) (selected_all taken.children)

  pub begins_ended : (step : State) → step ≡ start (count taken.children) may_be_empty → asks step ≡ None → (later : List Waiting)
      → ((v : PlainTree) → subtree list t ≡ Some v → later ≡ with_trees (children_of v) queue) →
      GoesOnWith N s t later t (node_trials N s t queue list) None
  begins_ended step step_is over later pushed =
      let later_is : later ≡ with_trees taken.children queue = pushed (PlainTree.node list taken.rule taken.alt taken.children) taken.next.node in
      record {
        left_is = refl;
        rest_is =
            ap (λ (q : List Waiting). goes_on N s t q) later_is
            ∙ sym all_tried
            ∙ sym (at_end tree_at trials_at (start (count taken.children) may_be_empty) (ap asks (sym step_is) ∙ over))
            ∙ sym visited_is;
        going = subst (λ (q : List Waiting). IsInRound N s t q) (sym later_is) taken.next.goes_on.children.round;
      }

  pub begins_fewer : (later : List Waiting) → ((v : PlainTree) → subtree list t ≡ Some v → later ≡ with_trees (children_of v) queue)
      → HasFewer t list queue later None
  begins_fewer later pushed none =
      let later_is : later ≡ with_trees taken.children queue = pushed (PlainTree.node list taken.rule taken.alt taken.children) taken.next.node in
      subst (λ (q : List Waiting). HasFewer t list queue q None) (sym later_is)
      (λ same. children_fewer t list taken.rule taken.alt taken.children queue taken.next.goes_on.nothing.round.rise taken.next.node) none

roots_count : (ts : PlainTrees) → length (roots ts) ≡ count ts
roots_count PlainTrees.none = refl
roots_count (PlainTrees.next t ts) = let rest = roots_count ts in omega (arith, rest)

pub elements_count : (o : Option PlainTree) (numbers : List ℕ) (n r a : ℕ) (ts : PlainTrees)
    → option_map (λ (t : PlainTree). roots (children_of t)) o ≡ Some numbers → o ≡ Some (PlainTree.node n r a ts) → length numbers ≡ count ts
elements_count o numbers n r a ts are e = ap length (children_are o numbers (PlainTree.node n r a ts) are e) ∙ roots_count ts

-- A node of the parsed tree has fewer children than there are nodes.

own_number : (low high : ℕ) (t : PlainTree) → IsWithin low high t → low ≤ number_of t
own_number low high (PlainTree.leaf n k i) within = within.0
own_number low high (PlainTree.node n r a ts) within = within.0

last_number : (low high : ℕ) (t : PlainTree) (ts : PlainTrees) → AreWithin low high (PlainTrees.next t ts) → (q : ℕ) × (u : PlainTree)
    × (subtree_among q (PlainTrees.next t ts) ≡ Some u) × (low + count ts ≤ q)
last_number low high t PlainTrees.none within =
    (number_of t, t, first_found (number_of t) t PlainTrees.none t (root_found t), let own = own_number low within.0 t within.1 in omega (arith, own))
last_number low high t (PlainTrees.next v ts) within =
    let it = last_number within.0 high v ts within.2 in
    let own = bounds low within.0 t within.1 in
    let more = it.3 in
    (it.0, it.1, later_found low within.0 high it.0 t (PlainTrees.next v ts) it.1 within.1 within.2 it.2, omega (arith, own, more))

count_bound : (nodes : ℕ) (low high : ℕ) (ts : PlainTrees) → 0 < nodes → AreWithin (low + 1) high ts
    → ((q : ℕ) (u : PlainTree) → subtree_among q ts ≡ Some u → q < nodes) → count ts < nodes
count_bound nodes low high PlainTrees.none some within below = some
count_bound nodes low high (PlainTrees.next t ts) some within below =
    let it = last_number (low + 1) high t ts within in
    let lt = below it.0 it.1 it.2 in
    let le = it.3 in
    omega (arith, lt, le)

pub count_few : (tree : SyntaxTree) → AreNodesOf tree.form tree.start tree.nodes (whole tree) → (c : CutForm) → IsCutOf tree c → (n r a : ℕ) (ts : PlainTrees)
    → subtree n (cut_tree tree c) ≡ Some (PlainTree.node n r a ts) → count ts < length tree.nodes
count_few tree are c of n r a ts e =
    let rise = cut_rises tree are c of in
    let within = children_within n r a ts (node_rises n (cut_tree tree c) (PlainTree.node n r a ts) rise e) in
    let there : (q : ℕ) (u : PlainTree) → subtree q (cut_tree tree c) ≡ Some u → q < length tree.nodes = λ q u f. let node =
    left_node tree are c of q u f in slice_get_within tree.nodes q node.0 node.1 in
    count_bound (length tree.nodes) n within.0 ts (let lt = there n (PlainTree.node n r a ts) e in omega (arith, lt)) within.1
    (λ q u f. there q u (node_deeper n q (cut_tree tree c) (PlainTree.node n r a ts) u rise e (child_found within.0 n r a q ts u within.1 f)))
