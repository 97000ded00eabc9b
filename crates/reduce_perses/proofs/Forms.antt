-- The next node that is visited, and where the round goes on from it, by the form of its rule.
use Rattle.std.proofs.Common.{◌≡◌, inl, inr, ℕ, suc, ◌+◌, ◌<◌, Bool, true, false, List, ◌∷◌, Option, Some, None}
use Rattle.std.proofs.Common.{replicate, slice_get, refl, sym, ap, ◌∙◌, subst, arith}
use Rattle.std.specs.Option.{option_map_or}
use Rattle.std.proofs.lemmas.Bool.{false≢true}
use Rattle.std.proofs.lemmas.Bool.Decides.{Decides-ltb}
use Rattle.std.proofs.lemmas.Option.{none-some, same_Some}
use Rattle.normal_form.specs.declared.normal.Sym.{Sym}
use Rattle.normal_form.specs.Form.{RuleForm, NormalForm}
use Rattle.node_queue.specs.Waiting.{Waiting}
use Rattle.reduce_rounds.specs.Selections.{IsRemainder}
use Rattle.syntax_tree.specs.Trees.{PlainTree, PlainTrees, count, size, size_all, weight, weight_all}
use Rattle.syntax_tree.specs.Valid.{EachIsValid, IsValid, of_absent, of_plus, of_present, of_regular, of_star}
use Rattle.syntax_tree.specs.Numbered.{NumbersRise, subtree, with_subtree}
use Rattle.syntax_tree.specs.Edits.{IsLocalDeletion, IsLocalEdit, IsSingleEdit, by_descendant}
use Rattle.syntax_tree.specs.Edits as edits
use Rattle.syntax_tree.specs.Left.{IsRemainderOf, selected_trees}
use Rattle.syntax_tree.specs.EditLaws.{SelectsElements}
use Rattle.syntax_tree.specs.EditLaws as selects
use Rattle.syntax_tree.proofs.Lent.{or_none, within_from, part, have_slots, change, local_edits, numbered, selections}
use Rattle.reduce_perses.specs.Queued.{AreApartAt, IsInRound, nodes_in, waiting_of, waits, with_trees}
use Rattle.reduce_perses.proofs.NodeFacts.{child_found, children_within}
use Rattle.reduce_perses.proofs.Queues.{all_map}
use Rattle.reduce_perses.proofs.Selecting.{count_selected, selected_all, size_selected}
use Rattle.reduce_perses.proofs.Descending.{IsCompatible, size_some}
use Rattle.reduce_perses.proofs.Visits.{GoesTo, IsApartFromNode, IsVisited, goes_changed, goes_on, same_with, v_rises}

-- The next node of the queue: a node with the number n, the rule r, the alternative a and the children ts, which has a leaf.
pub record Next (N : NormalForm) (s : Sym) (t : PlainTree) (next : Waiting) (later : List Waiting) : Type 0 where
  pub n : ℕ
  pub r : ℕ
  pub a : ℕ
  pub ts : PlainTrees
  pub slot : Sym
  pub number_is : n ≡ next.node
  pub visited : IsVisited N s t n slot (PlainTree.node n r a ts) later
  pub heavy : 0 < weight_all ts

module _ (N : NormalForm) (s : Sym) (t : PlainTree) (next : Waiting) (later : List Waiting) (round : IsInRound N s t (next ∷ later)) where
  next_at : (v : PlainTree) → subtree next.node t ≡ Some v → waits v ≡ true → waiting_of v ≡ next → Next N s t next later
  next_at (PlainTree.leaf n k i) e is same = absurd (false≢true is)
  next_at (PlainTree.node n r a ts) e is same =
      let at : n ≡ next.node = ap (λ (w : Waiting). w.node) same in
      let node_is : subtree n t ≡ Some (PlainTree.node n r a ts) = ap (λ p. subtree p t) at ∙ e in
      let slots = have_slots N s n t (PlainTree.node n r a ts) round.tree.valid round.rise node_is in
      record {
        n = n;
        r = r;
        a = a;
        ts = ts;
        slot = slots.0;
        number_is = at;
        visited = record {
          tree = round.tree;
          rise = round.rise;
          node_is = node_is;
          slot_is = slots.1;
          valid = slots.2;
          queue_is = record { in_order = round.queue_is.in_order.1; entries = round.queue_is.entries.1; apart = round.queue_is.apart.1 };
          apart =
              all_map (AreApartAt t next) (IsApartFromNode t (PlainTree.node n r a ts)) later
              (λ entry apart u eu. apart (PlainTree.node n r a ts) u e eu) round.queue_is.apart.0;
        };
        heavy = (Decides-ltb 0 (weight_all ts)).0 is;
      }

  pub next_of : Next N s t next later
  next_of = let entry = round.queue_is.entries.0 in next_at entry.node entry.node_is entry.waits_is entry.entry_is

  pub nodes_next : (it : Next N s t next later) → nodes_in t (next ∷ later) ≡ size (PlainTree.node it.n it.r it.a it.ts) + nodes_in t later
  nodes_next it =
      let here : option_map_or size (subtree next.node t) 0 ≡ suc (size_all it.ts) =
      ap (λ o. option_map_or size o 0) (ap (λ p. subtree p t) (sym it.number_is) ∙ it.visited.node_is) in
      omega (arith, here)

module _ (N : NormalForm) where
  -- the rule is a star, where the list may be empty, or else a plus
  abbrev pub IsListRule : Bool → ℕ → Sym → Type 0
  IsListRule true r x = slice_get N.rules r ≡ Some (RuleForm.star x)
  IsListRule false r x = slice_get N.rules r ≡ Some (RuleForm.plus x)

  no_form : (o : Option RuleForm) (f g : RuleForm) → o ≡ Some f → o ≡ Some g → f ≡ g
  no_form o f g e e' = same_Some f g (sym e ∙ e')

  pub rule_exists : (x : Sym) (n r a : ℕ) (ts : PlainTrees) → IsValid N x (PlainTree.node n r a ts) → slice_get N.rules r ≡ None → ⊥
  rule_exists x n r a ts (of_regular x' n' r' a' ts' alts alt fits rule at valid) none = none-some (RuleForm.regular alts) (sym none ∙ rule)
  rule_exists x n r a ts (of_absent x' n' r' z fits rule) none = none-some (RuleForm.opt z) (sym none ∙ rule)
  rule_exists x n r a ts (of_present x' n' r' u z fits rule valid) none = none-some (RuleForm.opt z) (sym none ∙ rule)
  rule_exists x n r a ts (of_star x' n' r' ts' z fits rule each) none = none-some (RuleForm.star z) (sym none ∙ rule)
  rule_exists x n r a ts (of_plus x' n' r' u ts' z fits rule each) none = none-some (RuleForm.plus z) (sym none ∙ rule)

  -- an optional has no child or one
  pub optional_form : (x : Sym) (n r a : ℕ) (u : PlainTree) (us : PlainTrees) (y : Sym) → IsValid N x (PlainTree.node n r a (PlainTrees.next u us))
      → slice_get N.rules r ≡ Some (RuleForm.opt y) → us ≡ PlainTrees.none
  optional_form x n r a u us y (of_regular x' n' r' a' ts' alts alt fits rule at valid) opt =
      absurd (let e : RuleForm.regular alts ≡ RuleForm.opt y = no_form (slice_get N.rules r) (RuleForm.regular alts) (RuleForm.opt y) rule opt in cc)
  optional_form x n r a u us y (of_present x' n' r' u' z fits rule valid) opt = refl
  optional_form x n r a u us y (of_star x' n' r' ts' z fits rule each) opt =
      absurd (let e : RuleForm.star z ≡ RuleForm.opt y = no_form (slice_get N.rules r) (RuleForm.star z) (RuleForm.opt y) rule opt in cc)
  optional_form x n r a u us y (of_plus x' n' r' u' ts' z fits rule each) opt =
      absurd (let e : RuleForm.plus z ≡ RuleForm.opt y = no_form (slice_get N.rules r) (RuleForm.plus z) (RuleForm.opt y) rule opt in cc)

  same_element : (y z : Sym) (ts : PlainTrees) → z ≡ y → EachIsValid N z ts → EachIsValid N y ts
  same_element y z ts e each = let P : Sym → Type 0 = λ z'. EachIsValid N z' ts in subst P e each

  -- the elements of a list are valid for its symbol
  star_elements : (x : Sym) (n r a : ℕ) (ts : PlainTrees) (y : Sym) → IsValid N x (PlainTree.node n r a ts) → slice_get N.rules r ≡ Some (RuleForm.star y)
      → EachIsValid N y ts
  star_elements x n r a ts y (of_regular x' n' r' a' ts' alts alt fits rule at valid) star =
      absurd (let e : RuleForm.regular alts ≡ RuleForm.star y = no_form (slice_get N.rules r) (RuleForm.regular alts) (RuleForm.star y) rule star in cc)
  star_elements x n r a ts y (of_absent x' n' r' z fits rule) star =
      absurd (let e : RuleForm.opt z ≡ RuleForm.star y = no_form (slice_get N.rules r) (RuleForm.opt z) (RuleForm.star y) rule star in cc)
  star_elements x n r a ts y (of_present x' n' r' u z fits rule valid) star =
      absurd (let e : RuleForm.opt z ≡ RuleForm.star y = no_form (slice_get N.rules r) (RuleForm.opt z) (RuleForm.star y) rule star in cc)
  star_elements x n r a ts y (of_plus x' n' r' u us z fits rule each) star =
      absurd (let e : RuleForm.plus z ≡ RuleForm.star y = no_form (slice_get N.rules r) (RuleForm.plus z) (RuleForm.star y) rule star in cc)
  star_elements x n r a ts y (of_star x' n' r' ts' z fits rule each) star =
      let e : RuleForm.star z ≡ RuleForm.star y = no_form (slice_get N.rules r) (RuleForm.star z) (RuleForm.star y) rule star in
      let same : z ≡ y = cc in
      same_element y z ts same each

  plus_elements : (x : Sym) (n r a : ℕ) (ts : PlainTrees) (y : Sym) → IsValid N x (PlainTree.node n r a ts) → slice_get N.rules r ≡ Some (RuleForm.plus y)
      → EachIsValid N y ts
  plus_elements x n r a ts y (of_regular x' n' r' a' ts' alts alt fits rule at valid) plus =
      absurd (let e : RuleForm.regular alts ≡ RuleForm.plus y = no_form (slice_get N.rules r) (RuleForm.regular alts) (RuleForm.plus y) rule plus in cc)
  plus_elements x n r a ts y (of_absent x' n' r' z fits rule) plus =
      absurd (let e : RuleForm.opt z ≡ RuleForm.plus y = no_form (slice_get N.rules r) (RuleForm.opt z) (RuleForm.plus y) rule plus in cc)
  plus_elements x n r a ts y (of_present x' n' r' u z fits rule valid) plus =
      absurd (let e : RuleForm.opt z ≡ RuleForm.plus y = no_form (slice_get N.rules r) (RuleForm.opt z) (RuleForm.plus y) rule plus in cc)
  plus_elements x n r a ts y (of_star x' n' r' ts' z fits rule each) plus =
      absurd (let e : RuleForm.star z ≡ RuleForm.plus y = no_form (slice_get N.rules r) (RuleForm.star z) (RuleForm.plus y) rule plus in cc)
  plus_elements x n r a ts y (of_plus x' n' r' u us z fits rule each) plus =
      let e : RuleForm.plus z ≡ RuleForm.plus y = no_form (slice_get N.rules r) (RuleForm.plus z) (RuleForm.plus y) rule plus in
      let same : z ≡ y = cc in
      same_element y z (PlainTrees.next u us) same each

  pub list_elements : (may_be_empty : Bool) (x : Sym) (n r a : ℕ) (ts : PlainTrees) (y : Sym) → IsListRule may_be_empty r y
      → IsValid N x (PlainTree.node n r a ts) → EachIsValid N y ts
  list_elements true x n r a ts y rule valid = star_elements x n r a ts y valid rule
  list_elements false x n r a ts y rule valid = plus_elements x n r a ts y valid rule

some_count : (ts : PlainTrees) → 0 < weight_all ts → 0 < count ts
some_count PlainTrees.none heavy = absurd (let no : 0 < 0 = heavy in omega (arith, no))
some_count (PlainTrees.next t ts) heavy = omega arith

module _ (N : NormalForm) (s : Sym) (t : PlainTree) (later : List Waiting) (n r a : ℕ) (ts : PlainTrees) (slot : Sym)
    (is : IsVisited N s t n slot (PlainTree.node n r a ts) later) (heavy : 0 < weight_all ts) where
  rises : NumbersRise (PlainTree.node n r a ts)
  rises = v_rises N s t n slot (PlainTree.node n r a ts) later is

  -- nothing of the node waits
  pub goes_past : GoesTo N s t (PlainTree.node n r a ts) later t later
  goes_past = goes_on N s t n slot (PlainTree.node n r a ts) later is PlainTrees.none 0 0 (omega arith) (λ p y e. absurd (none-some y e)) (omega arith)

  -- its children wait
  pub goes_down : GoesTo N s t (PlainTree.node n r a ts) later t (with_trees ts later)
  goes_down =
      let within = children_within n r a ts rises in
      goes_on N s t n slot (PlainTree.node n r a ts) later is ts (n + 1) within.0 within.1 (λ p y e. child_found within.0 n r a p ts y within.1 e) (omega arith)

  pub selects_some : (may_be_empty : Bool) (x : Sym) (keep : List Bool) → IsListRule N may_be_empty r x → IsRemainder (count ts) may_be_empty keep →
      SelectsElements N keep (PlainTree.node n r a ts) (PlainTree.node n r a (selected_trees keep ts))
  selects_some true x keep rule remain = selects.of_star n r a ts x rule
  selects_some false x keep rule (inl all) =
      let same : selected_trees keep ts ≡ ts = ap (λ m. selected_trees m ts) all ∙ selected_all ts in
      let counts = ap count same in
      let some = some_count ts heavy in
      selects.of_plus n r a ts x rule (omega (arith, counts, some))
  selects_some false x keep rule (inr some) =
      let counts = count_selected keep ts some.length in
      let many = some.some refl in
      selects.of_plus n r a ts x rule (omega (arith, counts, many))

  -- the elements of a list that remain wait
  pub list_goes : (may_be_empty : Bool) (x : Sym) (keep : List Bool) → IsListRule N may_be_empty r x → IsRemainder (count ts) may_be_empty keep →
      GoesTo N s t (PlainTree.node n r a ts) later (with_subtree n (PlainTree.node n r a (selected_trees keep ts)) t)
      (with_trees (selected_trees keep ts) later)
  list_goes may_be_empty x keep rule remain =
      let w : PlainTree = PlainTree.node n r a (selected_trees keep ts) in
      let both = selections N slot keep (PlainTree.node n r a ts) w is.valid (selects_some may_be_empty x keep rule remain) in
      let within = children_within n r a (selected_trees keep ts) ((part (PlainTree.node n r a ts) w both.1).numbers_rise rises) in
      let small = size_selected keep ts in
      goes_changed N s t n slot (PlainTree.node n r a ts) later is w both.1 (selected_trees keep ts) (n + 1) within.0 both.0 within.1
      (λ p y e. child_found within.0 n r a p (selected_trees keep ts) y within.1 e) (omega (arith, small))

  -- a compatible descendant waits in the position of a regular node
  pub descendant_goes : (alts : List (List Sym)) (u : PlainTree) → slice_get N.rules r ≡ Some (RuleForm.regular alts)
      → IsCompatible N slot (PlainTree.node n r a ts) u →
      GoesTo N s t (PlainTree.node n r a ts) later (with_subtree n u t) (with_trees (PlainTrees.next u PlainTrees.none) later)
  descendant_goes alts u rule is_compatible =
      let both =
      local_edits N slot (PlainTree.node n r a ts) u is.valid (inr (by_descendant slot n r a ts alts u rule is_compatible.is_below is_compatible.fits)) in
      let within = within_from u ((part (PlainTree.node n r a ts) u both.1).numbers_rise rises) in
      let small = size_some u ts is_compatible.is_below in
      goes_changed N s t n slot (PlainTree.node n r a ts) later is u both.1 (PlainTrees.next u PlainTrees.none) 0 within.0 both.0
      (within.0, within.1, omega arith) (λ p y e. sym (or_none (subtree p u)) ∙ e) (omega (arith, small))

  -- an edit at the node is a single edit of the tree
  pub edit_single : (w : PlainTree) → IsLocalEdit N slot (PlainTree.node n r a ts) w → weight w < weight_all ts → IsSingleEdit N s t (with_subtree n w t)
  edit_single w local light =
      (numbered N s t (with_subtree n w t) is.tree.valid is.rise).1
      (n, slot, PlainTree.node n r a ts, w, record { node = is.node_is; slot = is.slot_is; edit = local; tree = refl; smaller = light })

  pub descendant_edit : (alts : List (List Sym)) (u : PlainTree) → slice_get N.rules r ≡ Some (RuleForm.regular alts)
      → IsCompatible N slot (PlainTree.node n r a ts) u → IsSingleEdit N s t (with_subtree n u t)
  descendant_edit alts u rule is_compatible =
      edit_single u (inr (by_descendant slot n r a ts alts u rule is_compatible.is_below is_compatible.fits)) is_compatible.lighter

  -- with all its elements it is the same tree
  pub all_elements : with_subtree n (PlainTree.node n r a (selected_trees (replicate (count ts) true) ts)) t ≡ t
  all_elements = ap (λ us. with_subtree n (PlainTree.node n r a us) t) (selected_all ts) ∙ same_with n t (PlainTree.node n r a ts) is.rise is.node_is

  -- how the weight of the tree changes
  pub weight_changes : (w : PlainTree) → weight (with_subtree n w t) + weight_all ts ≡ weight t + weight w
  weight_changes w = (change t n (PlainTree.node n r a ts) w is.rise is.node_is).weights

-- an optional goes without its content
pub content_goes : (N : NormalForm) (s : Sym) (t : PlainTree) (later : List Waiting) (n r a : ℕ) (u : PlainTree) (us : PlainTrees) (slot : Sym)
    → IsVisited N s t n slot (PlainTree.node n r a (PlainTrees.next u us)) later → (y : Sym) →
    slice_get N.rules r ≡ Some (RuleForm.opt y)
    → GoesTo N s t (PlainTree.node n r a (PlainTrees.next u us)) later (with_subtree n (PlainTree.node n r a PlainTrees.none) t) later
content_goes N s t later n r a u us slot is y rule =
    let one = optional_form N slot n r a u us y is.valid rule in
    let P : PlainTrees → Type 0 =
    λ ys. IsValid N slot (PlainTree.node n r a (PlainTrees.next u ys)) → IsValid N slot (PlainTree.node n r a PlainTrees.none)
    × IsRemainderOf (PlainTree.node n r a (PlainTrees.next u ys)) (PlainTree.node n r a PlainTrees.none) in
    let both =
    subst P (sym one) (λ valid. local_edits N slot (PlainTree.node n r a (PlainTrees.next u PlainTrees.none)) (PlainTree.node n r a PlainTrees.none) valid
    (inl (edits.of_opt n r a u y rule))) is.valid in
    goes_changed N s t n slot (PlainTree.node n r a (PlainTrees.next u us)) later is (PlainTree.node n r a PlainTrees.none) both.1 PlainTrees.none 0 0 both.0
    (omega arith) (λ p z e. absurd (none-some z e)) (omega arith)

pub content_edit : (N : NormalForm) (s : Sym) (t : PlainTree) (later : List Waiting) (n r a : ℕ) (u : PlainTree) (us : PlainTrees) (slot : Sym)
    → IsVisited N s t n slot (PlainTree.node n r a (PlainTrees.next u us)) later →
    0 < weight_all (PlainTrees.next u us) → (y : Sym) → slice_get N.rules r ≡ Some (RuleForm.opt y)
    → IsSingleEdit N s t (with_subtree n (PlainTree.node n r a PlainTrees.none) t)
content_edit N s t later n r a u us slot is heavy y rule =
    let P : PlainTrees → Type 0 = λ ys. IsLocalDeletion N (PlainTree.node n r a (PlainTrees.next u ys)) (PlainTree.node n r a PlainTrees.none) in
    edit_single N s t later n r a (PlainTrees.next u us) slot is heavy (PlainTree.node n r a PlainTrees.none)
    (inl (subst P (sym (optional_form N slot n r a u us y is.valid rule)) (edits.of_opt n r a u y rule))) heavy
