-- How the visit of the next node that waits begins.
use Rattle.std.proofs.Common.{◌≡◌, ℕ, ◌+◌, ◌<◌, true, false, List, [], ◌∷◌, Option, Some, None, drop, slice_get, refl, sym, ap, ◌∙◌, subst, arith}
use Rattle.std.specs.Option.{is_some, option_and_then, option_map}
use Rattle.std.proofs.lemmas.Option.{none-some, same_Some}
use Rattle.normal_form.specs.declared.normal.Sym.{Sym}
use Rattle.normal_form.specs.Form.{RuleForm, NormalForm}
use Rattle.node_queue.specs.Waiting.{Waiting}
use Rattle.syntax_tree.specs.Trees.{PlainTree, PlainTrees, weight_all}
use Rattle.syntax_tree.specs.Valid.{IsTreeFor, IsValid, slot_at}
use Rattle.syntax_tree.specs.Numbered.{NumbersRise, number_of, subtree}
use Rattle.syntax_tree.proofs.Lent.{have_slots, root_found}
use Rattle.syntax_tree_cut.specs.declared.shape.Shape.{Shape}
use Rattle.syntax_tree_cut.specs.declared.shape.Shape.TheVariants.{Optional}
use Rattle.syntax_tree_cut.specs.Shapes.{shape_of, shape_of_form}
use Rattle.reduce_rounds.specs.Trials.{Done}
use Rattle.reduce_perses.specs.Queued.{IsInRound, nodes_in, with_trees}
use Rattle.reduce_perses.specs.Visit.{form_visited, node_visited}
use Rattle.reduce_perses.specs.Laws.{IsNextVisit}
use Rattle.reduce_perses.proofs.Forms.{optional_form}
use Rattle.reduce_perses.proofs.Rounds.{round_begins, rounds_go_by_visits, visits_go_on}
use Rattle.reduce_perses.specs.declared.visit.Visit.{Visit}
use Rattle.reduce_perses.specs.declared.visit.Visit.TheVariants.{Content}
use Rattle.descend_replace.specs.FitsIn.{fits_in}
use Rattle.reduce_perses.specs.inner.VisitTrials.{content_tried, goes_on, trials_from, trials_within}
use Rattle.reduce_perses.specs.inner.Visiting.{GoesOnWith, HasFewer, IsContent, IsGoing, IsTaken, node_trials, size_at}
use Rattle.descend_replace.specs.Compatible.{DecidesFits}
use Rattle.descend_replace.proofs.Lent.{decides}

fits_decides : (N : NormalForm) → DecidesFits N (fits_in N)
fits_decides N = decides N

optional_rule : (o : Option RuleForm) → option_map shape_of_form o ≡ Some Optional → (x : Sym) × (o ≡ Some (RuleForm.opt x))
optional_rule None e = absurd (none-some Optional e)
optional_rule (Some (RuleForm.regular alts)) e = absurd (cc)
optional_rule (Some (RuleForm.star x)) e = absurd (cc)
optional_rule (Some (RuleForm.plus x)) e = absurd (cc)
optional_rule (Some (RuleForm.opt x)) e = (x, refl)

-- an optional that has a leaf has one child
one_child : (N : NormalForm) (slot : Sym) (n r a : ℕ) (ts : PlainTrees) (y : Sym) → IsValid N slot (PlainTree.node n r a ts)
    → slice_get N.rules r ≡ Some (RuleForm.opt y) → 0 < weight_all ts →
    (u : PlainTree) × (ts ≡ PlainTrees.next u PlainTrees.none)
one_child N slot n r a PlainTrees.none y valid rule heavy = absurd (let no : 0 < 0 = heavy in omega (arith, no))
one_child N slot n r a (PlainTrees.next u us) y valid rule heavy =
    (u, ap (λ (vs : PlainTrees). PlainTrees.next u vs) (optional_form N slot n r a u us y valid rule))

module _ (N : NormalForm) (s : Sym) (t : PlainTree) where
  module _ (node : ℕ) (shape : Shape) (shape_is : option_and_then (shape_of N) (subtree node t) ≡ Some shape) where
    rule_shape : (r a : ℕ) (ts : PlainTrees) → subtree node t ≡ Some (PlainTree.node node r a ts) → option_map shape_of_form (slice_get N.rules r) ≡ Some shape
    rule_shape r a ts e = sym (ap (option_and_then (shape_of N)) e) ∙ shape_is

    module _ (queue : List Waiting) (taken : IsTaken N s t queue node) where
      content_is : (x : Sym) → slice_get N.rules taken.rule ≡ Some (RuleForm.opt x) → IsContent N s t queue node
      content_is x rule =
          let round = taken.next.goes_on.nothing.round in
          let slots = have_slots N s node t (PlainTree.node node taken.rule taken.alt taken.children) round.tree.valid round.rise taken.next.node in
          let one = one_child N slots.0 node taken.rule taken.alt taken.children x slots.2 rule taken.next.some in
          record {
            rule = taken.rule;
            alt = taken.alt;
            content = one.0;
            slot = taken.slot;
            symbol = x;
            next = subst (λ (ts : PlainTrees). IsNextVisit N (fits_in N) s t queue node taken.rule taken.alt ts taken.slot) one.1 taken.next;
            is_optional = rule;
          }

      content_trials : (x : Sym) → slice_get N.rules taken.rule ≡ Some (RuleForm.opt x)
          → content_tried N s t queue (subtree node t) ≡ node_trials N s t queue node
      content_trials x rule =
          ap (content_tried N s t queue) taken.next.node
          ∙ sym (ap (node_visited (goes_on N s) t queue N (fits_in N) s) taken.next.node
          ∙ ap (λ (o : Option RuleForm). form_visited (goes_on N s) t queue (fits_in N) (slot_at N s node t) o node taken.rule taken.alt taken.children) rule)

      pub content_begins : shape ≡ Optional → GoesOnWith N s t queue t (node_trials N s t queue node) (Some (Content node))
      content_begins same =
          let it =
          optional_rule (slice_get N.rules taken.rule) (rule_shape taken.rule taken.alt taken.children taken.next.node ∙ ap (λ (x : Shape). Some x) same) in
          record { left_is = refl; rest_is = content_trials it.0 it.1; going = content_is it.0 it.1 }

  -- A node was taken out of the queue: it is visited, and then the round goes on.
  pub record IsPopped (queue later : List Waiting) (node : ℕ) : Type 0 where
    pub taken : IsTaken N s t later node
    pub trials : goes_on N s t queue ≡ node_trials N s t later node
    pub nodes : nodes_in t queue ≡ size_at node t + nodes_in t later

  popped_first : (next : Waiting) (later : List Waiting) → IsInRound N s t (next ∷ later) → IsPopped (next ∷ later) later next.node
  popped_first next later round =
      let it = visits_go_on N (fits_in N) s t next later (fits_decides N) round in
      record {
        taken = record { rule = it.0; alt = it.1; children = it.2; slot = it.3; next = it.4 };
        trials = (rounds_go_by_visits N (fits_in N) s (fits_decides N)).visits t next later round;
        nodes = refl;
      }

  pub popped : (queue later : List Waiting) (node : ℕ) → IsInRound N s t queue → option_map (λ (w : Waiting). w.node) (slice_get queue 0) ≡ Some node
      → later ≡ drop 1 queue → IsPopped queue later node
  popped [] later node round first rest = absurd (none-some node first)
  popped (next ∷ queue) later node round first rest =
      let same : next.node ≡ node = same_Some next.node node first in
      let tail : queue ≡ later = sym rest in
      subst (λ (q : ℕ). IsPopped (next ∷ queue) later q) same
      (subst (λ (l : List Waiting). IsPopped (next ∷ queue) l next.node) tail (popped_first next queue round))

  -- where none waits, nothing more is tried
  pub none_popped : (queue : List Waiting) → option_map (λ (w : Waiting). w.node) (slice_get queue 0) ≡ None → goes_on N s t queue ≡ Done
  none_popped [] first = (rounds_go_by_visits N (fits_in N) s (fits_decides N)).ends t
  none_popped (next ∷ queue) first = absurd (none-some next.node (sym first))

  -- a round begins with the root
  pub root_waits : (root : ℕ) (before after : List Waiting) → IsTreeFor N s t → NumbersRise t → root ≡ number_of t → before ≡ []
      → ((u : PlainTree) → subtree root t ≡ Some u → after ≡ with_trees (PlainTrees.next u PlainTrees.none) before) → IsInRound N s t after
  root_waits root before after tree rise same none waits =
      let there : subtree root t ≡ Some t = ap (λ (q : ℕ). subtree q t) same ∙ root_found t in
      let queue : after ≡ with_trees (PlainTrees.next t PlainTrees.none) [] = waits t there ∙ ap (with_trees (PlainTrees.next t PlainTrees.none)) none in
      subst (IsInRound N s t) (sym queue) (round_begins N s t tree rise)

pub no_node : (o : Option ℕ) → ((x : ℕ) → o ≡ Some x → ⊥) → o ≡ None
no_node None not = refl
no_node (Some x) not = absurd (not x refl)

none_of : {A : Type 0} (o : Option A) → is_some o ≡ false → o ≡ None
none_of None none = refl
none_of (Some x) none = absurd (cc)

within_some : (N : NormalForm) (s : Sym) (t : PlainTree) (queue : List Waiting) (visit : Option Visit) → is_some visit ≡ true
    → trials_within N s t queue visit ≡ trials_from N s t queue visit
within_some N s t queue None some = absurd (cc)
within_some N s t queue (Some visit) some = refl

-- The loop over nodes is at this queue, from which the same is tried as from the first one.
pub record IsAtQueue (N : NormalForm) (s : Sym) (t : PlainTree) (first queue : List Waiting) : Type 0 where
  pub round : IsInRound N s t queue
  pub same : goes_on N s t queue ≡ goes_on N s t first

module _ (N : NormalForm) (s : Sym) (t : PlainTree) (first queue later : List Waiting) (node : ℕ) (at : IsAtQueue N s t first queue)
    (next : option_map (λ (w : Waiting). w.node) (slice_get queue 0) ≡ Some node) (rest : later ≡ drop 1 queue) where
  at_next : IsPopped N s t queue later node
  at_next = popped N s t queue later node at.round next rest

  pub next_taken : IsTaken N s t later node
  next_taken = at_next.taken

  module _ (after : List Waiting) (visit : Option Visit) (on : GoesOnWith N s t after t (node_trials N s t later node) visit) where
    goes_on_same : trials_from N s t after visit ≡ goes_on N s t first
    goes_on_same = on.rest_is ∙ sym at_next.trials ∙ at.same

    -- a visit begins
    pub next_trials : is_some visit ≡ true → trials_within N s t after visit ≡ goes_on N s t first
    next_trials some = within_some N s t after visit some ∙ goes_on_same

    -- or the loop goes on
    pub next_at : is_some visit ≡ false → IsAtQueue N s t first after
    next_at none =
        let is : visit ≡ None = none_of visit none in
        record {
          round = subst (λ (v : Option Visit). IsGoing N s t after v) is on.going;
          same = sym (ap (trials_from N s t after) is) ∙ goes_on_same;
        }

    -- with fewer nodes that wait
    pub next_fewer : is_some visit ≡ false → HasFewer t node later after visit → nodes_in t after < nodes_in t queue
    next_fewer none fewer = let less = fewer (none_of visit none) in let nodes = at_next.nodes in omega (arith, less, nodes)

-- at its end nothing more is tried
pub ends_at : (N : NormalForm) (s : Sym) (t : PlainTree) (first queue : List Waiting) → IsAtQueue N s t first queue
    → option_map (λ (w : Waiting). w.node) (slice_get queue 0) ≡ None → Done ≡ goes_on N s t first
ends_at N s t first queue at none = sym (none_popped N s t queue none) ∙ at.same
