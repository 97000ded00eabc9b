-- What holds within a visit of a node, and what contracts see of visits.
use Rattle.std.specs.Prelude.{◌≡◌, ◌<◌, ◌+◌, ℕ, Bool, true, false, List, length, map, Option, Some, None, IsSome, slice_get}
use Rattle.std.specs.Option.{option_map_or}
use Rattle.normal_form.specs.declared.normal.Sym.{Sym}
use Rattle.normal_form.specs.Form.{RuleForm, NormalForm}
use Rattle.list_ddmin.specs.Machine.{State, IsSound, asks, kept}
use Rattle.node_queue.specs.Waiting.{Waiting}
use Rattle.reduce_rounds.specs.Trials.{Trials}
use Rattle.reduce_rounds.specs.Selections.{IsRemainder}
use Rattle.reduce_rounds.specs.inner.Selections.{IsRemainderAt}
use Rattle.syntax_tree.specs.Trees.{PlainTree, PlainTrees, count, size}
use Rattle.syntax_tree.specs.Valid.{slot_at}
use Rattle.syntax_tree.specs.Numbered.{number_of, subtree}
use Rattle.syntax_tree.specs.Nodes.{SyntaxTree}
use Rattle.syntax_tree_cut.specs.Cuts.{CutForm, IsCutOf, cut_tree}
use Rattle.descend_replace.specs.Compatible.{compatible}
use Rattle.reduce_perses.specs.Queued.{IsInRound, nodes_in}
use Rattle.reduce_perses.specs.Visit.{node_visited}
use Rattle.reduce_perses.specs.Laws.{IsNextVisit}
use Rattle.reduce_walk.specs.WalkState.{WalkState}
use Rattle.reduce_perses.specs.declared.visit.Visit.{Visit}
use Rattle.reduce_perses.specs.declared.visit.Visit.TheVariants.{Elements, Content, Descendants}
use Rattle.descend_replace.specs.FitsIn.{fits_in}
use Rattle.reduce_perses.specs.inner.VisitTrials.{descendants_tried, goes_on, trials_from, trials_within, tree_left}

-- the rule of a list: a star, where it may be empty, or else a plus
abbrev pub list_rule : Bool → Sym → RuleForm
list_rule true x = RuleForm.star x
list_rule false x = RuleForm.plus x

-- A list step over so many elements asks something, and what it may end with is what a list step over them may end with.
pub record IsListStep (len : ℕ) (may_be_empty : Bool) (step : State) : Type 0 where
  pub sound : IsSound step
  pub asking : IsSome (asks step)
  pub each : length (kept step) ≡ len
  pub remainders : (keep : List Bool) → IsRemainderAt step keep → IsRemainder len may_be_empty keep

-- how many nodes and leaves of the tree are in the one with this number
abbrev pub size_at : ℕ → PlainTree → ℕ
size_at node t = option_map_or size (subtree node t) 0

-- The node of the tree is a star, where it may be empty, or else a plus.
abbrev pub IsList : NormalForm → PlainTree → ℕ → Bool → Type 0
IsList N t node may_be_empty =
    (r a : ℕ) (ts : PlainTrees) → subtree node t ≡ Some (PlainTree.node node r a ts) → (x : Sym) × (slice_get N.rules r ≡ Some (list_rule may_be_empty x))

-- The node of the tree is regular.
abbrev pub IsRegular : NormalForm → PlainTree → ℕ → Type 0
IsRegular N t node =
    (r a : ℕ) (ts : PlainTrees) → subtree node t ≡ Some (PlainTree.node node r a ts) → (alternatives : List (List Sym))
    × (slice_get N.rules r ≡ Some (RuleForm.regular alternatives))

module _ (N : NormalForm) (s : Sym) (t : PlainTree) (queue : List Waiting) where
  -- The node was taken out of the queue just now.
  pub record IsTaken (node : ℕ) : Type 0 where
    pub rule : ℕ
    pub alt : ℕ
    pub children : PlainTrees
    pub slot : Sym
    pub next : IsNextVisit N (fits_in N) s t queue node rule alt children slot

  -- what is tried from a visit of that node on
  abbrev pub node_trials : ℕ → Trials PlainTree
  node_trials node = node_visited (goes_on N s) t queue N (fits_in N) s (subtree node t)

  -- what is tried from one of its compatible descendants on, by its index
  abbrev pub descendants_at : ℕ → ℕ → Trials PlainTree
  descendants_at at node = descendants_tried N s t queue at (slot_at N s node t) (subtree node t)

  -- It is a list step over the elements of a star or plus.
  pub record IsElements (list : ℕ) (step : State) : Type 0 where
    pub rule : ℕ
    pub alt : ℕ
    pub elements : PlainTrees
    pub slot : Sym
    pub may_be_empty : Bool
    pub symbol : Sym
    pub next : IsNextVisit N (fits_in N) s t queue list rule alt elements slot
    pub is_list : slice_get N.rules rule ≡ Some (list_rule may_be_empty symbol)
    pub step_is : IsListStep (count elements) may_be_empty step

  -- It is a present optional.
  pub record IsContent (node : ℕ) : Type 0 where
    pub rule : ℕ
    pub alt : ℕ
    pub content : PlainTree
    pub slot : Sym
    pub symbol : Sym
    pub next : IsNextVisit N (fits_in N) s t queue node rule alt (PlainTrees.next content PlainTrees.none) slot
    pub is_optional : slice_get N.rules rule ≡ Some (RuleForm.opt symbol)

  -- It is a regular node with its compatible descendants.
  pub record AreFound (node : ℕ) (found : List ℕ) : Type 0 where
    pub rule : ℕ
    pub alt : ℕ
    pub children : PlainTrees
    pub slot : Sym
    pub alternatives : List (List Sym)
    pub next : IsNextVisit N (fits_in N) s t queue node rule alt children slot
    pub is_regular : slice_get N.rules rule ≡ Some (RuleForm.regular alternatives)
    pub found_are : found ≡ map number_of (compatible (fits_in N) slot (PlainTree.node node rule alt children))

  -- It is such a node, and one of the indexes of its compatible descendants.
  pub record AreDescendants (node : ℕ) (found : List ℕ) (at : ℕ) : Type 0 where
    pub are_found : AreFound node found
    pub within : at < length found

  -- The visit is one of a node of the tree, after which the round can go on, whatever is answered.
  abbrev pub IsVisit : Visit → Type 0
  IsVisit (Elements list step) = IsElements list step
  IsVisit (Content node) = IsContent node
  IsVisit (Descendants node found at) = AreDescendants node found.items at

  -- the same, where there may be none
  abbrev pub IsVisiting : Option Visit → Type 0
  IsVisiting None = Unit {0}
  IsVisiting (Some visit) = IsVisit visit

  -- A visit goes on, or else the round is at the tree with the nodes that wait.
  abbrev pub IsGoing : Option Visit → Type 0
  IsGoing None = IsInRound N s t queue
  IsGoing (Some visit) = IsVisit visit

-- A visit goes on, or the round does, so that this tree is left and this is still tried.
pub record GoesOnWith (N : NormalForm) (s : Sym) (t : PlainTree) (queue : List Waiting) (left : PlainTree) (rest : Trials PlainTree)
    (visit : Option Visit) : Type 0 where
  pub left_is : tree_left t visit ≡ left
  pub rest_is : trials_from N s t queue visit ≡ rest
  pub going : IsGoing N s t queue visit

-- If the visit of the node was over at once, fewer nodes are in those that wait than before the node was taken out.
abbrev pub HasFewer : PlainTree → ℕ → List Waiting → List Waiting → Option Visit → Type 0
HasFewer t node before after visit = visit ≡ None → nodes_in t after < size_at node t + nodes_in t before

-- The same visit again.
abbrev pub AreCopies : Visit → Visit → Type 0
AreCopies (Elements list step) (Elements list' step') = (list' ≡ list) × (step' ≡ step)
AreCopies (Content node) (Content node') = node' ≡ node
AreCopies (Descendants node found at) (Descendants node' found' at') = (node' ≡ node) × (found'.items ≡ found.items) × (at' ≡ at)
AreCopies (Elements list step) (Content node') = ⊥
AreCopies (Elements list step) (Descendants node' found' at') = ⊥
AreCopies (Content node) (Elements list' step') = ⊥
AreCopies (Content node) (Descendants node' found' at') = ⊥
AreCopies (Descendants node found at) (Elements list' step') = ⊥
AreCopies (Descendants node found at) (Content node') = ⊥

-- What holds of a tree that is visited: the cut is one of it, and a visit that there is is one of what is left.
pub record AreVisits (tree : SyntaxTree) (compat : NormalForm) (cut : CutForm) (queue : List Waiting) (visit : Option Visit) : Type 0 where
  pub of : IsCutOf tree cut
  pub compat_is : compat ≡ tree.form
  pub visiting : IsVisiting tree.form tree.start (cut_tree tree cut) queue visit

-- what contracts see of visits
abbrev pub visit_state : SyntaxTree → CutForm → List Waiting → Option Visit → WalkState
visit_state tree cut queue visit =
    record { tree = tree; left = tree_left (cut_tree tree cut) visit; rest = trials_within tree.form tree.start (cut_tree tree cut) queue visit }
