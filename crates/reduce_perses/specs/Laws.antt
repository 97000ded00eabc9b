-- What follows from the definitions, for the proofs of other crates.
use Rattle.std.specs.Prelude.{◌≡◌, ◌⊎◌, ℕ, ◌<◌, Bool, true, false, List, [], ◌∷◌, Some, slice_get}
use Rattle.std.specs.List.{Contains}
use Rattle.normal_form.specs.declared.normal.Sym.{Sym}
use Rattle.normal_form.specs.Form.{RuleForm, NormalForm}
use Rattle.normal_form.specs.NormalOf.{IsNormal}
use Rattle.node_queue.specs.Waiting.{Waiting}
use Rattle.reduce_rounds.specs.StateTexts.{StateTexts}
use Rattle.reduce_rounds.specs.Reduction.{end_at}
use Rattle.reduce_rounds.specs.ByTrials.{trials_end}
use Rattle.reduce_rounds.specs.Trials.{AllTried, Done, EachIsSmaller, IsTriedAtNo, EachFollows}
use Rattle.reduce_rounds.specs.Selections.{IsRemainder}
use Rattle.syntax_tree.specs.Trees.{PlainTree, PlainTrees, count, weight, weight_all}
use Rattle.syntax_tree.specs.Valid.{IsTreeFor, slot_at}
use Rattle.syntax_tree.specs.Numbered.{NumbersRise, subtree, with_subtree}
use Rattle.syntax_tree.specs.Edits.{IsSingleEdit}
use Rattle.syntax_tree.specs.Left.{IsRemainderOf, selected_trees}
use Rattle.syntax_tree.specs.EditLaws.{SelectsElements}
use Rattle.descend_replace.specs.Compatible.{DecidesFits, compatible}
use Rattle.reduce_perses.specs.Queued.{IsInRound, IsKeptTree, with_trees}
use Rattle.reduce_perses.specs.Visit.{node_visited, visit, visit_from}
use Rattle.reduce_perses.specs.VisitEnd.{end_from, node_end, visit_end}

-- A round begins with the root as the one node that waits.
abbrev pub RoundBegins : Type 0
RoundBegins = (N : NormalForm) (s : Sym) (t : PlainTree) → IsTreeFor N s t → NumbersRise t → IsInRound N s t (with_trees (PlainTrees.next t PlainTrees.none) [])

-- It visits node after node until none waits: the bound in its definition is never met.
pub record GoesByVisits (N : NormalForm) (fits : Sym → Sym → Bool) (s : Sym) : Type 0 where
  pub ends : (t : PlainTree) → visit_from N fits s t [] ≡ Done
  pub visits : (t : PlainTree) (next : Waiting) (later : List Waiting) → IsInRound N s t (next ∷ later) →
      visit_from N fits s t (next ∷ later) ≡ node_visited (λ u queue. visit_from N fits s u queue) t later N fits s (subtree next.node t)

abbrev pub RoundsGoByVisits : Type 0
RoundsGoByVisits = (N : NormalForm) (fits : Sym → Sym → Bool) (s : Sym) → DecidesFits N fits → GoesByVisits N fits s

-- Over the trees' texts and a verdict a round's trials come to what its recursion does, which visits node after node until none waits.
pub record EndsByVisits (texts : StateTexts PlainTree) (verdict : List ℕ → Bool) (N : NormalForm) (fits : Sym → Sym → Bool) (s : Sym) : Type 0 where
  pub round : (t : PlainTree) → IsTreeFor N s t → NumbersRise t → trials_end texts verdict t (visit N fits s t) ≡ visit_end texts verdict N fits s t
  pub ends : (t : PlainTree) → end_from texts verdict N fits s t [] ≡ end_at t
  pub visits : (t : PlainTree) (next : Waiting) (later : List Waiting) → IsInRound N s t (next ∷ later) →
      end_from texts verdict N fits s t (next ∷ later) ≡ node_end texts verdict (λ u queue. end_from texts verdict N fits s u queue) t later N fits s
      (subtree next.node t)

abbrev pub RoundsEndByVisits : Type 0
RoundsEndByVisits =
    (texts : StateTexts PlainTree) (verdict : List ℕ → Bool) (N : NormalForm) (fits : Sym → Sym → Bool) (s : Sym) → DecidesFits N fits
    → EndsByVisits texts verdict N fits s

-- The round goes on from this tree, which is left of the one before, and this queue.
pub record GoesOn (N : NormalForm) (s : Sym) (t u : PlainTree) (queue : List Waiting) : Type 0 where
  pub round : IsInRound N s u queue
  pub left : IsRemainderOf t u

-- Where a round can go on from, after the visit of the node n, which has these children and is in the slot.
pub record GoesOnFrom (N : NormalForm) (fits : Sym → Sym → Bool) (s : Sym) (t : PlainTree) (later : List Waiting) (n r a : ℕ) (ts : PlainTrees)
    (slot : Sym) : Type 0 where
  pub nothing : GoesOn N s t t later
  pub children : GoesOn N s t t (with_trees ts later)
  pub star : (x : Sym) (keep : List Bool) → slice_get N.rules r ≡ Some (RuleForm.star x) → IsRemainder (count ts) true keep →
      GoesOn N s t (with_subtree n (PlainTree.node n r a (selected_trees keep ts)) t) (with_trees (selected_trees keep ts) later)
  pub plus : (x : Sym) (keep : List Bool) → slice_get N.rules r ≡ Some (RuleForm.plus x) → IsRemainder (count ts) false keep →
      GoesOn N s t (with_subtree n (PlainTree.node n r a (selected_trees keep ts)) t) (with_trees (selected_trees keep ts) later)
  pub optional : (x : Sym) → slice_get N.rules r ≡ Some (RuleForm.opt x) → GoesOn N s t (with_subtree n (PlainTree.node n r a PlainTrees.none) t) later
  pub regular : (alts : List (List Sym)) (u : PlainTree) → slice_get N.rules r ≡ Some (RuleForm.regular alts)
      → Contains (compatible fits slot (PlainTree.node n r a ts)) u →
      GoesOn N s t (with_subtree n u t) (with_trees (PlainTrees.next u PlainTrees.none) later)

-- The next node that waits: it has a slot and a leaf, and the round goes on from where a visit of it leads.
pub record IsNextVisit (N : NormalForm) (fits : Sym → Sym → Bool) (s : Sym) (t : PlainTree) (later : List Waiting) (n r a : ℕ) (ts : PlainTrees)
    (slot : Sym) : Type 0 where
  pub node : subtree n t ≡ Some (PlainTree.node n r a ts)
  pub slot_is : slot_at N s n t ≡ Some slot
  pub some : 0 < weight_all ts
  pub goes_on : GoesOnFrom N fits s t later n r a ts slot

abbrev pub VisitsGoOn : Type 0
VisitsGoOn =
    (N : NormalForm) (fits : Sym → Sym → Bool) (s : Sym) (t : PlainTree) (next : Waiting) (later : List Waiting) → DecidesFits N fits
    → IsInRound N s t (next ∷ later) →
    (r : ℕ) × (a : ℕ) × (ts : PlainTrees) × (slot : Sym) × IsNextVisit N fits s t later next.node r a ts slot

-- From a tree that is kept only such trees are tried: trees for the slot that are left of the whole tree.
abbrev pub TriesKeptTrees : Type 0
TriesKeptTrees = (N : NormalForm) (fits : Sym → Sym → Bool) (s : Sym) (whole t : PlainTree) → DecidesFits N fits → NumbersRise whole → IsKeptTree N s whole t →
    AllTried (IsKeptTree N s whole) (visit N fits s t)

-- Some of the elements of one list of the tree stay, a star or a plus, which keeps at least one; the others go.
pub record SelectsInTree (N : NormalForm) (t u : PlainTree) : Type 0 where
  pub number : ℕ
  pub list : PlainTree
  pub mask : List Bool
  pub rest : PlainTree
  pub node : subtree number t ≡ Some list
  pub selects : SelectsElements N mask list rest
  pub tree : u ≡ with_subtree number rest t

-- The second tree comes from the first one by a single edit, or by a selection of the elements of one list.
abbrev pub IsEditOrSelection : NormalForm → Sym → PlainTree → PlainTree → Type 0
IsEditOrSelection N s t u = IsSingleEdit N s t u ⊎ SelectsInTree N t u

-- Each tree that is tried comes from the last that had a yes by a single edit, or by a selection of the elements of one list.
abbrev pub TriesEditsAndSelections : Type 0
TriesEditsAndSelections = (N : NormalForm) (fits : Sym → Sym → Bool) (s : Sym) (t : PlainTree) → DecidesFits N fits → IsTreeFor N s t → NumbersRise t →
    EachFollows (IsEditOrSelection N s) t (visit N fits s t)

-- Each tree that is tried has fewer leaves than the last that had a yes.
abbrev pub LosesLeaves : Type 0
LosesLeaves = (N : NormalForm) (fits : Sym → Sym → Bool) (s : Sym) (t : PlainTree) → DecidesFits N fits → IsNormal N → IsTreeFor N s t → NumbersRise t →
    EachIsSmaller weight (weight t) (visit N fits s t)

-- A round whose answers are all no has tried each single edit of its tree.
abbrev pub TriesSingleEdits : Type 0
TriesSingleEdits =
    (N : NormalForm) (fits : Sym → Sym → Bool) (s : Sym) (t u : PlainTree) → DecidesFits N fits → IsTreeFor N s t → NumbersRise t → IsSingleEdit N s t u →
    IsTriedAtNo (visit N fits s t) u
