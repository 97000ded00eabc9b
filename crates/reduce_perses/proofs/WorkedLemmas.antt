-- The rounds that were worked out by hand: one step of a round or of a list step after another.
use Rattle.std.proofs.Common.{◌≡◌, ℕ, suc, Bool, true, false, List, [], ◌∷◌, refl, ◌∙◌}
use Rattle.normal_form.specs.declared.normal.Sym.{Sym}
use Rattle.normal_form.specs.declared.normal.Sym.TheVariants.{Rule}
use Rattle.normal_form.specs.Form.{NormalForm}
use Rattle.node_queue.specs.Waiting.{Waiting}
use Rattle.list_ddmin.specs.Machine.{State, after, asks, kept}
use Rattle.list_ddmin.specs.ListStep.{part}
use Rattle.reduce_rounds.specs.Trials.{Trials, Done}
use Rattle.reduce_rounds.specs.ListTrials.{by_question, list_within}
use Rattle.syntax_tree.specs.Trees.{PlainTree}
use Rattle.syntax_tree.specs.Numbered.{subtree}
use Rattle.reduce_perses.specs.Visit.{node_visited, visit_within}
use Rattle.reduce_perses.specs.Worked.{BlocksGo, BracketsGo, PlusKeepsOne, worked_fits}
use Rattle.reduce_walk.specs.WorkedTrees.{plus_form, worked_form}

-- one visit, and no more visits, of a round; and one question, and the end, of a list step
visit_next : (N : NormalForm) (fits : Sym → Sym → Bool) (s : Sym) (times : ℕ) (t : PlainTree) (next : Waiting) (later : List Waiting) →
    visit_within N fits s (suc times) t (next ∷ later) ≡ node_visited (λ u queue. visit_within N fits s times u queue) t later N fits s (subtree next.node t)
unfolding visit_within
visit_next N fits s times t next later = refl

visit_none : (N : NormalForm) (fits : Sym → Sym → Bool) (s : Sym) (times : ℕ) (t : PlainTree) → visit_within N fits s (suc times) t [] ≡ Done
unfolding visit_within
visit_none N fits s times t = refl

list_next : {T : Type 0} (state_of : List Bool → T) (next : List Bool → Trials T) (n : ℕ) (step : State) →
    list_within state_of next (suc n) step ≡ by_question state_of (next (kept step)) (asks step) (list_within state_of next n (after step true))
    (list_within state_of next n (after step false))
unfolding list_within
list_next state_of next n step = refl

list_none : {T : Type 0} (state_of : List Bool → T) (next : List Bool → Trials T) (step : State) → list_within state_of next 0 step ≡ next (kept step)
unfolding list_within
list_none state_of next step = refl

worked_next : (times : ℕ) (t : PlainTree) (next : Waiting) (later : List Waiting) →
    visit_within worked_form worked_fits (Rule 0) (suc times) t (next ∷ later)
    ≡ node_visited (λ u queue. visit_within worked_form worked_fits (Rule 0) times u queue) t later worked_form worked_fits (Rule 0) (subtree next.node t)
worked_next times t next later = visit_next worked_form worked_fits (Rule 0) times t next later

plus_next : (times : ℕ) (t : PlainTree) (next : Waiting) (later : List Waiting) →
    visit_within plus_form worked_fits (Rule 0) (suc times) t (next ∷ later)
    ≡ node_visited (λ u queue. visit_within plus_form worked_fits (Rule 0) times u queue) t later plus_form worked_fits (Rule 0) (subtree next.node t)
plus_next times t next later = visit_next plus_form worked_fits (Rule 0) times t next later

pub brackets_go : BracketsGo
brackets_go = (
  _,
  _,
  _,
  worked_next 19 _ _ _ ∙ (worked_next 18 _ _ _ ∙ list_next _ _ 4 _),
  refl,
  (
    _,
    _,
    _,
    list_next _ _ 3 _ ∙ (worked_next 17 _ _ _ ∙ worked_next 16 _ _ _),
    refl,
    (_, _, _, worked_next 15 _ _ _, refl, worked_next 14 _ _ _ ∙ (worked_next 13 _ _ _ ∙ visit_none worked_form worked_fits (Rule 0) 12 _)),
  ),
)

pub blocks_go : BlocksGo
blocks_go = (
  _,
  _,
  _,
  worked_next 17 _ _ _ ∙ (worked_next 16 _ _ _ ∙ list_next _ _ 4 _),
  refl,
  (
    _,
    _,
    _,
    list_next _ _ 3 _ ∙ worked_next 15 _ _ _,
    refl,
    (
      _,
      _,
      _,
      worked_next 14 _ _ _,
      refl,
      worked_next 13 _ _ _
          ∙ (worked_next 12 _ _ _ ∙ (worked_next 11 _ _ _ ∙ visit_none worked_form worked_fits (Rule 0) 10 _)),
    ),
  ),
)

pub plus_keeps_one : PlusKeepsOne
unfolding part
plus_keeps_one = (
  (_, _, _, plus_next 4 _ _ _ ∙ (plus_next 3 _ _ _ ∙ list_next _ _ 25 _), refl, list_next _ _ 24 _ ∙ visit_none plus_form worked_fits (Rule 0) 2 _),
  plus_next 2 _ _ _ ∙ (plus_next 1 _ _ _ ∙ (list_none _ _ _ ∙ visit_none plus_form worked_fits (Rule 0) 0 _)),
)
