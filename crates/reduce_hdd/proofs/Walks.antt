-- Walks through the levels of a tree, as their contracts see them.
use Rattle.std.proofs.Common.{◌≡◌, ◌∙◌, Bool, true, false, Option, Some, None, refl, sym, ap}
use Rattle.std.specs.Prelude.{is_some, not}
use Rattle.std.proofs.lemmas.Bool.{false≢true}
use Rattle.std.proofs.lemmas.Option.{none-some}
use Rattle.normal_form.specs.Form.{NormalForm}
use Rattle.reduce_rounds.specs.Trials.{Done, is_done, tried_state}
use Rattle.syntax_tree.specs.Trees.{PlainTree}
use Rattle.syntax_tree.specs.Numbered.{NumbersRise}
use Rattle.syntax_tree.specs.Valid.{IsTreeFor}
use Rattle.syntax_tree.specs.Left.{IsRemainderOf}
use Rattle.syntax_tree.specs.LeftLaws.{LeftIsTransitive}
use Rattle.syntax_tree.specs.Nodes.{SyntaxTree, whole}
use Rattle.syntax_tree_cut.specs.Cuts.{CutForm, cut_tree}
use Rattle.hdd_levels.specs.Laws.{KeptTreesAreLeft, KeptTreesAreTrees}
use Rattle.reduce_hdd.specs.declared.level_step.LevelStep.{LevelStep}
use Rattle.reduce_hdd.specs.inner.Walking.{AreLevels, IsWalking, tree_left, trials_within}
use Rattle.reduce_hdd.proofs.Steps.{not_done, tried_kept}

-- whether nothing more is tried
pub over_is : (N : NormalForm) (t : PlainTree) (step : Option LevelStep) (over : Bool) → IsWalking N t step → is_some step ≡ not over
    → over ≡ is_done (trials_within N t step)
over_is N t None true is e = refl
over_is N t None false is e = absurd (let no : false ≡ true = e in cc)
over_is N t (Some s) true is e = absurd (let no : true ≡ false = e in cc)
over_is N t (Some s) false is e = sym (not_done N t s is)

-- what is tried is kept
pub walks_keep : KeptTreesAreTrees → KeptTreesAreLeft → LeftIsTransitive → (tree : SyntaxTree) (cut : CutForm) (step : Option LevelStep)
    → AreLevels tree cut step → NumbersRise (cut_tree tree cut) →
    (u : PlainTree) → tried_state (trials_within tree.form (cut_tree tree cut) step) ≡ Some u → IsTreeFor tree.form tree.start u × IsRemainderOf (whole tree) u
walks_keep trees left both tree cut None are rise u e = absurd (none-some u e)
walks_keep trees left both tree cut (Some s) are rise u e =
    tried_kept tree.form (cut_tree tree cut) s are.walking trees left both tree.start (whole tree) are.of.fits rise are.of.part u e

-- where nothing more is tried, that is left which the cut leaves
pub left_at_end : (N : NormalForm) (t : PlainTree) (step : Option LevelStep) → IsWalking N t step → trials_within N t step ≡ Done → tree_left t step ≡ t
left_at_end N t None is over = refl
left_at_end N t (Some s) is over = absurd (false≢true (sym (not_done N t s is) ∙ ap is_done over))
