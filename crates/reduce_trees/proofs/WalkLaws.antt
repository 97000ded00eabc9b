-- The mode of a walk is lawful and tries each edit, since its rounds do.
use Rattle.normal_form.specs.declared.normal.Sym.{Sym}
use Rattle.normal_form.specs.Form.{NormalForm}
use Rattle.normal_form.specs.NormalOf.{IsNormal}
use Rattle.reduce_rounds.specs.Trials.{Trials}
use Rattle.syntax_tree.specs.NodeLaws.{WholeTreesRise}
use Rattle.syntax_tree.specs.LeftLaws.{LeftIsPart}
use Rattle.syntax_tree.specs.Numbered.{NumbersRise}
use Rattle.syntax_tree.specs.Trees.{PlainTree}
use Rattle.reduce_trees_mode.specs.Input.{IsInput, TreeInput}
use Rattle.reduce_trees_mode.specs.Lawful.{IsKeptTree, IsLawfulRound, TreeModeIsLawful, TreeModeTriesTrees}
use Rattle.reduce_walk.specs.Rounds.{RoundsKeepTrees, RoundsLoseLeaves, RoundsTryEdits}
use Rattle.reduce_trees.specs.Laws.{WalksAreLawful, WalksTryEdits}

form_is_normal : (input : TreeInput) → IsInput input → IsNormal input.form
form_is_normal input is = record { grammar = input.grammar; checked = is.checked; is = is.form_is }

-- the numbers of what is left rise
pub kept_rises : WholeTreesRise → LeftIsPart → (input : TreeInput) (tree : PlainTree) → IsInput input → IsKeptTree input tree → NumbersRise tree
kept_rises whole_rises part input tree is kept = (part input.whole tree kept.1).numbers_rise (whole_rises input.form input.symbol input.whole is.is_whole)

module _ (round : NormalForm → Sym → PlainTree → Trials PlainTree) (whole_rises : WholeTreesRise) (part : LeftIsPart) where
  round_is_lawful : RoundsKeepTrees round → RoundsLoseLeaves round → (input : TreeInput) → IsInput input → IsLawfulRound input (round input.form input.symbol)
  round_is_lawful keep lose input is =
      record {
        kept =
            λ tree kept. keep input.form input.symbol input.whole tree (form_is_normal input is)
            (whole_rises input.form input.symbol input.whole is.is_whole) kept.0 kept.1;
        smaller = λ tree kept. lose input.form input.symbol tree (form_is_normal input is) (kept_rises whole_rises part input tree is kept) kept.0;
      }

  pub are_lawful : RoundsKeepTrees round → RoundsLoseLeaves round → TreeModeIsLawful → WalksAreLawful round
  are_lawful keep lose mode input is = mode input (round input.form input.symbol) is (round_is_lawful keep lose input is)

  pub try_edits : (IsEdit : NormalForm → Sym → PlainTree → PlainTree → Type 0) → RoundsTryEdits round IsEdit → TreeModeTriesTrees → WalksTryEdits round IsEdit
  try_edits IsEdit tries mode input is state other kept edit =
      let kept_tree : IsKeptTree input state.tree = (kept.fits, kept.left) in
      mode input (round input.form input.symbol) state other
      (tries input.form input.symbol state.tree other.tree (form_is_normal input is)
      (kept_rises whole_rises part input state.tree is kept_tree) kept.fits edit.tree) edit.style
