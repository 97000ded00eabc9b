-- The mode of trees is lawful where a round of it is.
use Rattle.std.proofs.Common.{subst}
use Rattle.reduce_rounds.specs.Trials.{IsTriedAtNo}
use Rattle.token_print.specs.declared.style.Style.{Style}
use Rattle.reduce_trees_mode.specs.InStyles.{in_style}
use Rattle.reduce_trees_mode.specs.TreeTrials.{trials_in}
use Rattle.reduce_trees_mode.specs.Laws.{OpeningIsKept, StylesStay, WholeIsStart}
use Rattle.reduce_trees_mode.specs.Lawful.{TreeModeIsLawful, TreeModeTriesTrees}

pub is_lawful : WholeIsStart → OpeningIsKept → StylesStay → TreeModeIsLawful
is_lawful start opening stay input round of lawful =
    record {
      keeps =
          record {
            start = (start input of).kept;
            opening = opening input of;
            round = λ state kept. (stay input state (round state.tree)).kept kept (lawful.kept state.tree (kept.fits, kept.left));
            phase = λ state kept. tt;
          };
      smaller = λ state kept. (stay input state (round state.tree)).smaller _ (lawful.smaller state.tree (kept.fits, kept.left));
      phases = λ state kept. tt;
    }

pub tries_trees : StylesStay → TreeModeTriesTrees
tries_trees stay input round state other tried_tree same =
    let tried : IsTriedAtNo (trials_in state.style (round state.tree)) (in_style state.style other.tree) =
    (stay input state (round state.tree)).tried other.tree tried_tree in
    subst (λ (style : Style). IsTriedAtNo (trials_in state.style (round state.tree)) (in_style style other.tree)) same tried
