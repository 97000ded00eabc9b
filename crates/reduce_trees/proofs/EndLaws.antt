-- A reduction of trees begins with its start, asks candidates alone, and ends at a minimal tree.
use Rattle.std.proofs.Common.{sym, subst}
use Rattle.normal_form.specs.declared.normal.Sym.{Sym}
use Rattle.normal_form.specs.Form.{NormalForm}
use Rattle.reduce_rounds.specs.Trials.{Trials}
use Rattle.syntax_tree.specs.Trees.{PlainTree}
use Rattle.token_print.specs.declared.style.Style.{Style}
use Rattle.reduce_trees_mode.specs.Candidates.{IsCandidate}
use Rattle.reduce_trees_mode.specs.Input.{TreeState}
use Rattle.reduce_trees_mode.specs.Laws.{ListedAreCandidates, ListedIsDecided, WholeIsStart}
use Rattle.reduce_trees_mode.specs.InStyles.{in_style}
use Rattle.reduce_trees.specs.Ends.{WalksAskCandidates, WalksBegin, WalksEndMinimal}
use Rattle.reduce_trees.specs.Laws.{WalksTryEdits}

module _ (round : NormalForm → Sym → PlainTree → Trials PlainTree) where
  pub begins : WholeIsStart → ListedIsDecided → WalksBegin round
  begins whole decided input is admitted =
      let start : TreeState = in_style Style.AsWas input.whole in
      record { text = (whole input is).text; listed = (decided input start).1 ((whole input is).listed admitted) }

  pub ask_candidates : ListedAreCandidates → ListedIsDecided → WalksAskCandidates round
  ask_candidates candidates decided input text is of =
      subst (IsCandidate input) (sym of.same) (candidates input of.state is of.kept ((decided input of.state).0 of.listed))

  -- the edits of a state are among what a round from it tries
  pub end_minimal : (IsEdit : NormalForm → Sym → PlainTree → PlainTree → Type 0) → WalksTryEdits round IsEdit → ListedIsDecided → WalksEndMinimal round IsEdit
  end_minimal IsEdit tries decided input V state is ends =
      record {
        yes_at_end = ends.yes_at_end;
        listed = (decided input state).0 ends.listed;
        kept = ends.kept;
        minimal = λ other edit listed. ends.minimal other (tries input is state other ends.kept edit) ((decided input other).1 listed);
      }
