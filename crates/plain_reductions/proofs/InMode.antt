-- How reductions end, whatever the mode.
use Rattle.std.proofs.Common.{◌≡◌, ℕ, Bool, List, Option, Result, sym, subst}
use Rattle.std.specs.Prelude.{IfOk, IsTrue}
use Rattle.script_gate_trait.specs.declared.gate.Verdict.{Verdict}
use Rattle.reduce_step.specs.Plan.{End, StepResult, follow}
use Rattle.reduce_rounds.specs.RoundsPlan.{plan_first}
use Rattle.reduce_trees_mode.specs.Input.{TreeInput}
use Rattle.plain_reductions.specs.declared.reduction.Mode.{Mode}
use Rattle.plain_reductions.specs.RoundsOf.{rounds_of}

-- what is known of a mode is known of the one that is present
pub in_present : {E : Type 0} (mode present : Mode) (verdicts : List ℕ → Option Verdict) (input : TreeInput) (result : StepResult) (answer : Result Bool E)
    → present ≡ mode → IfOk answer (λ same. IsTrue same → follow verdicts (plan_first (rounds_of mode input)) ≡ End result)
    → IfOk answer (λ same. IsTrue same → follow verdicts (plan_first (rounds_of present input)) ≡ End result)
in_present mode present verdicts input result answer present_is ends =
    subst (λ (m : Mode). IfOk answer (λ same. IsTrue same → follow verdicts (plan_first (rounds_of m input)) ≡ End result)) (sym present_is) ends
