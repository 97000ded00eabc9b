-- How a reduction of a text ends, as it is defined.
use Rattle.std.specs.Prelude.{◌≡◌, ℕ, Bool, List, [], Option}
use Rattle.grammar_tree.specs.Written.{CheckedGrammar}
use Rattle.reduce_trees_input.specs.Parsed.{IsInputOf}
use Rattle.keep_guard.specs.Keep.{keeps_admit}
use Rattle.script_gate_trait.specs.declared.gate.Verdict.{Verdict}
use Rattle.reduce_step.specs.Plan.{End, StepResult, follow}
use Rattle.reduce_rounds.specs.RoundsPlan.{plan_first}
use Rattle.reduce_trees_mode.specs.Input.{TreeInput}
use Rattle.plain_reductions.specs.declared.reduction.Mode.{Mode}
use Rattle.plain_reductions.specs.RoundsOf.{rounds_of}

-- The reduction of this text by this grammar in this mode, where each candidate is admitted, ends so over these verdicts.
pub record EndsAs (grammar : CheckedGrammar) (text : List ℕ) (mode : Mode) (squeezes : Bool) (verdicts : List ℕ → Option Verdict)
    (result : StepResult) : Type 0 where
  pub input : TreeInput
  pub of_text : IsInputOf grammar text input
  pub all_admitted : input.admits ≡ keeps_admit []
  pub squeezed : input.squeezes ≡ squeezes
  pub ends : follow verdicts (plan_first (rounds_of mode input)) ≡ End result
