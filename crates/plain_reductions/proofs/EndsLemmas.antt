-- The reduction of what was found is one of the text, and how it ends.
use Rattle.std.proofs.Common.{◌≡◌, ℕ, Bool, List, [], Option, Result, refl, subst}
use Rattle.std.specs.Prelude.{IfOk, IsTrue}
use Rattle.std.proofs.lemmas.Result.{IfOk-weaker}
use Rattle.grammar_tree.specs.Faults.{IsWellFormed}
use Rattle.grammar_tree.specs.Written.{CheckedGrammar}
use Rattle.reduce_trees_input.specs.Parsed.{MakesInputOf, tree_input}
use Rattle.reduce_trees_input.specs.declared.parsed.ParsedInput.{ParsedInput}
use Rattle.keep_guard.specs.Keep.{keeps_admit}
use Rattle.script_gate_trait.specs.declared.gate.Verdict.{Verdict}
use Rattle.reduce_step.specs.Plan.{End, StepResult, follow}
use Rattle.reduce_rounds.specs.RoundsPlan.{plan_first}
use Rattle.reduce_trees_mode.specs.Input.{TreeInput}
use Rattle.plain_reductions.specs.declared.reduction.Mode.{Mode}
use Rattle.plain_reductions.specs.Found.{IsFound}
use Rattle.plain_reductions.specs.RoundsOf.{rounds_of}
use Rattle.plain_reductions.specs.Ends.{EndsAs}

ends_as : (grammar : CheckedGrammar) (text : List ℕ) (mode : Mode) (squeezes : Bool) (verdicts : List ℕ → Option Verdict) (result : StepResult)
    (found : ParsedInput) (input : TreeInput)
    → IsFound found → MakesInputOf grammar text found
    → ((formed : IsWellFormed found.lexer.grammar found.lexer.start) → input ≡ tree_input found formed (keeps_admit []) squeezes)
    → follow verdicts (plan_first (rounds_of mode input)) ≡ End result → EndsAs grammar text mode squeezes verdicts result
ends_as grammar text mode squeezes verdicts result found input is makes made ends =
    let formed = is.checked.well_formed in
    record {
      input = tree_input found formed (keeps_admit []) squeezes;
      of_text = makes formed (keeps_admit []) squeezes;
      all_admitted = refl;
      squeezed = refl;
      ends = subst (λ (i : TreeInput). follow verdicts (plan_first (rounds_of mode i)) ≡ End result) (made formed) ends;
    }

-- where both reducers agree in the mode, it ends so
pub agreed : {E : Type 0} (grammar : CheckedGrammar) (text : List ℕ) (mode : Mode) (squeezes : Bool) (verdicts : List ℕ → Option Verdict) (result : StepResult)
    (found : ParsedInput) (input : TreeInput) (answer : Result Bool E)
    → IsFound found → MakesInputOf grammar text
    found → ((formed : IsWellFormed found.lexer.grammar found.lexer.start) → input ≡ tree_input found formed (keeps_admit []) squeezes)
    → IfOk answer (λ same. IsTrue same → follow verdicts (plan_first (rounds_of mode input)) ≡ End result)
    → IfOk answer (λ same. IsTrue same → EndsAs grammar text mode squeezes verdicts result)
agreed grammar text mode squeezes verdicts result found input answer is makes made ends =
    IfOk-weaker answer (λ same. IsTrue same → follow verdicts (plan_first (rounds_of mode input)) ≡ End result)
    (λ same. IsTrue same → EndsAs grammar text mode squeezes verdicts result)
    (λ same at_yes yes. ends_as grammar text mode squeezes verdicts result found input is makes made (at_yes yes)) ends
