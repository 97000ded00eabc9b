-- The result and the journal of a run of `reduce`, as `check` finds them.
use Rattle.std.specs.Prelude.{◌≡◌, ℕ, List, [], None}
use Rattle.script_gate_trait.specs.declared.gate.Verdict.{Verdict}
use Rattle.keep_guard.specs.Keep.{keeps_admit}
use Rattle.reduce_journal.specs.declared.head.Head.TheVariants.{Version2}
use Rattle.cert_check.specs.Findings.{IsConfirmed}
use Rattle.command_words.specs.Commands.{ProtectOptions, ReduceOptions}
use Rattle.command_ends.specs.World.{World}
use Rattle.command_perses.specs.Headline.{HasResult, Headline, result_text}

-- no lines are named that must stay
pub record NamesNoLines (protects : ProtectOptions) : Type 0 where
  pub lines : protects.lines ≡ []
  pub texts : protects.texts ≡ []
  pub only : protects.only ≡ None

-- Where a run came to its result, and no lines are named that must stay, the result, the start's digest and the history, which the
-- journal has, are confirmed of its problem. `check` doesn't take `--respell`: it reads the problem of such a run without it.
abbrev pub ResultsAreConfirmed : (List ℕ → Verdict → Type 0) → Type 0
ResultsAreConfirmed may_say =
    (options : ReduceOptions) (old new : World) (status : ℕ) → NamesNoLines options.protects
    → (run : Headline may_say options old new status) → HasResult status
    → IsConfirmed (keeps_admit options.keeps) run.problem (result_text options run.problem run.history) (Version2 run.start) run.history 0
