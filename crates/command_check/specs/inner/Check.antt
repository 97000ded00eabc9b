-- Beside `../Check.antt`: what private functions and proofs need.
use Rattle.std.specs.Prelude.{◌≡◌, ◌++◌, codes, string_bytes}
use Rattle.cert_check.specs.Setup.{CanBeChecked, IsSetupOf, keeps_in}
use Rattle.cert_check.specs.WhyText.{why_text}
use Rattle.cert_check.specs.declared.finding.Why.{Why}
use Rattle.cert_check.specs.declared.setup.Setup.{Setup}
use Rattle.command_ends.specs.declared.status.Refusal.{Refusal}
use Rattle.command_ends.specs.declared.status.Refusal.TheVariants.{Memory, NotConfirmed}
use Rattle.command_ends.specs.Status.{line_of, status_of}
use Rattle.command_ends.specs.World.{PutsLine, SeenCalls, SeenFiles, SeenOut, line_of_text}
use Rattle.command_check.specs.Check.{CheckEnds, ProblemHeld}
use Rattle.command_words.specs.Commands.{CheckOptions}

-- What was read makes the setup of a problem in whose start each keep text occurs.
pub record IsSetupRead (options : CheckOptions) (files : SeenFiles) (it : Setup) : Type 0 where
  pub can : CanBeChecked it
  pub keeps : keeps_in it ≡ options.keeps
  pub problem : ProblemHeld options files (λ problem. IsSetupOf it problem)

-- the command ends with this refusal, whatever becomes of its line
abbrev pub CheckFails : CheckOptions → SeenFiles → SeenFiles → SeenCalls → SeenCalls → Refusal → Type 0
CheckFails options files files' calls calls' refusal =
    (out out' : SeenOut) → PutsLine (line_of refusal) out out' → CheckEnds options files files' calls calls' out out' (status_of refusal)

-- the refusal of files that aren't those of a finished run for this cause, or out of memory
abbrev pub IsCauseRefusal : Why → Refusal → Type 0
IsCauseRefusal why (Memory _) = Unit {0}
IsCauseRefusal why (NotConfirmed line) = string_bytes line ≡ line_of_text (codes "check: " ++ why_text why)
IsCauseRefusal why _ = ⊥
