-- The gates of the workers after they were opened, and why one wasn't.
use Rattle.std.specs.Prelude.{◌≡◌, ◌≤◌, ℕ, zero, suc, List, [], ◌∷◌, Option, Some, length, option_map}
use Rattle.script_gate_trait.specs.declared.gate.GateFault.{GateFault}
use Rattle.script_gate_trait.specs.declared.gate.GateFault.TheVariants.{Failed, Memory}
use Rattle.script_gate_trait.specs.declared.log.Log.{Log}
use Rattle.script_gate_trait.specs.declared.log.Opening.{Opening}
use Rattle.command_words.specs.Commands.{ReduceOptions}
use Rattle.run_gated.specs.Seen.{AreQuiet, GateFailed, SeenGate, logs_of}
use Rattle.command_reduce_calls.specs.FileName.{file_name_of}
use Rattle.command_reduce_calls.specs.declared.openings.OpeningFault.{OpeningFault}

-- the opening of a worker's gate: the work folder, the script, the input's name without its folder, and the worker's number
abbrev pub opening_for : ReduceOptions → ℕ → Opening
opening_for options number = record { work = options.work; script = options.script; name = file_name_of options.input; number = number }

-- the log of a gate after it was opened for the worker of this number
abbrev pub opened_log : ReduceOptions → ℕ → Option Log → Option Log
opened_log options number log = option_map (λ (l : Log). record l { opening = Some (opening_for options number) }) log

-- the logs of gates after so many were opened, those of the workers from this number on; the others are as before
abbrev pub opened_from : ReduceOptions → ℕ → ℕ → List (Option Log) → List (Option Log)
opened_from options number zero logs = logs
opened_from options number (suc more) [] = []
opened_from options number (suc more) (log ∷ logs) = opened_log options number log ∷ opened_from options (suc number) more logs

-- the gate of this worker failed, or none did
abbrev pub OpenFailed : GateFault → ℕ → List SeenGate → List SeenGate → Type 0
OpenFailed Failed worker old new = GateFailed worker old new
OpenFailed (Memory _) worker old new = AreQuiet old new

-- Why the gates weren't all opened: that of this worker wasn't, those of the workers before it were, and the others are as before.
pub record GateRefused (options : ReduceOptions) (old new : List SeenGate) (refused : OpeningFault) : Type 0 where
  pub opened : ℕ
  pub at : refused.worker ≡ suc opened
  pub one_of : refused.worker ≤ length old
  pub before : logs_of new ≡ opened_from options 1 opened (logs_of old)
  pub fault : OpenFailed refused.fault refused.worker old new
