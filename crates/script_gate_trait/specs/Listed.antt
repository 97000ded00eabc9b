-- A gate that answers from a list.
use Rattle.std.specs.Prelude.{ℕ, List, Option, Some, None, drop, slice_get, unwrap_or}
use Rattle.script_gate_trait.specs.declared.gate.Verdict.{Verdict}
use Rattle.script_gate_trait.specs.declared.gate.Verdict.TheVariants.{Yes, No}
use Rattle.script_gate_trait.specs.declared.list_gate.Said.{Said}
use Rattle.script_gate_trait.specs.declared.list_gate.Said.TheVariants.{Yes as SaysYes, No as SaysNo, Fail}
use Rattle.script_gate_trait.specs.declared.log.Log.{Log}

-- the answers that are still to be given in order, the answer to each ask after them,
-- how often it failed, and what it was asked and opened with
pub record Listed : Type 0 where
  pub answers : List Said
  pub later : Said
  pub faults : ℕ
  pub log : Log

-- what it answers next
abbrev pub next_answer : Listed → Said
next_answer gate = unwrap_or (slice_get gate.answers 0) gate.later

-- the verdict of an answer, unless it is a failure
abbrev pub verdict_of : Said → Option Verdict
verdict_of SaysYes = Some Yes
verdict_of SaysNo = Some No
verdict_of Fail = None

-- its next answer is given
abbrev pub moved_on : Listed → Listed
moved_on gate = record gate { answers = drop 1 gate.answers }
