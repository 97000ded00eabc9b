-- A gate that holds its asks.
use Rattle.std.specs.Prelude.{ℕ, Option}
use Rattle.script_gate_trait.specs.declared.log.Log.{Log}

-- what it was asked and opened with, and how often it failed
pub record Held : Type 0 where
  pub log : Option Log
  pub faults : ℕ
