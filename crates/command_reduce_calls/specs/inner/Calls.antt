-- Beside `../Calls.antt`: what private functions and proofs need.
use Rattle.std.specs.Prelude.{◌≡◌, ℕ}
use Rattle.faults.specs.Count.{Rose}
use Rattle.script_gate_trait.specs.declared.gate.GateFault.{GateFault}
use Rattle.script_gate_trait.specs.declared.gate.GateFault.TheVariants.{Failed as GateFailed, Memory as GateMemory}

-- why a gate wasn't opened, by its counts before and after
abbrev pub OpenFails : ℕ → ℕ → GateFault → Type 0
OpenFails count count' GateFailed = Rose count count'
OpenFails count count' (GateMemory _) = count' ≡ count
