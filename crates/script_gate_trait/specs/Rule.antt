-- The rules of gates: a number is eight bytes, the first one lowest, and zero bytes ask for nothing.
use Rattle.std.specs.Prelude.{ℕ, ◌==◌, List, Bool, ◌||◌, if◌then◌else◌}
use Rattle.std.specs.Int.{to_le_bytes, w64}
use Rattle.std.specs.List.{list_all, list_any}
use Rattle.script_gate_trait.specs.declared.gate.Verdict.{Verdict}
use Rattle.script_gate_trait.specs.declared.gate.Verdict.TheVariants.{Yes, No}

-- every byte of the eight that isn't zero occurs in the text
abbrev pub occur_all : ℕ → List ℕ → Bool
occur_all rule text = list_all (λ byte. (byte == 0) || list_any (λ x. x == byte) text) (to_le_bytes w64 rule)

-- yes exactly where they occur
abbrev pub rule_verdict : ℕ → List ℕ → Verdict
rule_verdict rule text = if occur_all rule text then Yes else No
