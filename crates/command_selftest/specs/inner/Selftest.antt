-- Beside `../Selftest.antt`: what private functions and proofs need.
use Rattle.command_ends.specs.declared.status.Refusal.{Refusal}
use Rattle.command_ends.specs.declared.status.Refusal.TheVariants.{Memory}

-- only memory can run out
abbrev pub SelftestFails : Refusal → Type 0
SelftestFails (Memory _) = Unit {0}
SelftestFails _ = ⊥
