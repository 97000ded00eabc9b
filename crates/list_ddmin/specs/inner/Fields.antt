-- The machine's fields, and the state that they represent.
use Rattle.std.specs.Prelude.{◌≡◌, ℕ, ◌+◌, ◌-◌, ◌*◌, ◌^◌, ◌<◌, ◌≤◌, min, max, Bool, true, false, ◌&&◌, not}
use Rattle.std.specs.Prelude.{nat_lt, nat_le, if◌then◌else◌, List, length, replicate}
use Rattle.list_ddmin.specs.declared.machine.Phase.{Phase}
use Rattle.list_ddmin.specs.declared.machine.Phase.TheVariants.{Nothing, Parts, Complements, End}
use Rattle.list_ddmin.specs.ListStep.{part, complement}
use Rattle.list_ddmin.specs.Machine as machine
use Rattle.list_ddmin.specs.Machine.{State, IsSound}

-- the state of a machine in this phase that keeps this
abbrev pub state_of : Phase → List Bool → State
state_of Nothing keep = machine.Nothing (length keep)
state_of (Parts n at) keep = machine.Parts keep n at
state_of (Complements n at) keep = machine.Complements keep n at
state_of End keep = machine.End keep

-- In the phase Nothing all elements are kept.
abbrev pub IsWhole : Phase → List Bool → Type 0
IsWhole Nothing keep = keep ≡ replicate (length keep) true
IsWhole (Parts n at) keep = Unit {0}
IsWhole (Complements n at) keep = Unit {0}
IsWhole End keep = Unit {0}

-- the phase in which ddmin of so many elements in n parts begins
abbrev pub begun_phase : ℕ → ℕ → Phase
begun_phase size n = if nat_lt size 2 then End else Parts n 0

-- the phase in which the list step begins
abbrev pub first_phase_of : ℕ → Bool → Phase
first_phase_of len may_be_empty = if may_be_empty && nat_lt 0 len then Nothing else begun_phase len 2

-- the phase after an answer, where so many elements are kept then
abbrev pub next_phase : Phase → Bool → ℕ → Phase
next_phase Nothing answer size = if answer then End else begun_phase size 2
next_phase (Parts n at) answer size =
    if answer then begun_phase size 2
    else if nat_lt (at + 1) n then Parts n (at + 1) else Complements n 0
next_phase (Complements n at) answer size =
    if answer then begun_phase size (max (n - 1) 2)
    else if nat_lt (at + 1) n then Complements n (at + 1)
    else if nat_lt n size then Parts (min size (2 * n)) 0 else End
next_phase End answer size = End

-- the places that are marked: those from low on and below high, or all others
abbrev pub chosen : ℕ → ℕ → Bool → ℕ → Bool
chosen low high inside place = if inside then nat_le low place && nat_lt place high else not (nat_le low place && nat_lt place high)

-- The phase has at least two parts, and the next one is one of them.
abbrev pub Numbered : Phase → Type 0
Numbered Nothing = Unit {0}
Numbered (Parts n at) = (2 ≤ n) × (at < n)
Numbered (Complements n at) = (2 ≤ n) × (at < n)
Numbered End = Unit {0}

-- This is what the phase asks.
abbrev pub Marks : Phase → List Bool → List Bool → Type 0
Marks Nothing keep asked = asked ≡ replicate (length keep) false
Marks (Parts n at) keep asked = asked ≡ part keep n at
Marks (Complements n at) keep asked = asked ≡ complement keep n at
Marks End keep asked = length asked ≡ length keep

-- what holds of the fields between two calls
pub record Agrees (phase : Phase) (keep asked : List Bool) : Type 0 where
  pub few : length keep < 2 ^ 32
  pub same : length asked ≡ length keep
  pub whole : IsWhole phase keep
  pub sound : IsSound (state_of phase keep)
  pub marked : Marks phase keep asked
