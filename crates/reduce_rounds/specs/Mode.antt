-- A mode of reduction of one start: what its states are, and what it tries.
use Rattle.std.specs.Prelude.{◌≡◌, ◌<◌, ℕ, Bool, List, Option, IfSome}
use Rattle.reduce_rounds.specs.Trials.{Trials, AllTried, EachIsSmaller, IsTriedAtNo}

pub record RoundMode (T : Type 0) : Type 0 where
  -- what is reduced
  pub start : T
  -- the text of a state
  pub text : T → List ℕ
  -- a state may be asked; one that isn't listed counts as no
  pub is_listed : T → Bool
  -- how many units (lines or tokens) a state has
  pub size : T → ℕ
  -- what is tried once, before the rounds
  pub opening : Trials T
  -- what one round tries
  pub round : T → Trials T
  -- what falls with each yes within a round, and from phase to phase, so that the rounds end
  pub measure : T → ℕ
  -- what the rounds of the next phase begin with, after a round without a yes; none in the last phase
  pub next_phase : T → Option T

-- Kept holds of the start, and of each state that is tried, or that a phase begins with, from a state of which it holds
pub record Keeps {T : Type 0} (mode : RoundMode T) (Kept : T → Type 0) : Type 0 where
  pub start : Kept mode.start
  pub opening : AllTried Kept mode.opening
  pub round : (state : T) → Kept state → AllTried Kept (mode.round state)
  pub phase : (state : T) → Kept state → IfSome (mode.next_phase state) Kept

-- A phase begins with a state that reads as the one before: it has its text and its units.
abbrev pub PhasesAgree : {T : Type 0} → RoundMode T → Type 0
PhasesAgree {T = T} mode = (state : T) → IfSome (mode.next_phase state) (λ next. (mode.text next ≡ mode.text state) × (mode.size next ≡ mode.size state))

-- The next phase begins with a state that may be asked where the one before it may, and has a smaller measure.
pub record BeginsPhase {T : Type 0} (mode : RoundMode T) (state next : T) : Type 0 where
  pub listed : mode.is_listed next ≡ mode.is_listed state
  pub smaller : mode.measure next < mode.measure state

-- What a mode owes: it reaches kept states alone, and within a round from one of them each yes makes the measure smaller, and so does each phase, so that
-- the rounds end.
pub record IsLawful {T : Type 0} (mode : RoundMode T) (Kept : T → Type 0) : Type 0 where
  pub keeps : Keeps mode Kept
  pub smaller : (state : T) → Kept state → EachIsSmaller mode.measure (mode.measure state) (mode.round state)
  pub phases : (state : T) → Kept state → IfSome (mode.next_phase state) (BeginsPhase mode state)

-- a round from a kept state tries each single edit of it, if all its answers are no
abbrev pub TriesEdits : {T : Type 0} → RoundMode T → (T → Type 0) → (T → T → Type 0) → Type 0
TriesEdits {T = T} mode Kept IsEdit = (state other : T) → Kept state → IsEdit state other → IsTriedAtNo (mode.round state) other
