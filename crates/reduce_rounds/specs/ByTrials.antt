-- The reduction in a mode whose rounds are trials.
use Rattle.std.specs.Prelude.{ℕ, Bool, List}
use Rattle.reduce_rounds.specs.Trials.{Trials, Done, Try}
use Rattle.reduce_rounds.specs.Mode.{RoundMode}
use Rattle.reduce_rounds.specs.StateTexts.{StateTexts}
use Rattle.reduce_rounds.specs.Reduction.{Recursion, Reduction, RoundEnd, end_at, reduction, tested}

-- What trials from a state on come to. A state that isn't listed counts as no, and isn't asked.
abbrev pub trials_end : {T : Type 0} → StateTexts T → (List ℕ → Bool) → T → Trials T → RoundEnd T
trials_end texts verdict state Done = end_at state
trials_end texts verdict state (Try other at_yes at_no) =
    tested texts verdict other (trials_end texts verdict other at_yes) (trials_end texts verdict state at_no)

-- what a test of the mode's states goes by
abbrev pub texts_of : {T : Type 0} → RoundMode T → StateTexts T
texts_of mode = record { text = mode.text; is_listed = mode.is_listed }

-- one round
abbrev pub round_of : {T : Type 0} → RoundMode T → (List ℕ → Bool) → T → RoundEnd T
round_of mode verdict state = trials_end (texts_of mode) verdict state (mode.round state)

-- what is tried once, before the rounds
abbrev pub opening_of : {T : Type 0} → RoundMode T → (List ℕ → Bool) → RoundEnd T
opening_of mode verdict = trials_end (texts_of mode) verdict mode.start mode.opening

-- the recursion whose opening and rounds are these trials
abbrev pub recursion_of : {T : Type 0} → RoundMode T → Recursion T
recursion_of mode = record {
  start = mode.start;
  text = mode.text;
  size = mode.size;
  opening = opening_of mode;
  round = round_of mode;
  measure = mode.measure;
  next_phase = mode.next_phase;
}

-- its reduction
abbrev pub reduction_of : {T : Type 0} → RoundMode T → (List ℕ → Bool) → Reduction T
reduction_of mode verdict = reduction (recursion_of mode) verdict
