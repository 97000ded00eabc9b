-- Beside `../Trials.antt`: what private functions and proofs need.
use Rattle.std.specs.Prelude.{ℕ, suc, max}
use Rattle.reduce_rounds.specs.Trials.{Trials, Done, Try}

-- at most so many answers
abbrev pub height : {T : Type 0} → Trials T → ℕ
height Done = 0
height (Try other at_yes at_no) = suc (max (height at_yes) (height at_no))
