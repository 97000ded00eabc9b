-- Trials of which only some states may be tried.
use Rattle.std.specs.Prelude.{Bool, if◌then◌else◌}
use Rattle.reduce_rounds.specs.Trials.{Trials, Done, Try}

-- the same trials, where a state that doesn't pass the test counts as no, and isn't tried
abbrev pub allowed_trials : {T : Type 0} → (T → Bool) → Trials T → Trials T
allowed_trials test Done = Done
allowed_trials test (Try state at_yes at_no) =
    if test state then Try state (allowed_trials test at_yes) (allowed_trials test at_no) else allowed_trials test at_no
