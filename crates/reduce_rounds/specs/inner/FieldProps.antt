-- What holds of a machine's fields is a proposition.
use Rattle.std.proofs.Props.{props}
use Rattle.reduce_rounds.specs.declared.stage.Stage.{Stage}
use Rattle.reduce_rounds.specs.declared.stage.Stage.TheVariants.{Start, Opening, Within, Ended}
use Rattle.reduce_rounds.specs.declared.stage.Progress.{Progress}
use Rattle.reduce_rounds.specs.Trials.{Trials, Done, Try, AllTried}
use Rattle.reduce_rounds.specs.Mode.{RoundMode}
use Rattle.reduce_rounds.specs.inner.Fields.{AreKept, IsAsking, IsReady, StaysKept}

all_tried_prop : {T : Type 0} (Kept : T → Type 0) (rest : Trials T) → IsProp (AllTried (λ other. ∥ Kept other ∥₁) rest)
all_tried_prop Kept Done = hlevel props
all_tried_prop Kept (Try other at_yes at_no) = hlevel (props, all_tried_prop Kept at_yes, all_tried_prop Kept at_no)

pub are_kept_prop : {T : Type 0} (Kept : T → Type 0) (state : T) (rest : Trials T) → IsProp (AreKept Kept state rest)
are_kept_prop Kept state rest = hlevel (props, all_tried_prop)

stays_kept_prop : {T : Type 0} (mode : RoundMode T) (Kept : T → Type 0) (state : T) (rest : Trials T) → IsProp (StaysKept mode Kept state rest)
stays_kept_prop mode Kept state rest = hlevel (props, are_kept_prop)

asking_prop : {T : Type 0} (mode : RoundMode T) (Kept : T → Type 0) (state : T) (rest : Trials T) (stage : Stage) (progress : Progress)
    → IsProp (IsAsking mode Kept state rest stage progress)
asking_prop mode Kept state rest Start progress = hlevel (props, stays_kept_prop)
asking_prop mode Kept state rest Opening progress = hlevel (props, stays_kept_prop)
asking_prop mode Kept state rest (Within changed) progress = hlevel (props, stays_kept_prop)
asking_prop mode Kept state rest Ended progress = hlevel props

pub ready_prop : {T : Type 0} (mode : RoundMode T) (Kept : T → Type 0) (state : T) (rest : Trials T) (stage : Stage) (progress : Progress)
    → IsProp (IsReady mode Kept state rest stage progress)
ready_prop mode Kept state rest stage progress = hlevel (props, asking_prop)
