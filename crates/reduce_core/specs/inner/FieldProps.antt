-- What holds of a round's fields is a proposition.
use Rattle.std.specs.Prelude.{◌+◌, ℕ, Bool, List, [], ◌∷◌, Option, Some, None}
use Rattle.std.proofs.Props.{props}
use Rattle.list_ddmin.specs.Machine as list
use Rattle.list_ddmin.specs.Machine.{State, Nothing, Parts, Complements, End}
use Rattle.reduce_core.specs.declared.lines.Line.{Line}
use Rattle.reduce_core.specs.declared.line_round.Question.{Question}
use Rattle.keep_guard.specs.Relation.{RisesFrom}
use Rattle.reduce_core.specs.Reduction.{Admits}
use Rattle.reduce_core.specs.inner.Fields.{Agrees, IsInLimit, IsReady}

sound_prop : (step : State) → IsProp (list.IsSound step)
sound_prop (Nothing len) = hlevel props
sound_prop (Parts keep n i) = hlevel props
sound_prop (Complements keep n i) = hlevel props
sound_prop (End keep) = hlevel props

ready_prop : (admits : Admits) (keep : Option (List Bool)) (lines : List Line) (asked : Option Question) → IsProp (IsReady admits keep lines asked)
ready_prop admits keep lines None = hlevel props
ready_prop admits None lines (Some question) = hlevel props
ready_prop admits (Some keep) lines (Some question) = hlevel props

rises_prop : (low : ℕ) (numbers : List ℕ) → IsProp (RisesFrom low numbers)
rises_prop low [] = hlevel props
rises_prop low (number ∷ numbers) = hlevel (props, rises_prop (number + 1) numbers)

limit_prop : (lines : List Line) → IsProp (IsInLimit lines)
limit_prop lines = hlevel (props, rises_prop)

pub agrees_prop : (admits : Admits) (lines : List Line) (step : State) (asked : Option Question) → IsProp (Agrees admits lines step asked)
agrees_prop admits lines step asked = hlevel (props, sound_prop, limit_prop, ready_prop)
