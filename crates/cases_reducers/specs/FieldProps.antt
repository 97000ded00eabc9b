-- What holds of a round's fields is a proposition.
use Rattle.std.proofs.Common.{ℕ, zero, suc, List, Option, Some, None}
use Rattle.std.proofs.Props.{props}
use Rattle.cases_reducers.specs.Fields.{Agrees, IsNext}

next_prop : (text : List ℕ) (next : Option (List ℕ)) (at : ℕ) → IsProp (IsNext text next at)
next_prop text None at = hlevel props
next_prop text (Some next) zero = hlevel props
next_prop text (Some next) (suc at) = hlevel props

pub agrees_prop : (text : List ℕ) (next : Option (List ℕ)) (at : ℕ) → IsProp (Agrees text next at)
agrees_prop text next at = hlevel (props, next_prop)
