-- What a gate was asked and opened with.
use Rattle.std.specs.Prelude.{ℕ, List, [], ◌∷◌, ◌++◌, Some, None}
use Rattle.script_gate_trait.specs.declared.log.Log.{Log}

-- it was neither asked nor opened
abbrev pub empty_log : Log
empty_log = record { asked = []; opening = None }

-- one ask more, of this text
abbrev pub with_asked : List ℕ → Log → Log
with_asked text log = record log { asked = log.asked ++ text ∷ [] }

-- these are the arguments of the last opening
abbrev pub with_opening : List ℕ → List ℕ → List ℕ → ℕ → Log → Log
with_opening work script name number log =
    record log { opening = Some (record { work = work; script = script; name = name; number = number }) }
