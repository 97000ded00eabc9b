-- What the plain program asks within a round, and the answers that it has. A keep list has a flag for each line.
use Rattle.std.specs.Prelude.{ℕ, Bool, List, [], ◌∷◌, ◌++◌, Option, Some, None, if◌then◌else◌}
use Rattle.std.specs.Cmp.Lexicographic.{pointwise}
use Rattle.std.specs.Bool.{beq}
use Rattle.std.specs.List.{list_any}
use Rattle.list_ddmin.specs.ListStep.{kept_of}
use Rattle.reduce_rounds.specs.ListEnd.{keep_verdict, listed_texts}
use Rattle.reduce_core.specs.declared.lines.Line.{Line}
use Rattle.reduce_core.specs.Reduction.{Admits, line_texts}

-- the keep list is one of these
abbrev pub is_among : List (List Bool) → List Bool → Bool
is_among keeps keep = list_any (λ one. pointwise beq one keep) keeps

-- the first keep list that isn't one of those asked
abbrev pub first_other : List (List Bool) → List (List Bool) → Option (List Bool)
first_other asked [] = None
first_other asked (keep ∷ keeps) = if is_among asked keep then first_other asked keeps else Some keep

-- one keep list more where its answer is yes
abbrev pub with_yes : Bool → List (List Bool) → List Bool → List (List Bool)
with_yes answer keeps keep = if answer then keeps ++ keep ∷ [] else keeps

-- the verdict on a keep list: that on the lines that it keeps
abbrev pub verdict_on : Admits → (List ℕ → Bool) → List Line → List Bool → Bool
verdict_on admits verdict lines keep = keep_verdict (line_texts admits) verdict (λ flags. kept_of flags lines) keep

-- what is asked of these keep lists: the texts of those whose lines are listed
abbrev pub texts_asked : Admits → List Line → List (List Bool) → List (List ℕ)
texts_asked admits lines keeps = listed_texts (line_texts admits) (λ keep. kept_of keep lines) keeps
