-- Sets of kinds, as contracts see them, and what is kept of them.
use Rattle.std.specs.Prelude.{ℕ, if◌then◌else◌, List, [], ◌∷◌, ◌++◌}
use Rattle.std.specs.Global.{Vec}
use Rattle.std.specs.List.{list_any}
use Rattle.grammar_tree.specs.Kinds.{same_text}

-- Sets of kinds, each of them the kinds in it, and all kinds that can be in one.
pub record SetsOfKinds : Type 0 where
  pub all : List ℕ
  pub sets : List (List ℕ)

-- no set, of these kinds
abbrev pub no_sets : List ℕ → SetsOfKinds
no_sets all = record { all = all; sets = [] }

-- the kinds of a list
abbrev pub items_of : Vec ℕ → List ℕ
items_of list = list.items

-- the sets with one more, unless it is one of them
abbrev pub with_set : List (List ℕ) → List ℕ → List (List ℕ)
with_set sets ks = if list_any (λ other. same_text other ks) sets then sets else sets ++ ks ∷ []

-- the sets with each of these
abbrev pub with_sets : List (List ℕ) → List (List ℕ) → List (List ℕ)
with_sets sets [] = sets
with_sets sets (ks ∷ more) = with_sets (with_set sets ks) more

-- these sets with each of those
abbrev pub with_each : SetsOfKinds → List (List ℕ) → SetsOfKinds
with_each s more = record { all = s.all; sets = with_sets s.sets more }
