-- Uses of names that name nothing, as a test.
use Rattle.std.specs.Prelude.{◌≡◌, ℕ, Some, slice_get, List, Option, None}
use Rattle.grammar_tree.specs.Faults.{IsUnknown, NameUse, NoRuleAt, name_uses}
use Rattle.grammar_tree.specs.Written.{WrittenGrammar}
use Rattle.grammar_check_nodes.specs.First.{IsFirst, Nowhere}

-- The use with this number is of a name that names nothing.
abbrev pub IsUnknownAt : WrittenGrammar → ℕ → Type 0
IsUnknownAt G u = (it : NameUse) × (slice_get (name_uses G) u ≡ Some it) × IsUnknown G it

-- the first use of a name that names nothing is of this name; or, where there is no name, there is no such use
abbrev pub IsFirstUnknown : WrittenGrammar → Option (List ℕ) → Type 0
IsFirstUnknown G None = Nowhere (IsUnknownAt G)
IsFirstUnknown G (Some name) = (u : ℕ) × IsFirst (IsUnknownAt G) u × NoRuleAt G u name
