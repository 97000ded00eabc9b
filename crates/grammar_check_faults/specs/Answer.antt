-- What a check says of a grammar: the name of the rule that has a fault first.
use Rattle.std.specs.Prelude.{◌≡◌, ℕ, List, Option, Some, None, option_map, slice_get}
use Rattle.grammar_tree.specs.Kinds.{rule_name}
use Rattle.grammar_tree.specs.Written.{WrittenGrammar}
use Rattle.grammar_check_nodes.specs.First.{IsFirst, Nowhere}

-- the name of the rule at an index
abbrev pub name_at : WrittenGrammar → Option ℕ → Option (List ℕ)
name_at G None = None
name_at G (Some index) = option_map rule_name (slice_get G.rules index)

-- The first index of a fact is of a rule with this name.
pub record IsFirstNamed (G : WrittenGrammar) (P : ℕ → Type 0) (name : List ℕ) : Type 0 where
  pub index : ℕ
  pub first : IsFirst P index
  pub named : name_at G (Some index) ≡ Some name

-- the name of the rule at the first index where the fact holds, or nothing where it holds nowhere
abbrev pub IsNamedOrNone : WrittenGrammar → (ℕ → Type 0) → Option (List ℕ) → Type 0
IsNamedOrNone G P None = Nowhere P
IsNamedOrNone G P (Some name) = IsFirstNamed G P name
