-- The states of a reduction with respelling.
use Rattle.std.specs.Prelude.{◌≡◌, ℕ, List}
use Rattle.syntax_tree.specs.Trees.{leaves}
use Rattle.reduce_trees_mode.specs.Input.{TreeInput}
use Rattle.reduce_trees_mode.specs.Listed.{IsListed}
use Rattle.spell_shrink.specs.Respelling.{IsShorterNeighbour, numbers_of}
use Rattle.spell_shrink.specs.Texts.{IsListedRespelling}
use Rattle.spell_shrink.specs.Respelled.{Reduced, Respelled, SpellState}

-- a state may be asked
abbrev pub IsListedInPhase : TreeInput → SpellState → Type 0
IsListedInPhase input (Reduced state) = IsListed input state
IsListedInPhase input (Respelled style r) = IsListedRespelling input style r

-- one respelling is a shorter neighbour of another, in the same style
abbrev pub IsNeighbour : TreeInput → SpellState → SpellState → Type 0
IsNeighbour input (Reduced state) other = ⊥
IsNeighbour input (Respelled style r) (Reduced other) = ⊥
IsNeighbour input (Respelled style r) (Respelled other_style other) = (style ≡ other_style) × IsShorterNeighbour input.start input.tokens r other

-- the numbers of the tokens that a state has
abbrev pub numbers_in_phase : SpellState → List ℕ
numbers_in_phase (Reduced state) = leaves state.tree
numbers_in_phase (Respelled style r) = numbers_of r
