-- Beside `../Shapes.antt`: what private functions and proofs need.
use Rattle.std.specs.Prelude.{ℕ, Option, Some, None}
use Rattle.syntax_tree_cut.specs.declared.shape.Shape.{Shape}
use Rattle.syntax_tree_cut.specs.declared.shape.Shape.TheVariants.{Leaf, Star, Plus, Optional, Regular}

-- how many elements a list has at least of which one can be deleted
abbrev pub fewest_of : Option Shape → Option ℕ
fewest_of None = None
fewest_of (Some Leaf) = None
fewest_of (Some Star) = Some 1
fewest_of (Some Plus) = Some 2
fewest_of (Some Optional) = None
fewest_of (Some Regular) = None
