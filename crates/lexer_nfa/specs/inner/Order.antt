-- Beside `../Order.antt`: what private functions and proofs need.
use Rattle.std.specs.Prelude.{◌≤◌, ℕ, List}
use Rattle.std.specs.List.{Contains}
use Rattle.lexer_nfa.specs.Order.{NeverFall}

-- they never fall, and none is above the last one
pub record AreUpTo {X : Type 0} (key : X → ℕ) (list : List X) (last : ℕ) : Type 0 where
  pub never_fall : NeverFall key list
  pub below : (x : X) → Contains list x → key x ≤ last
