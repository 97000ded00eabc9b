-- What a test of a state goes by.
use Rattle.std.specs.Prelude.{ℕ, Bool, List}

pub record StateTexts (T : Type 0) : Type 0 where
  -- the text of a state
  pub text : T → List ℕ
  -- a state may be asked; one that isn't listed counts as no
  pub is_listed : T → Bool
