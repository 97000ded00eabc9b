-- How long a text may be.
use Rattle.std.specs.Prelude.{ℕ}

-- the most bytes of a text that a reducer asks
abbrev pub text_limit : ℕ
text_limit = 1048576
