-- Directly recursive alternatives that can be empty.
use Rattle.std.specs.Prelude.{ℕ, Bool, not, ◌&&◌, is_some}
use Rattle.grammar_tree.specs.Derives.{Seq}
use Rattle.grammar_tree.specs.Corners.{rest_of}
use Rattle.grammar_check_parser_rules.specs.Empty.{seq_is_empty}

-- the alternative is a base of the rule r, and can be empty
abbrev pub is_empty_base : (ℕ → Bool) → ℕ → Seq → Bool
is_empty_base e r s = not (is_some (rest_of r s)) && seq_is_empty e s
