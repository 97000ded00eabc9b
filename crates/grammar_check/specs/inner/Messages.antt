-- Beside `../Messages.antt`: what private functions and proofs need.
use Rattle.std.specs.Prelude.{ℕ, List, codes, if◌then◌else◌}
use Rattle.grammar_check_lexer_rules.specs.Lexer.{is_nil}

-- what is printed before the name of a start rule that isn't there
abbrev pub no_start : List ℕ → List ℕ
no_start name = if is_nil name then codes "no start" else codes "no start "
