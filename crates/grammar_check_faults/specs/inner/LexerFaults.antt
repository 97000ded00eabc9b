-- Beside `../LexerFaults.antt`: what private functions and proofs need.
use Rattle.std.specs.Prelude.{ℕ, Bool, false, not, ◌&&◌, List, Option}
use Rattle.grammar_tree.specs.Written.{WrittenRule}
use Rattle.grammar_tree.specs.Matches.{any_is_short}
use Rattle.grammar_check_lexer_rules.specs.Lexer.{lexer_alts_have_loop}

-- the rule makes tokens, and matches the empty text by what a table says of it
abbrev pub is_empty_token : WrittenRule → Bool → Bool
is_empty_token (WrittenRule.parser_rule r) empty = false
is_empty_token (WrittenRule.lexer_rule r) empty = not r.fragment && empty

-- a lexer rule with a non-greedy alternative
abbrev pub is_short_rule : WrittenRule → Bool
is_short_rule (WrittenRule.parser_rule r) = false
is_short_rule (WrittenRule.lexer_rule r) = any_is_short r.alts

-- a lexer rule with an empty loop
abbrev pub is_looping_rule : (List ℕ → Option ℕ) → (ℕ → Bool) → WrittenRule → Bool
is_looping_rule f e (WrittenRule.parser_rule r) = false
is_looping_rule f e (WrittenRule.lexer_rule r) = lexer_alts_have_loop f e r.alts
