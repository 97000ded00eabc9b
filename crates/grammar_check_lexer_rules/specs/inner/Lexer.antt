-- Beside `../Lexer.antt`: what private functions and proofs need.
use Rattle.std.specs.Prelude.{ℕ, Bool, false, List, Option, slice_get}
use Rattle.std.specs.Option.{option_map_or}
use Rattle.grammar_tree.specs.Written.{WrittenRule}
use Rattle.grammar_check_nodes.specs.Flags.{flag}
use Rattle.grammar_check_lexer_rules.specs.Lexer.{lexer_alts_are_empty, lexer_index}

-- whether the rule matches the empty text, where a table says which rules do; no parser rule does
abbrev pub rule_is_empty : (List ℕ → Option ℕ) → (ℕ → Bool) → WrittenRule → Bool
rule_is_empty f e (WrittenRule.parser_rule r) = false
rule_is_empty f e (WrittenRule.lexer_rule r) = lexer_alts_are_empty f e r.alts

abbrev pub lexer_rule_is_empty : List WrittenRule → List Bool → ℕ → Bool
lexer_rule_is_empty rules flags i = option_map_or (rule_is_empty (lexer_index rules) (flag flags)) (slice_get rules i) false
