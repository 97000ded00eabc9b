-- What one rule has: literals and names, and the texts by which it is looked up.
use Rattle.std.specs.Prelude.{ℕ, Bool, false, List}
use Rattle.grammar_tree.specs.Written.{WrittenRule}
use Rattle.grammar_tree.specs.Kinds.{is_named_by, makes_token, rule_name, same_text}
use Rattle.grammar_check_parser_rules.specs.declared.rules.Key.{Key}
use Rattle.grammar_check_parser_rules.specs.declared.rules.Key.TheVariants.{Name, LexerName, Token, Literal}

-- the rule is looked up by this text
abbrev pub has_key : Key → List ℕ → WrittenRule → Bool
has_key Name t rule = same_text (rule_name rule) t
has_key LexerName t (WrittenRule.parser_rule r) = false
has_key LexerName t (WrittenRule.lexer_rule r) = same_text r.name t
has_key Token t rule = makes_token t rule
has_key Literal t rule = is_named_by t rule
