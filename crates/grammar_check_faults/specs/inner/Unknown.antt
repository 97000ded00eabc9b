-- Beside `../Unknown.antt`: what private functions and proofs need.
use Rattle.std.specs.Prelude.{Bool, ◌&&◌, is_none}
use Rattle.grammar_tree.specs.Faults.{NameUse}
use Rattle.grammar_tree.specs.Kinds.{name_kind, rule_number}
use Rattle.grammar_tree.specs.Written.{WrittenGrammar}
use Rattle.grammar_check_lexer_rules.specs.Lexer.{lexer_index}

-- the name means nothing
abbrev pub is_unknown : WrittenGrammar → NameUse → Bool
is_unknown G (NameUse.by_parser_rule n) = is_none (rule_number G n) && is_none (name_kind G n)
is_unknown G (NameUse.by_lexer_rule n) = is_none (lexer_index G.rules n)
