-- Beside `../Rules.antt`: what private functions and proofs need.
use Rattle.std.specs.Prelude.{List, [], Option, Some, None}
use Rattle.grammar_tree.specs.Written.{Reference, WrittenAlts, WrittenRule}
use Rattle.grammar_tree.specs.Kinds.{references}

-- the literals and names in a parser rule
abbrev pub rule_references : WrittenRule → List Reference
rule_references (WrittenRule.parser_rule r) = references r.alts
rule_references (WrittenRule.lexer_rule r) = []

-- the alternatives of the rule, where it is a parser rule
abbrev pub body_of : WrittenRule → Option WrittenAlts
body_of (WrittenRule.parser_rule r) = Some r.alts
body_of (WrittenRule.lexer_rule r) = None
