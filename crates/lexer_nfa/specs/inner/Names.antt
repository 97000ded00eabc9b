-- Where the lexer rules of a grammar are among its rules, by their names.
use Rattle.std.specs.Prelude.{◌≡◌, ℕ, Bool, false, List, Option, Some, position, slice_get}
use Rattle.std.specs.List.{Contains}
use Rattle.grammar_tree.specs.Written.{LexerRule, WrittenRule}
use Rattle.grammar_tree.specs.Faults.{LexerHasEmptyLoopAlts}
use Rattle.grammar_tree.specs.Kinds.{lexer_rules, same_text}

-- the rule is a lexer rule with this name
abbrev pub is_named : List ℕ → WrittenRule → Bool
is_named name (WrittenRule.parser_rule r) = false
is_named name (WrittenRule.lexer_rule r) = same_text r.name name

-- the index of the first lexer rule with this name
abbrev pub rule_index : List WrittenRule → List ℕ → Option ℕ
rule_index rules name = position (is_named name) rules

-- two lexer rules with one name are at one index
abbrev pub HaveOneName : List WrittenRule → Type 0
HaveOneName rules =
    (i j : ℕ) (a b : LexerRule) → slice_get rules i ≡ Some (WrittenRule.lexer_rule a) → slice_get rules j ≡ Some (WrittenRule.lexer_rule b) → a.name ≡ b.name
    → i ≡ j

-- no lexer rule has a loop over a term that matches the empty text
abbrev pub HaveNoLoops : List WrittenRule → Type 0
HaveNoLoops rules = (rule : LexerRule) → Contains (lexer_rules rules) rule → ¬ LexerHasEmptyLoopAlts (lexer_rules rules) rule.alts
