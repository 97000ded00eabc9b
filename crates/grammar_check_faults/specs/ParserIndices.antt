-- The indices of the parser rules of a grammar.
use Rattle.std.specs.Prelude.{ℕ, suc, List, [], ◌∷◌}
use Rattle.grammar_tree.specs.Written.{WrittenRule}

-- the indices of the parser rules, in the order of their numbers; the first of these rules is at the given index
abbrev pub indices_from : ℕ → List WrittenRule → List ℕ
indices_from index [] = []
indices_from index (WrittenRule.parser_rule r ∷ rules) = index ∷ indices_from (suc index) rules
indices_from index (WrittenRule.lexer_rule r ∷ rules) = indices_from (suc index) rules
