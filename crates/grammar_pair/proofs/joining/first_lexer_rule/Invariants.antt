use Rattle.std.proofs.Common.{◌≡◌, length}
use Rattle.std.specs.Prelude.{map}
use Rattle.grammar_tree.specs.GrammarView.{rule_of}
use Rattle.grammar_tree.specs.Kinds.{lexer_rules}
use Rattle.grammar_tree.specs.Written.{LexerRule}
use Rattle.grammar_pair.specs.Joined.{first}
use Rattle.grammar_pair.proofs.joining.first_lexer_rule.Given as goal

abbrev pub invariant-loop-rest : goal.invariant-loop-rest
invariant-loop-rest l =
    first (map (λ (r : LexerRule). r.name) (lexer_rules (map rule_of l.rest))) ≡ first (map (λ (r : LexerRule). r.name) (lexer_rules (map rule_of l.fn.rules)))

abbrev pub decreases-loop-rest : goal.decreases-loop-rest
decreases-loop-rest l = length l.rest
