-- Faults of lexer rules, as tests of one rule.
use Rattle.std.specs.Prelude.{◌≡◌, ◌<◌, ◌^◌, ℕ, List, length, map}
use Rattle.grammar_tree.specs.GrammarView.{rule_of}
use Rattle.grammar_tree.specs.Written.{WrittenGrammar}
use Rattle.grammar_tree.specs.declared.rule.Rule.{Rule}
use Rattle.grammar_tree.specs.Kinds.{lexer_rules}
use Rattle.grammar_tree.specs.Faults.{AtLexerRule, LexerHasEmptyLoopAlts}
use Rattle.grammar_check_lexer_rules.specs.Lexer.{OneRule, lexer_edges}

-- The lexer rule at this index has a star or plus over a term that matches the empty text.
abbrev pub LexerLoopAt : WrittenGrammar → ℕ → Type 0
LexerLoopAt G i = AtLexerRule G i (λ rule. LexerHasEmptyLoopAlts (lexer_rules G.rules) rule.alts)

-- There are fewer than 2^32 rules, no two of one name, and the successors of each are the lexer rules that it uses.
pub record AreEdgesOf (rules : List Rule) (successors : List (List ℕ)) : Type 0 where
  pub small : length rules < 2 ^ 32
  pub one : OneRule (map rule_of rules)
  pub edges : successors ≡ lexer_edges (map rule_of rules)
