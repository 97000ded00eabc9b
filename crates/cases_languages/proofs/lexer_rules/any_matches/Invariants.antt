use Rattle.std.proofs.Common.{◌↔◌, map, drop}
use Rattle.grammar_tree.specs.GrammarView.{rule_of}
use Rattle.grammar_tree.specs.Kinds.{lexer_rules}
use Rattle.grammar_tree.specs.Matches.{MatchesRule}
use Rattle.grammar_tree.specs.View.{lex_terms, lex_alts}
use Rattle.grammar_tree.specs.Written.{lexer_alts}
use Rattle.grammar_tree.specs.declared.lex_term.LexAlts.{out-LexAlts}
use Rattle.cases_languages.proofs.lexer_rules.any_matches.Given as goal

abbrev pub invariant-loop-i : goal.invariant-loop-i
invariant-loop-i l =
    MatchesRule (lexer_rules (map rule_of l.rules)) (lexer_alts (lex_alts l.alts)) l.list
    ↔ MatchesRule (lexer_rules (map rule_of l.rules)) (lexer_alts (map lex_terms (drop l.i (out-LexAlts l.alts).items.items))) l.list
