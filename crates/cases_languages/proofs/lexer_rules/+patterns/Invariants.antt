use Rattle.std.proofs.Common.{◌≡◌, map, drop}
use Rattle.grammar_tree.specs.declared.lex_term.LexAlts.{out-LexAlts}
use Rattle.grammar_tree.specs.declared.lex_term.LexTerms.{out-LexTerms}
use Rattle.grammar_tree.specs.GrammarView.{rule_of}
use Rattle.grammar_tree.specs.View.{lex_term, lex_terms}
use Rattle.grammar_tree.specs.Written.{lexer_seq, lexer_alts}
use Rattle.cases_languages.specs.Spelled.{spelled_seq, spelled_alts}
use Rattle.cases_languages.specs.View.{pattern}
use Rattle.cases_languages.proofs.lexer_rules.+patterns.Given as goal

abbrev pub invariant-seq_pattern-loop-i : goal.invariant-seq_pattern-loop-i
invariant-seq_pattern-loop-i l = pattern l.whole ≡ spelled_seq (map rule_of l.rules) (lexer_seq (map lex_term (drop l.i (out-LexTerms l.terms).items.items)))

abbrev pub invariant-alts_pattern-loop-i : goal.invariant-alts_pattern-loop-i
invariant-alts_pattern-loop-i l = pattern l.whole ≡ spelled_alts (map rule_of l.rules) (lexer_alts (map lex_terms (drop l.i (out-LexAlts l.alts).items.items)))
