-- How large a grammar is: its rules, alternatives, declared tokens and terms together.
-- Alternatives and terms count at every depth, and each token after `~` counts as a term.
use Rattle.std.specs.Prelude.{ℕ, suc, ◌+◌, length, sum_by}
use Rattle.grammar_tree.specs.Written.{WrittenTerm, WrittenSeq, WrittenAlts, LexerTerm, LexerSeq, LexerAlts, WrittenRule, WrittenGrammar}

abbrev mutual
  pub term_size : WrittenTerm → ℕ
  term_size (WrittenTerm.literal t) = 1
  term_size (WrittenTerm.name n) = 1
  term_size WrittenTerm.any = 1
  term_size (WrittenTerm.but refs) = suc (length refs)
  term_size (WrittenTerm.block a) = suc (alts_size a)
  term_size (WrittenTerm.opt t) = suc (term_size t)
  term_size (WrittenTerm.star t) = suc (term_size t)
  term_size (WrittenTerm.plus t) = suc (term_size t)
  term_size WrittenTerm.eof = 1

  pub seq_size : WrittenSeq → ℕ
  seq_size WrittenSeq.done = 0
  seq_size (WrittenSeq.next t s) = term_size t + seq_size s

  pub alts_size : WrittenAlts → ℕ
  alts_size WrittenAlts.none = 0
  alts_size (WrittenAlts.or s a) = suc (seq_size s + alts_size a)

abbrev mutual
  pub lexer_term_size : LexerTerm → ℕ
  lexer_term_size (LexerTerm.literal t) = 1
  lexer_term_size (LexerTerm.set s) = 1
  lexer_term_size (LexerTerm.name n) = 1
  lexer_term_size (LexerTerm.block a) = suc (lexer_alts_size a)
  lexer_term_size (LexerTerm.opt t) = suc (lexer_term_size t)
  lexer_term_size (LexerTerm.star t) = suc (lexer_term_size t)
  lexer_term_size (LexerTerm.plus t) = suc (lexer_term_size t)
  lexer_term_size (LexerTerm.short s) = 1

  pub lexer_seq_size : LexerSeq → ℕ
  lexer_seq_size LexerSeq.done = 0
  lexer_seq_size (LexerSeq.next t s) = lexer_term_size t + lexer_seq_size s

  pub lexer_alts_size : LexerAlts → ℕ
  lexer_alts_size LexerAlts.none = 0
  lexer_alts_size (LexerAlts.or s a) = suc (lexer_seq_size s + lexer_alts_size a)

abbrev pub rule_size : WrittenRule → ℕ
rule_size (WrittenRule.parser_rule r) = suc (alts_size r.alts)
rule_size (WrittenRule.lexer_rule r) = suc (lexer_alts_size r.alts)

unfoldable pub grammar_size : WrittenGrammar → ℕ
grammar_size G = length G.tokens + sum_by rule_size G.rules
