-- What one word makes: a term with a suffix, and what it ends in a block.
use Rattle.std.specs.Prelude.{Option, Some, None}
use Rattle.grammar_tree.specs.Written.{LexerTerm}
use Rattle.grammar_reader_machine.specs.Machine as m
use Rattle.grammar_tree.specs.declared.suffix.Suffix.{Suffix}
use Rattle.grammar_tree.specs.declared.suffix.Suffix.TheVariants as s
use Rattle.grammar_reader_lexer_rules.specs.declared.terms.BlockEnd.{BlockEnd}
use Rattle.grammar_reader_lexer_rules.specs.declared.terms.BlockEnd.TheVariants as e

-- the term with the suffix
abbrev pub lex_suffixed : Suffix → LexerTerm → LexerTerm
lex_suffixed s.Question t = LexerTerm.opt t
lex_suffixed s.Star t = LexerTerm.star t
lex_suffixed s.Plus t = LexerTerm.plus t

-- after a word that ends this in a block
abbrev pub after_block_end : m.LexBody → Option BlockEnd → Option m.State
after_block_end b (Some e.Alternative) = Some (m.InLex (m.lex_with b (m.next_alt b.current)))
after_block_end b (Some e.Block) = m.lex_block_end b b.enclosing
after_block_end b None = None
