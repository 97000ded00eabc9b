-- The text that a fault of a pair prints. Names print as their UTF-8, and a literal as an implicit token does.
use Rattle.std.specs.Prelude.{ℕ, List, ◌++◌, codes, encode_utf8_all}
use Rattle.grammar_reader_notation.specs.FaultText.{read_fault_text}
use Rattle.grammar_literal.specs.Literal.{literal_bytes}
use Rattle.grammar_pair.specs.declared.fault.PairFault.{PairFault}
use Rattle.grammar_pair.specs.declared.fault.PairFault.TheVariants.{LexerText, NotLexer, ParserText, NotParser, OtherVocab, WrongRule, NoLiteral, Memory}

abbrev pub pair_fault_text : PairFault → List ℕ
pair_fault_text (LexerText fault) = codes "in lexer: " ++ read_fault_text fault
pair_fault_text NotLexer = codes "not a lexer grammar"
pair_fault_text (ParserText fault) = codes "in parser: " ++ read_fault_text fault
pair_fault_text NotParser = codes "not a parser grammar"
pair_fault_text (OtherVocab name) = codes "other vocabulary " ++ encode_utf8_all name
pair_fault_text (WrongRule name) = codes "misplaced rule " ++ encode_utf8_all name
pair_fault_text (NoLiteral literal) = codes "no token for " ++ literal_bytes literal
pair_fault_text (Memory _) = codes "out of memory"
