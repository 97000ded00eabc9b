-- Beside `../Mini.antt`: what private functions and proofs need.
use Rattle.grammar_tree.specs.Written.{LexerTerm}
use Rattle.case_reduction.specs.Mini.{part_of, plain_chars, all_chars}

abbrev pub string_part : LexerTerm
string_part = part_of plain_chars all_chars
