-- What contracts see of terms: each type in memory as it is written.
use Rattle.std.specs.Prelude.{List, map}
use Rattle.grammar_tree.specs.Written.{Reference, WrittenTerm, LexerTerm, written_alts, lexer_alts}
use Rattle.grammar_tree.specs.declared.parser_term.TokenRef.{TokenRef}
use Rattle.grammar_tree.specs.declared.parser_term.ParserTerm.{ParserTerm}
use Rattle.grammar_tree.specs.declared.parser_term.ParserTerms.{ParserTerms}
use Rattle.grammar_tree.specs.declared.parser_term.ParserAlts.{ParserAlts}
use Rattle.grammar_tree.specs.declared.parser_term.ParserTerm.TheOpen.{ParserTerm-F, ParserTerms-F, ParserAlts-F}
use Rattle.grammar_tree.specs.declared.parser_term.ParserTerm.TheFolds.{fold-ParserTerm, fold-ParserTerms, fold-ParserAlts}
use Rattle.grammar_tree.specs.declared.lex_term.LexTerm.{LexTerm}
use Rattle.grammar_tree.specs.declared.lex_term.LexTerms.{LexTerms}
use Rattle.grammar_tree.specs.declared.lex_term.LexAlts.{LexAlts}
use Rattle.grammar_tree.specs.declared.lex_term.LexTerm.TheOpen.{LexTerm-F, LexTerms-F, LexAlts-F}
use Rattle.grammar_tree.specs.declared.lex_term.LexTerm.TheFolds.{fold-LexTerm, fold-LexTerms, fold-LexAlts}

abbrev pub token_ref : TokenRef → Reference
token_ref (TokenRef.Literal t) = Reference.literal t
token_ref (TokenRef.Name t) = Reference.name t

abbrev pub parser_node : ParserTerm-F WrittenTerm (List (List WrittenTerm)) (List WrittenTerm) → WrittenTerm
parser_node (ParserTerm-F.Literal t) = WrittenTerm.literal t
parser_node (ParserTerm-F.Name t) = WrittenTerm.name t
parser_node ParserTerm-F.Any = WrittenTerm.any
parser_node (ParserTerm-F.Not refs) = WrittenTerm.but (map token_ref refs.items.items)
parser_node (ParserTerm-F.Block alts) = WrittenTerm.block (written_alts alts)
parser_node (ParserTerm-F.Opt t) = WrittenTerm.opt t.value
parser_node (ParserTerm-F.Star t) = WrittenTerm.star t.value
parser_node (ParserTerm-F.Plus t) = WrittenTerm.plus t.value
parser_node ParserTerm-F.Eof = WrittenTerm.eof

abbrev pub parser_seq_node : ParserTerms-F WrittenTerm (List (List WrittenTerm)) (List WrittenTerm) → List WrittenTerm
parser_seq_node s = s.items.items

abbrev pub parser_alts_node : ParserAlts-F WrittenTerm (List (List WrittenTerm)) (List WrittenTerm) → List (List WrittenTerm)
parser_alts_node a = a.items.items

abbrev pub parser_term : ParserTerm → WrittenTerm
parser_term = fold-ParserTerm WrittenTerm (List (List WrittenTerm)) (List WrittenTerm) parser_node parser_alts_node parser_seq_node

abbrev pub parser_terms : ParserTerms → List WrittenTerm
parser_terms = fold-ParserTerms WrittenTerm (List (List WrittenTerm)) (List WrittenTerm) parser_node parser_alts_node parser_seq_node

abbrev pub parser_alts : ParserAlts → List (List WrittenTerm)
parser_alts = fold-ParserAlts WrittenTerm (List (List WrittenTerm)) (List WrittenTerm) parser_node parser_alts_node parser_seq_node

abbrev pub lex_node : LexTerm-F LexerTerm (List (List LexerTerm)) (List LexerTerm) → LexerTerm
lex_node (LexTerm-F.Literal t) = LexerTerm.literal t
lex_node (LexTerm-F.Set s) = LexerTerm.set s
lex_node (LexTerm-F.Name t) = LexerTerm.name t
lex_node (LexTerm-F.Block alts) = LexerTerm.block (lexer_alts alts)
lex_node (LexTerm-F.Opt t) = LexerTerm.opt t.value
lex_node (LexTerm-F.Star t) = LexerTerm.star t.value
lex_node (LexTerm-F.Plus t) = LexerTerm.plus t.value
lex_node (LexTerm-F.Short s) = LexerTerm.short s

abbrev pub lex_seq_node : LexTerms-F LexerTerm (List (List LexerTerm)) (List LexerTerm) → List LexerTerm
lex_seq_node s = s.items.items

abbrev pub lex_alts_node : LexAlts-F LexerTerm (List (List LexerTerm)) (List LexerTerm) → List (List LexerTerm)
lex_alts_node a = a.items.items

abbrev pub lex_term : LexTerm → LexerTerm
lex_term = fold-LexTerm LexerTerm (List (List LexerTerm)) (List LexerTerm) lex_node lex_alts_node lex_seq_node

abbrev pub lex_terms : LexTerms → List LexerTerm
lex_terms = fold-LexTerms LexerTerm (List (List LexerTerm)) (List LexerTerm) lex_node lex_alts_node lex_seq_node

abbrev pub lex_alts : LexAlts → List (List LexerTerm)
lex_alts = fold-LexAlts LexerTerm (List (List LexerTerm)) (List LexerTerm) lex_node lex_alts_node lex_seq_node
