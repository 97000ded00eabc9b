-- The printed names of what isn't supported.
use Rattle.std.specs.Prelude.{ℕ, List, codes}
use Rattle.grammar_reader_notation.specs.declared.fault.What.{What}
use Rattle.grammar_reader_notation.specs.declared.fault.What.TheVariants as w

abbrev pub name_of : What → List ℕ
name_of w.LexerGrammar = codes "lexer grammar"
name_of w.ParserGrammar = codes "parser grammar"
name_of w.Import = codes "import"
name_of w.Mode = codes "mode"
name_of w.Channels = codes "channels"
name_of w.Modifier = codes "modifier"
name_of w.Action = codes "action"
name_of w.Argument = codes "argument"
name_of w.Returns = codes "returns"
name_of w.Locals = codes "locals"
name_of w.Throws = codes "throws"
name_of w.Catch = codes "catch"
name_of w.Finally = codes "finally"
name_of w.Command = codes "command"
name_of w.Property = codes "property"
name_of w.CaseInsensitive = codes "caseInsensitive"
name_of w.TokenVocab = codes "tokenVocab"
name_of w.NonGreedy = codes "non-greedy"
name_of w.Eof = codes "EOF"
