-- What a word that can't follow is called, by the state that it can't follow.
use Rattle.std.specs.Prelude.{ℕ, Bool, false, ◌||◌, ◌&&◌, cond, List, Option, Some, None}
use Rattle.std.specs.Option.{option_or}
use Rattle.grammar_reader_words.specs.Names.{is}
use Rattle.grammar_reader_words.specs.declared.word.Word.{Word}
use Rattle.grammar_reader_words.specs.declared.word.Word.TheVariants as w
use Rattle.grammar_reader_words.specs.declared.word.Reserved.{Reserved}
use Rattle.grammar_reader_words.specs.declared.word.Reserved.TheVariants as r
use Rattle.grammar_reader_notation.specs.Notation.{is_eof}
use Rattle.grammar_reader_machine.specs.Machine as m
use Rattle.grammar_reader.specs.Positions.{at_start, at_rule, at_colon, at_option, after_name, within_parser_rule, within_lexer_rule, after_suffix}
use Rattle.grammar_reader.specs.Positions.{after_loop, after_last, after_arrow, ends_lex_alt, at_block, at_arrow, takes_action}
use Rattle.grammar_reader_notation.specs.declared.fault.What.{What}
use Rattle.grammar_reader_notation.specs.declared.fault.What.TheVariants as x
use Rattle.grammar_reader_notation.specs.declared.fault.ReadFault.{ReadFault}
use Rattle.grammar_reader_notation.specs.declared.fault.ReadFault.TheVariants as f

abbrev pub row_if : Bool → What → Option What
row_if fits what = cond fits (Some what) None

abbrev pub reserved_row : m.State → Reserved → Option What
reserved_row s r.Lexer = row_if (at_start s) x.LexerGrammar
reserved_row s r.Parser = row_if (at_start s) x.ParserGrammar
reserved_row s r.Import = row_if (at_rule s) x.Import
reserved_row s r.Mode = row_if (at_rule s) x.Mode
reserved_row s r.Channels = row_if (at_rule s) x.Channels
reserved_row s r.Returns = row_if (after_name s) x.Returns
reserved_row s r.Locals = row_if (after_name s) x.Locals
reserved_row s r.Throws = row_if (after_name s) x.Throws
reserved_row s r.Catch = row_if (at_rule s) x.Catch
reserved_row s r.Finally = row_if (at_rule s) x.Finally
reserved_row s r.Public = row_if (at_rule s) x.Modifier
reserved_row s r.Private = row_if (at_rule s) x.Modifier
reserved_row s r.Protected = row_if (at_rule s) x.Modifier

-- the row above `command`
abbrev pub own_row : m.State → Word → Option What
own_row s (w.Reserved reserved) = reserved_row s reserved
own_row s w.OpenBrace = row_if (takes_action s) x.Action
own_row s w.At = row_if (at_rule s || at_colon s) x.Action
own_row s (w.Set ranges) = row_if (after_name s || within_parser_rule s) x.Argument
own_row s _ = None

abbrev pub breaks_command : m.State → Word → Bool
breaks_command s w.Arrow = after_arrow s || ends_lex_alt s
breaks_command s w.Bar = after_arrow s || at_arrow s
breaks_command s w.Semicolon = after_arrow s || at_arrow s
breaks_command s _ = after_arrow s

abbrev pub option_row : m.State → List ℕ → Option What
option_row s n = cond (at_option s) (cond (is n "caseInsensitive") (Some x.CaseInsensitive) (row_if (is n "tokenVocab") x.TokenVocab)) None

abbrev pub of_loop : m.State → Bool
of_loop s = after_loop s || after_last s

abbrev pub loop_row : m.State → Word → Option What
loop_row s w.Question = row_if (of_loop s || after_suffix s) x.NonGreedy
loop_row s _ = row_if (of_loop s) x.NonGreedy

-- the rows below `command`
abbrev pub last_row : m.State → Word → Option What
last_row s w.Property = Some x.Property
last_row s (w.Lower n) = option_or (option_row s n) (loop_row s (w.Lower n))
last_row s (w.Upper n) = option_or (loop_row s (w.Upper n)) (row_if (within_lexer_rule s && is_eof n) x.Eof)
last_row s word = loop_row s word

abbrev pub later_row : m.State → Word → Option What
later_row s word = cond (breaks_command s word) (Some x.Command) (last_row s word)

abbrev pub row : m.State → Word → Option What
row s word = option_or (own_row s word) (later_row s word)

abbrev pub fault_of : Option What → ℕ → ReadFault
fault_of (Some what) offset = f.Unsupported what offset
fault_of None offset = f.Syntax offset

abbrev pub is_deep : m.State → Word → Bool
is_deep s w.Open = at_block s
is_deep s _ = false

abbrev pub fault_at : m.State → Word → ℕ → ReadFault
fault_at s word offset = cond (is_deep s word) (f.NestedTooDeep offset) (fault_of (row s word) offset)
