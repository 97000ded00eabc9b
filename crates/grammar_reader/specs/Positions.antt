-- Where in a text a state is, as far as the names of what isn't supported speak of it.
use Rattle.std.specs.Prelude.{Bool, true, false, not, ◌||◌, ◌&&◌, List, [], ◌∷◌, Option, Some}
use Rattle.grammar_tree.specs.Written.{LexerTerm}
use Rattle.grammar_reader_machine.specs.Machine as m

abbrev pub at_start : m.State → Bool
at_start m.AtStart = true
at_start _ = false

-- where a prequel or a rule may begin
abbrev pub at_rule : m.State → Bool
at_rule (m.AtPrequel g) = true
at_rule (m.AtRule g) = true
at_rule _ = false

abbrev pub at_colon : m.State → Bool
at_colon (m.AtHead g head) = true
at_colon (m.AtColon g head) = true
at_colon _ = false

-- at the name of an option
abbrev pub at_option : m.State → Bool
at_option (m.AtEntry g o) = true
at_option _ = false

-- directly after a parser rule's name
abbrev pub after_name : m.State → Bool
after_name (m.AtHead g (m.ParserHead n)) = true
after_name _ = false

abbrev pub in_opening : m.ValueOf → Bool
in_opening (m.InEntry g o) = false
in_opening (m.InOpening b) = true

-- between `:` and `;`
abbrev pub within_parser_rule : m.State → Bool
within_parser_rule (m.AtValue v) = in_opening v
within_parser_rule (m.InPath v) = in_opening v
within_parser_rule (m.AtPathName v) = in_opening v
within_parser_rule (m.AfterValue v) = in_opening v
within_parser_rule (m.AtAlt b) = true
within_parser_rule (m.AtOpeningName b) = true
within_parser_rule (m.AtOpeningEquals b) = true
within_parser_rule (m.InElements b) = true
within_parser_rule (m.Suffixed b) = true
within_parser_rule (m.AfterName b t) = true
within_parser_rule (m.AtAtom b) = true
within_parser_rule (m.AfterAtom b t) = true
within_parser_rule (m.AtRef b) = true
within_parser_rule (m.AtRefIn b rs) = true
within_parser_rule (m.AfterRef b rs) = true
within_parser_rule (m.AtAltName b) = true
within_parser_rule (m.AfterAltName b) = true
within_parser_rule _ = false

abbrev pub within_lexer_rule : m.State → Bool
within_lexer_rule (m.InLex b) = true
within_lexer_rule (m.LexSuffixed b) = true
within_lexer_rule (m.AfterLexAtom b t) = true
within_lexer_rule (m.AfterLiteral b text) = true
within_lexer_rule (m.AtRangeEnd b first) = true
within_lexer_rule (m.AfterSet b s) = true
within_lexer_rule (m.AfterSetStar b s) = true
within_lexer_rule (m.AfterLoop b s) = true
within_lexer_rule (m.AltDone b) = true
within_lexer_rule (m.AtItem b) = true
within_lexer_rule (m.AtItemIn b p) = true
within_lexer_rule (m.AfterItemChar b p c) = true
within_lexer_rule (m.AtItemEnd b p first) = true
within_lexer_rule (m.AfterItem b ranges) = true
within_lexer_rule (m.AtCommand b) = true
within_lexer_rule (m.AtChannelOpen b) = true
within_lexer_rule (m.AtChannelName b) = true
within_lexer_rule (m.AtChannelClose b) = true
within_lexer_rule (m.AfterCommand b) = true
within_lexer_rule _ = false

abbrev pub after_suffix : m.State → Bool
after_suffix (m.Suffixed b) = true
after_suffix (m.LexSuffixed b) = true
after_suffix (m.AfterSetStar b s) = true
after_suffix _ = false

abbrev pub after_loop : m.State → Bool
after_loop (m.AfterLoop b s) = true
after_loop _ = false

-- after what follows a non-greedy loop
abbrev pub after_last : m.State → Bool
after_last (m.AltDone b) = true
after_last _ = false

-- after `->` in its alternative
abbrev pub after_arrow : m.State → Bool
after_arrow (m.AtCommand b) = true
after_arrow (m.AtChannelOpen b) = true
after_arrow (m.AtChannelName b) = true
after_arrow (m.AtChannelClose b) = true
after_arrow (m.AfterCommand b) = true
after_arrow _ = false

-- where an element of a parser rule may begin
abbrev pub at_element : m.State → Bool
at_element (m.AtAlt b) = true
at_element (m.InElements b) = true
at_element (m.Suffixed b) = true
at_element (m.AfterName b t) = true
at_element (m.AfterAtom b t) = true
at_element _ = false

abbrev pub is_alone : m.ItemPosition → Bool
is_alone m.Alone = true
is_alone (m.Listed ranges) = false

-- and of a lexer rule
abbrev pub at_lex_element : m.State → Bool
at_lex_element (m.InLex b) = true
at_lex_element (m.LexSuffixed b) = true
at_lex_element (m.AfterLexAtom b t) = true
at_lex_element (m.AfterLiteral b text) = true
at_lex_element (m.AfterSet b s) = true
at_lex_element (m.AfterSetStar b s) = true
at_lex_element (m.AfterItemChar b p c) = is_alone p
at_lex_element _ = false

-- where an alternative of a lexer rule may end, in a command or without
abbrev pub ends_lex_alt : m.State → Bool
ends_lex_alt s = at_lex_element s || after_last s

-- where a block may begin, if one more may be open
abbrev pub at_block : m.State → Bool
at_block (m.AtAtom b) = true
at_block s = at_element s || at_lex_element s

abbrev pub no_block : List (m.Frame LexerTerm) → Bool
no_block [] = true
no_block (f ∷ enclosing) = false

abbrev pub may_command : Option Bool → Bool
may_command (Some false) = false
may_command _ = true

abbrev pub top_arrow : m.LexBody → Bool
top_arrow b = no_block b.enclosing && may_command b.known

-- where `->` may follow
abbrev pub at_arrow : m.State → Bool
at_arrow (m.InLex b) = top_arrow b
at_arrow (m.LexSuffixed b) = top_arrow b
at_arrow (m.AfterLexAtom b t) = top_arrow b
at_arrow (m.AfterLiteral b text) = top_arrow b
at_arrow (m.AfterSet b s) = top_arrow b
at_arrow (m.AfterSetStar b s) = top_arrow b
at_arrow (m.AfterItemChar b p c) = is_alone p && top_arrow b
at_arrow (m.AltDone b) = may_command b.known
at_arrow _ = false

-- where an element, `|`, `;` or `->` may follow
abbrev pub takes_action : m.State → Bool
takes_action (m.AtSemicolon n) = true
takes_action (m.InPath v) = not (in_opening v)
takes_action (m.AfterValue v) = not (in_opening v)
takes_action (m.AtAlt b) = true
takes_action (m.InElements b) = true
takes_action (m.Suffixed b) = true
takes_action (m.AfterName b t) = true
takes_action (m.AfterAtom b t) = true
takes_action (m.AfterRef b rs) = true
takes_action (m.AfterAltName b) = true
takes_action (m.InLex b) = true
takes_action (m.LexSuffixed b) = true
takes_action (m.AfterLexAtom b t) = true
takes_action (m.AfterLiteral b text) = true
takes_action (m.AfterSet b s) = true
takes_action (m.AfterSetStar b s) = true
takes_action (m.AfterLoop b s) = true
takes_action (m.AltDone b) = true
takes_action (m.AfterItemChar b p c) = true
takes_action (m.AfterItem b ranges) = true
takes_action (m.AfterCommand b) = true
takes_action _ = false
