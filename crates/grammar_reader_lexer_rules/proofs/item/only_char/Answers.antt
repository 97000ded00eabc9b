use Rattle.std.proofs.Common.{ap, ◌∙◌}
use Rattle.grammar_reader_words.specs.Cursor.{uncons}
use Rattle.grammar_reader_lexer_rules.proofs.OneChars.{more_chars, no_char}
use Rattle.grammar_reader_lexer_rules.proofs.item.only_char.Goals as goal

pub returns-in-None : goal.returns-in-None
returns-in-None c = no_char c.args.text.now (c.in-None.ensures.same ∙ ap uncons c.as_str.ensures)

pub returns-in-Some-first_char : goal.returns-in-Some-first_char
returns-in-Some-first_char c = more_chars _ _ _ _ c.args.text.now (c.in-Some.ensures.same ∙ ap uncons c.as_str.ensures) c.in-Some-first_char.ensures.same
