use Rattle.std.proofs.lemmas.Result.{err_from_is_err_and}
use Rattle.command_words.specs.Lines.{grammar_read}
use Rattle.command_ends.specs.World.{seen}
use Rattle.command_grammar.specs.Texts.{GrammarTexts}
use Rattle.command_grammar.proofs.CallLemmas.{lexer_faulty_calls, lexer_unread_calls}
use Rattle.command_grammar.proofs.GrammarLemmas.{lexer_faulty, lexer_read, lexer_unread}
use Rattle.command_grammar.proofs.grammar.grammar_with_lexer.Goals as goal

pub returns-in_err-text-clause-refused : goal.returns-in_err-text-clause-refused
returns-in_err-text-clause-refused g c =
    let p = err_from_is_err_and c.from_residual.result c.from_residual.ensures.1 in
    rw (p.1, p.2) (lexer_unread (grammar_read c.args.grammar) c.args.lexer.now c.args.parser.now (seen g.F.Files.content g.F.Files.faults c.args.files.now)
    (seen g.F.Files.content g.F.Files.faults c.read_file.new.files) c.in_err-text.field-0.0 c.in_err-text.ensures.refused)

pub returns-clause-grammar : goal.returns-clause-grammar
returns-clause-grammar g c =
    lexer_read (grammar_read c.args.grammar) c.args.lexer.now c.args.parser.now (seen g.F.Files.content g.F.Files.faults c.args.files.now)
    (seen g.F.Files.content g.F.Files.faults c.args.files.now) c.in_ok-text.text.items c.deref.result.now c.grammar_of_pair.result c.deref.ensures.value
    c.in_ok-text.ensures.bytes c.in_ok-text.ensures.limit c.grammar_of_pair.ensures.ok

pub returns-clause-refused : goal.returns-clause-refused
returns-clause-refused g c =
    lexer_faulty (grammar_read c.args.grammar) c.args.lexer.now c.args.parser.now (seen g.F.Files.content g.F.Files.faults c.args.files.now)
    (seen g.F.Files.content g.F.Files.faults c.read_file.new.files) c.in_ok-text.text.items c.deref.result.now c.grammar_of_pair.result c.deref.ensures.value
    c.in_ok-text.ensures.bytes c.in_ok-text.ensures.limit c.in_ok-text.ensures.quiet c.grammar_of_pair.ensures.refused

pub returns-in_err-text-clause-calls : goal.returns-in_err-text-clause-calls
returns-in_err-text-clause-calls g c =
    let p = err_from_is_err_and c.from_residual.result c.from_residual.ensures.1 in
    rw (p.1, p.2) (lexer_unread_calls c.args.lexer.now _ (seen g.F.Files.content g.F.Files.faults c.args.files.now)
    (seen g.F.Files.content g.F.Files.faults c.read_file.new.files) _ _ c.in_err-text.field-0.0 c.in_err-text.ensures.refused c.in_err-text.ensures.calls)

pub returns-clause-calls : goal.returns-clause-calls
returns-clause-calls g c =
    lexer_faulty_calls (grammar_read c.args.grammar) (GrammarTexts.pair c.deref.result.now c.args.parser.now) c.args.lexer.now _ _ c.grammar_of_pair.result
    c.grammar_of_pair.ensures.refused c.in_ok-text.ensures.calls
