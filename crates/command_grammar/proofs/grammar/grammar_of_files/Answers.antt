use Rattle.std.proofs.Common.{ℕ, List, Option, ap, option_map}
use Rattle.std.proofs.lemmas.Result.{err_from_is_err_and}
use Rattle.std.specs.Borrow.{Bor}
use Rattle.command_words.specs.Lines.{grammar_read}
use Rattle.command_ends.specs.World.{seen}
use Rattle.command_grammar.specs.Texts.{GrammarTexts}
use Rattle.command_grammar.proofs.CallLemmas.{faulty_calls, one_read_calls, pair_read_calls, pair_refused_calls, unread_calls}
use Rattle.command_grammar.proofs.GrammarLemmas.{fails_pair, fails_read, fails_spelled, was_paired, was_spelled}
use Rattle.command_grammar.proofs.grammar.grammar_of_files.Goals as goal

abbrev text_in : Option (Bor (List ℕ)) → Option (List ℕ)
text_in word = option_map (λ (text : Bor (List ℕ)). text.now) word

pub returns-in_err-text-clause-refused : goal.returns-in_err-text-clause-refused
returns-in_err-text-clause-refused g c =
    let p = err_from_is_err_and c.from_residual.result c.from_residual.ensures.1 in
    rw (p.1, p.2) (fails_read (grammar_read c.args.grammar) (seen g.F.Files.content g.F.Files.faults c.args.files.now)
    (seen g.F.Files.content g.F.Files.faults c.read_file.new.files) c.in_err-text.field-0.0 c.in_err-text.ensures.refused)

pub returns-in-None-clause-grammar : goal.returns-in-None-clause-grammar
returns-in-None-clause-grammar g c =
    was_spelled (grammar_read c.args.grammar) (seen g.F.Files.content g.F.Files.faults c.args.files.now)
    (ap text_in c.in-None.is) c.in_ok-text.text.items c.deref.result.now c.grammar_of_text.result c.deref.ensures.value c.in_ok-text.ensures.bytes
    c.in_ok-text.ensures.limit c.grammar_of_text.ensures.ok

pub returns-in-None-clause-refused : goal.returns-in-None-clause-refused
returns-in-None-clause-refused g c =
    fails_spelled (grammar_read c.args.grammar) (seen g.F.Files.content g.F.Files.faults c.args.files.now) (ap text_in c.in-None.is)
    (seen g.F.Files.content g.F.Files.faults c.read_file.new.files) c.in_ok-text.text.items c.deref.result.now c.grammar_of_text.result
    c.deref.ensures.value c.in_ok-text.ensures.bytes c.in_ok-text.ensures.limit c.in_ok-text.ensures.quiet c.grammar_of_text.ensures.refused

pub returns-clause-grammar : goal.returns-clause-grammar
returns-clause-grammar g c =
    was_paired (grammar_read c.args.grammar) (seen g.F.Files.content g.F.Files.faults c.args.files.now) c.in-Some.lexer.now
    (ap text_in c.in-Some.is) c.in_ok-text.text.items c.deref-in-Some.result.now c.deref-in-Some.ensures.value c.in_ok-text.ensures.bytes
    c.in_ok-text.ensures.limit (seen g.F.Files.content g.F.Files.faults c.read_file.new.files) c.in_ok-text.ensures.same c.in_ok-text.ensures.quiet
    c.grammar_with_lexer.result c.grammar_with_lexer.ensures.grammar

pub returns-clause-refused : goal.returns-clause-refused
returns-clause-refused g c =
    fails_pair (grammar_read c.args.grammar) (seen g.F.Files.content g.F.Files.faults c.args.files.now) c.in-Some.lexer.now
    (ap text_in c.in-Some.is) c.in_ok-text.text.items c.deref-in-Some.result.now c.deref-in-Some.ensures.value c.in_ok-text.ensures.bytes
    c.in_ok-text.ensures.limit (seen g.F.Files.content g.F.Files.faults c.read_file.new.files) c.in_ok-text.ensures.same c.in_ok-text.ensures.quiet
    (seen g.F.Files.content g.F.Files.faults c.grammar_with_lexer.new.files) c.grammar_with_lexer.result
    c.grammar_with_lexer.ensures.refused

pub returns-in_err-text-clause-calls : goal.returns-in_err-text-clause-calls
returns-in_err-text-clause-calls g c =
    let p = err_from_is_err_and c.from_residual.result c.from_residual.ensures.1 in
    rw (p.1, p.2) (unread_calls (grammar_read c.args.grammar) _ (seen g.F.Files.content g.F.Files.faults c.args.files.now)
    (seen g.F.Files.content g.F.Files.faults c.read_file.new.files) _ _ c.in_err-text.field-0.0 c.in_err-text.ensures.refused c.in_err-text.ensures.calls)

pub returns-in-None-clause-read : goal.returns-in-None-clause-read
returns-in-None-clause-read g c =
    one_read_calls (grammar_read c.args.grammar) (ap text_in c.in-None.is) _ _ c.in_ok-text.ensures.calls c.grammar_of_text.result

pub returns-in-None-clause-calls : goal.returns-in-None-clause-calls
returns-in-None-clause-calls g c =
    faulty_calls (grammar_read c.args.grammar) (ap text_in c.in-None.is) _ _ c.in_ok-text.ensures.calls (GrammarTexts.one c.deref.result.now)
    c.grammar_of_text.result c.grammar_of_text.ensures.refused

pub returns-clause-read : goal.returns-clause-read
returns-clause-read g c =
    pair_read_calls (grammar_read c.args.grammar) c.in-Some.lexer.now (ap text_in c.in-Some.is) _ _ _ c.in_ok-text.ensures.calls
    c.grammar_with_lexer.result c.grammar_with_lexer.ensures.read

pub returns-clause-calls : goal.returns-clause-calls
returns-clause-calls g c =
    pair_refused_calls (grammar_read c.args.grammar) c.in-Some.lexer.now (ap text_in c.in-Some.is) _ _ _ c.in_ok-text.ensures.calls
    c.grammar_with_lexer.result c.grammar_with_lexer.ensures.calls
