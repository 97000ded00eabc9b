use Rattle.std.proofs.lemmas.Result.{err_from_is_err_and}
use Rattle.command_words.specs.Lines.{grammar_read}
use Rattle.command_ends.specs.World.{seen}
use Rattle.command_normal.proofs.NormalLemmas.{fails_grammar, fails_memory, is_formed}
use Rattle.command_normal.proofs.form.form_of_files.Goals as goal

pub returns-in_err-checked-clause-refused : goal.returns-in_err-checked-clause-refused
returns-in_err-checked-clause-refused g c =
    let p = err_from_is_err_and c.from_residual.result c.from_residual.ensures.1 in
    rw (p.1, p.2) (fails_grammar (grammar_read c.args.grammar) (seen g.F.Files.content g.F.Files.faults c.args.files.now)
    (seen g.F.Files.content g.F.Files.faults c.grammar_of_files.new.files) _ _ c.in_err-checked.field-0.0 c.in_err-checked.ensures.refused
    c.in_err-checked.ensures.calls)

pub returns-clause-form : goal.returns-clause-form
returns-clause-form g c =
    is_formed (grammar_read c.args.grammar) (seen g.F.Files.content g.F.Files.faults c.args.files.now) c.in_ok-checked.checked _ c.in_ok-checked.ensures.grammar
    (c.in_ok-form.ensures (grammar_read c.args.grammar))

pub returns-in_err-form-clause-refused : goal.returns-in_err-form-clause-refused
returns-in_err-form-clause-refused g c =
    let p = err_from_is_err_and c.from_residual-in_err-form.result c.from_residual-in_err-form.ensures.1 in
    rw (p.1, p.2) (fails_memory (grammar_read c.args.grammar) (seen g.F.Files.content g.F.Files.faults c.args.files.now)
    (seen g.F.Files.content g.F.Files.faults c.grammar_of_files.new.files) _ _ c.in_ok-checked.ensures.quiet c.in_ok-checked.ensures.read)
