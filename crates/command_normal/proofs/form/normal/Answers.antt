use Rattle.command_words.specs.Lines.{grammar_read}
use Rattle.command_normal.proofs.NormalLemmas.{normal_ends, prints_normal}
use Rattle.command_normal.proofs.form.normal.Goals as goal

pub returns-clause-ends : goal.returns-clause-ends
returns-clause-ends g c = prints_normal (grammar_read c.args.grammar) _ _ _ _ _ _
    (normal_ends (grammar_read c.args.grammar) _ _ _ _ _ _ c.form_of_files-outcome.result c.end_with.result c.form_of_files-outcome.ensures.form
    c.form_of_files-outcome.ensures.quiet c.form_of_files-outcome.ensures.read c.form_of_files-outcome.ensures.refused c.end_with.ensures.ends)
    c.form_of_files-outcome.ensures.same
