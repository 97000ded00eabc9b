use Rattle.command_words.specs.Lines.{check_read}
use Rattle.command_check.proofs.EndLemmas.{check_ends, checks_of}
use Rattle.command_check.proofs.steps.check.Goals as goal

pub returns-clause-ends : goal.returns-clause-ends
returns-clause-ends g c =
    checks_of (check_read c.args.line.now) _ _ _ _ _ _ c.input_fault_once.ensures c.inputs_are_in_language.ensures
    c.equal_bytes_have_one_history.ensures.journals c.one_is_found.ensures
    (check_ends (check_read c.args.line.now) _ _ _ _ _ _ c.answer_of-outcome.result c.end_with.result c.answer_of-outcome.ensures.answer
    c.answer_of-outcome.ensures.found c.answer_of-outcome.ensures.quiet c.answer_of-outcome.ensures.read c.answer_of-outcome.ensures.refused c.end_with.ensures.ends
    )
    c.answer_of-outcome.ensures.same
