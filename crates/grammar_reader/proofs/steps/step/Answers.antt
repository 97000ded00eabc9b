use Rattle.std.proofs.Common.{◌∙◌}
use Rattle.grammar_reader_machine.specs.Machine as m
use Rattle.grammar_reader_machine.specs.View.{state_of}
use Rattle.grammar_reader_machine.proofs.Lent.{gives_as}
use Rattle.grammar_reader.proofs.steps.step.Goals as goal

pub returns : goal.returns
returns c = gives_as c.state.result (m.step 64 (state_of c.args.state) c.args.word) (c.state.ensures ∙ c.in_ok-next_state.ensures)
