use Rattle.std.proofs.Common.{ap, ◌∙◌, Err}
use Rattle.command_reduce_calls.proofs.openings.without_gate.Goals as goal

pub returns-clause-journal : goal.returns-clause-journal
returns-clause-journal g c = c.refused.ensures.journal

pub returns-clause-outcome : goal.returns-clause-outcome
returns-clause-outcome g c = c.refused.ensures.outcome ∙ ap (λ f. Err f) c.of_gate.ensures
