-- What a plain reduction comes to.
use Rattle.std.specs.Prelude.{false, length}
use Rattle.reduce_step.specs.Plan.{StepResult}
use Rattle.plain_reductions.specs.declared.reduction.Reduction.{Reduction}

-- Its text, how many tokens that has, how many questions there were, and how many rounds. Its start was answered yes.
abbrev pub result_of : Reduction → StepResult
result_of plain = record { text = plain.text.items; units = plain.units; used = length plain.questions.items; rounds = plain.rounds; refused = false }
