use Rattle.std.proofs.Common.{Some, ap, ◌∙◌}
use Rattle.grammar_reader_machine.specs.Machine as m
use Rattle.grammar_reader_lexer_rules.proofs.top.may_have_command.Goals as goal

pub returns-in-Some-false : goal.returns-in-Some-false
returns-in-Some-false c = λ s. ap (λ k. m.with_command k s) (c.in-Some-false.is ∙ ap Some c.in-Some-false.field-0-test)
