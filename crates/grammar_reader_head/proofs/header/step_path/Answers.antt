use Rattle.std.proofs.Common.{sym, ◌∙◌}
use Rattle.grammar_reader_machine.specs.View.{value_of}
use Rattle.grammar_reader_head.proofs.Defaults.{no_path}
use Rattle.grammar_reader_head.proofs.header.step_path.Goals as goal

pub returns-in_default : goal.returns-in_default
returns-in_default c = c.step_after_value.ensures ∙ sym (no_path (value_of c.args.value) c.args.word c.in_default.not-Dot)
