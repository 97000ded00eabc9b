use Rattle.std.proofs.Common.{sym, ◌∙◌}
use Rattle.grammar_tree.specs.GrammarView.{grammar_of}
use Rattle.grammar_reader_machine.specs.View.{head_of}
use Rattle.grammar_reader_head.proofs.Defaults.{no_options}
use Rattle.grammar_reader_head.proofs.header.step_head.Goals as goal

pub returns-in_default : goal.returns-in_default
returns-in_default c = c.step_colon.ensures ∙ sym (no_options 64 (grammar_of c.args.grammar) (head_of c.args.head) c.args.word c.in_default.not-Options)
