use Rattle.std.proofs.Common.{sym, ap, ◌∙◌}
use Rattle.grammar_tree.specs.GrammarView.{grammar_of}
use Rattle.grammar_reader_machine.specs.Machine as m
use Rattle.grammar_reader_head.proofs.header.step_fragment.Goals as goal

pub returns-in-Upper : goal.returns-in-Upper
returns-in-Upper c = c.some.ensures ∙ sym (ap (m.step_fragment (grammar_of c.args.grammar)) c.in-Upper.is)
