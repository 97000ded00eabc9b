use Rattle.std.proofs.Common.{sym, ap, ◌∙◌, Some}
use Rattle.grammar_tree.specs.GrammarView.{grammar_of}
use Rattle.grammar_reader_machine.specs.Machine as m
use Rattle.grammar_reader_machine.specs.View.{owner_of}
use Rattle.grammar_reader_head.proofs.header.after_options.Goals as goal

pub returns-in-Text : goal.returns-in-Text
returns-in-Text c = c.some.ensures ∙ sym (ap (λ o. Some (m.after_options (grammar_of c.args.grammar) (owner_of o))) c.in-Text.is)
