use Rattle.std.proofs.Common.{sym, ◌∙◌}
use Rattle.grammar_tree.specs.GrammarView.{grammar_of}
use Rattle.grammar_reader_head.proofs.Defaults.{no_prequel}
use Rattle.grammar_reader_head.proofs.header.step_prequel.Goals as goal

pub returns-in_default : goal.returns-in_default
returns-in_default c = c.step_rule.ensures ∙ sym (no_prequel (grammar_of c.args.grammar) c.args.word c.in_default.not-Options c.in_default.not-Tokens)
