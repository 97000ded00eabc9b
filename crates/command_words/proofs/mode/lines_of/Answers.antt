use Rattle.std.proofs.Common.{◌∙◌, sym}
use Rattle.command_words.proofs.Firsts.{not_lines, only_lines}
use Rattle.command_words.proofs.mode.lines_of.Goals as goal

pub returns-then-says_grammar : goal.returns-then-says_grammar
returns-then-says_grammar c = λ table uses chooses has. not_lines uses (sym (c.says_grammar.ensures table uses chooses has) ∙ c.if-says_grammar.true)

pub returns-else-says_grammar : goal.returns-else-says_grammar
returns-else-says_grammar c = λ table uses chooses has. only_lines uses (sym (c.says_grammar.ensures table uses chooses has) ∙ c.if-says_grammar.false)
