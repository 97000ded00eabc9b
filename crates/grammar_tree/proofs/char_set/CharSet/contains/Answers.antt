use Rattle.std.proofs.Common.{ap, ◌∙◌}
use Rattle.grammar_tree.specs.Chars.{has}
use Rattle.grammar_tree.proofs.char_set.CharSet.contains.Goals as goal

pub returns : goal.returns
returns c = c.contains.ensures ∙ ap (λ v. has v c.from.result) c.self.view_is ∙ ap (has c.args.self.now) c.from.ensures
