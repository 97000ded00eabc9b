use Rattle.std.proofs.Common.{ap, ◌∙◌}
use Rattle.std.specs.Str.{chars}
use Rattle.grammar_tree.proofs.text.Text.copy.Goals as goal

pub returns : goal.returns
returns c = ap chars c.in_ok-text.ensures.cases ∙ c.self.view_is
