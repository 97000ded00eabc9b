use Rattle.std.proofs.Common.{◌∙◌}
use Rattle.grammar_tree.proofs.char_set.CharSet.ranges.Goals as goal

pub returns : goal.returns
returns c = c.as_slice.ensures.value ∙ c.self.view_is
