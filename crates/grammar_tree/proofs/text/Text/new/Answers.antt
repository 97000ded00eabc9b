use Rattle.std.proofs.Common.{ap}
use Rattle.std.specs.Str.{chars}
use Rattle.grammar_tree.proofs.text.Text.new.Goals as goal

pub returns : goal.returns
returns c = ap chars c.in_ok-from_str.ensures.ok
