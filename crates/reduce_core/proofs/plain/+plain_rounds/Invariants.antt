use Rattle.std.proofs.Common.{length}
use Rattle.reduce_core.proofs.plain.+plain_rounds.Given as goal

abbrev pub decreases-plain_rounds : goal.decreases-plain_rounds
decreases-plain_rounds g l = length l.lines
