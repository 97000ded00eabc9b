use Rattle.std.proofs.Common.{length}
use Rattle.lexer.proofs.gaps.+decide.Given as goal

abbrev pub decreases-decide : goal.decreases-decide
decreases-decide l = length l.singles.now
