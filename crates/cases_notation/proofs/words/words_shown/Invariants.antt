use Rattle.std.proofs.Common.{length}
use Rattle.cases_notation.proofs.words.words_shown.Given as goal

abbrev pub invariant-loop-shown : goal.invariant-loop-shown
invariant-loop-shown l = Unit {0}

abbrev pub decreases-loop-shown : goal.decreases-loop-shown
decreases-loop-shown l = length l.words
