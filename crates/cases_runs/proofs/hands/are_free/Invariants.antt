use Rattle.cases_runs.proofs.FreeSeats.{AreFreeSoFar}
use Rattle.cases_runs.proofs.hands.are_free.Given as goal

abbrev pub invariant-loop-index : goal.invariant-loop-index
invariant-loop-index g l = AreFreeSoFar l.board.seats l.seats.items l.index
