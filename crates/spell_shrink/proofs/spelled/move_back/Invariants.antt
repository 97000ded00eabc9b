use Rattle.spell_shrink.proofs.Moves.{AreMoved}
use Rattle.spell_shrink.proofs.spelled.move_back.Given as goal

-- those so far are moved
abbrev pub invariant-loop-k : goal.invariant-loop-k
invariant-loop-k l = AreMoved l.fn.places l.places l.index l.lost l.k
