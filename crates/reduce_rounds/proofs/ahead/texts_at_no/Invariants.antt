use Rattle.std.proofs.Common.{◌-◌, length}
use Rattle.reduce_rounds.specs.inner.Fields.{plan_of}
use Rattle.reduce_rounds.proofs.LookingAhead.{WereAskedAtNo}
use Rattle.reduce_rounds.proofs.ahead.texts_at_no.Given as goal

abbrev pub invariant-loop-alloc : goal.invariant-loop-alloc
invariant-loop-alloc g l =
    WereAskedAtNo l.most
    (plan_of (g.R.Round.mode (g.R.Round.input l.fn.reducer.round)) (g.R.Round.state l.fn.reducer.round)
    (g.R.Round.rest l.fn.reducer.round) l.fn.reducer.stage l.fn.reducer.progress)
    (plan_of (g.R.Round.mode (g.R.Round.input l.reducer.round)) (g.R.Round.state l.reducer.round)
    (g.R.Round.rest l.reducer.round) l.reducer.stage l.reducer.progress)
    l.texts.items

abbrev pub decreases-loop-alloc : goal.decreases-loop-alloc
decreases-loop-alloc g l = l.most - length l.texts.items
