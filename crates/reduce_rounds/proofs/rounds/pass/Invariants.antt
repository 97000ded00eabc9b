use Rattle.std.proofs.Common.{◌≡◌}
use Rattle.reduce_rounds.specs.inner.Trials.{height}
use Rattle.reduce_rounds.specs.inner.Fields.{listed_trials}
use Rattle.reduce_rounds.proofs.rounds.pass.Given as goal

abbrev pub invariant-loop-round : goal.invariant-loop-round
invariant-loop-round g l =
    (listed_trials (g.R.Round.mode (g.R.Round.input l.round)) (g.R.Round.rest l.round) ≡ listed_trials (g.R.Round.mode (g.R.Round.input l.fn.round))
    (g.R.Round.rest l.fn.round))
    × (g.R.Round.state l.round ≡ g.R.Round.state l.fn.round)
    × (g.R.Round.input l.round ≡ g.R.Round.input l.fn.round)

abbrev pub decreases-loop-round : goal.decreases-loop-round
decreases-loop-round g l = height (g.R.Round.rest l.round)
