use Rattle.std.proofs.Common.{◌≡◌}
use Rattle.reduce_rounds.specs.Trials.{Done}
use Rattle.reduce_rounds.specs.RoundsPlan.{plan_rounds}
use Rattle.reduce_rounds.specs.inner.Fields.{HasState, StaysKept}
use Rattle.reduce_rounds.proofs.rounds.begin.Given as goal

abbrev pub invariant-loop-round : goal.invariant-loop-round
invariant-loop-round g l = record {
  input : g.R.Round.input l.round ≡ g.R.Round.input l.fn.round;
  over : g.R.Round.rest l.round ≡ Done;
  state : HasState (g.R.Round.mode (g.R.Round.input l.fn.round)) (g.R.Round.state l.round) l.progress;
  kept : StaysKept (g.R.Round.mode (g.R.Round.input l.fn.round)) (g.R.Round.Kept (g.R.Round.input l.fn.round)) (g.R.Round.state l.round) Done;
  same : plan_rounds (g.R.Round.mode (g.R.Round.input l.fn.round)) l.progress.rounds l.progress.used (g.R.Round.state l.round)
      ≡ plan_rounds (g.R.Round.mode (g.R.Round.input l.fn.round)) l.fn.progress.rounds l.fn.progress.used (g.R.Round.state l.fn.round);
  text : l.progress.text.items ≡ l.fn.progress.text.items;
}

abbrev pub decreases-loop-round : goal.decreases-loop-round
decreases-loop-round g l = (g.R.Round.mode (g.R.Round.input l.fn.round)).measure (g.R.Round.state l.round)
