use Rattle.reduce_rounds.proofs.ShownLemmas.{rounds-now}
use Rattle.reduce_rounds.proofs.rounds.RoundsReducerStep.rounds.Goals as goal

pub returns-clause-made : goal.returns-clause-made
returns-clause-made g c =
    rounds-now (g.R.Round.mode (g.R.Round.input c.args.self.now.round)) (c.phases_agree.ensures (g.R.Round.input c.args.self.now.round))
    (g.R.Round.Kept (g.R.Round.input c.args.self.now.round))
    (g.R.Round.state c.args.self.now.round) (g.R.Round.rest c.args.self.now.round) c.args.self.now.stage c.args.self.now.progress c.args.self.now.ready
