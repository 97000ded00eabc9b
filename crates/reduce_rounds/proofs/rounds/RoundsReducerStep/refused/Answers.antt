use Rattle.reduce_rounds.proofs.FieldLemmas.{ended-now}
use Rattle.reduce_rounds.proofs.ShownLemmas.{shown-now}
use Rattle.reduce_rounds.proofs.rounds.RoundsReducerStep.refused.Goals as goal

pub returns-clause-shown : goal.returns-clause-shown
returns-clause-shown g c =
    shown-now (g.R.Round.mode (g.R.Round.input c.args.self.now.round)) (c.phases_agree.ensures (g.R.Round.input c.args.self.now.round))
    (g.R.Round.Kept (g.R.Round.input c.args.self.now.round))
    (g.R.Round.state c.args.self.now.round) (g.R.Round.rest c.args.self.now.round) c.args.self.now.stage c.args.self.now.progress c.args.self.now.ready

pub returns-clause-ended : goal.returns-clause-ended
returns-clause-ended g c =
    λ ended. ended-now (g.R.Round.mode (g.R.Round.input c.args.self.now.round)) (g.R.Round.Kept (g.R.Round.input c.args.self.now.round))
    (g.R.Round.state c.args.self.now.round) (g.R.Round.rest c.args.self.now.round) c.args.self.now.stage c.args.self.now.progress c.args.self.now.ready ended
