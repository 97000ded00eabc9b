use Rattle.std.proofs.Common.{rules}
use Rattle.reduce_core.proofs.RoundLemmas as lemmas
use Rattle.reduce_core.proofs.line_round.LineRoundRound.is_over.Goals as goal

pub returns : goal.returns
returns g c = let h =
    lemmas.over-now (record { admits = g.F.Relation.admits c.args.self.now.guard.now; start = c.args.self.now.start.now }) c.args.self.now.lines
    c.args.self.now.step c.args.self.now.asked c.args.self.now.agrees in search rules
