use Rattle.std.proofs.Common.{◌≡◌, length, List, subst, sym, rules}
use Rattle.std.specs.Option.{IfSome}
use Rattle.reduce_rounds.specs.Trials.{tried_state}
use Rattle.reduce_core.specs.declared.lines.Line.{Line}
use Rattle.reduce_core.specs.inner.Fields.{rest_of}
use Rattle.reduce_core.proofs.RoundLemmas as lemmas
use Rattle.reduce_core.proofs.line_round.LineRoundRound.units.Goals as goal

pub returns : goal.returns
returns g c =
    let is : c.len.result ≡ length c.in-Some.question.candidate.numbers.items = search rules in
    subst (λ n. IfSome (tried_state (rest_of c.args.self.now.lines c.args.self.now.step c.args.self.now.asked)) (λ (state : List Line). n ≡ length state))
    (sym is) (lemmas.units-now (record { admits = g.F.Relation.admits c.args.self.now.guard.now; start = c.args.self.now.start.now }) c.args.self.now.lines
    c.args.self.now.step c.args.self.now.asked c.in-Some.question c.args.self.now.agrees c.in-Some.is)
