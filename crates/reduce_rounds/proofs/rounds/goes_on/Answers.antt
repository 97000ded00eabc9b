use Rattle.std.proofs.Common.{Bool, true, Some, cond, refl, sym, subst}
use Rattle.std.specs.Prelude.{IfOk}
use Rattle.reduce_rounds.specs.Fields.{WentOn}
use Rattle.reduce_rounds.proofs.rounds.goes_on.Goals as goal

pub returns-then-changed-clause-state : goal.returns-then-changed-clause-state
returns-then-changed-clause-state g c =
    let state = g.R.Round.state c.args.round.now in
    let next = (g.R.Round.mode (g.R.Round.input c.args.round.now)).next_phase state in
    subst (λ (b : Bool). WentOn (cond b (Some state) next) state state true) (sym c.if-changed.true) (refl, refl)

pub returns-clause-state : goal.returns-clause-state
returns-clause-state g c =
    let state = g.R.Round.state c.args.round.now in
    let new = g.R.Round.state c.next_phase.new.self in
    let next = (g.R.Round.mode (g.R.Round.input c.args.round.now)).next_phase state in
    subst (λ (b : Bool). IfOk c.next_phase.result (WentOn (cond b (Some state) next) state new)) (sym c.if-changed.false) c.next_phase.ensures.state
