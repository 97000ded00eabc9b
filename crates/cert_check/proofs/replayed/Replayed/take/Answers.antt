use Rattle.std.proofs.Common.{◌++◌, ◌∷◌, [], Bool, subst, sym}
use Rattle.std.specs.Prelude.{IfOk}
use Rattle.reduce_step.specs.Plan.{Plan}
use Rattle.reduce_journal.specs.History.{History}
use Rattle.reduce_journal.specs.declared.event.Event.{Event}
use Rattle.cert_check.specs.inner.Replayed.{IsReplayed, IsTaken}
use Rattle.cert_check.proofs.replayed.Replayed.take.Goals as goal

pub returns-in-Recorded-clause-taken : goal.returns-in-Recorded-clause-taken
returns-in-Recorded-clause-taken g c =
    subst (λ (e : Event). IfOk c.record.result
    (λ (legal : Bool). (first : Plan) (history : History)
    → IsReplayed first history (g.S.Step.plan c.args.self.now.reducer) c.args.self.now.table c.args.self.now.marks.items
    → IsTaken legal first (history ++ e ∷ []) (g.S.Step.plan c.record.new.self.reducer) c.record.new.self.table c.record.new.self.marks.items))
    (sym c.in-Recorded.is) (c.record.ensures.taken _)

pub returns-in-Committed-clause-taken : goal.returns-in-Committed-clause-taken
returns-in-Committed-clause-taken g c =
    subst (λ (e : Event). IfOk c.commit.result
    (λ (legal : Bool). (first : Plan) (history : History) → IsReplayed first history
    (g.S.Step.plan c.args.self.now.reducer) c.args.self.now.table c.args.self.now.marks.items
    → IsTaken legal first (history ++ e ∷ []) (g.S.Step.plan c.commit.new.self.reducer) c.commit.new.self.table c.commit.new.self.marks.items))
    (sym c.in-Committed.is) c.commit.ensures.taken
