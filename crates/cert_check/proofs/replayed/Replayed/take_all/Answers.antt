use Rattle.std.proofs.Common.{◌++◌, ◌∷◌, [], List, subst, sym, take, ◌∙◌}
use Rattle.std.proofs.lemmas.List.{take_all, take_more}
use Rattle.reduce_journal.specs.declared.event.Event.{Event}
use Rattle.cert_check.specs.inner.Replayed.{IsReplayed}
use Rattle.ordered_commit.specs.Replay.{IsLegal}
use Rattle.cert_check.proofs.Refusing.{first_illegal}
use Rattle.cert_check.proofs.replayed.Replayed.take_all.Goals as goal

pub loop-index-preserved : goal.loop-index-preserved
loop-index-preserved g c =
    let first = g.S.Step.first c.args.self.now.reducer in
    let plan = g.S.Step.plan c.take.new.self.reducer in
    let table = c.take.new.self.table in
    let marks = c.take.new.self.marks.items in
    let more = rw c.if-not-taken.false at (c.in_ok-taken.ensures.taken first (take c.loop-index.index c.args.events.now) c.loop-index.invariant.1) in (
      c.take.ensures.first ∙ c.loop-index.invariant.0,
      subst (λ (h : List Event). IsReplayed first h plan table marks)
          (sym (take_more c.args.events.now c.loop-index.index c.index-events-index.result c.loop-index-test.true))
          (subst (λ (e : Event). IsReplayed first (take c.loop-index.index c.args.events.now ++ e ∷ []) plan table marks) c.index-events-index.is more),
    )

pub returns-then-not-taken-clause-taken : goal.returns-then-not-taken-clause-taken
returns-then-not-taken-clause-taken g c =
    let first = g.S.Step.first c.args.self.now.reducer in
    let it = c.loop-index.invariant.1 in
    let other = rw c.if-not-taken.true at (c.in_ok-taken.ensures.taken first (take c.loop-index.index c.args.events.now) it) in
    let next =
    subst (λ (h : List Event). ¬ IsLegal first h) (sym (take_more c.args.events.now c.loop-index.index c.index-events-index.result c.loop-index-test.true))
    (subst (λ (e : Event). ¬ IsLegal first (take c.loop-index.index c.args.events.now ++ e ∷ [])) c.index-events-index.is other) in
    first_illegal first c.args.events.now c.loop-index.index c.loop-index-test.true it.legal next

pub returns-clause-taken : goal.returns-clause-taken
returns-clause-taken g c =
    subst (λ (h : List Event). IsReplayed (g.S.Step.first c.args.self.now.reducer) h
    (g.S.Step.plan c.loop-index.self.reducer) c.loop-index.self.table c.loop-index.self.marks.items)
    (take_all c.loop-index.index c.args.events.now c.loop-index-test.false) c.loop-index.invariant.1
