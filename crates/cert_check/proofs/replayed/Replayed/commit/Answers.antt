use Rattle.std.proofs.Common.{ℕ, ap, ◌∙◌, sym, subst}
use Rattle.verdict_table.specs.declared.record.Record.{Record}
use Rattle.reduce_step.specs.Plan.{Plan, asked}
use Rattle.ordered_commit.specs.Replay.{record_at}
use Rattle.cert_check.specs.inner.Asked.{IsRecordOf}
use Rattle.cert_check.proofs.AlongRecords.{nothing, some_asked}
use Rattle.cert_check.proofs.Numbered.{not_zero}
use Rattle.cert_check.proofs.Refusing.{nothing_asked, other_number}
use Rattle.cert_check.proofs.Replaying.{committed}
use Rattle.cert_check.proofs.replayed.Replayed.commit.Goals as goal

pub answer-requires : goal.answer-requires
answer-requires g c =
    let asks = rw c.in-Some.is at c.asked_record.ensures in record { asking = some_asked (g.S.Step.plan c.args.self.now.reducer) asks.0 asks.1 }

pub returns-in_default-clause-taken : goal.returns-in_default-clause-taken
returns-in_default-clause-taken g c = λ first history it.
    nothing_asked first history (g.S.Step.plan c.args.self.now.reducer) c.args.self.now.table c.args.self.now.marks.items it c.args.number
    (subst (IsRecordOf (asked (g.S.Step.plan c.args.self.now.reducer)) c.args.self.now.table.records)
    (nothing c.asked_record.result c.in_default.not-Some) c.asked_record.ensures)

pub returns-then-found-number-clause-taken : goal.returns-then-found-number-clause-taken
returns-then-found-number-clause-taken g c = λ first history it.
    other_number first history (g.S.Step.plan c.args.self.now.reducer) c.args.self.now.table c.args.self.now.marks.items it c.args.number c.in-Some.found
    c.in-Some.verdict (rw c.in-Some.is at c.asked_record.ensures) c.if-found-number.true

pub mark-requires : goal.mark-requires
mark-requires g c = λ zero.
    let asks = rw c.in-Some.is at c.asked_record.ensures in
    not_zero c.args.self.now.table.records c.in-Some.found (record { text = asks.0; verdict = c.in-Some.verdict }) asks.2 (c.if-found-number.false ∙ zero)

pub returns-clause-taken : goal.returns-clause-taken
returns-clause-taken g c = λ first history it.
    let plan : Plan = g.S.Step.plan c.args.self.now.reducer in
    let asks = rw c.in-Some.is at c.asked_record.ensures in
    let r : Record = record { text = asks.0; verdict = c.in-Some.verdict } in
    committed first history plan c.args.self.now.table c.args.self.now.marks.items it c.args.number r (g.S.Step.plan c.answer.new.self) c.mark.new.marks.items
    (ap (λ (n : ℕ). record_at n c.args.self.now.table.records) (sym c.if-found-number.false) ∙ asks.2) asks.1 c.in_ok-answer.ensures.answered
    c.mark.ensures.as_many c.mark.ensures.others
