use Rattle.std.proofs.Common.{◌<◌, sym, subst}
use Rattle.verdict_table.specs.declared.record.Record.{Record}
use Rattle.reduce_step.specs.Plan.{Plan, asked, height}
use Rattle.verdict_table.specs.TableState.{verdict_in}
use Rattle.cert_check.specs.inner.Asked.{IsRecordOf}
use Rattle.cert_check.proofs.AlongRecords.{done, lower, nothing, one_more, some_asked}
use Rattle.cert_check.proofs.Numbered.{not_zero}
use Rattle.cert_check.proofs.Replaying.{marked_more}
use Rattle.cert_check.proofs.following.follow_records.Goals as goal

pub answer-requires : goal.answer-requires
answer-requires g c =
    let asks = c.in-Some.ensures in record { asking = some_asked (g.S.Step.plan c.loop-number.reducer) asks.0 asks.1 }

pub mark-requires : goal.mark-requires
mark-requires g c = λ zero.
    let asks = c.in-Some.ensures in
    not_zero c.args.table.now.records c.in-Some.number (record { text = asks.0; verdict = c.in-Some.verdict }) asks.2 zero

pub loop-number-preserved : goal.loop-number-preserved
loop-number-preserved g c =
    let V = verdict_in c.args.table.now.records in
    let plan : Plan = g.S.Step.plan c.loop-number.reducer in
    let asks = c.in-Some.ensures in
    let r : Record = record { text = asks.0; verdict = c.in-Some.verdict } in (
      one_more V (g.S.Step.plan c.args.reducer.now) plan asks.0 c.in-Some.verdict c.loop-number.invariant.0 asks.1 asks.3
          (g.S.Step.plan c.answer.new.self) c.in_ok-answer.ensures.answered,
      λ first before. marked_more first plan c.args.table.now.records c.loop-number.marks.items c.in-Some.number r (g.S.Step.plan c.answer.new.self)
          c.mark.new.marks.items asks.2 asks.1 c.in_ok-answer.ensures.answered c.mark.ensures.others (c.loop-number.invariant.1 first before),
    )

pub loop-number-smaller : goal.loop-number-smaller
loop-number-smaller g c =
    let asks = c.in-Some.ensures in
    subst (λ (p : Plan). height p < height (g.S.Step.plan c.loop-number.reducer)) (sym c.in_ok-answer.ensures.answered)
    (lower (g.S.Step.plan c.loop-number.reducer) asks.0 c.in-Some.verdict asks.1)

pub returns-clause-followed : goal.returns-clause-followed
returns-clause-followed g c =
    done (verdict_in c.args.table.now.records) (g.S.Step.plan c.args.reducer.now) (g.S.Step.plan c.loop-number.reducer) c.loop-number.invariant.0
    (subst (IsRecordOf (asked (g.S.Step.plan c.loop-number.reducer)) c.args.table.now.records) (nothing c.asked_record.result c.in_default.not-Some)
    c.asked_record.ensures)

pub returns-clause-marked : goal.returns-clause-marked
returns-clause-marked g c = c.loop-number.invariant.1
