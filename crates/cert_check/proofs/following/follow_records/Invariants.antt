use Rattle.std.proofs.Common.{◌≡◌}
use Rattle.reduce_step.specs.Plan.{Plan, follow, height}
use Rattle.verdict_table.specs.TableState.{verdict_in}
use Rattle.cert_check.specs.inner.Asked.{MarkedMayBeAsked}
use Rattle.cert_check.proofs.following.follow_records.Given as goal

-- from here on the records lead to where they lead from the beginning, and what is marked may be asked
abbrev pub invariant-loop-number : goal.invariant-loop-number
invariant-loop-number g l =
    (follow (verdict_in l.table.records) (g.S.Step.plan l.reducer) ≡ follow (verdict_in l.table.records) (g.S.Step.plan l.fn.reducer))
    × ((first : Plan) → MarkedMayBeAsked first (g.S.Step.plan l.fn.reducer) l.table.records l.fn.marks.items
    → MarkedMayBeAsked first (g.S.Step.plan l.reducer) l.table.records l.marks.items)

abbrev pub decreases-loop-number : goal.decreases-loop-number
decreases-loop-number g l = height (g.S.Step.plan l.reducer)
