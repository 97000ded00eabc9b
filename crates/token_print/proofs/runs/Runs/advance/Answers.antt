use Rattle.std.proofs.Common.{sym, arith}
use Rattle.token_print.proofs.AheadRuns.{none_ahead, run_ahead}
use Rattle.token_print.proofs.runs.Runs.advance.Goals as goal

pub returns-then-first-kept-clause-runs : goal.returns-then-first-kept-clause-runs
returns-then-first-kept-clause-runs c =
    sym (none_ahead c.args.self.now.layout c.args.self.now.kept.now c.args.self.now.next c.args.at (omega (arith, c.if-first-kept.true)))

pub returns-clause-runs : goal.returns-clause-runs
returns-clause-runs c =
    run_ahead c.args.self.now.layout c.args.self.now.kept.now c.args.self.now.next c.next_run-end.result c.args.at c.begin-begin.result _ _ c.run-run.result
    c.next_run-end.ensures.after c.next_run-end.ensures.stretches c.begin-begin.ensures c.run-run.ensures
