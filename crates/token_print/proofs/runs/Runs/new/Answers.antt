use Rattle.std.proofs.Common.{[], ◌∷◌, length, sym, ap, ◌∙◌, arith}
use Rattle.token_print.specs.inner.Copies.{run_end}
use Rattle.token_print.proofs.AheadRuns.{none_ahead}
use Rattle.token_print.proofs.runs.Runs.new.Goals as goal

pub returns-then-is_whole-clause-runs : goal.returns-then-is_whole-clause-runs
returns-then-is_whole-clause-runs c =
    let run = c.whole_run.result in
    ap (λ l. run ∷ l) (none_ahead c.args.layout c.args.kept.now (length c.args.kept.now) (run_end run) (omega arith))
    ∙ ap (λ r. r ∷ []) c.whole_run.ensures
    ∙ sym (c.is_whole.ensures.whole_run c.if-is_whole.true c.args.kept.now)

pub returns-clause-runs : goal.returns-clause-runs
returns-clause-runs c = c.advance.ensures.runs ∙ sym (c.is_whole.ensures.runs c.if-is_whole.false c.args.kept.now)
