use Rattle.std.proofs.Common.{◌≡◌, ◌∷◌, length, refl, sym, ap, ◌∙◌, arith}
use Rattle.token_print.specs.inner.Ahead.{ahead, all_ahead, runs_from}
use Rattle.token_print.specs.inner.Copies.{run_end}
use Rattle.token_print.proofs.AheadRuns.{passed_at_first, passed_one, short_run}
use Rattle.token_print.proofs.runs.Runs.go_to.Goals as goal

pub loop-self-init : goal.loop-self-init
loop-self-init c = record { passed = passed_at_first c.args.offset (all_ahead c.args.self.now); layout = refl; kept = refl }

pub loop-self-preserved : goal.loop-self-preserved
loop-self-preserved c =
    let r = c.loop-self.self in
    let run = c.in-Some.run' in
    let before : all_ahead r ≡ run ∷ runs_from r.layout r.kept.now r.next (run_end run) = ap (ahead r.layout r.kept.now r.next) c.in-Some.is in
    record {
      passed =
          passed_one c.args.offset (all_ahead c.args.self.now) (all_ahead r) (all_ahead c.advance.new.self) run c.loop-self.invariant.passed
          (before ∙ ap (λ l. run ∷ l) (sym c.advance.ensures.runs)) (omega arith);
      layout = c.advance.ensures.layout ∙ c.loop-self.invariant.layout;
      kept = c.advance.ensures.kept ∙ c.loop-self.invariant.kept;
    }

pub loop-self-smaller : goal.loop-self-smaller
loop-self-smaller c =
    let r = c.loop-self.self in
    let run = c.in-Some.run' in
    let before : all_ahead r ≡ run ∷ runs_from r.layout r.kept.now r.next (run_end run) = ap (ahead r.layout r.kept.now r.next) c.in-Some.is in
    omega (arith, ap length (before ∙ ap (λ l. run ∷ l) (sym c.advance.ensures.runs)))

pub overflow_sub-end : goal.overflow_sub-end
overflow_sub-end c =
    let r = c.loop-self.self in
    let short =
    short_run c.args.offset (all_ahead c.args.self.now) r.layout r.kept.now r.next r.current c.in-Some.run' c.in-Some.is c.requires.runs
    c.loop-self.invariant.passed in
    short.0

pub overflow_add-end : goal.overflow_add-end
overflow_add-end c =
    let r = c.loop-self.self in
    let short =
    short_run c.args.offset (all_ahead c.args.self.now) r.layout r.kept.now r.next r.current c.in-Some.run' c.in-Some.is c.requires.runs
    c.loop-self.invariant.passed in
    omega (arith, short.1)

pub advance-requires-clause-room : goal.advance-requires-clause-room
advance-requires-clause-room c =
    let r = c.loop-self.self in
    let short =
    short_run c.args.offset (all_ahead c.args.self.now) r.layout r.kept.now r.next r.current c.in-Some.run' c.in-Some.is c.requires.runs
    c.loop-self.invariant.passed in
    short.1
