use Rattle.std.proofs.Common.{◌≡◌, ◌+◌, ◌-◌, ◌++◌, slice_index, slice_index_or, map, ap, ◌∙◌, arith}
use Rattle.lexer.specs.Tokens.{token_of}
use Rattle.token_print.specs.inner.RunTexts.{run_text}
use Rattle.token_print.proofs.Running.{climb}
use Rattle.token_print.proofs.Writing.{first_run, later_run}
use Rattle.token_print.proofs.layout.Layout.push_run.Goals.{then-first-gt0+in_ok-extend_from_slice, else-first-gt0}
use Rattle.token_print.proofs.layout.Layout.push_run.Goals as goal

pub run_bytes-run-requires-clause-rises : goal.run_bytes-run-requires-clause-rises
run_bytes-run-requires-clause-rises c =
    let last = c.next_run-next.result - 1 in
    let there : c.args.first + (last - c.args.first) ≡ last = omega (arith, c.next_run-next.ensures.after) in
    omega (
      arith,
      climb c.args.kept.now c.requires.rise (last - c.args.first) c.args.first
          (omega (arith, there, c.next_run-next.ensures.after, c.next_run-next.ensures.inside)),
      ap (λ i. slice_index_or c.args.kept.now i 0) there,
    )

pub returns-clause-text : goal.returns-clause-text
returns-clause-text c =
    let skips = c.args.self.now.skips in
    let start = c.args.self.now.start.now in
    let tokens = map token_of c.args.self.now.tokens.now in
    let run = run_text skips start tokens c.args.self.now.style
    (slice_index c.args.kept.now c.args.first, slice_index c.args.kept.now (c.next_run-next.result - 1)) in
    let longer = c.in_ok-extend_from_slice-2.ensures.items ∙ ap (λ l. c.if-first-gt0.text.items ++ l) c.run_bytes-run.ensures in
    elim c.if-first-gt0.branch [
      | then-first-gt0+in_ok-extend_from_slice w ↦
          later_run skips start tokens c.args.self.now.style c.args.kept.now c.args.text.now.items c.if-first-gt0.text.items _ c.args.first
          c.next_run-next.result (omega (arith, w.if-first-gt0.true)) c.next_run-next.ensures.after c.next_run-next.ensures.stretches
          (ap (λ v. v.items) w.text-is ∙ w.in_ok-extend_from_slice.ensures.items
          ∙ ap (λ l. c.args.text.now.items ++ l) (w.as_bytes.ensures.value ∙ w.separator.ensures)) longer
      | else-first-gt0 w ↦
          first_run skips start tokens c.args.self.now.style c.args.kept.now c.args.text.now.items _ c.args.first c.next_run-next.result
          (omega (arith, w.if-first-gt0.false)) c.next_run-next.ensures.after c.next_run-next.ensures.stretches
          (longer ∙ ap (λ v. v.items ++ run) w.text-is)
    ]
