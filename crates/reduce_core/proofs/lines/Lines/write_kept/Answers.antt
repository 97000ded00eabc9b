use Rattle.std.proofs.Common.{false, ap, sym, ◌∙◌, length, ◌≡◌, ◌++◌}
use Rattle.reduce_core.specs.declared.lines.Candidate.{Candidate}
use Rattle.reduce_core.proofs.Keeping.{joined-kept, kept_of-dropped, numbers-kept}
use Rattle.reduce_core.proofs.lines.Lines.write_kept.Goals as goal
use Rattle.reduce_core.proofs.lines.Lines.write_kept.Goals.{then-keep-k+in_ok-extend_from_slice+in_ok-push, else-keep-k}

pub loop-k-preserved : goal.loop-k-preserved
loop-k-preserved c =
    let same : length c.args.keep.now ≡ length c.self.inside.items.items = c.requires ∙ ap length (sym c.self.view_is) in
    elim c.if-keep-k.branch [
      | then-keep-k+in_ok-extend_from_slice+in_ok-push w ↦ record {
        text =
            joined-kept _ _ c.args.keep.now c.self.inside.items.items _ c.loop-k.k false w.index-line.result.now c.loop-k-test.true same w.if-keep-k.true
            w.index-line.ensures
            (ap (λ (v : Candidate). v.text.items) w.candidate-is ∙ w.in_ok-extend_from_slice.ensures.items
            ∙ ap (λ line. c.loop-k.candidate.text.items ++ line) w.as_slice.ensures) c.loop-k.invariant.text;
        numbers =
            numbers-kept _ _ c.args.keep.now c.self.inside.items.items _ c.loop-k.k false w.index-line.result.now c.loop-k-test.true same w.if-keep-k.true
            w.index-line.ensures
            (ap (λ (v : Candidate). v.numbers.items) w.candidate-is ∙ w.in_ok-push.ensures.items) c.loop-k.invariant.numbers;
      }
      | else-keep-k w ↦
          let less = kept_of-dropped c.args.keep.now c.self.inside.items.items c.loop-k.k false c.loop-k-test.true same w.if-keep-k.false in
          record {
            text = rw (← less, w.candidate-is) c.loop-k.invariant.text;
            numbers = rw (← less, w.candidate-is) c.loop-k.invariant.numbers;
          }
    ]
