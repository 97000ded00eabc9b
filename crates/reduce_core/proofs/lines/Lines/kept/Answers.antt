use Rattle.std.proofs.Common.{false, ap, sym, ◌∙◌, length, ◌≡◌, ◌++◌, ◌∷◌, []}
use Rattle.reduce_core.proofs.Keeping.{pushed-kept, kept_of-dropped}
use Rattle.reduce_core.proofs.lines.Lines.kept.Goals as goal
use Rattle.reduce_core.proofs.lines.Lines.kept.Goals.{then-keep-k+in_ok-bytes+in_ok-push, else-keep-k}

pub loop-k-preserved : goal.loop-k-preserved
loop-k-preserved c =
    let same : length c.args.keep.now ≡ length c.self.inside.items.items = c.requires ∙ ap length (sym c.self.view_is) in
    elim c.if-keep-k.branch [
      | then-keep-k+in_ok-bytes+in_ok-push w ↦
          let copied : record { number = w.index-line.result.now.number; bytes = w.in_ok-bytes.bytes } ≡ w.index-line.result.now =
          λ i. record { number = w.index-line.result.now.number; bytes = (w.in_ok-bytes.ensures ∙ w.as_slice.ensures) i } in
          pushed-kept _ _ c.args.keep.now c.self.inside.items.items _ c.loop-k.k false w.index-line.result.now c.loop-k-test.true same w.if-keep-k.true
          w.index-line.ensures
          (ap (λ v. v.items) w.items-is ∙ w.in_ok-push.ensures.items ∙ ap (λ line. c.loop-k.items.items ++ line ∷ []) copied) c.loop-k.invariant
      | else-keep-k w ↦
          rw (← kept_of-dropped c.args.keep.now c.self.inside.items.items c.loop-k.k false c.loop-k-test.true same w.if-keep-k.false, w.items-is)
          c.loop-k.invariant
    ]
