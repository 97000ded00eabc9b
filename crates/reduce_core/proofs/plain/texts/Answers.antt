use Rattle.std.proofs.Common.{◌≡◌, ◌∙◌, ap, length, subst, sym}
use Rattle.keep_guard.specs.Relation.{Rises}
use Rattle.reduce_core.proofs.LinesLemmas.{kept_of-rises}
use Rattle.reduce_core.proofs.PlainLemmas.{all-at}
use Rattle.reduce_core.proofs.plain.texts.Goals as goal

pub write_kept-requires : goal.write_kept-requires
write_kept-requires g c =
    let all =
    all-at (λ keep. length keep ≡ length c.args.lines.now)
    (λ v. v.items) c.args.keeps.now c.loop-keep.keep-index c.keep-item.result c.requires.fits c.loop-keep-test.true in
    ap length c.deref.ensures.value ∙ ap (λ v. length v.items) c.keep-item.is ∙ all

pub admits-requires : goal.admits-requires
admits-requires g c =
    subst Rises (sym (c.deref-in-loop-keep.ensures.value ∙ c.in_ok-write_kept.ensures.numbers))
    (kept_of-rises c.deref.result.now c.args.lines.now c.requires.rising)
