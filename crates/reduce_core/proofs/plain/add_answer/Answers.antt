use Rattle.std.proofs.Common.{◌∙◌, subst, sym}
use Rattle.keep_guard.specs.Relation.{Rises}
use Rattle.reduce_core.proofs.LinesLemmas.{kept_of-rises}
use Rattle.reduce_core.proofs.plain.add_answer.Goals as goal

pub admits-requires : goal.admits-requires
admits-requires g c =
    subst Rises (sym (c.deref.ensures.value ∙ c.in_ok-write_kept.ensures.numbers)) (kept_of-rises c.args.keep.now c.args.lines.now c.requires.rising)
