use Rattle.std.proofs.Common.{◌∙◌, sym, subst, rules}
use Rattle.keep_guard.specs.Relation.{Rises}
use Rattle.list_ddmin.proofs.Lent.{asks_as_kept}
use Rattle.reduce_core.proofs.LinesLemmas.{kept_of-rises}
use Rattle.reduce_core.proofs.line_round.ask.Goals as goal

pub write_kept-requires : goal.write_kept-requires
write_kept-requires g c = asks_as_kept c.args.step.now c.in-Some.keep.now (search rules) ∙ c.requires.same

pub admits-listed-requires : goal.admits-listed-requires
admits-listed-requires g c =
    subst Rises (sym (c.deref.ensures.value ∙ c.in_ok-write_kept.ensures.numbers)) (kept_of-rises c.in-Some.keep.now c.args.lines.now c.requires.limit.rising)
