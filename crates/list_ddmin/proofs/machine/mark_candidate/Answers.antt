use Rattle.std.proofs.Common.{◌∙◌}
use Rattle.list_ddmin.proofs.FieldLemmas.{kept_where-none, kept_where-part, kept_where-complement}
use Rattle.list_ddmin.proofs.machine.mark_candidate.Goals as goal

pub returns-in-Nothing : goal.returns-in-Nothing
returns-in-Nothing c = rw c.in-Nothing.is (c.mark_places.ensures ∙ kept_where-none 0 c.args.keep.now)

pub returns-in-Parts : goal.returns-in-Parts
returns-in-Parts c =
    rw c.in-Parts.is (c.mark_places-in-Parts.ensures
    ∙ kept_where-part c.args.keep.now c.args.size c.in-Parts.n c.in-Parts.at c.border_of-low.result c.border_of-high.result c.requires.counted
    c.border_of-low.ensures c.border_of-high.ensures)

pub returns-in-Complements : goal.returns-in-Complements
returns-in-Complements c =
    rw c.in-Complements.is (c.mark_places-in-Complements.ensures
    ∙ kept_where-complement c.args.keep.now c.args.size c.in-Complements.n c.in-Complements.at c.border_of-low-in-Complements.result
    c.border_of-high-in-Complements.result c.requires.counted c.border_of-low-in-Complements.ensures c.border_of-high-in-Complements.ensures)
