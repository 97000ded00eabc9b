use Rattle.std.proofs.Common.{◌≡◌, ℕ, ◌<◌, List, Some, None, length, get_or, slice_get, ap, ◌∙◌}
use Rattle.std.proofs.lemmas.Option.{slice_get-get_or}
use Rattle.syntax_tree_cut.specs.declared.mark.Mark.{Mark}
use Rattle.syntax_tree_cut.specs.declared.mark.Mark.TheVariants.{Deleted, Kept, Replaced}
use Rattle.syntax_tree_cut.specs.Cuts.{deleted, itself, replaced}
use Rattle.syntax_tree_cut.proofs.occupant.occupant.Goals as goal

mark_is : (marks : List Mark) (q : ℕ) (d m : Mark) → get_or marks q d ≡ m → q < length marks → slice_get marks q ≡ Some m
mark_is marks q d m e lt = slice_get-get_or marks q d lt ∙ ap Some e

pub position-preserved : goal.position-preserved
position-preserved c =
    let at = mark_is c.args.marks.now c.position.node _ (Replaced c.in-Replaced.by) c.in-Replaced.is c.position.invariant.within in
    record {
      within = (c.requires.rise c.position.node c.in-Replaced.by at).1;
      same = λ o more. c.position.invariant.same o (replaced c.position.node c.in-Replaced.by o at more);
    }

pub returns-in-Deleted : goal.returns-in-Deleted
returns-in-Deleted c =
    c.position.invariant.same None (deleted c.position.node (mark_is c.args.marks.now c.position.node _ Deleted c.in-Deleted.is c.position.invariant.within))

pub returns-in-Kept : goal.returns-in-Kept
returns-in-Kept c =
    c.position.invariant.same (Some c.position.node)
    (itself c.position.node (mark_is c.args.marks.now c.position.node _ Kept c.in-Kept.is c.position.invariant.within))
