use Rattle.std.proofs.Common.{◌≡◌, ℕ, ◌||◌, Bool, false, slice_index_or, sym, ap, ◌∙◌, arith}
use Rattle.std.proofs.lemmas.Bool.{or_left}
use Rattle.cases_languages.proofs.Pushed.{push_more}
use Rattle.cases_languages.proofs.positions.union.Goals.{then-left-i, else-left-i}
use Rattle.cases_languages.proofs.positions.union.Goals as goal

pub loop-i-preserved : goal.loop-i-preserved
loop-i-preserved c =
    let left = c.args.left.now in
    let right = c.args.right.now in
    let i = c.loop-i.i in
    let either : ℕ → Bool = λ j. slice_index_or left j false || slice_index_or right j false in
    let marked : c.if-left-i.marked ≡ either i = elim c.if-left-i.branch [
      | then-left-i w ↦ w.marked-is ∙ w.if-left-i.true ∙ sym (or_left (slice_index_or left i false) (slice_index_or right i false) w.if-left-i.true)
      | else-left-i w ↦ w.marked-is ∙ sym (ap (λ (b : Bool). b || slice_index_or right i false) w.if-left-i.false)
    ] in
    record {
      len = omega (arith, c.in_ok-push.ensures.len, c.loop-i.invariant.len);
      either =
          push_more either c.loop-i.marks.items c.push.new.self.items i c.if-left-i.marked c.in_ok-push.ensures.items
          (sym c.loop-i.marks.ok.0 ∙ c.loop-i.invariant.len) marked c.loop-i.invariant.either;
    }
