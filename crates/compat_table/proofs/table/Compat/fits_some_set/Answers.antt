use Rattle.std.proofs.Common.{ℕ, slice_index, sym, ◌∙◌, subst, arith, true≢false}
use Rattle.std.proofs.lemmas.List.{get_or_default}
use borrow.Author.Count.{below_more}
use Rattle.compat_table.specs.Fits.{IsKindIn}
use Rattle.compat_table.proofs.table.Compat.fits_some_set.Goals as goal

pub loop-set-preserved : goal.loop-set-preserved
loop-set-preserved c =
    below_more (λ k. IsKindIn c.args.self.now c.args.child (slice_index c.args.sets.now k) → ⊥) c.loop-set.set-index c.loop-set.invariant
    (λ at. true≢false (sym (c.if-fits_set.ensures.1 at)))

pub returns : goal.returns
returns c = (
  λ is. absurd (true≢false (sym is)),
  λ (i, at, in_it).
      let P : ℕ → Type 0 = λ x. IsKindIn c.args.self.now c.args.child x in
      absurd (c.loop-set.invariant at.0 (omega (arith, at.1)) (subst P (sym (sym (get_or_default c.args.sets.now at.0 i 0 at.1) ∙ at.2)) in_it)),
)
