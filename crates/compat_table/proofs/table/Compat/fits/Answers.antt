use Rattle.std.proofs.Common.{inl, inr, refl, sym, ◌∙◌, subst, true≢false}
use Rattle.std.specs.Prelude.{◌↔◌, IsTrue}
use Rattle.normal_form.specs.declared.normal.Sym.{Sym}
use Rattle.compat_table.specs.Fits.{Fits, itself}
use Rattle.compat_table.proofs.Fitting.{by_form}
use Rattle.compat_table.proofs.table.Compat.fits.Goals as goal

pub returns-then-is_same : goal.returns-then-is_same
returns-then-is_same c =
    let P : Sym → Type 0 = λ s. Fits c.args.self.now c.args.child s in
    (λ is. subst P (c.if-is_same.ensures.0 refl) (itself c.args.child), λ f. refl)

pub returns-in-Set : goal.returns-in-Set
returns-in-Set c =
    let N = c.args.self.now in
    let P : Sym → Type 0 = λ s. IsTrue c.fits_set.result ↔ Fits N c.args.child s in
    let form = (by_form N).set c.args.child c.in-Set.set in
    subst P (sym c.in-Set.is) (
      λ is. form.1 (inr (c.fits_set.ensures.0 is)),
      λ f. elim (form.0 f) [
        | inl same ↦ absurd (true≢false (sym (c.is_same.ensures.1 (same ∙ sym c.in-Set.is)) ∙ c.if-is_same.false))
        | inr in_it ↦ c.fits_set.ensures.1 in_it
      ],
    )
