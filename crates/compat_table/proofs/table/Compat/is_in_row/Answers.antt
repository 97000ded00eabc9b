use Rattle.std.proofs.Common.{inl, inr, ℕ, List, refl, sym, ◌∙◌, subst, true≢false}
use Rattle.std.specs.List.{Contains}
use Rattle.compat_table.specs.Fits.{IsKindIn}
use Rattle.compat_table.proofs.table.Compat.is_in_row.Goals as goal

pub returns-then-contains : goal.returns-then-contains
returns-then-contains c = (λ is. inl (c.contains.ensures.0 c.if-contains.true), λ f. refl)

pub returns-then-fits_some_set : goal.returns-then-fits_some_set
returns-then-fits_some_set c =
    let Q : List ℕ → Type 0 = λ sets. (i : ℕ) × Contains sets i × IsKindIn c.args.self.now c.args.child i in
    (λ is. inr (inl (subst Q c.deref.ensures.value (c.fits_some_set.ensures.0 c.if-fits_some_set.true))), λ f. refl)

pub returns : goal.returns
returns c =
    let Q : List ℕ → Type 0 = λ sets. (i : ℕ) × Contains sets i × IsKindIn c.args.self.now c.args.child i in (
      λ is. inr (inr (c.is_plus_of_one.ensures.0 is)),
      λ f. elim f [
        | inl found ↦ absurd (true≢false (sym (c.contains.ensures.1 found) ∙ c.if-contains.false))
        | inr (inl in_set) ↦ absurd (true≢false (sym (c.fits_some_set.ensures.1 (subst Q (sym c.deref.ensures.value) in_set)) ∙ c.if-fits_some_set.false))
        | inr (inr plus) ↦ c.is_plus_of_one.ensures.1 plus
      ],
    )
