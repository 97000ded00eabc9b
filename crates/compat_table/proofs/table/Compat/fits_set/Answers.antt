use Rattle.std.proofs.Common.{◌≡◌, ℕ, true, false, List, Option, Some, None, slice_get, refl, sym, ap, ◌∙◌, subst, true≢false}
use Rattle.std.specs.Prelude.{◌↔◌, IsTrue}
use Rattle.std.specs.List.{Contains}
use Rattle.std.specs.Option.{option_map_or}
use Rattle.normal_form.specs.declared.normal.Sym.{Sym}
use Rattle.normal_form.specs.declared.normal.Sym.TheVariants.{Kind}
use Rattle.normal_form.specs.Form.{NormalForm}
use Rattle.grammar_names.specs.KindLists.{is_in}
use Rattle.grammar_names.proofs.Lent.{contains_in, in_contains}
use Rattle.compat_table.specs.Fits.{IsKindIn}
use Rattle.compat_table.proofs.table.Compat.fits_set.Goals as goal

in_one : (N : NormalForm) (i k : ℕ) (o : Option (List ℕ)) → slice_get N.sets i ≡ o → IsTrue (option_map_or (λ kinds. is_in kinds k) o false)
    → IsKindIn N (Kind k) i
in_one N i k None at found = absurd (true≢false (sym found))
in_one N i k (Some ks) at found = (k, ks, refl, at, contains_in ks k found)

in_it : (N : NormalForm) (i k : ℕ) → IsKindIn N (Kind k) i → option_map_or (λ kinds. is_in kinds k) (slice_get N.sets i) false ≡ true
in_it N i k (j, ks, e, at, c) =
    let same : j ≡ k = cc in
    let P : ℕ → Type 0 = λ x. Contains ks x in
    ap (λ o. option_map_or (λ kinds. is_in kinds k) o false) at ∙ in_contains ks k (subst P same c)

pub returns-in-Kind : goal.returns-in-Kind
returns-in-Kind c =
    let N = c.args.self.now in
    let i = c.args.set in
    let k = c.in-Kind.kind in
    let found : c.contains.result ≡ option_map_or (λ kinds. is_in kinds k) (slice_get N.sets i) false =
    c.contains.ensures ∙ ap (λ (sets : List (List ℕ)). option_map_or (λ kinds. is_in kinds k) (slice_get sets i) false)
    (c.sets.ensures ∙ ap (λ (n : NormalForm). n.sets) c.self.view_is) in
    let P : Sym → Type 0 = λ s. IsTrue c.contains.result ↔ IsKindIn N s i in
    subst P (sym c.in-Kind.is) (λ is. in_one N i k (slice_get N.sets i) refl (sym found ∙ is), λ at. found ∙ in_it N i k at)
