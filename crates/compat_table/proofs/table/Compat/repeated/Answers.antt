use Rattle.std.proofs.Common.{◌≡◌, ℕ, List, Some, slice_get, refl, sym, ap, ◌∙◌, subst}
use Rattle.std.specs.Prelude.{◌↔◌}
use Rattle.normal_form.specs.declared.normal.Sym.{Sym}
use Rattle.normal_form.specs.declared.normal.Sym.TheVariants.{Rule}
use Rattle.normal_form.specs.Form.{RuleForm, NormalForm}
use Rattle.compat_table.specs.Fits.{IsPlusOf}
use Rattle.compat_table.proofs.table.Compat.repeated.Goals as goal

plus_there : (N : NormalForm) (p : ℕ) (t : Sym) → IsPlusOf N (Rule p) t → slice_get N.rules p ≡ Some (RuleForm.plus t)
plus_there N p t (q, e, at) = let same : q ≡ p = cc in subst (λ (x : ℕ). slice_get N.rules x ≡ Some (RuleForm.plus t)) same at

pub returns-in-Rule : goal.returns-in-Rule
returns-in-Rule c t =
    let N = c.args.self.now in
    let p = c.in-Rule.rule in
    let rules = c.rules.ensures ∙ ap (λ (n : NormalForm). n.rules) c.self.view_is in
    let P : List RuleForm → Type 0 = λ l. (c.plus_symbol.result ≡ Some t) ↔ (slice_get l p ≡ Some (RuleForm.plus t)) in
    let law = subst P rules (c.plus_symbol.ensures t) in
    let Q : Sym → Type 0 = λ s. (c.plus_symbol.result ≡ Some t) ↔ IsPlusOf N s t in
    subst Q (sym c.in-Rule.is) (λ e. (p, refl, law.0 e), λ plus. law.1 (plus_there N p t plus))
