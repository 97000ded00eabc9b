use Rattle.std.proofs.Common.{◌≡◌, ℕ, Bool, List, sym, ◌∙◌, subst}
use Rattle.std.specs.Prelude.{◌↔◌, IsTrue}
use Rattle.std.specs.List.{Contains}
use Rattle.normal_form.specs.declared.normal.Sym.{Sym}
use Rattle.grammar_names.specs.KindLists.{is_in}
use Rattle.grammar_names.proofs.Lent.{contains_in, in_contains}
use Rattle.compat_table.specs.inner.Rows.{IsAmong}
use Rattle.compat_table.specs.inner.View.{symbols_of}
use Rattle.compat_table.proofs.row.Row.contains.Goals as goal

among : (found : Bool) (xs ys : List ℕ) (x : ℕ) → found ≡ is_in xs x → xs ≡ ys → IsTrue found ↔ Contains ys x
among b xs ys x e same =
    let P : List ℕ → Type 0 = λ l. IsTrue b ↔ Contains l x in
    subst P same (λ found. contains_in xs x (sym e ∙ found), λ at. e ∙ in_contains xs x at)

pub returns-in-Kind : goal.returns-in-Kind
returns-in-Kind c =
    let P : Sym → Type 0 = λ s. IsTrue c.is_among.result ↔ IsAmong (symbols_of c.args.self.now) s in
    subst P (sym c.in-Kind.is) (among c.is_among.result c.deref.result.now c.args.self.now.kinds.items c.in-Kind.kind c.is_among.ensures c.deref.ensures.value)

pub returns-in-Set : goal.returns-in-Set
returns-in-Set c =
    let P : Sym → Type 0 = λ s. IsTrue c.is_among-in-Set.result ↔ IsAmong (symbols_of c.args.self.now) s in
    subst P (sym c.in-Set.is) (among c.is_among-in-Set.result c.deref-in-Set.result.now c.args.self.now.sets.items c.in-Set.set c.is_among-in-Set.ensures
    c.deref-in-Set.ensures.value)

pub returns-in-Rule : goal.returns-in-Rule
returns-in-Rule c =
    let P : Sym → Type 0 = λ s. IsTrue c.is_among-in-Rule.result ↔ IsAmong (symbols_of c.args.self.now) s in
    subst P (sym c.in-Rule.is) (among c.is_among-in-Rule.result c.deref-in-Rule.result.now c.args.self.now.rules.items c.in-Rule.rule c.is_among-in-Rule.ensures
    c.deref-in-Rule.ensures.value)
