use Rattle.std.proofs.Common.{◌++◌, [], ◌∷◌, List, ℕ, is_some, sym, ap, ◌∙◌, subst}
use Rattle.std.specs.Prelude.{position}
use Rattle.grammar_tree.specs.Kinds.{same_text}
use Rattle.grammar_names.specs.KindLists.{IsPartOf, lacking}
use Rattle.normal_form_sets.specs.Sets.{SetsOfKinds}
use Rattle.normal_form_sets.specs.inner.Sets.{HasNumbers}
use Rattle.normal_form_sets.proofs.Lacking.{with_known, with_new}
use Rattle.normal_form_sets.proofs.found_sets.FoundSets.with.Goals as goal

pub returns-then-is_some : goal.returns-then-is_some
returns-then-is_some c =
    let s = c.args.self in
    let number = λ (l : List ℕ). position (λ other. same_text other (lacking s.all l)) s.sets in
    with_known s (lacking s.all c.args.missing.items)
    (ap is_some (ap number (sym c.deref.ensures.value) ∙ sym c.number.ensures) ∙ sym c.is_some.ensures ∙ c.if-is_some.true)

pub add_number-requires-clause-numbers : goal.add_number-requires-clause-numbers
add_number-requires-clause-numbers c = c.self.invariant

pub add_number-requires-clause-part : goal.add_number-requires-clause-part
add_number-requires-clause-part c =
    let P : List ℕ → Type 0 = λ l. IsPartOf l c.deref-2.result.now in
    subst P (ap (λ (t : SetsOfKinds). t.all) (sym c.self.view_is)) (subst (IsPartOf c.args.self.all) (sym c.deref-2.ensures.value) c.requires)

pub add_number-requires-clause-is_new : goal.add_number-requires-clause-is_new
add_number-requires-clause-is_new c =
    let number = λ (t : SetsOfKinds) (l : List ℕ). position (λ other. same_text other (lacking t.all l)) t.sets in
    ap is_some (ap (λ t. number t c.deref-2.result.now) c.self.view_is ∙ ap (number c.args.self) (c.deref-2.ensures.value ∙ sym c.deref.ensures.value)
    ∙ sym c.number.ensures) ∙ sym c.is_some.ensures ∙ c.if-is_some.false

pub invariant_of-result : goal.invariant_of-result
invariant_of-result c =
    let s = c.self.inside.sets in
    let Q : List ℕ → Type 0 = λ l. HasNumbers c.add_number.new.numbers (record { all = s.all; sets = s.sets ++ lacking s.all l ∷ [] }) in
    subst (HasNumbers c.add_number.new.numbers) (sym c.in_ok-push.ensures) (subst Q c.deref-2.ensures.value c.in_ok-add_number.ensures)

pub returns : goal.returns
returns c =
    let s = c.args.self in
    let number = λ (l : List ℕ). position (λ other. same_text other (lacking s.all l)) s.sets in
    let grown = λ (t : SetsOfKinds). (let u : SetsOfKinds = record { all = t.all; sets = t.sets ++ lacking t.all c.args.missing.items ∷ [] } in u) in
    c.in_ok-push.ensures ∙ ap grown c.self.view_is
    ∙ with_new s (lacking s.all c.args.missing.items)
    (ap is_some (ap number (sym c.deref.ensures.value) ∙ sym c.number.ensures) ∙ sym c.is_some.ensures ∙ c.if-is_some.false)
