use Rattle.std.proofs.Common.{map, sym, ap, ◌∙◌, subst}
use Rattle.normal_form.specs.NormalOf.{IsNormal}
use Rattle.normal_form_sets.specs.Sets.{SetsOfKinds}
use Rattle.normal_form.specs.View.{rule_form}
use Rattle.normal_form.proofs.SameForms.{same_parts}
use Rattle.normal_form.proofs.normal.Normal.copy.Goals as goal

pub invariant_of-result : goal.invariant_of-result
invariant_of-result c =
    let same =
    same_parts c.self.inside.start (c.in_ok-copy_rules.ensures ∙ ap (map rule_form) c.deref.ensures.value)
    (c.in_ok-copy_names.ensures ∙ c.deref-2.ensures.value) (ap (λ (s : SetsOfKinds). s.sets) c.in_ok-copy.ensures) in
    subst IsNormal (sym same) c.self.invariant

pub returns : goal.returns
returns c =
    same_parts c.self.inside.start (c.in_ok-copy_rules.ensures ∙ ap (map rule_form) c.deref.ensures.value)
    (c.in_ok-copy_names.ensures ∙ c.deref-2.ensures.value) (ap (λ (s : SetsOfKinds). s.sets) c.in_ok-copy.ensures)
    ∙ c.self.view_is
