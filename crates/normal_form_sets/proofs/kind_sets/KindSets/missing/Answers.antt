use Rattle.std.specs.List.Sorted.{IsStrictlyIncreasing}
use Rattle.std.proofs.Common.{List, ℕ, Some, slice_get, sym, ap, ◌∙◌, subst}
use Rattle.grammar_names.specs.KindLists.{IsPartOf, lacking}
use Rattle.normal_form_sets.specs.Sets.{SetsOfKinds}
use Rattle.normal_form_sets.proofs.Lacking.{item_some, item_none, part_at, set_at, no_set_at}
use Rattle.normal_form_sets.proofs.kind_sets.KindSets.missing.Goals as goal

pub returns-in-Some : goal.returns-in-Some
returns-in-Some c =
    let view = c.self.view_is in
    let all = ap (λ (s : SetsOfKinds). s.all) view in
    let at =
    ap (λ l. slice_get l c.args.set) (sym c.deref.ensures.value)
    ∙ item_some c.deref.result.now c.args.set c.in-Some.list c.get.result c.in-Some.is c.get.ensures.lookup in
    let P : List ℕ → Type 0 = λ l. IsPartOf l c.as_slice.result.now in
    let Q : List ℕ → Type 0 = λ l. IsPartOf c.self.inside.all.items l in
    record {
      lacks = ap (λ l. Some (lacking l c.as_slice.result.now)) (sym all) ∙ ap (λ l. Some (lacking c.self.inside.all.items l)) c.as_slice.ensures.value
          ∙ sym (set_at c.self.inside.all.items c.self.inside.missing.items c.args.set c.in-Some.list.now at)
          ∙ ap (λ (s : SetsOfKinds). slice_get s.sets c.args.set) view;
      part =
          subst P all (subst Q (sym c.as_slice.ensures.value)
          (part_at c.self.inside.all.items c.self.inside.missing.items c.args.set c.in-Some.list.now c.self.invariant.part at));
      rising = subst IsStrictlyIncreasing all c.self.invariant.rising;
    }

pub returns-in-None : goal.returns-in-None
returns-in-None c =
    let view = c.self.view_is in
    let at =
    ap (λ l. slice_get l c.args.set) (sym c.deref.ensures.value) ∙ item_none c.deref.result.now c.args.set c.get.result c.in-None.is c.get.ensures.lookup in
    record {
      lacks = sym (no_set_at c.self.inside.all.items c.self.inside.missing.items c.args.set at) ∙ ap (λ (s : SetsOfKinds). slice_get s.sets c.args.set) view;
      part = tt;
      rising = subst IsStrictlyIncreasing (ap (λ (s : SetsOfKinds). s.all) view) c.self.invariant.rising;
    }
