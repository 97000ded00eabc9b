use Rattle.std.proofs.Common.{◌≡◌, List, ℕ, map, IfOk, sym, ap, ◌∙◌, subst}
use Rattle.std.proofs.lemmas.Slice.Eq.{bytes_eq-Decides}
use Rattle.grammar_names.specs.KindLists.{lacking}
use Rattle.normal_form_sets.specs.Sets.{SetsOfKinds, items_of}
use Rattle.normal_form_sets.proofs.Lacking.{written_out}
use Rattle.normal_form_sets.proofs.kind_sets.KindSets.missing_of.Goals as goal

pub returns-then-eq : goal.returns-then-eq
returns-then-eq c =
    let all = c.self.inside.all.items in
    let missing = map items_of c.self.inside.missing.items in
    let kinds = c.args.kinds.now in
    let same : all ≡ kinds = sym c.as_slice.ensures.value ∙ (bytes_eq-Decides c.as_slice.result.now kinds).0 (sym c.eq.ensures ∙ c.if-eq.true) in
    let P : List (List ℕ) → Type 0 = λ l. IfOk c.copy_lists.result (λ lists. map items_of lists.items ≡ l) in
    subst P (ap (map items_of) c.deref.ensures.value ∙ sym (written_out all missing c.self.invariant.part)
    ∙ ap (λ l. map (lacking l) (map (lacking all) missing)) same
    ∙ ap (λ (s : SetsOfKinds). map (lacking kinds) s.sets) c.self.view_is) c.copy_lists.ensures
