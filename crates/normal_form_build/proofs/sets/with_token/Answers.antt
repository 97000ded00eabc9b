use Rattle.std.proofs.Common.{◌≡◌, ℕ, List, [], ◌∷◌, IfOk, subst, sym, ap, ◌∙◌}
use Rattle.grammar_names.specs.KindLists.{IsPartOf, lacking}
use Rattle.normal_form_build.specs.inner.OwnRules.{token_sets}
use Rattle.normal_form_sets.specs.Sets.{with_each}
use Rattle.normal_form_sets.proofs.Lent.{all_part, lacks_all}
use Rattle.normal_form_build.proofs.sets.with_token.Goals as goal

pub with-requires : goal.with-requires
with-requires c =
    subst (IsPartOf c.args.sets.all) (c.requires ∙ sym c.any_kinds.ensures.kinds ∙ sym c.in_ok-from_slice-in-None.ensures.items) (all_part c.args.sets.all)

pub returns-in_ok-from_slice-in-None : goal.returns-in_ok-from_slice-in-None
returns-in_ok-from_slice-in-None c =
    let sets = c.args.sets in
    let P : List (List ℕ) → Type 0 = λ l. IfOk c.with.result (λ found. found ≡ with_each sets l) in
    let missing = c.in_ok-from_slice-in-None.ensures.items ∙ c.any_kinds.ensures.kinds ∙ sym c.requires in
    subst P (ap (λ (l : List ℕ). l ∷ []) (ap (lacking sets.all) missing ∙ lacks_all sets.all) ∙ ap token_sets (sym c.in-None.is)) c.with.ensures
