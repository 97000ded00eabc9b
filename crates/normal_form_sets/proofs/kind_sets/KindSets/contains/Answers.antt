use Rattle.std.proofs.Common.{◌&&◌, not, refl, sym, ap, ◌∙◌, subst}
use Rattle.std.specs.List.Sorted.{IsStrictlyIncreasing}
use Rattle.grammar_names.specs.KindLists.{is_in}
use Rattle.grammar_names.proofs.Lent.{not_falling}
use Rattle.normal_form_sets.proofs.Lacking.{and_false, and_in, has_kind, part_rises}
use Rattle.normal_form_sets.proofs.kind_sets.KindSets.contains.Goals as goal

pub is_among-requires : goal.is_among-requires
is_among-requires c = not_falling c.all.result.now (subst IsStrictlyIncreasing (sym c.all.ensures) c.missing.ensures.rising)

pub is_among-requires-then-is_among : goal.is_among-requires-then-is_among
is_among-requires-then-is_among c =
    not_falling c.in-Some.missing.now (part_rises c.args.self.now.all c.in-Some.missing.now c.missing.ensures.rising c.in-Some.ensures.part)

pub returns-then-is_among : goal.returns-then-is_among
returns-then-is_among c =
    let in_all = c.is_among.ensures ∙ ap (λ l. is_in l c.args.kind) c.all.ensures in
    sym (and_in (not c.is_among-then-is_among.result) c.is_among.result c.if-is_among.true)
    ∙ has_kind c.args.self.now.all c.in-Some.missing.now c.args.kind _ c.is_among.result c.is_among-then-is_among.result c.in-Some.ensures.lacks in_all
    c.is_among-then-is_among.ensures

pub returns-else-is_among : goal.returns-else-is_among
returns-else-is_among c =
    let in_all = c.is_among.ensures ∙ ap (λ l. is_in l c.args.kind) c.all.ensures in
    let missing = is_in c.in-Some.missing.now c.args.kind in
    c.if-is_among.false ∙ sym (and_false (not missing)) ∙ ap (λ b. not missing && b) (sym c.if-is_among.false)
    ∙ has_kind c.args.self.now.all c.in-Some.missing.now c.args.kind _ c.is_among.result missing c.in-Some.ensures.lacks in_all refl
