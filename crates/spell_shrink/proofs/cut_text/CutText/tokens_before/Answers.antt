use Rattle.std.proofs.Common.{◌≡◌, ◌≢◌, ◌<◌, ◌≤◌, ◌∙◌, Some, ltb, ltb-true, ltb-false, length, refl, ap, rules, subst, sym, arith}
use Rattle.std.specs.List.Sorted.{IsNonDecreasingBy}
use Rattle.std.proofs.lemmas.List.{get_or_read}
use Rattle.std.proofs.lemmas.List.Sorted.{IsPartitionPoint-from_clause, IsPartitionedBy-ltb}
use Rattle.std.proofs.lemmas.Option.{slice_get-get_or}
use Rattle.spell_shrink.specs.declared.cut_text.Mark.{Mark}
use Rattle.spell_shrink.proofs.Marks.{none_begins, starts_point, starts_rising}
use Rattle.spell_shrink.proofs.cut_text.CutText.tokens_before.Goals as goal

pub returns-then-index-len : goal.returns-then-index-len
returns-then-index-len c =
    let marks = c.args.self.now.marks.items in
    let offset = c.args.offset in
    let index = c.partition_point-index.result in
    let lent = c.deref.result.now in
    let same : lent ≡ marks = c.deref.ensures.value in
    let rises = starts_rising c.args.self.now c.requires in
    let parted = IsPartitionedBy-ltb (λ (m : Mark). m.start) lent offset (subst (IsNonDecreasingBy (λ (m : Mark). m.start)) (sym same) rises) in
    let point =
    starts_point marks lent same offset index
    (IsPartitionPoint-from_clause (λ (m : Mark). ltb m.start offset) lent index c.partition_point-index.ensures.partitioned parted
    (λ a r q k. search rules)) in
    let past : length marks ≤ index = omega (arith, c.if-index-len.true, c.len.ensures) in
    none_begins marks offset index rises (λ k d low high. ltb-true _ _ (point.0 k d low high)) (λ k d low high. ltb-false _ _ (point.1 k d low high))
    (λ d within. absurd (omega (arith, past, within)))

pub returns-then-mark-offset : goal.returns-then-mark-offset
returns-then-mark-offset c =
    let marks = c.args.self.now.marks.items in
    let offset = c.args.offset in
    let index = c.partition_point-index.result in
    let lent = c.deref.result.now in
    let same : lent ≡ marks = c.deref.ensures.value in
    let rises = starts_rising c.args.self.now c.requires in
    let parted = IsPartitionedBy-ltb (λ (m : Mark). m.start) lent offset (subst (IsNonDecreasingBy (λ (m : Mark). m.start)) (sym same) rises) in
    let point =
    starts_point marks lent same offset index
    (IsPartitionPoint-from_clause (λ (m : Mark). ltb m.start offset) lent index c.partition_point-index.ensures.partitioned parted
    (λ a r q k. search rules)) in
    let within : index < length marks = omega (arith, c.if-index-len.false, c.len.ensures) in
    let other : c.index-mark.result.now.start ≢ offset = search rules in
    none_begins marks offset index rises (λ k d low high. ltb-true _ _ (point.0 k d low high)) (λ k d low high. ltb-false _ _ (point.1 k d low high))
    (λ d below is. other (ap (λ (m : Mark). m.start) (get_or_read marks index c.index-mark.result.now within c.index-mark.ensures d) ∙ is))

pub returns : goal.returns
returns c =
    let marks = c.args.self.now.marks.items in
    let index = c.partition_point-index.result in
    let mark = c.index-mark.result.now in
    let within : index < length marks = omega (arith, c.if-index-len.false, c.len.ensures) in
    let here = get_or_read marks index mark within c.index-mark.ensures mark in
    let begins : mark.start ≡ c.args.offset = search rules in
    (index, mark, slice_get-get_or marks index mark within ∙ ap Some (sym here), begins, refl)
