use Rattle.std.proofs.Common.{◌≡◌, ◌<◌, ◌≤◌, ◌∙◌, All, List, Some, inl, inr, leb, leb-true, length, refl, ap, arith, rules, subst, sym, take}
use Rattle.std.specs.List.Sorted.{IsNonDecreasingBy}
use Rattle.std.proofs.lemmas.List.{get_or_read}
use Rattle.std.proofs.lemmas.List.Sorted.{IsPartitionPoint-from_clause, IsPartitionedBy-leb}
use Rattle.std.proofs.lemmas.Option.{slice_get-get_or}
use Rattle.spell_shrink.specs.declared.cut_text.Mark.{Mark}
use Rattle.spell_shrink.proofs.Marks.{all_taken, reaches_rising}
use Rattle.spell_shrink.proofs.cut_text.CutText.carried.Goals as goal

pub returns-then-index-len : goal.returns-then-index-len
returns-then-index-len c =
    let marks = c.args.self.now.marks.items in
    let offset = c.args.offset in
    let index = c.partition_point-index.result in
    let lent = c.deref.result.now in
    let same : lent ≡ marks = c.deref.ensures.value in
    let rises = subst (IsNonDecreasingBy (λ (m : Mark). m.reach)) (sym same) (reaches_rising c.args.self.now c.requires) in
    let parted = IsPartitionedBy-leb (λ (m : Mark). m.reach) lent offset rises in
    let point =
    IsPartitionPoint-from_clause (λ (m : Mark). leb m.reach offset) lent index c.partition_point-index.ensures.partitioned parted (λ a r q k. search rules) in
    let seen =
    all_taken (λ (m : Mark). m.reach ≤ offset) lent index c.partition_point-index.ensures.bound (λ k d low high. leb-true _ _ (point.0 k d low high)) in
    let mark = c.index-mark.result.now in
    let below : index < length marks = omega (arith, c.if-index-len.true, c.len.ensures) in
    let here = get_or_read marks index mark below c.index-mark.ensures mark in
    inr (
      index,
      mark,
      slice_get-get_or marks index mark below ∙ ap Some (sym here),
      refl,
      refl,
      subst (λ (l : List Mark). All (λ (m : Mark). m.reach ≤ offset) (take index l)) same seen,
    )

pub returns-else-index-len : goal.returns-else-index-len
returns-else-index-len c = inl (refl, refl)
