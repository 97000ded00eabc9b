use Rattle.std.proofs.Common.{◌≡◌, ℕ, ◌+◌, ◌-◌, ◌≤◌, List, length, ap, ◌∙◌, subst, arith}
use Rattle.syntax_tree_cut.specs.inner.Tokens.{IsSplitAt, within}
use Rattle.syntax_tree_cut.proofs.Splits.{fewer_fit, part_kept, replaced_part}
use Rattle.syntax_tree_cut.proofs.tokens.keep_within.Goals as goal

-- where the tokens are split, and what follows
fits : (xs l1 l2 l3 l4 : List ℕ) (a b first end i j m n : ℕ) → l1 ≡ xs → l2 ≡ xs → l3 ≡ xs → l4 ≡ xs → IsSplitAt l1 a i → IsSplitAt l2 b j
    → IsSplitAt l3 first m → IsSplitAt l4 end n → a ≤ b → first ≤ end → length (within first end xs) ≤ length (within a b xs) →
    (i + (n - m) ≤ j) × (j ≤ length xs) × (m ≤ n) × (m + (n - m) ≤ length xs)
fits xs l1 l2 l3 l4 a b first end i j m n e1 e2 e3 e4 at to at' to' le le' fewer =
    fewer_fit xs a b i j m n first end (subst (λ (l : List ℕ). IsSplitAt l a i) e1 at) (subst (λ (l : List ℕ). IsSplitAt l b j) e2 to)
    (subst (λ (l : List ℕ). IsSplitAt l first m) e3 at') (subst (λ (l : List ℕ). IsSplitAt l end n) e4 to') le le' fewer

pub copy_within-requires-clause-start_le_end : goal.copy_within-requires-clause-start_le_end
copy_within-requires-clause-start_le_end c =
    (fits c.args.tokens.now.items c.deref.result.now c.deref-2.result.now c.deref-3.result.now c.deref-4.result.now c.args.old.now.first c.args.old.now.end
    c.args.new.now.first c.args.new.now.end
    c.count_before-from.result c.count_before-to.result c.count_before-first.result c.count_before-end.result c.deref.ensures.value c.deref-2.ensures.value
    c.deref-3.ensures.value c.deref-4.ensures.value
    c.count_before-from.ensures c.count_before-to.ensures c.count_before-first.ensures c.count_before-end.ensures c.requires.old_span c.requires.new_span
    c.requires.fewer).2

pub copy_within-requires-clause-dest_in_bounds : goal.copy_within-requires-clause-dest_in_bounds
copy_within-requires-clause-dest_in_bounds c =
    let all =
    fits c.args.tokens.now.items c.deref.result.now c.deref-2.result.now c.deref-3.result.now c.deref-4.result.now c.args.old.now.first c.args.old.now.end
    c.args.new.now.first c.args.new.now.end
    c.count_before-from.result c.count_before-to.result c.count_before-first.result c.count_before-end.result c.deref.ensures.value
    c.deref-2.ensures.value c.deref-3.ensures.value c.deref-4.ensures.value
    c.count_before-from.ensures c.count_before-to.ensures c.count_before-first.ensures c.count_before-end.ensures c.requires.old_span c.requires.new_span
    c.requires.fewer in
    let long = c.deref.ensures.len in
    let same = ap length c.deref.ensures.value in
    omega (arith, all, long, same)

pub overflow_sub-end : goal.overflow_sub-end
overflow_sub-end c =
    (fits c.args.tokens.now.items c.deref.result.now c.deref-2.result.now c.deref-3.result.now c.deref-4.result.now c.args.old.now.first
    c.args.old.now.end c.args.new.now.first c.args.new.now.end
    c.count_before-from.result c.count_before-to.result c.count_before-first.result c.count_before-end.result
    c.deref.ensures.value c.deref-2.ensures.value c.deref-3.ensures.value c.deref-4.ensures.value
    c.count_before-from.ensures c.count_before-to.ensures c.count_before-first.ensures c.count_before-end.ensures c.requires.old_span
    c.requires.new_span c.requires.fewer).2

pub remove_between-requires-clause-from : goal.remove_between-requires-clause-from
remove_between-requires-clause-from c =
    (fits c.args.tokens.now.items c.deref.result.now c.deref-2.result.now c.deref-3.result.now c.deref-4.result.now
    c.args.old.now.first c.args.old.now.end c.args.new.now.first c.args.new.now.end
    c.count_before-from.result c.count_before-to.result c.count_before-first.result
    c.count_before-end.result c.deref.ensures.value c.deref-2.ensures.value c.deref-3.ensures.value c.deref-4.ensures.value
    c.count_before-from.ensures c.count_before-to.ensures c.count_before-first.ensures c.count_before-end.ensures c.requires.old_span c.requires.new_span
    c.requires.fewer).0

pub returns : goal.returns
returns c =
    let xs : List ℕ = c.args.tokens.now.items in
    let all =
    fits xs c.deref.result.now c.deref-2.result.now c.deref-3.result.now c.deref-4.result.now c.args.old.now.first c.args.old.now.end c.args.new.now.first
    c.args.new.now.end
    c.count_before-from.result c.count_before-to.result
    c.count_before-first.result c.count_before-end.result c.deref.ensures.value c.deref-2.ensures.value c.deref-3.ensures.value c.deref-4.ensures.value
    c.count_before-from.ensures c.count_before-to.ensures c.count_before-first.ensures c.count_before-end.ensures c.requires.old_span
    c.requires.new_span c.requires.fewer in
    replaced_part xs c.remove_between.new.tokens.items c.args.old.now.first c.args.old.now.end c.args.new.now.first c.args.new.now.end
    c.count_before-from.result c.count_before-to.result c.count_before-first.result c.count_before-end.result
    (subst (λ (l : List ℕ). IsSplitAt l c.args.old.now.first c.count_before-from.result) c.deref.ensures.value c.count_before-from.ensures)
    (subst (λ (l : List ℕ). IsSplitAt l c.args.old.now.end c.count_before-to.result) c.deref-2.ensures.value c.count_before-to.ensures)
    (subst (λ (l : List ℕ). IsSplitAt l c.args.new.now.first c.count_before-first.result) c.deref-3.ensures.value c.count_before-first.ensures)
    (subst (λ (l : List ℕ). IsSplitAt l c.args.new.now.end c.count_before-end.result) c.deref-4.ensures.value c.count_before-end.ensures)
    c.requires.new_span all.2
    (c.remove_between.ensures ∙ part_kept xs c.copy_within.new.self.items c.count_before-from.result c.count_before-to.result c.count_before-first.result
    (c.count_before-end.result - c.count_before-first.result) all.0 all.1 all.3 c.copy_within.ensures.items)
