use Rattle.std.proofs.Common.{◌<◌, ◌⊎◌, inl, inr, length, ap, ◌∙◌, arith}
use Rattle.regex_class.specs.Ranges.{in_ranges, last_start_or}
use Rattle.regex_class.proofs.RangesLemmas.{last_start_or-nil}
use Rattle.grammar_tree.proofs.Merging.{nothing_twice, read, fits, members_left, members_right, later, other, left_first, right_first}
use Rattle.grammar_tree.proofs.char_set.merged.Goals.{then-i-len, else-i-len+then-j-len}
use Rattle.grammar_tree.proofs.char_set.merged.Goals as goal

pub loop-i-init : goal.loop-i-init
loop-i-init c =
    let none = c.empty-all.ensures in (
      omega arith,
      omega arith,
      λ x. ap (λ l. in_ranges l x) none
          ∙ nothing_twice x,
      λ _. omega (arith, ap (last_start_or 0) none ∙ last_start_or-nil 0),
      λ _. omega (arith, ap (last_start_or 0) none ∙ last_start_or-nil 0),
    )

pub add_range-requires-clause-ordered : goal.add_range-requires-clause-ordered
add_range-requires-clause-ordered c =
    let first = left_first _ _ _ _ _ _ c.deref.ensures.value c.deref-in-loop-i.ensures.value (c.is_first.ensures.left c.if-is_first.true) in
    (fits _ _ _ c.args.left.now.canonical first.0 (read _ _ _ first.0 c.index.ensures)).0

pub add_range-requires-clause-bounded : goal.add_range-requires-clause-bounded
add_range-requires-clause-bounded c =
    let first = left_first _ _ _ _ _ _ c.deref.ensures.value c.deref-in-loop-i.ensures.value (c.is_first.ensures.left c.if-is_first.true) in
    (fits _ _ _ c.args.left.now.canonical first.0 (read _ _ _ first.0 c.index.ensures)).1

pub loop-i-preserved-then-is_first : goal.loop-i-preserved-then-is_first
loop-i-preserved-then-is_first c =
    let first = left_first _ _ _ _ _ _ c.deref.ensures.value c.deref-in-loop-i.ensures.value (c.is_first.ensures.left c.if-is_first.true) in
    let is = read _ _ _ first.0 c.index.ensures in
    let inv = c.loop-i.invariant in
    let told = c.in_ok-add_range.ensures in (
      omega (arith, first.0),
      inv.1,
      λ x. members_left _ _ _ _ _ _ _ x first.0 is (inv.2 x) (told.members x),
      λ lt. later _ _ _ _ c.args.left.now.canonical is told.starts lt,
      λ lt. other _ c.args.left.now.ranges.items c.args.right.now.ranges.items c.loop-i.i c.loop-i.j _ is told.starts (first.1 lt),
    )

pub add_range-requires-else-is_first-clause-ordered :
    goal.add_range-requires-else-is_first-clause-ordered
add_range-requires-else-is_first-clause-ordered c =
    let some : (c.loop-i.i < length c.args.left.now.ranges.items) ⊎ (c.loop-i.j < length c.args.right.now.ranges.items) = elim c.if-i-len.branch [
      | then-i-len w ↦ inl (omega (arith, w.if-i-len.true, c.len.ensures, c.args.left.now.ranges.ok.0))
      | else-i-len+then-j-len w ↦ inr (omega (arith, w.if-j-len.true, w.len-else-i-len.ensures, c.args.right.now.ranges.ok.0))
    ] in
    let first = right_first _ _ _ _ _ _ c.deref.ensures.value c.deref-in-loop-i.ensures.value some (c.is_first.ensures.right c.if-is_first.false) in
    (fits _ _ _ c.args.right.now.canonical first.0 (read _ _ _ first.0 c.index-else-is_first.ensures)).0

pub add_range-requires-else-is_first-clause-bounded :
    goal.add_range-requires-else-is_first-clause-bounded
add_range-requires-else-is_first-clause-bounded c =
    let some : (c.loop-i.i < length c.args.left.now.ranges.items) ⊎ (c.loop-i.j < length c.args.right.now.ranges.items) = elim c.if-i-len.branch [
      | then-i-len w ↦ inl (omega (arith, w.if-i-len.true, c.len.ensures, c.args.left.now.ranges.ok.0))
      | else-i-len+then-j-len w ↦ inr (omega (arith, w.if-j-len.true, w.len-else-i-len.ensures, c.args.right.now.ranges.ok.0))
    ] in
    let first = right_first _ _ _ _ _ _ c.deref.ensures.value c.deref-in-loop-i.ensures.value some (c.is_first.ensures.right c.if-is_first.false) in
    (fits _ _ _ c.args.right.now.canonical first.0 (read _ _ _ first.0 c.index-else-is_first.ensures)).1

pub loop-i-preserved : goal.loop-i-preserved
loop-i-preserved c =
    let some : (c.loop-i.i < length c.args.left.now.ranges.items) ⊎ (c.loop-i.j < length c.args.right.now.ranges.items) = elim c.if-i-len.branch [
      | then-i-len w ↦ inl (omega (arith, w.if-i-len.true, c.len.ensures, c.args.left.now.ranges.ok.0))
      | else-i-len+then-j-len w ↦ inr (omega (arith, w.if-j-len.true, w.len-else-i-len.ensures, c.args.right.now.ranges.ok.0))
    ] in
    let first = right_first _ _ _ _ _ _ c.deref.ensures.value c.deref-in-loop-i.ensures.value some (c.is_first.ensures.right c.if-is_first.false) in
    let is = read _ _ _ first.0 c.index-else-is_first.ensures in
    let inv = c.loop-i.invariant in
    let told = c.in_ok-add_range-2.ensures in (
      inv.0,
      omega (arith, first.0),
      λ x. members_right _ _ _ _ _ _ _ x first.0 is (inv.2 x) (told.members x),
      λ lt. other _ c.args.right.now.ranges.items c.args.left.now.ranges.items c.loop-i.j c.loop-i.i _ is told.starts (first.1 lt),
      λ lt. later _ _ _ _ c.args.right.now.canonical is told.starts lt,
    )
