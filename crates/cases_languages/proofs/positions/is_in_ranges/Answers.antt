use Rattle.std.proofs.Common.{◌≡◌, ◌≤◌, ◌<◌, ℕ, List, take, ◌+◌, ◌⊎◌, inl, inr, nat_le, sym, ◌∙◌, true, false, get_or, length}
use Rattle.std.proofs.lemmas.Bool.{or_from, le-leb, lt-leb, and_from, and_left, and_right}
use Rattle.regex_class.specs.Ranges.{in_range, in_ranges}
use Rattle.regex_class.proofs.RangesLemmas.{in_ranges-nil, in_ranges-at, in_ranges-more}
use Rattle.cases_languages.proofs.positions.is_in_ranges.Goals.{else-range-number-via-then-range-number+else-number-range}
use Rattle.cases_languages.proofs.positions.is_in_ranges.Goals.{else-range-number-via-else-range-number}
use Rattle.cases_languages.proofs.positions.is_in_ranges.Goals as goal

within : (r : ℕ × ℕ) (c : ℕ) → r.0 ≤ c → c ≤ r.1 → in_range r c ≡ true
unfolding in_range
within r c a b = and_from (nat_le r.0 c) (nat_le c r.1) (le-leb r.0 c a) (le-leb c r.1 b)

outside : (r : ℕ × ℕ) (c : ℕ) → (c < r.0) ⊎ (r.1 < c) → in_range r c ≡ false
unfolding in_range
outside r c (inl a) = and_left (nat_le r.0 c) (nat_le c r.1) (lt-leb r.0 c a)
outside r c (inr b) = and_right (nat_le r.0 c) (nat_le c r.1) (lt-leb c r.1 b)

more : (ranges : List (ℕ × ℕ)) (i c : ℕ) → i < length ranges → in_ranges (take i ranges) c ≡ false → (c < (get_or ranges i (0, 0)).0)
    ⊎ ((get_or ranges i (0, 0)).1 < c) → in_ranges (take (i + 1) ranges) c ≡ false
more ranges i c h none o =
    in_ranges-more ranges i c h ∙ or_from (in_ranges (take i ranges) c) (in_range (get_or ranges i (0, 0)) c) none (outside (get_or ranges i (0, 0)) c o)

pub loop-range-init : goal.loop-range-init
loop-range-init c = in_ranges-nil c.args.number

pub loop-range-preserved : goal.loop-range-preserved
loop-range-preserved c =
    more c.args.ranges.now c.loop-range.range-index c.args.number c.loop-range-test.true c.loop-range.invariant (elim c.else-range-number.branch [
      | else-range-number-via-then-range-number+else-number-range w ↦ inr w.if-number-range.false
      | else-range-number-via-else-range-number w ↦ inl w.if-range-number.false
    ])

pub returns-then-number-range : goal.returns-then-number-range
returns-then-number-range c =
    sym (in_ranges-at c.args.ranges.now c.loop-range.range-index c.args.number c.loop-range-test.true
    (within (get_or c.args.ranges.now c.loop-range.range-index (0, 0)) c.args.number c.if-range-number.true c.if-number-range.true))
