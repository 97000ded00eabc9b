use Rattle.std.proofs.Common.{◌≡◌, ℕ, ◌+◌, ◌-◌, ◌<◌, ◌≤◌, ◌||◌, length, take}
use Rattle.regex_class.specs.Ranges.{in_ranges, range_at, StartsAtMost}
use Rattle.grammar_tree.proofs.char_set.merged.Given as goal

abbrev pub invariant-loop-i : goal.invariant-loop-i
invariant-loop-i l =
    (l.i ≤ length l.left.ranges.items)
    × (l.j ≤ length l.right.ranges.items)
    × ((c : ℕ) → in_ranges l.all.ranges.items c ≡ (in_ranges (take l.i l.left.ranges.items) c || in_ranges (take l.j l.right.ranges.items) c))
    × (l.i < length l.left.ranges.items → StartsAtMost l.all.ranges.items (range_at l.left.ranges.items l.i).0)
    × (l.j < length l.right.ranges.items → StartsAtMost l.all.ranges.items (range_at l.right.ranges.items l.j).0)

abbrev pub decreases-loop-i : goal.decreases-loop-i
decreases-loop-i l = length l.left.ranges.items - l.i + (length l.right.ranges.items - l.j)
