use Rattle.std.proofs.Common.{◌≡◌, ◌++◌, drop}
use Rattle.reduce_core.specs.Lines.{lines_of}
use Rattle.line_guard.specs.Lines.{ends_from, line_ends}
use Rattle.line_guard.proofs.index.LineIndex.of.Given as goal

-- the ends so far, and then those that are left
abbrev pub invariant-loop-at : goal.invariant-loop-at
invariant-loop-at l = l.ends.items ++ ends_from l.at (lines_of (drop l.at l.text)) ≡ line_ends l.text
