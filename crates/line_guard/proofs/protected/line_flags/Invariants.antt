use Rattle.std.proofs.Common.{◌≡◌, map, take}
use Rattle.reduce_core.specs.Lines.{numbered_lines}
use Rattle.line_guard.specs.Protected.{is_protected}
use Rattle.line_guard.proofs.protected.line_flags.Given as goal

-- the flags of the lines so far
abbrev pub invariant-loop-at : goal.invariant-loop-at
invariant-loop-at l = l.flags.items ≡ map (is_protected l.wishes) (take l.at (numbered_lines l.start))
