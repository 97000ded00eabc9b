use Rattle.std.proofs.Common.{◌≡◌, ◌+◌, false, take}
use Rattle.std.specs.List.{list_any}
use Rattle.line_guard.specs.Protected.{protects}
use Rattle.line_guard.proofs.wish.is_protected.Given as goal

-- none of the wishes so far protects it
abbrev pub invariant-loop-k : goal.invariant-loop-k
invariant-loop-k l = list_any (λ wish. protects wish (l.at + 1) l.line) (take l.k l.wishes) ≡ false
