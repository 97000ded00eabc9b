use Rattle.std.proofs.Common.{◌≡◌, map, take}
use Rattle.line_guard.specs.inner.Held.{held_by}
use Rattle.line_guard.proofs.wish.searchers_of.Given as goal

-- the searchers so far
abbrev pub invariant-loop-wish : goal.invariant-loop-wish
invariant-loop-wish l = l.searchers.items ≡ map held_by (take l.wish-index l.wishes)
