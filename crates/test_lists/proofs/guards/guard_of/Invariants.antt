use Rattle.std.proofs.Common.{◌≡◌, map, take}
use Rattle.test_lists.proofs.guards.guard_of.Given as goal

abbrev pub invariant-loop-text : goal.invariant-loop-text
invariant-loop-text l = l.keeps ≡ map (λ t. t.now) (take l.text-index l.texts)
