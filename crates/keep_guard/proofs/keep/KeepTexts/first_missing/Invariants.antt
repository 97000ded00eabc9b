use Rattle.std.proofs.Common.{◌≡◌, ◌+◌, drop, option_map}
use Rattle.keep_guard.specs.Keep.{first_missing}
use Rattle.keep_guard.proofs.keep.KeepTexts.first_missing.Given as goal

abbrev pub invariant-loop-k : goal.invariant-loop-k
invariant-loop-k l =
    option_map (λ at. l.k + at) (first_missing (drop l.k l.self-inside.searchers.items) l.text) ≡ first_missing l.self-inside.searchers.items l.text
