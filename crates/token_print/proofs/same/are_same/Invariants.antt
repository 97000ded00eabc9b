use Rattle.std.proofs.Common.{◌≡◌, ℕ, ◌<◌, slice_index_or}
use Rattle.token_print.proofs.SameTokens.{found_one, kept_one, no_token}
use Rattle.token_print.proofs.same.are_same.Given as goal

abbrev pub invariant-loop-i : goal.invariant-loop-i
invariant-loop-i l =
    (k : ℕ) → k < l.i → found_one l.text l.start l.tokens (slice_index_or l.found k no_token) ≡ kept_one l.text l.start l.tokens (slice_index_or l.kept k 0)
