use Rattle.std.proofs.Common.{◌≡◌, ◌+◌, ◌<◌, ℕ, false, slice_index_or, vec_len, ◌&&◌}
use Rattle.grammar_tree.specs.Chars.{has}
use Rattle.cases_languages.proofs.positions.steps.Given as goal

abbrev pub invariant-loop-i : goal.invariant-loop-i
invariant-loop-i l = record {
  len : vec_len l.to ≡ l.i + 1;
  first : slice_index_or l.to.items 0 false ≡ false;
  rest : (k : ℕ) → k < l.i → slice_index_or l.to.items (k + 1) false ≡ (slice_index_or l.from k false && has l.ranges (slice_index_or l.list k 0));
}
