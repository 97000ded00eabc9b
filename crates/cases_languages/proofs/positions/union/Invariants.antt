use Rattle.std.proofs.Common.{◌≡◌, ◌<◌, ◌||◌, ℕ, vec_len, slice_index_or, false}
use Rattle.cases_languages.proofs.positions.union.Given as goal

abbrev pub invariant-loop-i : goal.invariant-loop-i
invariant-loop-i l = record {
  len : vec_len l.marks ≡ l.i;
  either : (j : ℕ) → j < l.i → slice_index_or l.marks.items j false ≡ (slice_index_or l.left j false || slice_index_or l.right j false);
}
