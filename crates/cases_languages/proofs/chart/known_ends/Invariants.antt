use Rattle.std.proofs.Common.{◌≡◌, ◌↔◌, ℕ, length, vec_len, take}
use Rattle.cases_languages.specs.Positions.{IsIn, Known}
use Rattle.cases_languages.proofs.chart.known_ends.Given as goal

abbrev pub invariant-loop-row : goal.invariant-loop-row
invariant-loop-row l = record {
  len : vec_len l.to ≡ length l.from;
  marks : (j : ℕ) → IsIn l.to.items j ↔ ((i : ℕ) × IsIn l.from i × Known (take l.row-index l.rows) l.rule i j);
}
