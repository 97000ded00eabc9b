use Rattle.std.proofs.Common.{◌≡◌, ℕ, ◌<◌, vec_len}
use Rattle.chart_parser_ends.specs.inner.Firsts.{HasKind, Keeps, MayBegin}
use Rattle.chart_parser_ends.proofs.firsts.add_symbol.Given as goal

abbrev pub invariant-loop-kind : goal.invariant-loop-kind
invariant-loop-kind l =
    (l.row.empty ≡ l.fn.row.empty) × (vec_len l.row.begins ≡ vec_len l.fn.row.begins) × Keeps l.fn.row l.row
    × ((k : ℕ) → k < l.kind → MayBegin l.normal l.rows l.symbol k → HasKind l.row k)
