use Rattle.std.proofs.Common.{◌≡◌, vec_len}
use Rattle.chart_parser_ends.specs.inner.Firsts.{Keeps, MayBeEmptyBefore}
use Rattle.chart_parser_ends.proofs.FirstRows.{HasFirst}
use Rattle.chart_parser_ends.proofs.firsts.add_alternative.Given as goal

abbrev pub invariant-loop-symbol : goal.invariant-loop-symbol
invariant-loop-symbol l =
    (vec_len l.row.begins ≡ vec_len l.fn.row.begins) × Keeps l.fn.row l.row × HasFirst l.normal l.rows l.symbols l.symbol-index l.row
    × MayBeEmptyBefore l.rows l.symbols l.symbol-index
