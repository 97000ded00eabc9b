use Rattle.std.proofs.Common.{◌≡◌, vec_len}
use Rattle.chart_parser_ends.proofs.FirstRows.{CoversFirst}
use Rattle.chart_parser_ends.proofs.firsts.add_alternatives.Given as goal

abbrev pub invariant-loop-symbols : goal.invariant-loop-symbols
invariant-loop-symbols l = (vec_len l.row.begins ≡ vec_len l.fn.row.begins) × CoversFirst l.normal l.rows l.alternatives l.symbols-index l.row
