use Rattle.std.proofs.Common.{length, sym, ap, arith}
use Rattle.std.proofs.lemmas.List.{length-map}
use Rattle.normal_form.specs.View.{rule_form}
use Rattle.chart_parser_ends.proofs.firsts.grown_rows.Goals as goal

pub loop-init : goal.loop-init
loop-init c = record {
  len = omega (arith, c.in_ok-rows.ensures.len, ap length (sym c.rules.ensures), length-map c.rules.result.now rule_form);
  cells = c.in_ok-rows.ensures.cells;
}
