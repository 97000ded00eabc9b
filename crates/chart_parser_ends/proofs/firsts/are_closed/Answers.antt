use Rattle.std.proofs.Common.{◌<◌, length, sym, ap, arith}
use Rattle.std.proofs.lemmas.List.{length-map}
use Rattle.std.proofs.lemmas.Option.{slice_get_within}
use Rattle.normal_form.specs.View.{rule_form}
use Rattle.chart_parser_ends.proofs.Beginning.{rule_at}
use Rattle.chart_parser_ends.proofs.FirstRows.{closed_more}
use Rattle.chart_parser_ends.proofs.firsts.are_closed.Goals as goal

pub loop-number-preserved : goal.loop-number-preserved
loop-number-preserved c =
    let n = c.loop-number.number in
    let there =
    rule_at c.rules-rules.result.now c.args.normal.now.rules n c.index-rules-number.result c.rules-rules.ensures (omega (arith, c.loop-number-test.true))
    (sym c.index-rules-number.is) in
    closed_more c.args.normal.now c.args.rows.now n (rule_form c.index-rules-number.result) there
    (c.in_ok-has_enough.ensures c.if-not-branch.false) c.loop-number.invariant

pub returns : goal.returns
returns c t r form at =
    let within : r < c.loop-number.number =
    omega (
      arith,
      c.loop-number-test.false,
      slice_get_within c.args.normal.now.rules r form at,
      ap length (sym c.rules-rules.ensures),
      length-map c.rules-rules.result.now rule_form,
    ) in
    c.loop-number.invariant r form within at
