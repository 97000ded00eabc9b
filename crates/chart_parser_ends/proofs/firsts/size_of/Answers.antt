use Rattle.std.proofs.Common.{length, sym, ap, arith}
use Rattle.std.proofs.lemmas.List.{length-map}
use Rattle.normal_form.specs.View.{rule_form}
use Rattle.chart_parser_ends.proofs.firsts.size_of.Goals as goal

pub returns : goal.returns
returns c =
    omega (arith, c.loop-rule.invariant, c.loop-rule-test.false, ap length (sym c.rules-rule-items.ensures), length-map c.rules-rule-items.result.now rule_form)
