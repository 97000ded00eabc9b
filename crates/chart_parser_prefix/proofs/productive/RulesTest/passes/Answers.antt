use Rattle.std.proofs.Common.{ap, arith, false, length, sym, ◌∙◌}
use Rattle.chart_parser_ends.proofs.Lent.{rule_at}
use Rattle.chart_parser_prefix.specs.inner.Productive.{form_passes}
use Rattle.normal_form.specs.View.{rule_form}
use Rattle.std.specs.Option.{option_map_or}
use Rattle.std.proofs.lemmas.List.{length-map}
use Rattle.chart_parser_prefix.proofs.productive.RulesTest.passes.Goals as goal

pub bounds-rules-node : goal.bounds-rules-node
bounds-rules-node c = omega (arith, c.requires, ap length (sym c.rules-rules.ensures), length-map c.rules-rules.result.now rule_form)

pub returns : goal.returns
returns c =
    let N = c.args.self.now.normal.now in
    let at =
    rule_at c.rules-rules.result.now N.rules c.args.node c.index-rules-node.result c.rules-rules.ensures
    (omega (arith, c.requires, ap length (sym c.rules-rules.ensures), length-map c.rules-rules.result.now rule_form)) (sym c.index-rules-node.is) in
    c.rule_passes.ensures ∙ ap (λ o. option_map_or (form_passes N c.args.flags.now) o false) (sym at)
