use Rattle.std.proofs.Common.{Some, sym, ap, ◌∙◌, arith}
use Rattle.normal_form.specs.View.{rule_form}
use Rattle.chart_parser_ends.proofs.Beginning.{no_alternative, rule_at}
use Rattle.chart_parser_ends.proofs.choice.alternative.Goals as goal

pub returns-then-number-count-clause-found : goal.returns-then-number-count-clause-found
returns-then-number-count-clause-found c alts has =
    let at =
    rule_at c.rules-rules.result.now c.args.normal.now.rules c.args.rule c.index-rules-rule.result c.rules-rules.ensures (omega (arith, c.if-rule-rules.false))
    (sym c.index-rules-rule.is) ∙ ap (λ r. Some (rule_form r)) c.in-Regular.is in
    no_alternative c.args.normal.now c.args.rule c.args.number c.in-Regular.alternatives.items alts at (omega (arith, c.in-Regular.alternatives.ok.0)) has
