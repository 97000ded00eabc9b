use Rattle.std.proofs.Common.{◌∙◌, inl, inr, false, true, [], Some, ap, refl, sym, arith}
use Rattle.normal_form.specs.View.{alts_form, rule_form}
use Rattle.chart_parser_ends.proofs.Beginning.{no_rule_at, rule_at}
use Rattle.chart_parser_ends.proofs.Choosing.{choice_begun}
use Rattle.chart_parser_ends.proofs.Repeating.{repetition_begun}
use Rattle.chart_parser_ends.proofs.work.first_work.Goals as goal

pub returns-then-rule-rules-clause-work : goal.returns-then-rule-rules-clause-work
returns-then-rule-rules-clause-work c =
    choice_begun c.args.table.now.input.normal c.args.table.now.input.kinds c.in_ok-new.field-0 c.args.rule c.args.first []
    (inr (
      no_rule_at c.rules-rules.result.now c.args.table.now.input.normal.rules c.args.rule (c.rules-rules.ensures ∙ ap (λ n. n.rules) c.normal.ensures)
          (omega (arith, c.if-rule-rules.true)),
      refl,
    )) c.requires c.in_ok-new.ensures.begins c.in_ok-new.ensures.no_ends

pub returns-in_ok-new-in-Regular-clause-work : goal.returns-in_ok-new-in-Regular-clause-work
returns-in_ok-new-in-Regular-clause-work c =
    choice_begun c.args.table.now.input.normal c.args.table.now.input.kinds c.in_ok-new-in-Regular.field-0 c.args.rule c.args.first (alts_form
    c.in-Regular.field-0.items)
    (inl (rule_at c.rules-rules.result.now c.args.table.now.input.normal.rules c.args.rule c.index-rules-rule.result
    (c.rules-rules.ensures ∙ ap (λ n. n.rules) c.normal.ensures) (omega (arith, c.if-rule-rules.false)) (sym c.index-rules-rule.is)
    ∙ ap (λ r. Some (rule_form r)) c.in-Regular.is))
    c.requires c.in_ok-new-in-Regular.ensures.begins c.in_ok-new-in-Regular.ensures.no_ends

pub returns-in_ok-new-in-Star-clause-work : goal.returns-in_ok-new-in-Star-clause-work
returns-in_ok-new-in-Star-clause-work c =
    repetition_begun c.args.table.now.input.normal c.args.table.now.input.kinds c.in_ok-new-in-Star.field-0 c.args.rule c.args.first c.in-Star.symbol false
    (rule_at c.rules-rules.result.now c.args.table.now.input.normal.rules c.args.rule c.index-rules-rule.result
    (c.rules-rules.ensures ∙ ap (λ n. n.rules) c.normal.ensures) (omega (arith, c.if-rule-rules.false)) (sym c.index-rules-rule.is)
    ∙ ap (λ r. Some (rule_form r)) c.in-Star.is) c.requires c.in_ok-new-in-Star.ensures

pub returns-in_ok-new-in-Plus-clause-work : goal.returns-in_ok-new-in-Plus-clause-work
returns-in_ok-new-in-Plus-clause-work c =
    repetition_begun c.args.table.now.input.normal c.args.table.now.input.kinds c.in_ok-new-in-Plus.field-0 c.args.rule c.args.first c.in-Plus.symbol true
    (rule_at c.rules-rules.result.now c.args.table.now.input.normal.rules c.args.rule c.index-rules-rule.result
    (c.rules-rules.ensures ∙ ap (λ n. n.rules) c.normal.ensures) (omega (arith, c.if-rule-rules.false)) (sym c.index-rules-rule.is)
    ∙ ap (λ r. Some (rule_form r)) c.in-Plus.is) c.requires c.in_ok-new-in-Plus.ensures

pub returns-in-Opt-clause-work : goal.returns-in-Opt-clause-work
returns-in-Opt-clause-work c = record {
  optional =
      rule_at c.rules-rules.result.now c.args.table.now.input.normal.rules c.args.rule c.index-rules-rule.result
      (c.rules-rules.ensures ∙ ap (λ n. n.rules) c.normal.ensures) (omega (arith, c.if-rule-rules.false)) (sym c.index-rules-rule.is)
      ∙ ap (λ r. Some (rule_form r)) c.in-Opt.is;
  within = c.requires;
}
