use Rattle.std.proofs.Common.{List, Some, ap, arith, inl, inr, length, subst, sym, ◌∙◌}
use Rattle.chart_parser_ends.proofs.Lent.{no_rule_at, rule_at}
use Rattle.chart_parser_ends.specs.Input.{ChartInput}
use Rattle.chart_parser_prefix.proofs.Alternatives.{Repeats, element_predicts, no_rule_predicts, optional_predicts, predicts_element}
use Rattle.chart_parser_prefix.proofs.Alternatives.{predicts_optional, predicts_regular, regular_predicts}
use Rattle.chart_parser_prefix.proofs.Growing.{grown_none, grown_weaker}
use Rattle.chart_parser_prefix.specs.inner.Expected.{IsElement, IsInAlternatives}
use Rattle.chart_parser_prefix.specs.inner.Walk.{ExpectsAll, IsGrownBy}
use Rattle.normal_form.specs.View.{alts_form, rule_form}
use Rattle.normal_form.specs.declared.normal.Sym.{Sym}
use Rattle.chart_parser_prefix.proofs.search.PrefixSearch.predict_rule.Goals as goal

pub returns-then-rule-rules-clause-grown : goal.returns-then-rule-rules-clause-grown
returns-then-rule-rules-clause-grown c = grown_none c.args.lists.now.items

pub returns-then-rule-rules-clause-all : goal.returns-then-rule-rules-clause-all
returns-then-rule-rules-clause-all c s m h =
    let N = c.args.self.now.normal.now in
    let K = c.args.self.now.kinds.now in
    absurd (no_rule_predicts N K c.args.rule c.args.first
    (no_rule_at c.rules-rules.result.now N.rules c.args.rule c.rules-rules.ensures (omega (arith, c.if-rule-rules.true))) s m h)

pub returns-in_ok-add_alternatives-in-Regular-clause-grown : goal.returns-in_ok-add_alternatives-in-Regular-clause-grown
returns-in_ok-add_alternatives-in-Regular-clause-grown c =
    let N = c.args.self.now.normal.now in
    let K = c.args.self.now.kinds.now in
    let at =
    rule_at c.rules-rules.result.now c.args.self.now.normal.now.rules c.args.rule c.index-rules-rule.result c.rules-rules.ensures
    (omega (arith, c.if-rule-rules.false)) (sym c.index-rules-rule.is) ∙ ap (λ r. Some (rule_form r)) c.in-Regular.is in
    let value = ap alts_form c.deref.ensures.value in
    let grown =
    subst (λ (l : List (List Sym)). IsGrownBy (IsInAlternatives N K l c.args.first) c.args.lists.now.items c.add_alternatives.new.lists.items) value
    c.in_ok-add_alternatives-in-Regular.ensures.grown in
    grown_weaker (regular_predicts N K c.args.rule c.args.first (alts_form c.in-Regular.alternatives.items) at) grown

pub returns-in_ok-add_alternatives-in-Regular-clause-all : goal.returns-in_ok-add_alternatives-in-Regular-clause-all
returns-in_ok-add_alternatives-in-Regular-clause-all c s m h =
    let N = c.args.self.now.normal.now in
    let K = c.args.self.now.kinds.now in
    let at = rule_at c.rules-rules.result.now c.args.self.now.normal.now.rules c.args.rule c.index-rules-rule.result c.rules-rules.ensures
    (omega (arith, c.if-rule-rules.false)) (sym c.index-rules-rule.is) ∙ ap (λ r. Some (rule_form r)) c.in-Regular.is in
    let value = ap alts_form c.deref.ensures.value in
    let all =
    subst (λ (l : List (List Sym)). ExpectsAll (IsInAlternatives N K l c.args.first) c.add_alternatives.new.lists.items) value
    c.in_ok-add_alternatives-in-Regular.ensures.all in
    all s m (predicts_regular N K c.args.rule c.args.first (alts_form c.in-Regular.alternatives.items) at s m h)

pub returns-in_ok-add_at-in-Opt-clause-grown : goal.returns-in_ok-add_at-in-Opt-clause-grown
returns-in_ok-add_at-in-Opt-clause-grown c =
    let N = c.args.self.now.normal.now in
    let K = c.args.self.now.kinds.now in
    let at =
    rule_at c.rules-rules.result.now c.args.self.now.normal.now.rules c.args.rule c.index-rules-rule.result c.rules-rules.ensures
    (omega (arith, c.if-rule-rules.false)) (sym c.index-rules-rule.is) ∙ ap (λ r. Some (rule_form r)) c.in-Opt.is in
    grown_weaker (optional_predicts N K c.args.rule c.args.first c.in-Opt.symbol at) c.in_ok-add_at-in-Opt.ensures.grown

pub returns-in_ok-add_at-in-Opt-clause-all : goal.returns-in_ok-add_at-in-Opt-clause-all
returns-in_ok-add_at-in-Opt-clause-all c s m h =
    let N = c.args.self.now.normal.now in
    let K = c.args.self.now.kinds.now in
    let at = rule_at c.rules-rules.result.now c.args.self.now.normal.now.rules c.args.rule c.index-rules-rule.result c.rules-rules.ensures
    (omega (arith, c.if-rule-rules.false)) (sym c.index-rules-rule.is) ∙ ap (λ r. Some (rule_form r)) c.in-Opt.is in
    c.in_ok-add_at-in-Opt.ensures.all s m (predicts_optional N K c.args.rule c.args.first c.in-Opt.symbol at s m h)

pub add_elements-requires-clause-repeats : goal.add_elements-requires-clause-repeats
add_elements-requires-clause-repeats c =
    let N = c.args.self.now.normal.now in
    let K = c.args.self.now.kinds.now in
    let at =
    rule_at c.rules-rules.result.now c.args.self.now.normal.now.rules c.args.rule c.index-rules-rule.result c.rules-rules.ensures
    (omega (arith, c.if-rule-rules.false)) (sym c.index-rules-rule.is) ∙ ap (λ r. Some (rule_form r)) c.in-Star.is in
    subst (λ (x : ChartInput). Repeats x.normal x.kinds c.args.rule c.in-Star.symbol) (sym c.requires.chart) (inl at)

pub add_elements-requires-clause-last : goal.add_elements-requires-clause-last
add_elements-requires-clause-last c = c.last-last.ensures ∙ ap (λ (x : ChartInput). length x.kinds) (sym c.requires.chart)

pub add_elements-requires-clause-within : goal.add_elements-requires-clause-within
add_elements-requires-clause-within c = omega (arith, c.requires.within, ap (λ (x : ChartInput). length x.kinds) c.requires.chart)

pub add_elements-requires-clause-count : goal.add_elements-requires-clause-count
add_elements-requires-clause-count c = omega (arith, c.requires.count, ap (λ (x : ChartInput). length x.kinds) c.requires.chart)

pub returns-in_ok-add_elements-in-Star-clause-grown : goal.returns-in_ok-add_elements-in-Star-clause-grown
returns-in_ok-add_elements-in-Star-clause-grown c =
    let N = c.args.self.now.normal.now in
    let K = c.args.self.now.kinds.now in
    let at = rule_at c.rules-rules.result.now c.args.self.now.normal.now.rules c.args.rule c.index-rules-rule.result c.rules-rules.ensures
    (omega (arith, c.if-rule-rules.false)) (sym c.index-rules-rule.is) ∙ ap (λ r. Some (rule_form r)) c.in-Star.is in
    let grown =
    subst (λ (x : ChartInput). IsGrownBy (IsElement x.normal x.kinds c.in-Star.symbol c.args.first) c.args.lists.now.items c.add_elements.new.lists.items)
    c.requires.chart c.in_ok-add_elements-in-Star.ensures.grown in
    grown_weaker (element_predicts N K c.args.rule c.args.first c.in-Star.symbol (inl at)) grown

pub returns-in_ok-add_elements-in-Star-clause-all : goal.returns-in_ok-add_elements-in-Star-clause-all
returns-in_ok-add_elements-in-Star-clause-all c s m h =
    let N = c.args.self.now.normal.now in
    let K = c.args.self.now.kinds.now in
    let at = rule_at c.rules-rules.result.now c.args.self.now.normal.now.rules c.args.rule c.index-rules-rule.result
    c.rules-rules.ensures (omega (arith, c.if-rule-rules.false)) (sym c.index-rules-rule.is) ∙ ap (λ r. Some (rule_form r)) c.in-Star.is in
    let all =
    subst (λ (x : ChartInput). ExpectsAll (IsElement x.normal x.kinds c.in-Star.symbol c.args.first) c.add_elements.new.lists.items) c.requires.chart
    c.in_ok-add_elements-in-Star.ensures.all in
    all s m (predicts_element N K c.args.rule c.args.first c.in-Star.symbol (inl at) s m h)

pub add_elements-requires-in-Plus-clause-repeats : goal.add_elements-requires-in-Plus-clause-repeats
add_elements-requires-in-Plus-clause-repeats c =
    let N = c.args.self.now.normal.now in
    let K = c.args.self.now.kinds.now in
    let at =
    rule_at c.rules-rules.result.now c.args.self.now.normal.now.rules c.args.rule c.index-rules-rule.result c.rules-rules.ensures
    (omega (arith, c.if-rule-rules.false)) (sym c.index-rules-rule.is) ∙ ap (λ r. Some (rule_form r)) c.in-Plus.is in
    subst (λ (x : ChartInput). Repeats x.normal x.kinds c.args.rule c.in-Plus.symbol) (sym c.requires.chart) (inr at)

pub add_elements-requires-in-Plus-clause-last : goal.add_elements-requires-in-Plus-clause-last
add_elements-requires-in-Plus-clause-last c = c.last-last.ensures ∙ ap (λ (x : ChartInput). length x.kinds) (sym c.requires.chart)

pub add_elements-requires-in-Plus-clause-within : goal.add_elements-requires-in-Plus-clause-within
add_elements-requires-in-Plus-clause-within c = omega (arith, c.requires.within, ap (λ (x : ChartInput). length x.kinds) c.requires.chart)

pub add_elements-requires-in-Plus-clause-count : goal.add_elements-requires-in-Plus-clause-count
add_elements-requires-in-Plus-clause-count c = omega (arith, c.requires.count, ap (λ (x : ChartInput). length x.kinds) c.requires.chart)

pub returns-in_ok-add_elements-in-Plus-clause-grown : goal.returns-in_ok-add_elements-in-Plus-clause-grown
returns-in_ok-add_elements-in-Plus-clause-grown c =
    let N = c.args.self.now.normal.now in
    let K = c.args.self.now.kinds.now in
    let at = rule_at c.rules-rules.result.now c.args.self.now.normal.now.rules c.args.rule c.index-rules-rule.result c.rules-rules.ensures
    (omega (arith, c.if-rule-rules.false)) (sym c.index-rules-rule.is) ∙ ap (λ r. Some (rule_form r)) c.in-Plus.is in
    let grown =
    subst (λ (x : ChartInput). IsGrownBy (IsElement x.normal x.kinds c.in-Plus.symbol c.args.first) c.args.lists.now.items
    c.add_elements-in-Plus.new.lists.items) c.requires.chart c.in_ok-add_elements-in-Plus.ensures.grown in
    grown_weaker (element_predicts N K c.args.rule c.args.first c.in-Plus.symbol (inr at)) grown

pub returns-in_ok-add_elements-in-Plus-clause-all : goal.returns-in_ok-add_elements-in-Plus-clause-all
returns-in_ok-add_elements-in-Plus-clause-all c s m h =
    let N = c.args.self.now.normal.now in
    let K = c.args.self.now.kinds.now in
    let at = rule_at c.rules-rules.result.now c.args.self.now.normal.now.rules c.args.rule c.index-rules-rule.result
    c.rules-rules.ensures (omega (arith, c.if-rule-rules.false)) (sym c.index-rules-rule.is) ∙ ap (λ r. Some (rule_form r)) c.in-Plus.is in
    let all =
    subst (λ (x : ChartInput). ExpectsAll (IsElement x.normal x.kinds c.in-Plus.symbol c.args.first) c.add_elements-in-Plus.new.lists.items) c.requires.chart
    c.in_ok-add_elements-in-Plus.ensures.all in
    all s m (predicts_element N K c.args.rule c.args.first c.in-Plus.symbol (inr at) s m h)
