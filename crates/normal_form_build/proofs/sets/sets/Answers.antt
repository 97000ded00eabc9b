use Rattle.std.proofs.Common.{List, refl, sym, ap, ◌∙◌}
use Rattle.std.specs.List.{flat_map}
use Rattle.grammar_tree.specs.Derives.{resolved_alts}
use Rattle.grammar_tree.specs.Kinds.{any_kinds}
use Rattle.normal_form_build.specs.declared.parser_rule.ParserRuleRef.{ParserRuleRef}
use Rattle.normal_form.specs.NormalOf.{alts_sets}
use Rattle.normal_form_sets.specs.Sets.{SetsOfKinds}
use Rattle.normal_form_build.specs.inner.ParserRules.{bodies_of, parser_rule}
use Rattle.normal_form_sets.proofs.Lent.{sets_step, sets_end, with_all}
use Rattle.normal_form_build.proofs.sets.sets.Goals as goal

pub with_alts-requires : goal.with_alts-requires
with_alts-requires c = ap (λ (s : SetsOfKinds). s.all) c.loop-rule.invariant

pub loop-rule-preserved : goal.loop-rule-preserved
loop-rule-preserved c =
    let G = c.args.names.now in
    let h = λ (l : List ParserRuleRef). flat_map alts_sets (bodies_of G l) in
    sets_step (λ x. alts_sets (resolved_alts G (parser_rule x).alts)) h
    (λ x xs. refl) c.loop-rule.found c.in_ok-found.found c.args.rules.now c.loop-rule.rule-index c.rule-item.result c.loop-rule-test.true c.rule-item.is
    c.in_ok-found.ensures
    ∙ c.loop-rule.invariant

pub returns : goal.returns
returns c =
    let G = c.args.names.now in
    let h = λ (l : List ParserRuleRef). flat_map alts_sets (bodies_of G l) in
    sym (sets_end (λ x. alts_sets (resolved_alts G (parser_rule x).alts)) h refl c.loop-rule.found c.args.rules.now c.loop-rule.rule-index
    c.loop-rule-test.false)
    ∙ c.loop-rule.invariant ∙ with_all (any_kinds G) (h c.args.rules.now)
