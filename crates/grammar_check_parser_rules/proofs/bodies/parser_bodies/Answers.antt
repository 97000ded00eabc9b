use Rattle.std.proofs.Common.{◌++◌, ◌∷◌, [], map, take, sym, ap, ◌∙◌, arith}
use Rattle.std.specs.List.{filter_map}
use Rattle.std.proofs.lemmas.List.Elements.{filter_map-append}
use Rattle.grammar_tree.specs.GrammarView.{rule_of}
use Rattle.grammar_names.proofs.Lent.{mapped_more}
use Rattle.grammar_check_parser_rules.specs.inner.Rules.{body_of}
use Rattle.grammar_check_parser_rules.proofs.bodies.parser_bodies.Goals as goal

pub loop-rule-preserved : goal.loop-rule-preserved
loop-rule-preserved c =
    let i = c.loop-rule.rule-index in
    let rules = c.args.rules.now in
    let more = mapped_more rule_of rules i c.rule-item.result (omega arith) c.rule-item.is in
    c.in_ok-add_body.ensures
    ∙ ap (λ l. l ++ filter_map body_of (rule_of c.rule-item.result ∷ [])) c.loop-rule.invariant
    ∙ sym (filter_map-append body_of (map rule_of (take i rules)) (rule_of c.rule-item.result ∷ []))
    ∙ ap (filter_map body_of) (sym more)
