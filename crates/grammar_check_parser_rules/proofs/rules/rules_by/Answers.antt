use Rattle.std.proofs.Common.{◌≡◌, List, length, map, take, length-take, sym, subst, arith}
use Rattle.std.proofs.lemmas.List.{length-map}
use Rattle.std.specs.Prelude.{position}
use Rattle.grammar_tree.specs.GrammarView.{rule_of}
use Rattle.grammar_tree.specs.Written.{WrittenRule}
use Rattle.grammar_names.specs.Index.{Finds}
use Rattle.grammar_names.proofs.Lent.{index_push, mapped_more}
use Rattle.grammar_check_parser_rules.specs.Rules.{has_key}
use Rattle.grammar_check_parser_rules.proofs.rules.rules_by.Goals as goal

pub loop-index-preserved : goal.loop-index-preserved
loop-index-preserved c =
    let rules = c.args.rules.now in
    let i = c.loop-index.index in
    let so_far = map rule_of (take i rules) in
    let many : i ≡ length so_far = omega (arith, c.loop-index-test.true, length-map (take i rules) rule_of, length-take i rules) in
    let P : List WrittenRule → Type 0 = λ l. Finds c.add_rule.new.found (λ t. position (has_key c.args.key t) l) in
    subst P (sym (mapped_more rule_of rules i c.index-rules-index.result c.loop-index-test.true c.index-rules-index.is))
    (index_push (has_key c.args.key) c.loop-index.found c.add_rule.new.found so_far
    (rule_of c.index-rules-index.result) i many c.loop-index.invariant c.in_ok-add_rule.ensures)
