use Rattle.std.proofs.Common.{◌≡◌, length, map, List, take, arith, sym, subst}
use Rattle.std.specs.Prelude.{position}
use Rattle.grammar_tree.specs.Written.{ParserRule, WrittenRule}
use Rattle.grammar_tree.specs.GrammarView.{rule_of}
use Rattle.grammar_tree.specs.Kinds.{parser_rules, same_text}
use Rattle.grammar_names.specs.Index.{Finds}
use Rattle.grammar_names.proofs.Places.{mapped_more, rules_push, number_push, next-le}
use Rattle.grammar_names.proofs.names.rule_index.Goals as goal

pub loop-rule-preserved : goal.loop-rule-preserved
loop-rule-preserved c =
    let rules = map rule_of (take c.loop-rule.rule-index c.args.rules.now) in
    let rule = rule_of c.rule-item.result in
    let more = mapped_more rule_of c.args.rules.now c.loop-rule.rule-index c.rule-item.result c.loop-rule-test.true c.rule-item.is in
    let next = c.in_ok-number.ensures.next in
    let number = number_push rules rule c.loop-rule.number c.loop-rule.invariant.number in
    let finds =
    rules_push c.loop-rule.index c.add_rule.new.index rules rule c.loop-rule.number c.loop-rule.invariant.number c.loop-rule.invariant.finds
    c.in_ok-number.ensures.added in
    let P : List WrittenRule → Type 0 = λ l. c.in_ok-number.number ≡ length (parser_rules l) in
    let Q : List WrittenRule → Type 0 = λ l. Finds c.add_rule.new.index (λ n. position (λ (r : ParserRule). same_text r.name n) (parser_rules l)) in
    record {
      number = subst P (sym more) (omega (arith, next, number));
      room = omega (arith, next, next-le rule c.loop-rule.number, c.loop-rule.invariant.room);
      finds = subst Q (sym more) finds;
    }
