use Rattle.std.proofs.Common.{◌+◌, ◌++◌, map, drop, arith, ap}
use Rattle.grammar_tree.specs.Corners.{normal_count_from}
use Rattle.grammar_tree.specs.Derives.{resolved_alts}
use Rattle.normal_form.specs.NormalOf.{names_from}
use Rattle.normal_form_build.specs.inner.ParserRules.{bodies_of, parser_rule}
use Rattle.normal_form_build.proofs.GroupSteps.{all_named, body_taken, name_taken, names_end, names_more, rest_few}
use Rattle.normal_form_build.proofs.rule_names.rule_names.Goals as goal

pub loop-number-init : goal.loop-number-init
loop-number-init c =
    record {
      total = c.requires.few;
      texts = ap (λ l. l ++ names_from c.args.names.now 0 (map parser_rule c.args.rules.now)) c.new-texts.ensures.items;
    }

pub group_size-size-requires : goal.group_size-size-requires
group_size-size-requires c =
    let taken = body_taken c.args.names.now c.args.rules.now c.loop-number.number c.index-rules-number.result c.loop-number-test.true c.index-rules-number.is in
    omega (arith, ap (normal_count_from c.loop-number.number) taken, c.loop-number.invariant.total)

pub loop-number-preserved : goal.loop-number-preserved
loop-number-preserved c =
    let G = c.args.names.now in
    let rules = c.args.rules.now in
    let i = c.loop-number.number in
    let r = c.index-rules-number.result in
    record {
      total =
          rest_few i (resolved_alts G (parser_rule r).alts) (bodies_of G (drop i rules)) (bodies_of G (drop (i + 1) rules))
          (body_taken G rules i r c.loop-number-test.true c.index-rules-number.is) c.loop-number.invariant.total;
      texts =
          names_more G i (parser_rule r) (map parser_rule (drop i rules)) (map parser_rule (drop (i + 1) rules))
          (name_taken rules i r c.loop-number-test.true c.index-rules-number.is) _ c.group_size-size.ensures
          c.loop-number.texts.items c.push_names.new.names.items _ c.in_ok-push_names.ensures c.loop-number.invariant.texts;
    }

pub returns : goal.returns
returns c =
    let i = c.loop-number.number in
    all_named c.args.names.now i (map parser_rule (drop i c.args.rules.now))
    (names_end c.args.rules.now i c.loop-number-test.false) c.loop-number.texts.items _ c.loop-number.invariant.texts
