use Rattle.std.proofs.Common.{◌≡◌, ◌+◌, ◌∷◌, ◌++◌, map, drop, vec_len, arith, ap, ◌∙◌}
use Rattle.grammar_tree.specs.Derives.{bodies, resolved_alts}
use Rattle.normal_form.specs.NormalOf.{numbering}
use Rattle.normal_form.specs.Numbering.{groups}
use Rattle.normal_form.specs.View.{rule_form}
use Rattle.normal_form_build.specs.inner.ParserRules.{bodies_of, parser_rule}
use Rattle.normal_form_build.proofs.GroupSteps.{bodies_end, body_taken, count_more, group_fits, groups_end, groups_more}
use Rattle.normal_form_build.proofs.from_grammar.all_rules.Goals as goal

pub loop-number-init : goal.loop-number-init
loop-number-init c =
    let M = numbering (bodies c.args.numbers.now) in
    let all = bodies_of c.args.numbers.now c.args.rules.now in
    let empty : vec_len c.new-made.result ≡ 0 = omega (arith, c.new-made.ensures.len) in
    record {
      total = omega (arith, empty);
      made = ap (λ l. map rule_form l ++ groups M (vec_len c.new-made.result) 0 all) c.new-made.ensures.items ∙ ap (λ k. groups M k 0 all) empty;
    }

pub push_group-requires : goal.push_group-requires
push_group-requires c =
    let G = c.args.numbers.now in
    let rules = c.args.rules.now in
    let i = c.loop-number.number in
    let r = c.index-rules-number.result in
    group_fits i (vec_len c.loop-number.made) (resolved_alts G (parser_rule r).alts) (bodies_of G (drop i rules)) (bodies_of G (drop (i + 1) rules))
    (body_taken G rules i r c.loop-number-test.true c.index-rules-number.is) _ c.loop-number.invariant.total c.requires.few

pub loop-number-preserved : goal.loop-number-preserved
loop-number-preserved c =
    let G = c.args.numbers.now in
    let rules = c.args.rules.now in
    let i = c.loop-number.number in
    let n = vec_len c.loop-number.made in
    let k = vec_len c.push_group.new.rules in
    let r = c.index-rules-number.result in
    let a = resolved_alts G (parser_rule r).alts in
    let all = bodies_of G (drop i rules) in
    let rest = bodies_of G (drop (i + 1) rules) in
    let taken : all ≡ a ∷ rest = body_taken G rules i r c.loop-number-test.true c.index-rules-number.is in
    let counted = c.in_ok-push_group.ensures.len in
    record {
      total = count_more i n a all rest taken k counted _ c.loop-number.invariant.total;
      made =
          groups_more i n a all rest taken k counted (numbering (bodies G)) (map rule_form c.loop-number.made.items)
          (map rule_form c.push_group.new.rules.items) _ c.in_ok-push_group.ensures.rules c.loop-number.invariant.made;
    }

pub returns : goal.returns
returns c =
    let i = c.loop-number.number in
    let G = c.args.numbers.now in
    groups_end i (vec_len c.loop-number.made) (bodies_of G (drop i c.args.rules.now)) (bodies_end G c.args.rules.now i c.loop-number-test.false)
    (numbering (bodies G)) (map rule_form c.loop-number.made.items) _ c.loop-number.invariant.made
