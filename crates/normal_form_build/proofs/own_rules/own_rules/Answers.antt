use Rattle.std.proofs.Common.{◌≡◌, ◌+◌, ◌∷◌, ◌++◌, drop, arith, ap}
use Rattle.grammar_tree.specs.Derives.{resolved_alts}
use Rattle.normal_form_build.specs.inner.OwnRules.{own_rules_from}
use Rattle.normal_form_build.specs.inner.ParserRules.{bodies_of, parser_rule}
use Rattle.normal_form_build.proofs.GroupSteps.{bodies_end, body_taken, count_more, group_fits, own_rules_end, own_rules_more}
use Rattle.normal_form_build.proofs.own_rules.own_rules.Goals as goal

pub loop-number-init : goal.loop-number-init
loop-number-init c =
    record {
      total = omega arith;
      own_rules = ap (λ l. l ++ own_rules_from 0 0 (bodies_of c.args.names.now c.args.rules.now)) c.new-own_rules.ensures.items;
    }

pub group_size-requires : goal.group_size-requires
group_size-requires c =
    let G = c.args.names.now in
    let rules = c.args.rules.now in
    let i = c.loop-number.number in
    let r = c.index-rules-number.result in
    let fits =
    group_fits i c.loop-number.next (resolved_alts G (parser_rule r).alts) (bodies_of G (drop i rules)) (bodies_of G (drop (i + 1) rules))
    (body_taken G rules i r c.loop-number-test.true c.index-rules-number.is) _ c.loop-number.invariant.total c.requires.few in
    omega (arith, fits)

pub overflow_cast-next : goal.overflow_cast-next
overflow_cast-next c =
    let G = c.args.names.now in
    let rules = c.args.rules.now in
    let i = c.loop-number.number in
    let r = c.index-rules-number.result in
    let fits = group_fits i c.loop-number.next (resolved_alts G (parser_rule r).alts) (bodies_of G (drop i rules)) (bodies_of G (drop (i + 1) rules))
    (body_taken G rules i r c.loop-number-test.true c.index-rules-number.is) _ c.loop-number.invariant.total c.requires.few in
    omega (arith, c.group_size.ensures, fits)

pub overflow_add-next : goal.overflow_add-next
overflow_add-next c =
    let G = c.args.names.now in
    let rules = c.args.rules.now in
    let i = c.loop-number.number in
    let r = c.index-rules-number.result in
    let fits = group_fits i c.loop-number.next (resolved_alts G (parser_rule r).alts) (bodies_of G (drop i rules))
    (bodies_of G (drop (i + 1) rules)) (body_taken G rules i r c.loop-number-test.true c.index-rules-number.is) _ c.loop-number.invariant.total
    c.requires.few in
    omega (arith, c.group_size.ensures, fits)

pub loop-number-preserved : goal.loop-number-preserved
loop-number-preserved c =
    let G = c.args.names.now in
    let rules = c.args.rules.now in
    let i = c.loop-number.number in
    let n = c.loop-number.next in
    let r = c.index-rules-number.result in
    let a = resolved_alts G (parser_rule r).alts in
    let all = bodies_of G (drop i rules) in
    let rest = bodies_of G (drop (i + 1) rules) in
    let taken : all ≡ a ∷ rest = body_taken G rules i r c.loop-number-test.true c.index-rules-number.is in
    let counted = ap (λ s. n + s) c.group_size.ensures in
    record {
      total = count_more i n a all rest taken _ counted _ c.loop-number.invariant.total;
      own_rules =
          own_rules_more i n a all rest taken _ counted c.loop-number.own_rules.items c.push.new.self.items _ c.in_ok-push.ensures.items
          c.loop-number.invariant.own_rules;
    }

pub returns : goal.returns
returns c =
    let i = c.loop-number.number in
    own_rules_end i c.loop-number.next (bodies_of c.args.names.now (drop i c.args.rules.now))
    (bodies_end c.args.names.now c.args.rules.now i c.loop-number-test.false) c.loop-number.own_rules.items _ c.loop-number.invariant.own_rules
