use Rattle.std.proofs.Common.{List, map, subst, arith}
use Rattle.std.proofs.lemmas.List.{length-map}
use Rattle.std.specs.Prelude.{position}
use Rattle.grammar_tree.specs.GrammarView.{grammar_of, rule_of}
use Rattle.grammar_tree.specs.declared.rule.Rule.{Rule}
use Rattle.grammar_names.specs.Index.{Finds}
use Rattle.grammar_check_parser_rules.specs.Rules.{has_key}
use Rattle.grammar_check_parser_rules.specs.declared.rules.Key.TheVariants.{Name}
use Rattle.grammar_check_faults.proofs.LexerChecks.{rule_at}
use Rattle.grammar_check_faults.proofs.Twins.{first_is, no_twin, none_yet, one_more}
use Rattle.grammar_check_faults.proofs.rule_checks.first_twin.Goals as goal

pub loop-index-init : goal.loop-index-init
loop-index-init c =
    let rules = c.args.grammar.now.rules in
    none_yet (grammar_of c.args.grammar.now) _ (omega (arith, c.len-first.ensures, rules.ok.0, length-map rules.items rule_of))

pub loop-index-preserved : goal.loop-index-preserved
loop-index-preserved c =
    let G = grammar_of c.args.grammar.now in
    let rules = c.args.grammar.now.rules in
    let i = c.loop-index.index in
    let P : List Rule → Type 0 = λ rs. Finds c.in_ok-indices.indices (λ t. position (has_key Name t) (map rule_of rs)) in
    let finds = subst P c.deref.ensures.value c.in_ok-indices.ensures in
    let at = rule_at rules.items i c.index.result.now (omega (arith, rules.ok.0)) c.index.ensures in
    one_more G c.loop-index.first i (rule_of c.index.result.now) c.earliest-first.result c.loop-index.invariant at
    (c.earliest-first.ensures (λ t. position (has_key Name t) G.rules) finds)

pub returns-then-first-len : goal.returns-then-first-len
returns-then-first-len c =
    let rules = c.args.grammar.now.rules in
    first_is (grammar_of c.args.grammar.now) c.loop-index.first c.loop-index.index
    (omega (arith, rules.ok.0, length-map rules.items rule_of)) c.loop-index.invariant (omega (arith, rules.ok.0, length-map rules.items rule_of))

pub returns : goal.returns
returns c =
    let rules = c.args.grammar.now.rules in
    no_twin (grammar_of c.args.grammar.now) c.loop-index.first c.loop-index.index
    (omega (arith, rules.ok.0, length-map rules.items rule_of)) c.loop-index.invariant (omega (arith, rules.ok.0, length-map rules.items rule_of))
