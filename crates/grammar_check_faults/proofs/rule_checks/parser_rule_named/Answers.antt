use Rattle.std.proofs.Common.{map, sym, ◌∙◌, arith}
use Rattle.std.proofs.lemmas.List.{length-map}
use Rattle.grammar_tree.specs.Faults.{is_parser_rule_named}
use Rattle.grammar_tree.specs.GrammarView.{rule_of}
use Rattle.grammar_check_faults.proofs.FoundFirst.{found_first, found_none, one_more}
use Rattle.grammar_check_faults.proofs.LexerChecks.{rule_at}
use Rattle.grammar_check_faults.proofs.rule_checks.parser_rule_named.Goals as goal

pub returns-then-is_parser_named : goal.returns-then-is_parser_named
returns-then-is_parser_named c =
    let rules = c.args.rules.now in
    let i = c.loop-index.index in
    sym (found_first (is_parser_rule_named c.args.wanted.now) (map rule_of rules) i _ c.loop-index.invariant
    (rule_at rules i c.index-rules-index.result c.loop-index-test.true c.index-rules-index.is) (sym c.is_parser_named.ensures ∙ c.if-is_parser_named.true))

pub loop-index-preserved : goal.loop-index-preserved
loop-index-preserved c =
    let rules = c.args.rules.now in
    let i = c.loop-index.index in
    one_more (is_parser_rule_named c.args.wanted.now) (map rule_of rules) i _ c.loop-index.invariant
    (rule_at rules i c.index-rules-index.result c.loop-index-test.true c.index-rules-index.is) (sym c.is_parser_named.ensures ∙ c.if-is_parser_named.false)

pub returns : goal.returns
returns c =
    let rules = c.args.rules.now in
    sym (found_none (is_parser_rule_named c.args.wanted.now) (map rule_of rules) c.loop-index.index c.loop-index.invariant
    (omega (arith, length-map rules rule_of)))
