use Rattle.std.proofs.Common.{◌≡◌, List, map, true, false, sym, ap, ◌∙◌, arith}
use Rattle.grammar_tree.specs.GrammarView.{grammar_of, rule_of}
use Rattle.grammar_tree.specs.Written.{WrittenRule}
use Rattle.grammar_tree.specs.declared.rule.Rule.{Rule}
use Rattle.grammar_check_nodes.specs.Flags.{flag}
use Rattle.grammar_check_lexer_rules.specs.Lexer.{lexer_index}
use Rattle.grammar_check_faults.specs.LexerFaults.{LexerLoopAt}
use Rattle.grammar_check_faults.specs.inner.LexerFaults.{is_looping_rule}
use Rattle.grammar_check_faults.proofs.FirstForms.{not_here, nowhere}
use Rattle.grammar_check_faults.proofs.LexerChecks.{loop_there, no_loop, index_within, rule_at}
use Rattle.grammar_check_faults.proofs.lexer_checks.first_lexer_loop.Goals as goal

pub returns-then-has_empty_loop : goal.returns-then-has_empty_loop
returns-then-has_empty_loop c =
    let G = grammar_of c.args.grammar.now in
    let rules = c.args.grammar.now.rules in
    let i = c.loop-index.index in
    let at = rule_at rules.items i c.index.result.now (omega (arith, rules.ok.0)) c.index.ensures in
    let test : is_looping_rule (lexer_index G.rules) (flag c.args.flags.now) (rule_of c.index.result.now) ≡ true =
    ap (λ (rs : List Rule). is_looping_rule (lexer_index (map rule_of rs)) (flag c.args.flags.now) (rule_of c.index.result.now)) (sym c.requires.names)
    ∙ sym c.has_empty_loop.ensures ∙ c.if-has_empty_loop.true in
    record { holds = loop_there G i (rule_of c.index.result.now) at c.args.flags.now c.requires.empty c.requires.one test; before = c.loop-index.invariant }

pub loop-index-preserved : goal.loop-index-preserved
loop-index-preserved c =
    let G = grammar_of c.args.grammar.now in
    let rules = c.args.grammar.now.rules in
    let i = c.loop-index.index in
    let at = rule_at rules.items i c.index.result.now (omega (arith, rules.ok.0)) c.index.ensures in
    let test : is_looping_rule (lexer_index G.rules) (flag c.args.flags.now) (rule_of c.index.result.now) ≡ false =
    ap (λ (rs : List Rule). is_looping_rule (lexer_index (map rule_of rs)) (flag c.args.flags.now) (rule_of c.index.result.now)) (sym c.requires.names)
    ∙ sym c.has_empty_loop.ensures ∙ c.if-has_empty_loop.false in
    not_here (LexerLoopAt G) i c.loop-index.invariant (no_loop G i (rule_of c.index.result.now) at c.args.flags.now c.requires.empty c.requires.one test)

pub returns : goal.returns
returns c =
    let rules = c.args.grammar.now.rules in
    nowhere (LexerLoopAt (grammar_of c.args.grammar.now)) c.loop-index.index c.loop-index.invariant
    (λ i h. omega (arith, index_within rules.items i (WrittenRule.lexer_rule h.0) h.1, rules.ok.0))
