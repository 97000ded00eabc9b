use Rattle.std.proofs.Common.{◌≡◌, true, false, sym, ap, ◌∙◌, arith}
use Rattle.grammar_tree.specs.Faults.{EmptyToken}
use Rattle.grammar_tree.specs.GrammarView.{grammar_of, rule_of}
use Rattle.grammar_tree.specs.Written.{WrittenRule}
use Rattle.grammar_check_nodes.specs.Flags.{flag}
use Rattle.grammar_check_faults.specs.inner.LexerFaults.{is_empty_token}
use Rattle.grammar_check_faults.proofs.FirstForms.{not_here, nowhere}
use Rattle.grammar_check_faults.proofs.LexerChecks.{empty_token, no_empty_token, index_within, rule_at}
use Rattle.grammar_check_faults.proofs.lexer_checks.first_empty_token.Goals as goal

pub returns-then-makes_empty_token : goal.returns-then-makes_empty_token
returns-then-makes_empty_token c =
    let G = grammar_of c.args.grammar.now in
    let rules = c.args.grammar.now.rules in
    let i = c.loop-index.index in
    let at = rule_at rules.items i c.index.result.now (omega (arith, rules.ok.0)) c.index.ensures in
    let test : is_empty_token (rule_of c.index.result.now) (flag c.args.flags.now i) ≡ true =
    ap (is_empty_token (rule_of c.index.result.now)) (sym c.is_flagged-empty.ensures) ∙ sym c.makes_empty_token.ensures ∙ c.if-makes_empty_token.true in
    record { holds = empty_token G i (rule_of c.index.result.now) at c.args.flags.now c.requires.empty test; before = c.loop-index.invariant }

pub loop-index-preserved : goal.loop-index-preserved
loop-index-preserved c =
    let G = grammar_of c.args.grammar.now in
    let rules = c.args.grammar.now.rules in
    let i = c.loop-index.index in
    let at = rule_at rules.items i c.index.result.now (omega (arith, rules.ok.0)) c.index.ensures in
    let test : is_empty_token (rule_of c.index.result.now) (flag c.args.flags.now i) ≡ false =
    ap (is_empty_token (rule_of c.index.result.now)) (sym c.is_flagged-empty.ensures) ∙ sym c.makes_empty_token.ensures ∙ c.if-makes_empty_token.false in
    not_here (EmptyToken G) i c.loop-index.invariant (no_empty_token G i (rule_of c.index.result.now) at c.args.flags.now c.requires.empty test)

pub returns : goal.returns
returns c =
    let rules = c.args.grammar.now.rules in
    nowhere (EmptyToken (grammar_of c.args.grammar.now)) c.loop-index.index c.loop-index.invariant
    (λ i h. omega (arith, index_within rules.items i (WrittenRule.lexer_rule h.0) h.1, rules.ok.0))
