use Rattle.std.proofs.Common.{Option, Some, None, subst}
use Rattle.grammar_tree.specs.Faults.{EmptyToken}
use Rattle.grammar_tree.specs.GrammarView.{grammar_of}
use Rattle.grammar_check.specs.inner.CheckFaults.{IsFirstBefore}
use Rattle.grammar_check.specs.declared.fault.CheckFault.{CheckFault}
use Rattle.grammar_check_faults.proofs.Lent.{named_first, with_name, tokens_are_rules}
use Rattle.grammar_check.proofs.CheckForms.{before_bases, empty_token}
use Rattle.grammar_check.proofs.lexer_fault.lexer_fault.Goals as goal

pub returns-in-Some : goal.returns-in-Some
returns-in-Some c = λ wanted none.
    let First : Option CheckFault → Type 0 = λ o. IsFirstBefore (grammar_of c.args.grammar.now) wanted 7 o in
    subst First c.in-Some.is (c.in_ok-fault.ensures wanted none)

pub returns-in-Some-2 : goal.returns-in-Some-2
returns-in-Some-2 c = λ wanted none.
    let G = grammar_of c.args.grammar.now in
    let First : Option CheckFault → Type 0 = λ o. IsFirstBefore G wanted 7 o in
    let uses = subst First c.in_default.is (c.in_ok-fault.ensures wanted none) in
    let token =
    named_first G (EmptyToken G) (tokens_are_rules G) c.first_empty_token-token.result c.in_ok-rule.field-0 c.in_ok-rule.ensures
    c.first_empty_token-token.ensures in
    empty_token G wanted c.in-Some-2.rule uses (with_name G (EmptyToken G) c.in_ok-rule.field-0 (Some c.in-Some-2.rule) c.in-Some-2.is token)

pub returns : goal.returns
returns c = λ wanted none.
    let G = grammar_of c.args.grammar.now in
    let First : Option CheckFault → Type 0 = λ o. IsFirstBefore G wanted 7 o in
    let uses = subst First c.in_default.is (c.in_ok-fault.ensures wanted none) in
    let token = named_first G (EmptyToken G)
    (tokens_are_rules G) c.first_empty_token-token.result c.in_ok-rule.field-0 c.in_ok-rule.ensures c.first_empty_token-token.ensures in
    (before_bases G wanted uses (with_name G (EmptyToken G) c.in_ok-rule.field-0 None c.in_default-2.is token), c.first_lexer_loop.ensures)
