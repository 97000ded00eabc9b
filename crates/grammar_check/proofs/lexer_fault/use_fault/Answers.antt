use Rattle.std.proofs.Common.{Some, None}
use Rattle.grammar_tree.specs.Faults.{FragmentLoop, ShortUse}
use Rattle.grammar_tree.specs.GrammarView.{grammar_of}
use Rattle.grammar_check_faults.proofs.Lent.{named_first, shorts_are_rules, with_name}
use Rattle.grammar_check.proofs.CheckForms.{before_short_uses, before_tokens, fragment_loop, short_use}
use Rattle.grammar_check.proofs.lexer_fault.use_fault.Goals as goal

pub returns-in-Some : goal.returns-in-Some
returns-in-Some c = λ wanted none.
    let G = grammar_of c.args.grammar.now in
    fragment_loop G wanted c.in-Some.rule none (with_name G (FragmentLoop G) c.in_ok-rule.field-0 (Some c.in-Some.rule) c.in-Some.is c.in_ok-rule.ensures)

pub returns-in-Some-2 : goal.returns-in-Some-2
returns-in-Some-2 c = λ wanted none.
    let G = grammar_of c.args.grammar.now in
    let short = named_first G (ShortUse G) (shorts_are_rules G) c.in_ok-index.index c.in_ok-rule-2.field-0 c.in_ok-rule-2.ensures c.in_ok-index.ensures in
    let loops = before_short_uses G wanted none (with_name G (FragmentLoop G) c.in_ok-rule.field-0 None c.in_default.is c.in_ok-rule.ensures) in
    short_use G wanted c.in-Some-2.rule loops (with_name G (ShortUse G) c.in_ok-rule-2.field-0 (Some c.in-Some-2.rule) c.in-Some-2.is short)

pub returns : goal.returns
returns c = λ wanted none.
    let G = grammar_of c.args.grammar.now in
    let short = named_first G (ShortUse G) (shorts_are_rules G) c.in_ok-index.index c.in_ok-rule-2.field-0 c.in_ok-rule-2.ensures c.in_ok-index.ensures in
    let loops = before_short_uses G wanted none (with_name G (FragmentLoop G) c.in_ok-rule.field-0 None c.in_default.is c.in_ok-rule.ensures) in
    before_tokens G wanted loops (with_name G (ShortUse G) c.in_ok-rule-2.field-0 None c.in_default-2.is short)

pub first_short_use-requires-clause-no_loops : goal.first_short_use-requires-clause-no_loops
first_short_use-requires-clause-no_loops c =
    let G = grammar_of c.args.grammar.now in
    with_name G (FragmentLoop G) c.in_ok-rule.field-0 None c.in_default.is c.in_ok-rule.ensures
