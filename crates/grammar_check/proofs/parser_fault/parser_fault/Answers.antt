use Rattle.std.proofs.Common.{Some, None, length, ap, ◌∙◌, subst, arith}
use Rattle.std.proofs.lemmas.List.{length-map}
use Rattle.grammar_tree.specs.Corners.{normal_count}
use Rattle.grammar_tree.specs.Derives.{bodies}
use Rattle.grammar_tree.specs.Faults.{EmptyLoop, LeftRecursion, NoBase}
use Rattle.grammar_tree.specs.GrammarView.{grammar_of, rule_of}
use Rattle.grammar_tree.specs.Written.{WrittenGrammar}
use Rattle.grammar_tree.proofs.Lent.{counts_fit}
use Rattle.grammar_check_nodes.specs.First.{IsFirstOrNone}
use Rattle.grammar_check_faults.proofs.Lent.{baseless_are_rules, empty_loops_in_rules, named_first, recursive_are_rules, with_name}
use Rattle.grammar_check.proofs.CheckForms.{before_count, before_empty_loops, before_recursion, empty_loop, left_recursion, no_base}
use Rattle.grammar_check.proofs.parser_fault.parser_fault.Goals as goal

pub parser_indices-requires : goal.parser_indices-requires
parser_indices-requires c =
    let G = grammar_of c.args.grammar.now in
    omega (arith, c.requires.small, (counts_fit G).rules, length-map c.args.grammar.now.rules.items rule_of, ap length c.deref.ensures.value)

pub returns-in-Some : goal.returns-in-Some
returns-in-Some c = λ wanted none.
    let G = grammar_of c.args.grammar.now in
    let BaseAt : WrittenGrammar → Type 0 = λ g. IsFirstOrNone (NoBase g) c.index_without_base-base.result in
    let base =
    named_first G (NoBase G) (baseless_are_rules G) c.index_without_base-base.result c.in_ok-rule.field-0 c.in_ok-rule.ensures
    (subst BaseAt c.requires.names c.index_without_base-base.ensures) in
    no_base G wanted c.in-Some.rule none (with_name G (NoBase G) c.in_ok-rule.field-0 (Some c.in-Some.rule) c.in-Some.is base)

pub returns-in-Some-2 : goal.returns-in-Some-2
returns-in-Some-2 c = λ wanted none.
    let G = grammar_of c.args.grammar.now in
    let BaseAt : WrittenGrammar → Type 0 = λ g. IsFirstOrNone (NoBase g) c.index_without_base-base.result in
    let base = named_first G (NoBase G) (baseless_are_rules G) c.index_without_base-base.result c.in_ok-rule.field-0 c.in_ok-rule.ensures
    (subst BaseAt c.requires.names c.index_without_base-base.ensures) in
    let bases = before_empty_loops G wanted none (with_name G (NoBase G) c.in_ok-rule.field-0 None c.in_default.is base) in
    let loop =
    named_first G (EmptyLoop G) (empty_loops_in_rules G) c.first_empty_loop-empty.result c.in_ok-rule-2.field-0 c.in_ok-rule-2.ensures
    c.first_empty_loop-empty.ensures in
    empty_loop G wanted c.in-Some-2.rule bases (with_name G (EmptyLoop G) c.in_ok-rule-2.field-0 (Some c.in-Some-2.rule) c.in-Some-2.is loop)

pub returns-in-Some-3 : goal.returns-in-Some-3
returns-in-Some-3 c = λ wanted none.
    let G = grammar_of c.args.grammar.now in
    let BaseAt : WrittenGrammar → Type 0 = λ g. IsFirstOrNone (NoBase g) c.index_without_base-base.result in
    let base = named_first G (NoBase G) (baseless_are_rules G) c.index_without_base-base.result c.in_ok-rule.field-0
    c.in_ok-rule.ensures (subst BaseAt c.requires.names c.index_without_base-base.ensures) in
    let bases = before_empty_loops G wanted none (with_name G (NoBase G) c.in_ok-rule.field-0 None c.in_default.is base) in
    let loop = named_first G (EmptyLoop G) (empty_loops_in_rules G) c.first_empty_loop-empty.result c.in_ok-rule-2.field-0 c.in_ok-rule-2.ensures
    c.first_empty_loop-empty.ensures in
    let loops = before_recursion G wanted bases (with_name G (EmptyLoop G) c.in_ok-rule-2.field-0 None c.in_default-2.is loop) in
    let CornerAt : WrittenGrammar → Type 0 = λ g. IsFirstOrNone (LeftRecursion g) c.in_ok-corner.corner in
    let corner =
    named_first G (LeftRecursion G) (recursive_are_rules G) c.in_ok-corner.corner c.in_ok-rule-3.field-0 c.in_ok-rule-3.ensures
    (subst CornerAt c.requires.names c.in_ok-corner.ensures) in
    left_recursion G wanted c.in-Some-3.rule loops (with_name G (LeftRecursion G) c.in_ok-rule-3.field-0 (Some c.in-Some-3.rule) c.in-Some-3.is corner)

pub returns : goal.returns
returns c = λ wanted none.
    let G = grammar_of c.args.grammar.now in
    let BaseAt : WrittenGrammar → Type 0 = λ g. IsFirstOrNone (NoBase g) c.index_without_base-base.result in
    let base = named_first G (NoBase G) (baseless_are_rules G) c.index_without_base-base.result
    c.in_ok-rule.field-0 c.in_ok-rule.ensures (subst BaseAt c.requires.names c.index_without_base-base.ensures) in
    let bases = before_empty_loops G wanted none (with_name G (NoBase G) c.in_ok-rule.field-0 None c.in_default.is base) in
    let loop = named_first G (EmptyLoop G) (empty_loops_in_rules G) c.first_empty_loop-empty.result c.in_ok-rule-2.field-0
    c.in_ok-rule-2.ensures c.first_empty_loop-empty.ensures in
    let loops = before_recursion G wanted bases (with_name G (EmptyLoop G) c.in_ok-rule-2.field-0 None c.in_default-2.is loop) in
    let CornerAt : WrittenGrammar → Type 0 = λ g. IsFirstOrNone (LeftRecursion g) c.in_ok-corner.corner in
    let corner = named_first G (LeftRecursion G) (recursive_are_rules G) c.in_ok-corner.corner c.in_ok-rule-3.field-0 c.in_ok-rule-3.ensures
    (subst CornerAt c.requires.names c.in_ok-corner.ensures) in
    let corners = before_count G wanted loops (with_name G (LeftRecursion G) c.in_ok-rule-3.field-0 None c.in_default-3.is corner) in
    c.count_fault.ensures G wanted (c.normal_count.ensures ∙ ap (λ g. normal_count (bodies g)) c.requires.names) corners
