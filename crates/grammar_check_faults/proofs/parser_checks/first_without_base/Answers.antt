use Rattle.std.proofs.Common.{Bor, List, sym, ◌∙◌, arith}
use Rattle.grammar_tree.specs.Derives.{bodies}
use Rattle.grammar_tree.specs.View.{parser_alts}
use Rattle.grammar_tree.specs.Written.{WrittenTerm}
use Rattle.grammar_tree.specs.declared.parser_term.ParserAlts.{ParserAlts}
use Rattle.grammar_check_faults.specs.inner.ParserFaults.{HasNoBaseAt}
use Rattle.grammar_check_parser_rules.proofs.Lent.{body_at, body_within}
use Rattle.grammar_check_faults.proofs.FirstForms.{base_missing, base_there, not_here, nowhere}
use Rattle.grammar_check_faults.proofs.parser_checks.first_without_base.Goals as goal

abbrev view : Bor ParserAlts → List (List WrittenTerm)
view a = parser_alts a.now

pub returns-then-not-has_base : goal.returns-then-not-has_base
returns-then-not-has_base c =
    let G = c.args.names.now in
    let body =
    body_at view G c.args.rules.now c.requires.bodies c.loop-number.number c.index-rules-number.result c.loop-number-test.true c.index-rules-number.is in
    record { holds = base_missing (bodies G) c.loop-number.number _ body (sym c.has_base.ensures ∙ c.if-not-has_base.true); before = c.loop-number.invariant }

pub loop-number-preserved : goal.loop-number-preserved
loop-number-preserved c =
    let G = c.args.names.now in
    let body = body_at view G c.args.rules.now c.requires.bodies c.loop-number.number c.index-rules-number.result c.loop-number-test.true
    c.index-rules-number.is in
    not_here (HasNoBaseAt (bodies G)) c.loop-number.number c.loop-number.invariant
    (base_there (bodies G) c.loop-number.number _ body (sym c.has_base.ensures ∙ c.if-not-has_base.false))

pub returns : goal.returns
returns c =
    let G = c.args.names.now in
    nowhere (HasNoBaseAt (bodies G)) c.loop-number.number c.loop-number.invariant
    (λ r h. omega (arith, body_within view G c.args.rules.now c.requires.bodies r h.0 h.1))
