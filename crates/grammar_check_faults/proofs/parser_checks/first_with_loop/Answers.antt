use Rattle.std.proofs.Common.{Bor, List, sym, ◌∙◌, arith}
use Rattle.grammar_tree.specs.Derives.{bodies}
use Rattle.grammar_tree.specs.View.{parser_alts}
use Rattle.grammar_tree.specs.Written.{WrittenTerm}
use Rattle.grammar_tree.specs.declared.parser_term.ParserAlts.{ParserAlts}
use Rattle.grammar_check_faults.specs.inner.ParserFaults.{HasLoopAt}
use Rattle.grammar_check_parser_rules.proofs.Lent.{body_at, body_within}
use Rattle.grammar_check_faults.proofs.FirstForms.{loop_there, no_loop, not_here, nowhere, rest_there}
use Rattle.grammar_check_faults.proofs.parser_checks.first_with_loop.Goals as goal

abbrev view : Bor ParserAlts → List (List WrittenTerm)
view a = parser_alts a.now

pub returns-then-alts_have_empty_loop : goal.returns-then-alts_have_empty_loop
returns-then-alts_have_empty_loop c =
    let G = c.args.names.now in
    let body =
    body_at view G c.args.rules.now c.requires.bodies c.loop-number.number c.index-rules-number.result c.loop-number-test.true c.index-rules-number.is in
    record {
      holds =
          loop_there (bodies G) c.loop-number.number _ body c.args.flags.now c.requires.empty
          (sym c.alts_have_empty_loop.ensures ∙ c.if-alts_have_empty_loop.true);
      before = c.loop-number.invariant;
    }

pub returns-then-some_rest_can_be_empty : goal.returns-then-some_rest_can_be_empty
returns-then-some_rest_can_be_empty c =
    let G = c.args.names.now in
    let body = body_at view G c.args.rules.now c.requires.bodies c.loop-number.number c.index-rules-number.result c.loop-number-test.true
    c.index-rules-number.is in
    record {
      holds =
          rest_there (bodies G) c.loop-number.number _ body c.args.flags.now c.requires.empty
          (sym c.some_rest_can_be_empty.ensures ∙ c.if-some_rest_can_be_empty.true);
      before = c.loop-number.invariant;
    }

pub loop-number-preserved : goal.loop-number-preserved
loop-number-preserved c =
    let G = c.args.names.now in
    let body = body_at view G c.args.rules.now c.requires.bodies c.loop-number.number c.index-rules-number.result
    c.loop-number-test.true c.index-rules-number.is in
    not_here (HasLoopAt (bodies G)) c.loop-number.number c.loop-number.invariant
    (no_loop (bodies G) c.loop-number.number _ body c.args.flags.now c.requires.empty (sym c.alts_have_empty_loop.ensures ∙ c.if-alts_have_empty_loop.false)
    (sym c.some_rest_can_be_empty.ensures ∙ c.if-some_rest_can_be_empty.false))

pub returns : goal.returns
returns c =
    let G = c.args.names.now in
    nowhere (HasLoopAt (bodies G)) c.loop-number.number c.loop-number.invariant
    (λ r h. omega (arith, body_within view G c.args.rules.now c.requires.bodies r h.0 h.1))
