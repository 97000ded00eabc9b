use Rattle.std.proofs.Common.{ℕ, Bor, List, arith}
use Rattle.grammar_tree.specs.Derives.{bodies}
use Rattle.grammar_tree.specs.Size.{alts_size}
use Rattle.grammar_tree.specs.View.{parser_alts}
use Rattle.grammar_tree.specs.Written.{WrittenTerm, written_alts}
use Rattle.grammar_tree.specs.declared.parser_term.ParserAlts.{ParserAlts}
use Rattle.grammar_check_parser_rules.proofs.CountForms.{next_fits, next_summed, one_counted}
use Rattle.grammar_check_parser_rules.proofs.EmptyRules.{body_at}
use Rattle.grammar_check_parser_rules.proofs.count.normal_count.Goals as goal

abbrev view : Bor ParserAlts → List (List WrittenTerm)
view a = parser_alts a.now

abbrev size : Bor ParserAlts → ℕ
size a = alts_size (written_alts (parser_alts a.now))

pub group_size-count-requires : goal.group_size-count-requires
group_size-count-requires c =
    let within = next_fits size c.args.rules.now c.loop-number.number c.index-rules-number.result c.loop-number-test.true c.index-rules-number.is in
    omega (arith, c.requires.small, within, c.groups_fit.ensures c.args.names.now c.loop-number.number (written_alts (view c.index-rules-number.result)))

pub loop-number-preserved : goal.loop-number-preserved
loop-number-preserved c =
    let G = c.args.names.now in
    let body =
    body_at view G c.args.rules.now c.requires.bodies c.loop-number.number c.index-rules-number.result c.loop-number-test.true c.index-rules-number.is in
    let one = one_counted (bodies G) c.loop-number.number _ body in
    let more = next_summed size c.args.rules.now c.loop-number.number c.index-rules-number.result c.loop-number-test.true c.index-rules-number.is in
    let fits = c.groups_fit.ensures G c.loop-number.number (written_alts (view c.index-rules-number.result)) in
    record {
      count = omega (arith, one, c.group_size-count.ensures, c.loop-number.invariant.count);
      small = omega (arith, more, c.group_size-count.ensures, fits, c.loop-number.invariant.small);
    }
