use Rattle.std.proofs.Common.{Bor, List, map, arith}
use Rattle.std.proofs.lemmas.List.{length-map}
use Rattle.grammar_tree.specs.View.{parser_alts}
use Rattle.grammar_tree.specs.Written.{WrittenTerm}
use Rattle.grammar_tree.specs.declared.parser_term.ParserAlts.{ParserAlts}
use Rattle.grammar_check_parser_rules.proofs.EmptyRules.{are_empty}
use Rattle.grammar_check_parser_rules.proofs.empty_rules.empty_bodies.Goals as goal

abbrev view : Bor ParserAlts → List (List WrittenTerm)
view a = parser_alts a.now

pub returns : goal.returns
returns c =
    let alts = map view c.args.rules.now in
    are_empty c.args.names.now alts c.requires.bodies c.in_ok-flags.flags.items
    (λ n lt. c.in_ok-flags.ensures.closed n (omega (arith, lt, length-map c.args.rules.now view)))
    c.in_ok-flags.ensures.marked
