use Rattle.std.proofs.Common.{map, arith}
use Rattle.std.proofs.lemmas.List.{length-map}
use Rattle.grammar_tree.specs.GrammarView.{rule_of}
use Rattle.grammar_check_lexer_rules.proofs.LexerFacts.{are_empty}
use Rattle.grammar_check_lexer_rules.proofs.lexer_tables.empty_lexer_rules.Goals as goal

pub returns : goal.returns
returns c =
    let rules = c.args.names.now.rules.now in
    are_empty (map rule_of rules) c.requires.one c.in_ok-flags.flags.items c.in_ok-flags.ensures.marked
    (λ i lt. c.in_ok-flags.ensures.closed i (omega (arith, lt, length-map rules rule_of)))
