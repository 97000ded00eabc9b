use Rattle.std.proofs.Common.{map, arith}
use Rattle.grammar_tree.specs.GrammarView.{rule_of}
use Rattle.grammar_tree.specs.View.{lex_alts}
use Rattle.grammar_tree.specs.Written.{lexer_alts}
use Rattle.lexer_nfa.proofs.Compiled.{found_no_loop, no_rule_all, rule_all}
use Rattle.lexer_nfa.proofs.compile.add_rule.Goals as goal

pub add_alts-requires-clause-no_loop : goal.add_alts-requires-clause-no_loop
add_alts-requires-clause-no_loop c =
    found_no_loop (map rule_of c.args.names.now.rules.now) c.args.rule
    (lexer_alts (lex_alts c.in-Some.alts.now)) c.args.names.now.no_loops c.in-Some.ensures.found

pub returns-in_ok-entry-in-Some : goal.returns-in_ok-entry-in-Some
returns-in_ok-entry-in-Some c =
    rule_all c.args.rule (lexer_alts (lex_alts c.in-Some.alts.now)) c.args.states.now.items c.add_alts.new.states.items c.in_ok-entry-in-Some.entry c.args.next
    c.in-Some.ensures.found c.in_ok-entry-in-Some.ensures

pub returns-in_ok-entry-in-None : goal.returns-in_ok-entry-in-None
returns-in_ok-entry-in-None c =
    no_rule_all c.args.rule c.args.states.now.items c.add.new.states.items c.in_ok-entry-in-None.entry c.args.next c.in-None.ensures.missing c.requires.closed
    (omega (arith, c.requires.next)) c.in_ok-entry-in-None.ensures.added c.in_ok-entry-in-None.ensures.number
