use Rattle.std.proofs.Common.{List, [], arith}
use Rattle.grammar_tree.specs.Kinds.{lexer_rules}
use Rattle.grammar_tree.specs.Written.{WrittenRule}
use Rattle.lexer_match.specs.declared.nfa.State.{State}
use Rattle.lexer_nfa.proofs.Compiled.{grown, pushed_is_closed, short_all}
use Rattle.lexer_nfa.proofs.compile.add_short.Goals as goal

abbrev no_rules : List WrittenRule
no_rules = []

pub add_set-requires-clause-closed : goal.add_set-requires-clause-closed
add_set-requires-clause-closed c = pushed_is_closed c.args.states.now.items c.add.new.states.items State.Never c.requires.closed tt c.in_ok-again.ensures.added

pub close_loop-entry-requires : goal.close_loop-entry-requires
close_loop-entry-requires c = let a =
    c.in_ok-body.ensures no_rules in
    omega (arith, a.longer, grown c.args.states.now.items c.add.new.states.items State.Never c.in_ok-again.ensures.added, c.in_ok-again.ensures.number)

pub returns : goal.returns
returns c rules =
    short_all (lexer_rules rules) c.args.set.now c.args.states.now.items c.add.new.states.items c.add_set.new.states.items c.close_loop-entry.new.states.items
    c.in_ok-again.again c.close_loop-entry.result c.in_ok-body.body c.args.next
    c.requires.next c.in_ok-again.ensures.added c.in_ok-again.ensures.number
    (c.in_ok-body.ensures rules) c.close_loop-entry.ensures.closed c.close_loop-entry.ensures.again
