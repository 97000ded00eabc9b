use Rattle.std.proofs.Common.{map, refl}
use Rattle.grammar_tree.specs.GrammarView.{rule_of}
use Rattle.lexer_match.specs.declared.nfa.State.{State}
use Rattle.lexer_nfa.proofs.Expanded.{expanded_call, state_is}
use Rattle.lexer_nfa.proofs.compile.expand.Goals as goal

pub add_rule-requires-clause-next : goal.add_rule-requires-clause-next
add_rule-requires-clause-next c =
    c.requires.closed c.args.number (State.Call c.in-Call.rule c.in-Call.next)
    (state_is c.args.states.now.items c.args.number c.index.result.now
    (State.Call c.in-Call.rule c.in-Call.next) c.requires.number c.index.ensures c.in-Call.is)

pub returns : goal.returns
returns c =
    expanded_call (map rule_of c.args.names.now.rules.now) c.args.states.now.items c.add_rule.new.states.items c.args.number c.in-Call.rule c.in_ok-entry.entry
    c.in-Call.next
    (state_is c.args.states.now.items c.args.number c.index.result.now
    (State.Call c.in-Call.rule c.in-Call.next) c.requires.number c.index.ensures c.in-Call.is) c.requires.some c.in_ok-entry.ensures _ refl
