use Rattle.std.proofs.Common.{map, arith}
use Rattle.grammar_tree.specs.GrammarView.{rule_of}
use Rattle.lexer_nfa.proofs.Expanded.{expanded_all, expanded_more, expanded_none}
use Rattle.lexer_nfa.proofs.compile.expand_all.Goals as goal

pub loop-number-init : goal.loop-number-init
loop-number-init c =
    record { from = omega arith; expanded = expanded_none (map rule_of c.args.names.now.rules.now) c.args.states.now.items c.args.first c.requires.closed }

pub loop-number-preserved : goal.loop-number-preserved
loop-number-preserved c =
    record {
      from = omega (arith, c.loop-number.invariant.from);
      expanded =
          expanded_more (map rule_of c.args.names.now.rules.now) c.args.states.now.items c.loop-number.states.items c.expand.new.states.items c.args.first
          c.loop-number.number c.requires.within c.loop-number.invariant.from (omega arith) c.loop-number.invariant.expanded c.in_ok-expand.ensures;
    }

pub returns : goal.returns
returns c =
    expanded_all (map rule_of c.args.names.now.rules.now) c.args.states.now.items c.loop-number.states.items c.args.first c.loop-number.number
    (omega arith) c.loop-number.invariant.expanded
