use Rattle.std.proofs.Common.{arith}
use Rattle.std.proofs.lemmas.List.Elements.{Contains-get_or}
use Rattle.lexer.proofs.Listed.{unread_all, unread_more}
use Rattle.lexer.proofs.candidates.is_read.Goals as goal

pub reads-requires : goal.reads-requires
reads-requires c = record { inside = c.requires.inside _ (Contains-get_or c.args.states.now c.loop-state.state-index 0 (omega arith)) }

pub loop-state-preserved : goal.loop-state-preserved
loop-state-preserved c =
    unread_more c.args.nfa.now c.args.c c.args.states.now c.loop-state.state-index c.loop-state.invariant (c.reads.ensures.not c.if-reads.false)

pub returns : goal.returns
returns c = record { not = λ e. unread_all c.args.nfa.now c.args.c c.args.states.now c.loop-state.state-index (omega arith) c.loop-state.invariant }
