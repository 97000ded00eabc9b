use Rattle.std.proofs.Common.{arith}
use Rattle.lexer_match.proofs.StateSets.{popped_inside}
use Rattle.lexer_match.proofs.state_set.StateSet.clear.Goals as goal

pub index_mut-requires : goal.index_mut-requires
index_mut-requires c =
    popped_inside c.args.self.now.states.items c.loop-state.self.states.items c.pop.new.self.items c.args.self.now.marks.items c.in-Some.state _
    c.requires.marked c.loop-state.invariant.inside c.in-Some.ensures.items
    (omega (arith, c.loop-state.self.marks.ok.0, c.loop-state.invariant.size))
