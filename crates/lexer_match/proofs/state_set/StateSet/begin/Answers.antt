use Rattle.lexer_match.proofs.Steps.{both_ways, one_reads}
use Rattle.lexer_match.proofs.state_set.StateSet.begin.Goals as goal

pub returns-clause-reads : goal.returns-clause-reads
returns-clause-reads c w =
    both_ways (c.in_ok-follow.ensures.same w)
    (one_reads c.args.nfa.now c.clear.new.self.states.items c.add.new.self.states.items c.args.state w c.clear.ensures.none c.in_ok-add.ensures.members)
