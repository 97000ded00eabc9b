use Rattle.lexer_match.proofs.Steps.{both_ways, step_reads}
use Rattle.lexer_match.proofs.state_set.StateSet.step_from.Goals as goal

pub returns-clause-reads : goal.returns-clause-reads
returns-clause-reads c w =
    both_ways (c.in_ok-follow.ensures.same w)
    (step_reads c.args.nfa.now c.args.before.now c.add_after.new.self.states.items c.args.c w c.requires.before_followed c.in_ok-add_after.ensures.after)
