use Rattle.lexer_match.specs.declared.nfa.State.{State}
use Rattle.lexer_match.proofs.Found.{no_sets, starts_kept}
use Rattle.lexer_match.proofs.States.{get_within}
use Rattle.lexer_match.proofs.subsets.table_of.Goals as goal

pub starts-requires-clause-ready : goal.starts-requires-clause-ready
starts-requires-clause-ready c = record {
  size = c.in_ok-current.ensures.size;
  marked = c.in_ok-current.ensures.marked;
  sets = no_sets c.args.nfa.now c.new-found.result.sets.items c.new-found.ensures;
}

pub steps-requires-clause-some : goal.steps-requires-clause-some
steps-requires-clause-some c = get_within c.args.nfa.now State.Never 0 c.requires.nfa.ends

pub returns : goal.returns
returns c = record {
  steps = c.in_ok-steps.ensures.steps;
  starts =
      starts_kept c.args.nfa.now c.starts.new.self.found.sets.items c.steps.new.self.found.sets.items c.in_ok-starts.starts.items c.in_ok-steps.ensures.grown
      c.in_ok-starts.ensures.starts;
}
