use Rattle.lexer_match.specs.inner.Subsets.{HasStepsBefore, IsReadyFor, StartsWith}
use Rattle.lexer_match.specs.Table.{AreSteps}
use Rattle.lexer_match.proofs.subsets.Subsets.steps.Given as goal

abbrev pub invariant-loop-set : goal.invariant-loop-set
invariant-loop-set l = record {
  ready : IsReadyFor l.nfa l.self;
  grown : StartsWith l.self.found.sets.items l.initial.self.found.sets.items;
  steps : AreSteps l.nfa l.self.found.sets.items l.steps.items;
  before : HasStepsBefore l.set 0 l.steps.items;
}
