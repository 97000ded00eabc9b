use Rattle.std.proofs.Common.{◌≡◌, length}
use Rattle.lexer_match.specs.inner.Subsets.{IsReadyFor}
use Rattle.lexer_match.specs.Table.{AreStarts}
use Rattle.lexer_match.proofs.subsets.Subsets.starts.Given as goal

abbrev pub invariant-loop-alternative : goal.invariant-loop-alternative
invariant-loop-alternative l = record {
  ready : IsReadyFor l.nfa l.self;
  size : length l.starts.items ≡ length l.nfa;
  starts : AreStarts l.nfa l.self.found.sets.items l.starts.items;
}
