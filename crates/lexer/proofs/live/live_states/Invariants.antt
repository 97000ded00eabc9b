use Rattle.std.proofs.Common.{◌≡◌, length}
use Rattle.lexer.proofs.LiveStates.{AreLiveBelow}
use Rattle.lexer.proofs.live.live_states.Given as goal

abbrev pub invariant-loop-state : goal.invariant-loop-state
invariant-loop-state l = record {
  len : length l.live.items ≡ l.state-index;
  live : AreLiveBelow l.nfa l.state-index l.live.items;
}
