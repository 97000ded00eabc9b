use Rattle.std.proofs.Common.{◌≡◌, map, length, vec_len}
use Rattle.lexer.proofs.LiveStates.{AreAllSources}
use Rattle.lexer.proofs.live.all_sources.Given as goal

abbrev pub invariant-loop-number : goal.invariant-loop-number
invariant-loop-number l = record {
  len : vec_len l.rows ≡ length l.nfa;
  edges : AreAllSources l.nfa (map (λ row. row.items) l.rows.items) l.number;
}
