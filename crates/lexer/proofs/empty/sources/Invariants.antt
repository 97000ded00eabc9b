use Rattle.std.proofs.Common.{◌≡◌, map, length, vec_len}
use Rattle.lexer.proofs.EmptyTexts.{AreSources}
use Rattle.lexer.proofs.empty.sources.Given as goal

abbrev pub invariant-loop-number : goal.invariant-loop-number
invariant-loop-number l = record {
  len : vec_len l.rows ≡ length l.nfa;
  edges : AreSources l.nfa (map (λ row. row.items) l.rows.items) l.number;
}
