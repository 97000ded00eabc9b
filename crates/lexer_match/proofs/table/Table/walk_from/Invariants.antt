use Rattle.std.proofs.Common.{◌≡◌, ◌+◌, List, length}
use Rattle.std.specs.Str.Iter.{chars_rest}
use Rattle.lexer_match.specs.declared.nfa.State.{State}
use Rattle.lexer_match.specs.Nfa.{Reads}
use Rattle.lexer_match.specs.Table.{IsReached, IsTable}
use Rattle.lexer_match.proofs.Walked.{IsWalked}
use Rattle.lexer_match.proofs.table.Table.walk_from.Given as goal

abbrev pub invariant-loop-rest : goal.invariant-loop-rest
invariant-loop-rest l = record {
  walked : (P : List State) → IsTable P l.self → IsReached P l.self.sets.items (Reads P l.alternative.start) l.fn.start
      → IsWalked P l.self.sets.items l.alternative l.text l.at (chars_rest l.rest) l.read l.longest;
  left : length l.text ≡ l.read + length (chars_rest l.rest);
}

abbrev pub decreases-loop-rest : goal.decreases-loop-rest
decreases-loop-rest l = length (chars_rest l.rest)
