use Rattle.std.proofs.Common.{◌↔◌, ℕ}
use Rattle.std.specs.Char.{IsScalar}
use Rattle.std.specs.List.{Contains}
use Rattle.lexer.specs.declared.gaps.Singles.{Singles}
use Rattle.lexer.specs.inner.Gaps.{HasSingle, SinglesNeverFall}
use Rattle.lexer.proofs.Singles.{IsBelowSome, SingleUpTo}
use Rattle.lexer.proofs.gaps.singles_of.Given as goal

abbrev pub invariant-loop-beginning : goal.invariant-loop-beginning
invariant-loop-beginning l = record {
  singles : (k c : ℕ) → IsScalar c → HasSingle l.singles.items k c ↔ SingleUpTo l.nfa l.beginnings l.beginning-index k c;
  never_fall : SinglesNeverFall l.singles.items;
  below : (s : Singles) → Contains l.singles.items s → IsBelowSome l.nfa l.beginnings l.beginning-index s.kind;
}
