use Rattle.std.proofs.Common.{◌≡◌, ◌⊎◌, ◌↔◌, ℕ}
use Rattle.std.specs.Char.{IsScalar}
use Rattle.lexer.specs.inner.Gaps.{HasSingle, SinglesAreUpTo}
use Rattle.lexer.proofs.Singles.{LastUpTo}
use Rattle.lexer.proofs.gaps.add_alternative.Given as goal

abbrev pub invariant-loop-number : goal.invariant-loop-number
invariant-loop-number l = record {
  added : (k c : ℕ) → IsScalar c → HasSingle l.singles.items k c
      ↔ (HasSingle l.initial.singles.items k c ⊎ ((k ≡ l.alternative.kind) × LastUpTo l.nfa l.flags l.beginning.states.items l.number-index c));
  order : SinglesAreUpTo l.initial.singles.items l.alternative.kind → SinglesAreUpTo l.singles.items l.alternative.kind;
}
