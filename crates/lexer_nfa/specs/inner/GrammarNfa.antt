-- Beside `../GrammarNfa.antt`: what private functions and proofs need.
use Rattle.std.specs.Prelude.{ℕ, List}
use Rattle.lexer_match.specs.declared.alternative.Alternative.{Alternative}
use Rattle.lexer_nfa.specs.inner.Order.{AreUpTo}

-- their kinds never fall, and none is above the last one
abbrev pub KindsAreUpTo : List Alternative → ℕ → Type 0
KindsAreUpTo alternatives last = AreUpTo (λ (a : Alternative). a.kind) alternatives last
