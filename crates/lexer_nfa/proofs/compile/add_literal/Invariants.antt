use Rattle.std.proofs.Common.{◌≡◌, List, ℕ, ◌++◌, length}
use Rattle.std.specs.Prelude.{encode_utf8_all}
use Rattle.std.specs.Str.Iter.{chars_rest}
use Rattle.grammar_tree.specs.Written.{WrittenRule}
use Rattle.lexer_nfa.specs.inner.Compile.{IsAdded}
use Rattle.lexer_nfa.proofs.compile.add_literal.Given as goal

abbrev pub invariant-loop-c : goal.invariant-loop-c
invariant-loop-c l =
    (cs : List ℕ) × (l.text ≡ chars_rest l.rest ++ encode_utf8_all cs)
    × ((rules : List WrittenRule) → IsAdded rules (λ w. w ≡ cs) l.initial.states.items l.states.items l.entry l.next)

abbrev pub decreases-loop-c : goal.decreases-loop-c
decreases-loop-c l = length (chars_rest l.rest)
