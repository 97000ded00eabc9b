use Rattle.std.proofs.Common.{◌≡◌, ◌<◌, ◌∷◌, ℕ, List, Some, map, slice_get}
use Rattle.std.specs.List.{Contains}
use Rattle.lexer.specs.declared.candidates.Beginning.{Beginning}
use Rattle.lexer_match.specs.declared.alternative.Alternative.{Alternative}
use Rattle.lexer_match.specs.Nfa.{Reads}
use Rattle.lexer.proofs.candidates.beginning_with.Given as goal

abbrev pub invariant-loop-beginning : goal.invariant-loop-beginning
invariant-loop-beginning l = record {
  among : (a : Alternative) → Contains l.list.items a → Contains (map (λ (b : Beginning). b.alternative) l.beginnings) a;
  complete : (k : ℕ) (a : Alternative) (w : List ℕ) → k < l.beginning-index → slice_get (map (λ (b : Beginning). b.alternative) l.beginnings) k ≡ Some a
      → Reads l.nfa a.start (l.c ∷ w) → Contains l.list.items a;
}
