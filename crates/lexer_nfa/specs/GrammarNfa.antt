-- The alternatives of the kinds of a grammar, as an NFA has them.
use Rattle.std.specs.Prelude.{◌↔◌, ℕ, List}
use Rattle.grammar_tree.specs.Written.{WrittenGrammar}
use Rattle.grammar_tree.specs.Lexes.{KindMatches}
use Rattle.lexer_match.specs.declared.nfa.State.{State}
use Rattle.lexer_match.specs.declared.alternative.Alternative.{Alternative}
use Rattle.lexer_match.specs.Alternatives.{HasAlternative, IsNfa}
use Rattle.lexer_nfa.specs.Order.{NeverFall}

-- The alternatives match what the kinds of the grammar do, and are in the order of their kinds.
pub record IsNfaOf (G : WrittenGrammar) (P : List State) (alternatives : List Alternative) : Type 0 where
  pub nfa : IsNfa P alternatives
  pub exact : (k : ℕ) (w : List ℕ) → HasAlternative P alternatives k w ↔ KindMatches G k w
  pub order : NeverFall (λ (a : Alternative). a.kind) alternatives
