-- Which well-formed grammar two texts give, and which fault of theirs is the first.
use Rattle.std.specs.Prelude.{◌≡◌, ◌≢◌, ⊤, ℕ, List, Option, Some}
use Rattle.faults.specs.Memory.{ran_out}
use Rattle.grammar_tree.specs.Checked.{IsChecked}
use Rattle.grammar_tree.specs.Faults.{start_of}
use Rattle.grammar_tree.specs.Written.{CheckedGrammar, WrittenGrammar}
use Rattle.grammar_check.specs.CheckFaults.{IsFirstInTable}
use Rattle.grammar_pair.specs.Joined.{IsJoined, IsPairFault}
use Rattle.grammar_pair.specs.declared.fault.PairFault.TheVariants as pair
use Rattle.grammar_load.specs.declared.pair_fault.PairGrammarFault.{PairGrammarFault}
use Rattle.grammar_load.specs.declared.pair_fault.PairGrammarFault.TheVariants.{Pair, Check, Memory}

-- The lexer text and the parser text give this grammar, which is well-formed for its start, the wanted one, and has its kinds.
pub record SpellsPair (lexer parser : List ℕ) (wanted : Option (List ℕ)) (it : CheckedGrammar) : Type 0 where
  pub text : IsJoined lexer parser it.grammar
  pub start : start_of it.grammar wanted ≡ Some it.start
  pub checked : IsChecked it

-- They give this grammar, and no other.
pub record JoinsOnly (lexer parser : List ℕ) (G : WrittenGrammar) : Type 0 where
  pub text : IsJoined lexer parser G
  pub only : (other : WrittenGrammar) → IsJoined lexer parser other → G ≡ other

-- The first fault of the two texts: that of the pair, or else, of the one grammar that
-- they give, the first one in the table. Out of memory says nothing of them.
abbrev pub IsPairGrammarFault : List ℕ → List ℕ → Option (List ℕ) → PairGrammarFault → Type 0
IsPairGrammarFault lexer parser wanted (Pair fault) = (fault ≢ pair.Memory ran_out) × IsPairFault lexer parser fault
IsPairGrammarFault lexer parser wanted (Check fault) = (G : WrittenGrammar) × JoinsOnly lexer parser G × IsFirstInTable G wanted fault
IsPairGrammarFault lexer parser wanted (Memory _) = ⊤
