-- Beside `../CheckFaults.antt`: what private functions and proofs need.
use Rattle.std.specs.Prelude.{◌≡◌, ◌<◌, ℕ, List, Option, Some, None}
use Rattle.grammar_tree.specs.Faults as fault
use Rattle.grammar_tree.specs.Written.{WrittenGrammar}
use Rattle.grammar_check_nodes.specs.First.{IsFirstOrNone}
use Rattle.grammar_check_faults.specs.LexerFaults.{LexerLoopAt}
use Rattle.grammar_check.specs.declared.fault.Answer.{Answer}
use Rattle.grammar_check.specs.declared.fault.Answer.TheVariants.{Broken, Fine}
use Rattle.grammar_check.specs.declared.fault.CheckFault.{CheckFault}
use Rattle.grammar_check.specs.declared.lexer_fault.LexerAnswer.{LexerAnswer}
use Rattle.grammar_check.specs.declared.lexer_fault.LexerAnswer.TheVariants.{Faulty, Sound}
use Rattle.grammar_check.specs.CheckFaults.{row, HoldsAt, IsFirstInTable}

-- No fault holds of a row before this one.
abbrev pub HasNoneBefore : WrittenGrammar → Option (List ℕ) → ℕ → Type 0
HasNoneBefore G wanted k = (other : CheckFault) (i : ℕ) → row other < k → ¬ HoldsAt G wanted i other

-- of the rows of the lexer: its first fault; or that it has none, and the first empty loop of a lexer rule
abbrev pub IsLexerAnswer : WrittenGrammar → Option (List ℕ) → LexerAnswer → Type 0
IsLexerAnswer G wanted (Faulty it) = IsFirstInTable G wanted it
IsLexerAnswer G wanted (Sound index) = HasNoneBefore G wanted 8 × IsFirstOrNone (LexerLoopAt G) index

-- the first fault in the table; or, where there is no fault, that none holds of a row before this one
abbrev pub IsFirstBefore : WrittenGrammar → Option (List ℕ) → ℕ → Option CheckFault → Type 0
IsFirstBefore G wanted k None = HasNoneBefore G wanted k
IsFirstBefore G wanted k (Some it) = IsFirstInTable G wanted it

-- the fault that the grammar has first; or the index of its start, where it is well-formed
abbrev pub IsAnswer : WrittenGrammar → Option (List ℕ) → Answer → Type 0
IsAnswer G wanted (Broken it) = IsFirstInTable G wanted it
IsAnswer G wanted (Fine start) = fault.IsWellFormed G start × (fault.start_of G wanted ≡ Some start)
