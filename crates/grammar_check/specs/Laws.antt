-- What follows from the table of faults.
use Rattle.std.specs.Prelude.{◌≡◌, ℕ, List, Option, Some}
use Rattle.grammar_tree.specs.Faults.{IsWellFormed, start_of}
use Rattle.grammar_tree.specs.Written.{WrittenGrammar}
use Rattle.grammar_check.specs.CheckFaults.{HoldsAt, IsFirstInTable}
use Rattle.grammar_check.specs.declared.fault.CheckFault.{CheckFault}

-- No fault holds of a grammar that is well-formed for its start.
abbrev pub WellFormedHasNoFault : Type 0
WellFormedHasNoFault = (G : WrittenGrammar) (wanted : Option (List ℕ)) (start : ℕ) → start_of G wanted ≡ Some start → IsWellFormed G start →
    (it : CheckFault) (i : ℕ) → ¬ HoldsAt G wanted i it

-- A grammar of which no fault holds has its start, and is well-formed for it.
abbrev pub NoFaultIsWellFormed : Type 0
NoFaultIsWellFormed = (G : WrittenGrammar) (wanted : Option (List ℕ)) → ((it : CheckFault) (i : ℕ) → ¬ HoldsAt G wanted i it) →
    (start : ℕ) × (start_of G wanted ≡ Some start) × IsWellFormed G start

-- A grammar has one first fault at most.
abbrev pub FirstFaultOnce : Type 0
FirstFaultOnce =
    (G : WrittenGrammar) (wanted : Option (List ℕ)) (one other : CheckFault) → IsFirstInTable G wanted one → IsFirstInTable G wanted other → one ≡ other
