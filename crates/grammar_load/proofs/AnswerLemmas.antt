-- Bytes whose only grammar has a fault spell no well-formed one.
use Rattle.std.proofs.Common.{◌≡◌, ℕ, List, Option, Some, sym, subst}
use Rattle.grammar_tree.specs.Faults.{IsWellFormed, start_of}
use Rattle.grammar_tree.specs.Written.{CheckedGrammar, WrittenGrammar}
use Rattle.grammar_reader_notation.specs.Reads.{IsProfile}
use Rattle.grammar_check.specs.CheckFaults.{IsFirstInTable}
use Rattle.grammar_check.specs.declared.fault.CheckFault.{CheckFault}
use Rattle.grammar_check.proofs.Lent.{well_formed_has_no_fault}
use Rattle.grammar_load.specs.Answer.{Spells}

module _ (bytes : List ℕ) (wanted : Option (List ℕ)) (G : WrittenGrammar) (only : (other : WrittenGrammar) → IsProfile bytes other → G ≡ other) where
  start_in : (it : CheckedGrammar) → Spells bytes wanted it → start_of G wanted ≡ Some it.start
  start_in it is = let P : WrittenGrammar → Type 0 = λ g. start_of g wanted ≡ Some it.start in subst P (sym (only it.grammar is.text)) is.start

  -- a grammar with a fault is not spelled as a well-formed one
  pub no_text : (fault : CheckFault) → IsFirstInTable G wanted fault → (it : CheckedGrammar) → ¬ Spells bytes wanted it
  no_text fault first it is =
      let P : WrittenGrammar → Type 0 = λ g. IsWellFormed g it.start in
      let well = subst P (sym (only it.grammar is.text)) is.checked.well_formed in
      well_formed_has_no_fault G wanted it.start (start_in it is) well fault first.index first.holds
