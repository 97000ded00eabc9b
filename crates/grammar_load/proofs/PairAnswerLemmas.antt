-- Two texts give one well-formed grammar at most, and none where their only grammar has a fault.
use Rattle.std.proofs.Common.{◌≡◌, ℕ, List, Option, Some, None, ap, sym, subst, ◌∙◌}
use Rattle.grammar_tree.specs.Checked.{IsChecked}
use Rattle.grammar_tree.specs.Faults.{IsWellFormed, start_of}
use Rattle.grammar_tree.specs.Kinds.{kinds_of}
use Rattle.grammar_tree.specs.Written.{CheckedGrammar, TokenKind, WrittenGrammar}
use Rattle.grammar_check.specs.CheckFaults.{IsFirstInTable}
use Rattle.grammar_check.specs.declared.fault.CheckFault.{CheckFault}
use Rattle.grammar_check.proofs.Lent.{well_formed_has_no_fault}
use Rattle.grammar_pair.specs.Joined.{IsJoined}
use Rattle.grammar_load.specs.PairAnswer.{SpellsPair}

abbrev checked_with : WrittenGrammar → List TokenKind → ℕ → CheckedGrammar
checked_with G kinds start = record { grammar = G; kinds = kinds; start = start }

abbrev number_or_0 : Option ℕ → ℕ
number_or_0 None = 0
number_or_0 (Some n) = n

module _ (lexer parser : List ℕ) (wanted : Option (List ℕ)) (G : WrittenGrammar)
    (only : (other : WrittenGrammar) → IsJoined lexer parser other → G ≡ other) where
  start_in : (it : CheckedGrammar) → SpellsPair lexer parser wanted it → start_of G wanted ≡ Some it.start
  start_in it is = let P : WrittenGrammar → Type 0 = λ g. start_of g wanted ≡ Some it.start in subst P (sym (only it.grammar is.text)) is.start

  -- a grammar with a fault is not given as a well-formed one
  pub no_text : (fault : CheckFault) → IsFirstInTable G wanted fault → (it : CheckedGrammar) → ¬ SpellsPair lexer parser wanted it
  no_text fault first it is =
      let P : WrittenGrammar → Type 0 = λ g. IsWellFormed g it.start in
      let well = subst P (sym (only it.grammar is.text)) is.checked.well_formed in
      well_formed_has_no_fault G wanted it.start (start_in it is) well fault first.index first.holds

  -- a well-formed grammar that they give is the only one
  pub only_checked : (checked : CheckedGrammar) → checked.grammar ≡ G → start_of G wanted ≡ Some checked.start → IsChecked checked
      → (it : CheckedGrammar) → SpellsPair lexer parser wanted it → checked ≡ it
  only_checked checked own start is it spelled =
      let grammar : checked.grammar ≡ it.grammar = own ∙ only it.grammar spelled.text in
      let kinds : checked.kinds ≡ it.kinds = is.numbered ∙ ap kinds_of grammar ∙ sym spelled.checked.numbered in
      let starts : checked.start ≡ it.start = ap number_or_0 (sym start ∙ start_in it spelled) in
      ap (λ g. checked_with g checked.kinds checked.start) grammar ∙ ap (λ ks. checked_with it.grammar ks checked.start) kinds
      ∙ ap (checked_with it.grammar it.kinds) starts
