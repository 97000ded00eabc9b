-- The texts of faults, by their parts.
use Rattle.std.proofs.Common.{◌≡◌, ℕ, List, [], ◌∷◌, ◌++◌, codes, refl, append-nil}
use Rattle.std.specs.Prelude.{encode_utf8_all}
use Rattle.grammar_check.specs.Messages.{check_fault_text}
use Rattle.grammar_check.specs.inner.Messages.{no_start}
use Rattle.grammar_check.specs.declared.fault.CheckFault.TheVariants.{NoStart}

-- the text of a start rule that isn't there
pub no_start_then : (name : List ℕ) → no_start name ++ encode_utf8_all name ≡ check_fault_text (NoStart name)
no_start_then [] = append-nil (codes "no start")
no_start_then (c ∷ name) = refl
