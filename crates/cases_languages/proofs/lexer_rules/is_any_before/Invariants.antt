use Rattle.std.proofs.Common.{◌<◌, ℕ}
use Rattle.cases_languages.specs.Positions.{IsIn}
use Rattle.cases_languages.proofs.lexer_rules.is_any_before.Given as goal

abbrev pub invariant-loop-i : goal.invariant-loop-i
invariant-loop-i l = (j : ℕ) → j < l.i → ¬ IsIn l.marks j
