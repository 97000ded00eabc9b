-- What holds of Mini and of every generated program.
use Rattle.std.specs.Prelude.{◌≡◌, ℕ, ◌≤◌, None}
use Rattle.grammar_tree.specs.Written.{CheckedGrammar}
use Rattle.grammar_load.specs.Answer.{Spells, SpellsOnly}
use Rattle.script_gate_trait.specs.declared.gate.Verdict.TheVariants.{Yes}
use Rattle.script_gate_trait.specs.Rule.{rule_verdict}
use Rattle.reduce_trees_mode.specs.Candidates.{InLanguage}
use Rattle.case_maker.specs.Cases.{case_text}
use Rattle.case_maker.specs.Mini.{mini_text}
use Rattle.case_reduction.specs.Mini.{mini}

-- The text of Mini spells Mini, and no other grammar; and it is well-formed.
pub record MiniIsSpelled : Type 0 where
  pub only : SpellsOnly mini_text mini
  pub grammar : CheckedGrammar
  pub spelled : Spells mini_text None grammar

-- Each program of at most 1500 functions is in the language of the grammar that the text of Mini spells.
abbrev pub CasesAreInLanguage : Type 0
CasesAreInLanguage = (grammar : CheckedGrammar) (number size : ℕ) → Spells mini_text None grammar → size ≤ 1500 → InLanguage grammar (case_text number size)

-- The rule that asks for the letters Q and Z, whose number has their bytes, says yes to each program.
abbrev pub CasesGetYes : Type 0
CasesGetYes = (number size : ℕ) → 1 ≤ size → rule_verdict 23121 (case_text number size) ≡ Yes
