-- The summary of the reduction of a generated program by a rule.
use Rattle.std.specs.Prelude.{◌≡◌, ℕ, List, ◌++◌, false, true, Option, None, Some, length}
use Rattle.grammar_tree.specs.Written.{CheckedGrammar}
use Rattle.script_gate_trait.specs.declared.gate.Verdict.{Verdict}
use Rattle.script_gate_trait.specs.Rule.{rule_verdict}
use Rattle.grammar_load.specs.Answer.{Spells}
use Rattle.case_maker.specs.Cases.{case_text}
use Rattle.case_maker.specs.Mini.{mini_text}
use Rattle.reduce_core.specs.Reduction.{Admits}
use Rattle.reduce_trees_mode.specs.Input.{TreeInput}
use Rattle.reduce_trees_input.specs.Parsed.{IsInputOf}
use Rattle.reduce_journal.specs.Report.{four_lines}
use Rattle.reduce_rounds.specs.Verdicts.{Agree, HasVerdicts}
use Rattle.reduce_rounds.specs.Reduction.{capped_count}
use Rattle.reduce_step.specs.declared.mode.TreeMode.{TreeMode}
use Rattle.run_problem.specs.Problem.{IsReductionOf, Problem, questions_of, reduced_text, reduced_units, rounds_of, start_text, units_of}

-- each text of any lines or tokens is admitted
abbrev pub admits_all : Admits
admits_all kept text = true

-- what the rule that asks for the letters Q and Z says of each text: its number has their bytes
abbrev pub rule_map : List ℕ → Option Verdict
rule_map text = Some (rule_verdict 23121 text)

-- The problem is the tree of the program of this number and size by the grammar that the text of Mini
-- spells, in this mode: all texts in the language are admitted, and the squeezed text isn't tried.
pub record IsCaseProblem (mode : TreeMode) (number size : ℕ) (problem : Problem) : Type 0 where
  pub grammar : CheckedGrammar
  pub spelled : Spells mini_text None grammar
  pub input : TreeInput
  pub of_case : IsInputOf grammar (case_text number size) input
  pub admits : input.admits ≡ admits_all
  pub plain : input.squeezes ≡ false
  pub is_problem : problem ≡ Problem.of_tree mode input

-- the first four lines of the report of the reduction over a map of verdicts, and the text that it ends with
abbrev pub summary_text : Problem → (List ℕ → Option Verdict) → List ℕ
summary_text problem V =
    four_lines (units_of problem) (reduced_units admits_all problem V) (length (start_text problem)) (length (reduced_text admits_all problem V))
    (capped_count (rounds_of admits_all problem V)) (capped_count (length (questions_of admits_all problem V)))
    ++ reduced_text admits_all problem V

-- The text is the summary of the reduction of the program over the rule, which ends at a text that the rule says yes to, in the language, and minimal. It
-- is that over each map that agrees with the rule and has a verdict for each text that its own reduction asks; one of these is the rule's.
pub record IsSummary (mode : TreeMode) (number size : ℕ) (text : List ℕ) : Type 0 where
  pub problem : Problem
  pub of_case : IsCaseProblem mode number size problem
  pub reduces : IsReductionOf admits_all rule_map problem (reduced_text admits_all problem rule_map)
  pub is_summary : (V : List ℕ → Option Verdict) → Agree V rule_map → HasVerdicts V (questions_of admits_all problem V) → text ≡ summary_text problem V
