-- What is found of a start by its tree, and of what a run is checked against.
use Rattle.std.specs.Prelude.{ℕ, Bool, List}
use Rattle.grammar_tree.specs.Written.{CheckedGrammar}
use Rattle.keep_guard.specs.Keep.{keeps_admit}
use Rattle.reduce_trees_mode.specs.Input.{TreeInput}
use Rattle.reduce_trees_input.specs.Parsed.{IsInputOf}
use Rattle.reduce_step.specs.declared.mode.TreeMode.{TreeMode}
use Rattle.reduce_journal.specs.declared.head.Head.{Head}
use Rattle.reduce_journal.specs.History.{History}
use Rattle.run_problem.specs.Problem.{Problem}
use Rattle.cert_check.specs.declared.finding.Finding.{Finding}
use Rattle.cert_check.specs.declared.setup.Setup.{Setup}
use Rattle.cert_check.specs.Findings.{IsFound}
use Rattle.cert_check.specs.Setup.{HasOptions, IsSetupOf, admits_in}

-- the start has an input with these options, and this is found of the run by its tree
abbrev pub IsFindingOfStart : CheckedGrammar → List ℕ → List (List ℕ) → TreeMode → Bool → List ℕ → Head → History → ℕ → Finding → Type 0
IsFindingOfStart grammar start keeps mode squeeze output head history torn finding =
    (input : TreeInput) × IsInputOf grammar start input × HasOptions keeps squeeze input
    × IsFound (keeps_admit keeps) (Problem.of_tree mode input) output head history torn finding

-- what a run is checked against is a problem, and this is found of that
abbrev pub IsFindingOfSetup : Setup → List ℕ → Head → History → ℕ → Finding → Type 0
IsFindingOfSetup it output head history torn finding =
    (problem : Problem) × IsSetupOf it problem × IsFound (admits_in it) problem output head history torn finding
