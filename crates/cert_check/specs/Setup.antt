-- What a run is checked against. It is a problem.
use Rattle.std.specs.Prelude.{◌≡◌, ◌≤◌, ℕ, Bool, true, List, length, string_bytes}
use Rattle.keep_guard.specs.Keep.{holds_all, keeps_admit}
use Rattle.reduce_core.specs.Reduction.{Admits}
use Rattle.reduce_step.specs.Limits.{text_limit}
use Rattle.reduce_trees_mode.specs.Candidates.{InLanguage}
use Rattle.reduce_trees_mode.specs.Input.{TreeInput}
use Rattle.reduce_trees_input.specs.Parsed.{IsInputOf}
use Rattle.run_problem.specs.Problem.{Problem}
use Rattle.cert_check.specs.declared.setup.Setup.{Setup}
use Rattle.cert_check.specs.declared.setup.Setup.TheVariants as setup

-- the text that was reduced
abbrev pub start_in : Setup → List ℕ
start_in (setup.Tree grammar start mode squeeze keeps) = string_bytes start
start_in (setup.Lines start keeps) = start

-- the texts that stay in each candidate
abbrev pub keeps_in : Setup → List (List ℕ)
keeps_in (setup.Tree grammar start mode squeeze keeps) = keeps.items
keeps_in (setup.Lines start keeps) = keeps.items

-- what they admit
abbrev pub admits_in : Setup → Admits
admits_in it = keeps_admit (keeps_in it)

-- by a grammar, the start is in its language
abbrev pub IsInItsLanguage : Setup → Type 0
IsInItsLanguage (setup.Tree grammar start mode squeeze keeps) = InLanguage grammar (string_bytes start)
IsInItsLanguage (setup.Lines start keeps) = Unit {0}

-- A run of it can be checked: the start has at most 1,048,576 bytes, each keep text occurs in it, and by a grammar it is in its language.
pub record CanBeChecked (it : Setup) : Type 0 where
  pub short : length (start_in it) ≤ text_limit
  pub kept : holds_all (keeps_in it) (start_in it) ≡ true
  pub language : IsInItsLanguage it

-- The input admits what these keep texts admit, and its squeezed text is tried where this says so.
pub record HasOptions (keeps : List (List ℕ)) (squeeze : Bool) (input : TreeInput) : Type 0 where
  pub admits : input.admits ≡ keeps_admit keeps
  pub squeezes : input.squeezes ≡ squeeze

-- it is this problem
abbrev pub IsSetupOf : Setup → Problem → Type 0
IsSetupOf (setup.Tree grammar start mode squeeze keeps) problem =
    (input : TreeInput) × IsInputOf grammar (string_bytes start) input × HasOptions keeps.items squeeze input × (problem ≡ Problem.of_tree mode input)
IsSetupOf (setup.Lines start keeps) problem = problem ≡ Problem.of_lines start
