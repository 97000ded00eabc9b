-- What is found in a program is ready to be reduced, and is the program's problem.
use Rattle.std.proofs.Common.{arith, ◌≡◌, ◌≤◌, ◌+◌, ◌*◌, ℕ, List, false, true, None, length, refl, sym, ap, ◌∙◌, subst}
use Rattle.grammar_tree.specs.Checked.{IsChecked}
use Rattle.grammar_tree.specs.Written.{CheckedGrammar}
use Rattle.grammar_tree.specs.Faults.{IsWellFormed}
use Rattle.grammar_load.specs.Answer.{Spells}
use Rattle.reduce_step.specs.Limits.{text_limit}
use Rattle.case_maker.specs.Cases.{case_text}
use Rattle.case_maker.specs.Mini.{mini_text}
use Rattle.reduce_trees_input.specs.Parsed.{IsParsed, MakesInputOf, tree_input}
use Rattle.reduce_trees_input.specs.declared.parsed.ParsedInput.{ParsedInput}
use Rattle.reduce_step.specs.declared.mode.TreeMode.{TreeMode}
use Rattle.run_problem.specs.declared.problem.ReadProblem.TheVariants as read
use Rattle.run_problem.specs.Problem.{Problem, start_text}
use Rattle.run_problem.specs.Read.{IsFoundIn, IsReadAs}
use Rattle.case_reduction.specs.Summary.{IsCaseProblem, admits_all}

module _ (grammar : CheckedGrammar) (text : List ℕ) (found : ParsedInput) (is : IsChecked grammar) (parsed : IsParsed grammar text found) where
  pub checked : IsChecked found.lexer
  checked = subst IsChecked (sym parsed.same_grammar) is

  -- it can be reduced
  pub found_in : MakesInputOf grammar text found → length text ≤ text_limit → IsFoundIn found
  found_in makes short = record {
    checked = checked;
    parsed =
        subst (λ (t : List ℕ). IsParsed found.lexer t found) (sym parsed.same_text)
        (subst (λ (g : CheckedGrammar). IsParsed g text found) (sym parsed.same_grammar) parsed);
    kinds = (makes checked.well_formed (λ kept text. true) false).is_input.kinds_are;
    short = subst (λ (t : List ℕ). length t ≤ text_limit) (sym parsed.same_text) short;
  }

-- a program is short
pub short : (text : List ℕ) (size : ℕ) → size ≤ 1500 → length text ≤ 170 * size + 24 → length text ≤ text_limit
short text size most within = omega (arith, most, within)

-- what is found in a program is its problem
pub is_case : (mode : TreeMode) (number size : ℕ) (grammar : CheckedGrammar) (found : ParsedInput) → Spells mini_text None grammar
    → IsParsed grammar (case_text number size) found → MakesInputOf grammar (case_text number size) found
    → (problem : Problem) × IsReadAs admits_all (read.Tree found mode false false) problem × IsCaseProblem mode number size problem
is_case mode number size grammar found spelled parsed makes =
    let formed : IsWellFormed found.lexer.grammar found.lexer.start = (checked grammar (case_text number size) found spelled.checked parsed).well_formed in
    let input = tree_input found formed admits_all false in (
      Problem.of_tree mode input,
      (formed, refl),
      record {
        grammar = grammar;
        spelled = spelled;
        input = input;
        of_case = makes formed admits_all false;
        admits = refl;
        plain = refl;
        is_problem = refl;
      },
    )

-- the problem begins with the program
pub begins_with_case : (mode : TreeMode) (number size : ℕ) (problem : Problem) → IsCaseProblem mode number size problem
    → start_text problem ≡ case_text number size
begins_with_case mode number size problem of = ap start_text of.is_problem ∙ of.of_case.same_text
