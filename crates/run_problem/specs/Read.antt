-- What was read, and which problem it is.
use Rattle.std.specs.Prelude.{◌≡◌, ◌≤◌, ℕ, List, length, string_bytes}
use Rattle.grammar_tree.specs.Checked.{IsChecked}
use Rattle.grammar_tree.specs.Faults.{IsWellFormed}
use Rattle.syntax_tree.specs.Nodes.{whole}
use Rattle.syntax_tree.specs.Trees.{kinds_of}
use Rattle.token_print.specs.Laws.{all_kept}
use Rattle.reduce_core.specs.Lines.{numbered_lines, numbers_of}
use Rattle.reduce_core.specs.Reduction.{Admits}
use Rattle.reduce_step.specs.Limits.{text_limit}
use Rattle.reduce_trees_input.specs.Parsed.{IsParsed, kinds_in, tokens_in, tree_input}
use Rattle.reduce_trees_input.specs.declared.parsed.ParsedInput.{ParsedInput}
use Rattle.run_problem.specs.declared.problem.ReadProblem.{ReadProblem}
use Rattle.run_problem.specs.declared.problem.ReadProblem.TheVariants as read
use Rattle.run_problem.specs.Problem.{Problem, tree_problem}

-- the text of what was read
abbrev pub start_read : ReadProblem → List ℕ
start_read (read.Lines start) = start.items
start_read (read.Tree found mode squeeze respell) = string_bytes found.text

-- the numbers, from 0, of its lines or tokens
abbrev pub numbers_read : ReadProblem → List ℕ
numbers_read (read.Lines start) = numbers_of (numbered_lines start.items)
numbers_read (read.Tree found mode squeeze respell) = all_kept (tokens_in found.tokens)

-- What was found is of its own grammar, which is checked, and of its own text, and the tree is that of all of its tokens.
pub record IsFoundIn (found : ParsedInput) : Type 0 where
  pub checked : IsChecked found.lexer
  pub parsed : IsParsed found.lexer (string_bytes found.text) found
  pub kinds : kinds_of (whole found.tree) ≡ kinds_in (tokens_in found.tokens)
  pub short : length (string_bytes found.text) ≤ text_limit

-- it can be reduced
abbrev pub IsReady : ReadProblem → Type 0
IsReady (read.Lines start) = length start.items ≤ text_limit
IsReady (read.Tree found mode squeeze respell) = IsFoundIn found

-- it is this problem, where this is what is admitted
abbrev pub IsReadAs : Admits → ReadProblem → Problem → Type 0
IsReadAs guard (read.Lines start) problem = problem ≡ Problem.of_lines start.items
IsReadAs guard (read.Tree found mode squeeze respell) problem =
    (formed : IsWellFormed found.lexer.grammar found.lexer.start) × (problem ≡ tree_problem respell mode (tree_input found formed guard squeeze))
