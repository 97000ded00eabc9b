-- The start of what was read, and what must stay of it.
use Rattle.std.proofs.Common.{◌≡◌, ◌∙◌, Bool, true, false, refl, ap, sym, subst}
use Rattle.reduce_core.specs.Reduction.{Admits}
use Rattle.run_problem.specs.declared.problem.ReadProblem.{ReadProblem}
use Rattle.run_problem.specs.declared.problem.ReadProblem.TheVariants as read_problem
use Rattle.run_problem.specs.Problem.{Problem, start_text, tree_problem}
use Rattle.run_problem.specs.Read.{IsReadAs, start_read}
use Rattle.run_problem.proofs.Lent.{tree_start}
use Rattle.reduce_step.specs.declared.mode.TreeMode.{TreeMode}
use Rattle.reduce_trees_input.specs.Parsed.{tree_input}
use Rattle.reduce_trees_mode.specs.Input.{TreeInput}
use Rattle.command_problem.specs.Problem.{ProblemRead}
use Rattle.command_problem.proofs.Lent.{problem_map}
use Rattle.command_reduce.specs.Reduce.{ProblemAccepted, problem_in, stays_of}
use Rattle.command_reduce.specs.inner.Read.{stays_read}
use Rattle.command_reduce_calls.specs.Stays.{AcceptsStart, tokens_stay}
use Rattle.command_words.specs.Commands.{ReduceOptions}
use Rattle.command_ends.specs.World.{SeenFiles}

-- the start of what was read is its text
pub start_as : (guard : Admits) (read : ReadProblem) (problem : Problem) → IsReadAs guard read problem → start_text problem ≡ start_read read
start_as guard (read_problem.Lines start) problem is = ap start_text is
start_as guard (read_problem.Tree found mode squeeze respell) problem is = ap start_text is.1 ∙ tree_start respell mode (tree_input found is.0 guard squeeze)

-- of a tree the same must stay, whether it is respelled or not
tree_stays : (options : ReduceOptions) (respell : Bool) (mode : TreeMode) (input : TreeInput)
    → stays_of options (tree_problem respell mode input) ≡ tokens_stay options input.start input.tokens
tree_stays options true mode input = refl
tree_stays options false mode input = refl

-- and what must stay of it is what must stay of that
pub stays_as : (options : ReduceOptions) (guard : Admits) (read : ReadProblem) (problem : Problem) → IsReadAs guard read problem
    → stays_of options problem ≡ stays_read options read
stays_as options guard (read_problem.Lines start) problem is = ap (stays_of options) is
stays_as options guard (read_problem.Tree found mode squeeze respell) problem is =
    ap (stays_of options) is.1 ∙ tree_stays options respell mode (tree_input found is.0 guard squeeze)

-- what was read, whose text is accepted, is accepted
pub accepted_as : (options : ReduceOptions) (files : SeenFiles) (guard : Admits) (read : ReadProblem) (Q : Problem → Type 0)
    → AcceptsStart options (start_read read)
    → ((problem : Problem) → IsReadAs guard read problem → Q problem)
    → ProblemRead (problem_in options) files (IsReadAs guard read) → ProblemAccepted options files Q
accepted_as options files guard read Q accepts then was =
    problem_map (problem_in options) files (IsReadAs guard read) (λ problem. AcceptsStart options (start_text problem) × Q problem)
    (λ problem is. (subst (AcceptsStart options) (sym (start_as guard read problem is)) accepts, then problem is)) was
