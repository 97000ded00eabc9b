use Rattle.std.proofs.Common.{[], ◌∷◌, ◌++◌, ap, sym, subst}
use Rattle.std.proofs.lemmas.Result.{err_from_is_err_and}
use Rattle.command_words.specs.Commands.{GrammarOptions, ModeOptions}
use Rattle.command_words.specs.Lines.{grammar_read, mode_of, reduce_read}
use Rattle.run_problem.specs.declared.problem.ReadProblem.{ReadProblem}
use Rattle.run_problem.specs.Read.{IsReadAs}
use Rattle.command_reduce.specs.Reduce.{problem_in}
use Rattle.command_reduce.specs.inner.Read.{admits_read}
use Rattle.command_ends.specs.World.{WereRead, seen}
use Rattle.command_reduce.proofs.ReadLemmas.{tree_read}
use Rattle.command_reduce.proofs.read.read_problem.Goals as goal
use Rattle.command_problem.specs.Problem.{ProblemRead, grammar_paths_in}
use Rattle.command_problem.proofs.Lent.{lines_calls, problem_calls, tree_reads, tree_fails}

pub returns-in_ok-tree-in-ByGrammar-clause-problem : goal.returns-in_ok-tree-in-ByGrammar-clause-problem
returns-in_ok-tree-in-ByGrammar-clause-problem g c =
    let files = seen g.F.Files.content g.F.Files.faults c.args.files.now in
    let trees : GrammarOptions =
    record { grammar = grammar_read c.in-ByGrammar.trees.grammar; mode = c.in-ByGrammar.trees.mode; squeeze = c.in-ByGrammar.trees.squeeze } in
    subst (λ (problem : ReadProblem). ProblemRead (problem_in (reduce_read c.args.line.now)) files
    (IsReadAs (admits_read (reduce_read c.args.line.now) problem) problem))
    (sym c.tree_problem.ensures) (tree_read (reduce_read c.args.line.now) files trees
    (ap mode_of c.in-ByGrammar.is) c.inputs_are_one.ensures c.in_ok-tree-in-ByGrammar.tree c.in_ok-tree-in-ByGrammar.ensures.tree)

pub returns-in_err-tree-in-ByGrammar-clause-refused : goal.returns-in_err-tree-in-ByGrammar-clause-refused
returns-in_err-tree-in-ByGrammar-clause-refused g c =
    let p = err_from_is_err_and c.from_residual-in_err-tree-in-ByGrammar.result c.from_residual-in_err-tree-in-ByGrammar.ensures.1 in
    let files = seen g.F.Files.content g.F.Files.faults c.args.files.now in
    let trees : GrammarOptions = record {
      grammar = grammar_read c.in-ByGrammar.trees.grammar;
      mode = c.in-ByGrammar.trees.mode;
      squeeze = c.in-ByGrammar.trees.squeeze;
    } in
    rw (p.1, p.2) (tree_fails (problem_in (reduce_read c.args.line.now)) files trees (ap mode_of c.in-ByGrammar.is)
    (seen g.F.Files.content g.F.Files.faults c.read_tree.new.files) c.in_err-tree-in-ByGrammar.field-0.0 c.in_err-tree-in-ByGrammar.ensures.refused)

pub returns-in_err-tree-in-ByGrammar-clause-calls : goal.returns-in_err-tree-in-ByGrammar-clause-calls
returns-in_err-tree-in-ByGrammar-clause-calls g c =
    let p = err_from_is_err_and c.from_residual-in_err-tree-in-ByGrammar.result c.from_residual-in_err-tree-in-ByGrammar.ensures.1 in
    let trees : GrammarOptions = record {
      grammar = grammar_read c.in-ByGrammar.trees.grammar;
      mode = c.in-ByGrammar.trees.mode;
      squeeze = c.in-ByGrammar.trees.squeeze;
    } in
    rw (p.1, p.2) (problem_calls (problem_in (reduce_read c.args.line.now)) trees (ap mode_of c.in-ByGrammar.is) _ _
    c.in_err-tree-in-ByGrammar.field-0.0 c.in_err-tree-in-ByGrammar.ensures.calls)

pub returns-in_ok-tree-in-ByGrammar-clause-read : goal.returns-in_ok-tree-in-ByGrammar-clause-read
returns-in_ok-tree-in-ByGrammar-clause-read g c =
    let trees : GrammarOptions = record {
      grammar = grammar_read c.in-ByGrammar.trees.grammar;
      mode = c.in-ByGrammar.trees.mode;
      squeeze = c.in-ByGrammar.trees.squeeze;
    } in
    tree_reads (problem_in (reduce_read c.args.line.now)) trees (ap mode_of c.in-ByGrammar.is) _ _ c.in_ok-tree-in-ByGrammar.ensures.read

pub returns-in_ok-start-in-Lines-clause-read : goal.returns-in_ok-start-in-Lines-clause-read
returns-in_ok-start-in-Lines-clause-read g c =
    let old = g.F.Files.calls c.args.files.now in
    let new = g.F.Files.calls c.read_input.new.files in
    subst (λ (m : ModeOptions). WereRead (grammar_paths_in m ++ c.args.line.now.input.now ∷ []) old new) (sym (ap mode_of c.in-Lines.is))
    c.in_ok-start-in-Lines.ensures.calls

pub returns-in_err-start-in-Lines-clause-calls : goal.returns-in_err-start-in-Lines-clause-calls
returns-in_err-start-in-Lines-clause-calls g c =
    let p = err_from_is_err_and c.from_residual.result c.from_residual.ensures.1 in
    rw (p.1, p.2) (lines_calls (problem_in (reduce_read c.args.line.now)) (ap mode_of c.in-Lines.is) _
    (seen g.F.Files.content g.F.Files.faults c.args.files.now) (seen g.F.Files.content g.F.Files.faults c.read_input.new.files) _ _
    c.in_err-start-in-Lines.field-0.0 c.in_err-start-in-Lines.ensures.refused c.in_err-start-in-Lines.ensures.calls)
