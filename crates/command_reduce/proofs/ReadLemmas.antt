-- What was read of the files, and why it wasn't accepted.
use Rattle.std.proofs.Common.{arith, ◌≡◌, ◌<◌, length, Some, true, refl, sym, ap, ◌∙◌, string_bytes, subst}
use Rattle.std.proofs.lemmas.Bool.{and_from}
use Rattle.std.proofs.lemmas.List.{length-map}
use Rattle.keep_guard.specs.Keep.{first_missing, holds_all}
use Rattle.lexer.specs.Tokens.{token_of}
use Rattle.line_guard.specs.Laws.{AllKeepProtected}
use Rattle.reduce_core.specs.Reduction.{Admits}
use Rattle.reduce_trees_input.specs.Laws.{InputsAreOne}
use Rattle.reduce_trees_input.specs.Parsed.{tokens_in}
use Rattle.reduce_trees_input.specs.declared.parsed.ParsedInput.{ParsedInput}
use Rattle.run_problem.specs.declared.problem.ReadProblem.{ReadProblem}
use Rattle.run_problem.specs.declared.problem.ReadProblem.TheVariants as read
use Rattle.run_problem.specs.Problem.{start_text}
use Rattle.run_problem.specs.Read.{IsFoundIn, IsReadAs, numbers_read, start_read}
use Rattle.token_print.specs.LexingLaws.{TokensAreInOrder}
use Rattle.command_ends.specs.declared.status.Refusal.{Refusal}
use Rattle.command_ends.specs.declared.status.Refusal.TheVariants.{Memory, KeepMissing, BeyondLines}
use Rattle.command_problem.specs.Problem.{ProblemRead}
use Rattle.command_problem.specs.Read.{GivesTree}
use Rattle.command_problem.specs.declared.read.ReadTree.{ReadTree}
use Rattle.command_problem.proofs.Lent.{problem_map, tree_read as problem_tree}
use Rattle.command_reduce.specs.inner.Read.{StaysRefused, admits_read}
use Rattle.command_reduce.specs.Reduce.{problem_in}
use Rattle.command_reduce_calls.specs.Stays.{NamesBeyond, StaysFail, wishes_of}
use Rattle.command_words.specs.Commands.{GrammarOptions, ModeOptions, ReduceOptions}
use Rattle.command_ends.specs.World.{SeenFiles}
use Rattle.command_reduce.proofs.ProblemLemmas.{start_as}

-- what was found has fewer tokens than a number of 32 bits counts
pub few-tokens : TokensAreInOrder → (found : ParsedInput) → IsFoundIn found → length found.tokens.items.items < 4294967296
few-tokens in_order found ready =
    let placed = in_order found.lexer.grammar (string_bytes found.text) (tokens_in found.tokens) ready.parsed.utf8 ready.parsed.has_tokens in
    omega (arith, placed.few, ready.short, length-map found.tokens.items.items token_of)

-- the tree of the input
pub tree_read : (options : ReduceOptions) (files : SeenFiles) (trees : GrammarOptions) → options.mode ≡ ModeOptions.by_grammar trees → InputsAreOne
    → (tree : ReadTree) → GivesTree trees.grammar options.input files tree
    → ProblemRead (problem_in options) files
    (IsReadAs (admits_read options (read.Tree tree.found trees.mode trees.squeeze options.respell))
    (read.Tree tree.found trees.mode trees.squeeze options.respell))
tree_read options files trees mode one tree gives =
    problem_tree (problem_in options) files trees mode one (λ input admits. refl) tree gives
    (admits_read options (read.Tree tree.found trees.mode trees.squeeze options.respell)) (λ formed. refl)

-- why the text of what was read isn't accepted is why the problem isn't
pub stays_refused : (options : ReduceOptions) (files : SeenFiles) (guard : Admits) (problem : ReadProblem) (refusal : Refusal)
    → ProblemRead (problem_in options) files (IsReadAs guard problem) → StaysFail options (start_read problem) refusal → StaysRefused options files refusal
stays_refused options files guard problem (Memory _) was why = tt
stays_refused options files guard problem (KeepMissing line) was why = (
  why.0,
  problem_map (problem_in options) files (IsReadAs guard problem) (λ one. first_missing options.keeps (start_text one) ≡ Some why.0)
      (λ one as_one. ap (first_missing options.keeps) (start_as guard problem one as_one) ∙ why.1) was,
  why.2,
)
stays_refused options files guard problem (BeyondLines line) was why = (
  why.0,
  why.1,
  problem_map (problem_in options) files (IsReadAs guard problem) (λ one. NamesBeyond options why.0 why.1 (start_text one))
      (λ one as_one. subst (NamesBeyond options why.0 why.1) (sym (start_as guard problem one as_one)) why.2) was,
  why.3,
)
stays_refused options files guard problem _ was why = absurd why

-- a text in which each keep text occurs is admitted with all of its lines or tokens
pub start_stays : AllKeepProtected → (options : ReduceOptions) (problem : ReadProblem) → holds_all options.keeps (start_read problem) ≡ true
    → admits_read options problem (numbers_read problem) (start_read problem) ≡ true
start_stays all options (read.Lines start) kept = and_from _ _ kept (all.lines (wishes_of options.protects) start.items)
start_stays all options (read.Tree found mode squeeze respell) kept =
    and_from _ _ kept (all.tokens (wishes_of options.protects) (string_bytes found.text) (tokens_in found.tokens))
