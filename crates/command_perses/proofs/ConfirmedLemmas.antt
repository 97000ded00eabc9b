-- The result and the journal of a run are confirmed.
use Rattle.std.proofs.Common.{◌≡◌, ◌≢◌, ◌∙◌, ℕ, List, [], All, refl, ap, subst}
use Rattle.script_gate_trait.specs.declared.gate.Verdict.{Verdict}
use Rattle.script_gate_trait.specs.declared.gate.Verdict.TheVariants.{Yes}
use Rattle.keep_guard.specs.Keep.{keeps_admit}
use Rattle.reduce_core.specs.Reduction.{Admits}
use Rattle.reduce_journal.specs.declared.head.Head.TheVariants.{Version2}
use Rattle.reduce_journal.specs.History.{History, records_of}
use Rattle.reduce_rounds.specs.Verdicts.{HasVerdicts}
use Rattle.line_guard.specs.Laws.{NothingIsProtected}
use Rattle.line_guard.specs.MustStay.{stays_admit}
use Rattle.line_guard.specs.Protected.{protected_lines, protected_tokens}
use Rattle.line_guard.specs.declared.wish.Wish.{Wish}
use Rattle.run_gated.specs.Records.{FirstIs}
use Rattle.run_problem.specs.Committed.{IsPrefix, committed_texts, questions_over}
use Rattle.run_problem.specs.Problem.{IsCandidateOf, IsProblem, Problem, reduced_text, start_text}
use Rattle.run_problem.proofs.Lent.{tree_is}
use Rattle.cert_check.specs.Laws.{FinishedRunsAreConfirmed}
use Rattle.command_words.specs.Commands.{ModeOptions, ReduceOptions}
use Rattle.command_ends.specs.World.{NotReached, SeenFiles}
use Rattle.command_problem.specs.Problem.{ReadIn}
use Rattle.command_reduce_calls.specs.Stays.{wishes_of}
use Rattle.command_reduce.specs.Reduce.{admits_of, numbers_stay, problem_in}
use Rattle.command_perses.specs.Confirmed.{NamesNoLines, ResultsAreConfirmed}
use Rattle.command_perses.specs.Headline.{IsProblemOf, result_text, verdicts_of}

module _ (law : NothingIsProtected) (options : ReduceOptions) (none : NamesNoLines options.protects) where
  no_wishes : wishes_of options.protects ≡ []
  no_wishes = rw (none.lines, none.texts, none.only) refl

  no_numbers : (problem : Problem) → numbers_stay options problem ≡ []
  no_numbers (Problem.of_lines start) = ap (λ (wishes : List Wish). protected_lines wishes start) no_wishes ∙ law.lines start
  no_numbers (Problem.of_tree mode input) =
      ap (λ (wishes : List Wish). protected_tokens wishes input.start input.tokens) no_wishes ∙ law.tokens input.start input.tokens
  no_numbers (Problem.of_respelling mode input) =
      ap (λ (wishes : List Wish). protected_tokens wishes input.start input.tokens) no_wishes ∙ law.tokens input.start input.tokens

  -- the keep texts alone say what is admitted
  keeps_alone : (problem : Problem) → admits_of options problem ≡ keeps_admit options.keeps
  keeps_alone problem =
      ap (λ (numbers : List ℕ). stays_admit (record { texts = options.keeps; numbers = numbers })) (no_numbers problem) ∙ law.admits options.keeps

-- the problem of the files is one
is_problem_in : (options : ReduceOptions) (files : SeenFiles) (problem : Problem) (mode : ModeOptions)
    → ReadIn mode (problem_in options) files (λ one. one ≡ problem) → IsProblem problem
is_problem_in options files problem ModeOptions.lines read = subst IsProblem read.holds tt
is_problem_in options files problem (ModeOptions.by_grammar trees) read =
    subst IsProblem read.2.holds.2 (tree_is options.respell trees.mode read.2.holds.0 read.2.holds.1.of_text.is_input)

-- a history with a first record has an event
some_event : (start : List ℕ) (history : History) → FirstIs start Yes (records_of history) → history ≢ []
some_event start history first is = subst (λ (h : History). FirstIs start Yes (records_of h)) is first

pub results_are_confirmed : NothingIsProtected → FinishedRunsAreConfirmed → (may_say : List ℕ → Verdict → Type 0) → ResultsAreConfirmed may_say
results_are_confirmed law finished may_say options old new status none run has =
    let problem = run.problem in
    let history = run.history in
    let same = keeps_alone law options none problem in
    let reached : ¬ NotReached history old new = λ it. some_event (start_text problem) history (run.start_yes has) it.no_history in
    let files_problem : IsProblemOf options old.files problem = run.of_files reached in
    finished (keeps_admit options.keeps) problem (Version2 run.start) history (result_text options problem history) run.of_start (record {
      is_problem = is_problem_in options old.files problem options.mode files_problem.read;
      readable = run.readable;
      legal = subst (λ (guard : Admits). IsPrefix (committed_texts history) (questions_over guard problem history)) same run.legal;
      distinct = run.distinct;
      candidates = subst (λ (guard : Admits). All (λ r. IsCandidateOf guard problem r.text) (records_of history)) same run.candidates;
      start_yes = run.start_yes has;
      defined = subst (λ (guard : Admits). HasVerdicts (verdicts_of history) (questions_over guard problem history)) same (run.defined has);
      is_text = ap (λ (guard : Admits). reduced_text guard problem (verdicts_of history)) same;
    })
