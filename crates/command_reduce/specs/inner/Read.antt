-- What was found in an input by a grammar, why nothing was, and why a problem wasn't accepted.
use Rattle.std.specs.Prelude.{◌≡◌, ◌⊎◌, ℕ, ◌+◌, [], ◌∷◌, ◌++◌, Some, string_bytes}
use Rattle.keep_guard.specs.Keep.{first_missing}
use Rattle.line_guard.specs.MustStay.{Stays, stays_admit}
use Rattle.reduce_core.specs.Reduction.{Admits}
use Rattle.reduce_trees_input.specs.Parsed.{tokens_in}
use Rattle.reduce_journal.specs.Journal.{IsDigestOf}
use Rattle.reduce_journal.specs.declared.digest.Digest.{Digest}
use Rattle.run_problem.specs.declared.problem.ReadProblem.{ReadProblem}
use Rattle.run_problem.specs.declared.problem.ReadProblem.TheVariants as read
use Rattle.run_problem.specs.Problem.{start_text}
use Rattle.command_ends.specs.declared.status.Refusal.{Refusal}
use Rattle.command_ends.specs.declared.status.Refusal.TheVariants.{Memory, KeepMissing, BeyondLines}
use Rattle.command_ends.specs.declared.status.Refusal.TheVariants.{BadJournal, CannotRead, Grammar, NoParse, OtherStart, TooLong, Uncut}
use Rattle.command_ends.specs.Status.{IsBeyondRefusal, IsKeepRefusal}
use Rattle.command_reduce_calls.specs.Stays.{NamesBeyond, lines_stay, tokens_stay}
use Rattle.command_words.specs.Commands.{ReduceOptions}
use Rattle.command_ends.specs.World.{IsQuiet, SeenCalls, SeenFiles, SomeRead, UnreadAfter, WereRead}
use Rattle.command_problem.specs.Problem.{ProblemRead, grammar_paths_in, problem_paths}
use Rattle.command_problem.specs.Read.{ProblemFails}
use Rattle.command_reduce.specs.Reduce.{ProblemAccepted, path_of_file, problem_in, read_before, read_paths}
use Rattle.command_reduce.specs.inner.Resume.{ResumeRefused}

-- what must stay of what was read
abbrev pub stays_read : ReduceOptions → ReadProblem → Stays
stays_read options (read.Lines start) = lines_stay options start.items
stays_read options (read.Tree found mode squeeze respell) = tokens_stay options (string_bytes found.text) (tokens_in found.tokens)

-- what is admitted of it
abbrev pub admits_read : ReduceOptions → ReadProblem → Admits
admits_read options problem = stays_admit (stays_read options problem)

-- why a problem that was read wasn't accepted: this keep text is the first that doesn't occur in its start, this is the first named last line that is
-- beyond its lines, or out of memory
abbrev pub StaysRefused : ReduceOptions → SeenFiles → Refusal → Type 0
StaysRefused options files (Memory _) = Unit {0}
StaysRefused options files (KeepMissing line) =
    (index : ℕ) × ProblemRead (problem_in options) files (λ problem. first_missing options.keeps (start_text problem) ≡ Some index)
    × IsKeepRefusal (index + 1) (KeepMissing line)
StaysRefused options files (BeyondLines line) =
    (last : ℕ) × (lines : ℕ) × ProblemRead (problem_in options) files (λ problem. NamesBeyond options last lines (start_text problem))
    × IsBeyondRefusal last lines (BeyondLines line)
StaysRefused options files _ = ⊥

-- why a problem that was accepted isn't reduced: the journal that is to be resumed can't be
abbrev pub ResumeFailsOver : ReduceOptions → SeenFiles → SeenFiles → Refusal → Type 0
ResumeFailsOver options old new refusal =
    (start : Digest) × ProblemAccepted options old (λ problem. IsDigestOf (start_text problem) start)
    × ResumeRefused options.resume start old new refusal

-- why there is no problem that is accepted: none was read, or that
abbrev pub AcceptFails : ReduceOptions → SeenFiles → SeenFiles → Refusal → Type 0
AcceptFails options old new refusal =
    ProblemFails (problem_in options) old new refusal ⊎ ((IsQuiet old new × StaysRefused options old refusal) ⊎ ResumeFailsOver options old new refusal)

-- Which files were read then, in their order: those up to the one that the refusal names; the grammar's, where it is faulty; the grammar's and the input's,
-- where that isn't accepted; all, where the journal isn't one of it; or some, where memory ran out.
abbrev pub AcceptCalls : ReduceOptions → SeenCalls → SeenCalls → Refusal → Type 0
AcceptCalls options old new (Memory _) = SomeRead (read_paths options) old new
AcceptCalls options old new (CannotRead file) = UnreadAfter (read_before options file) (path_of_file options file) old new
AcceptCalls options old new (TooLong file) = WereRead (read_before options file ++ path_of_file options file ∷ []) old new
AcceptCalls options old new (Grammar line) = WereRead (grammar_paths_in options.mode) old new
AcceptCalls options old new (Uncut line) = WereRead (problem_paths (problem_in options)) old new
AcceptCalls options old new NoParse = WereRead (problem_paths (problem_in options)) old new
AcceptCalls options old new (KeepMissing line) = WereRead (problem_paths (problem_in options)) old new
AcceptCalls options old new (BeyondLines line) = WereRead (problem_paths (problem_in options)) old new
AcceptCalls options old new (OtherStart line) = WereRead (read_paths options) old new
AcceptCalls options old new (BadJournal line) = WereRead (read_paths options) old new
AcceptCalls options old new _ = ⊥
