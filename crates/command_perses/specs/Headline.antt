-- The headline of `reduce`, a field for each of its sentences.
use Rattle.std.specs.Prelude.{◌≡◌, ◌≢◌, ◌≤◌, ◌⊎◌, ℕ, All, List, [], ◌∷◌, Option, Some, IsSome, true, drop, length}
use Rattle.std.specs.List.{IsDistinct}
use Rattle.std.specs.Str.{bytes_eq}
use Rattle.edge_io.specs.Files.{Holds, SameFiles, SameOthers}
use Rattle.script_gate_trait.specs.declared.gate.Verdict.{Verdict}
use Rattle.script_gate_trait.specs.declared.gate.Verdict.TheVariants.{Yes}
use Rattle.keep_guard.specs.Keep.{holds_all}
use Rattle.verdict_table.specs.TableState.{texts_of, verdict_in}
use Rattle.verdict_table.specs.declared.record.Record.{Record}
use Rattle.reduce_journal.specs.History.{History, IsHistory, asked_records_of, records_of}
use Rattle.reduce_journal.specs.Journal.{IsDigest, IsDigestOf, journal_text}
use Rattle.reduce_journal.specs.declared.digest.Digest.{Digest}
use Rattle.reduce_journal.specs.Report.{report_text}
use Rattle.ordered_commit.specs.Replay.{AllGoWith}
use Rattle.reduce_rounds.specs.Verdicts.{HasVerdicts}
use Rattle.run_gated.specs.Records.{BeginsAt, FirstIs, FirstIsNo, OnlyNo}
use Rattle.run_problem.specs.Committed.{IsPrefix, committed_texts, questions_over, thread_over}
use Rattle.run_problem.specs.Laws.{answer_count}
use Rattle.line_guard.specs.MustStay.{keeps_numbers}
use Rattle.run_problem.specs.Problem.{EndsMinimally, IsCandidateOf, IsRespelled, Problem, counts_of, reduced_numbers, reduced_text, start_text}
use Rattle.command_words.specs.Commands.{ModeOptions, ReduceOptions}
use Rattle.command_grammar.specs.Texts.{GrammarIsVisible}
use Rattle.command_ends.specs.Status.{IsOneOf}
use Rattle.command_ends.specs.World.{AnyGateFailed, CallFailed, NotReached, Puts, SeenFiles, World, logs_of}
use Rattle.command_reduce_calls.specs.Journal.{JournalBroken, JournalSoFar, JournalWhole}
use Rattle.command_reduce_calls.specs.Stays.{AcceptsStart}
use Rattle.command_reduce.specs.Reduce.{GatesWereUsed, admits_of, numbers_stay, problem_in}
use Rattle.command_reduce.specs.Resume.{CanResume, IsKeptFrom}
use Rattle.command_problem.specs.Problem.{IsShownProblem, ProblemRead}

-- the content is visible of the files that are read
abbrev pub AreVisible : ModeOptions → ReduceOptions → SeenFiles → Type 0
AreVisible ModeOptions.lines options files = IsSome (files.shown options.input)
AreVisible (ModeOptions.by_grammar trees) options files = GrammarIsVisible trees.grammar files × IsSome (files.shown options.input)

-- The problem is that of the files: the lines of the input; or its tree, by the grammar that its file spells, or the files of its lexer and its parser.
-- Each keep text occurs in its start, which has the lines that are named. Where the files are visible, they have no other.
pub record IsProblemOf (options : ReduceOptions) (files : SeenFiles) (problem : Problem) : Type 0 where
  pub read : ProblemRead (problem_in options) files (λ one. one ≡ problem)
  pub accepted : AcceptsStart options (start_text problem)
  pub only : AreVisible options.mode options files → (other : Problem) → ProblemRead (problem_in options) files (λ one. one ≡ other) → other ≡ problem

-- the recorded verdicts; and the text that the recursive reduction ends with over them
abbrev pub verdicts_of : History → List ℕ → Option Verdict
verdicts_of history = verdict_in (records_of history)

abbrev pub result_text : ReduceOptions → Problem → History → List ℕ
result_text options problem history = reduced_text (admits_of options problem) problem (verdicts_of history)

-- the numbers, from 0, of its lines or tokens
abbrev pub result_numbers : ReduceOptions → Problem → History → List ℕ
result_numbers options problem history = reduced_numbers (admits_of options problem) problem (verdicts_of history)

-- the reduction came to its result: status 0 or 4
abbrev pub HasResult : ℕ → Type 0
HasResult status = IsOneOf (0 ∷ 4 ∷ []) status

-- which was written whole: at 4 where no call of the files failed
abbrev pub WasWritten : SeenFiles → SeenFiles → ℕ → Type 0
WasWritten old new status = (status ≡ 0) ⊎ ((status ≡ 4) × (¬ CallFailed old new))

-- No call failed of the files, of the gates of so many workers, of the journal and of `out`.
pub record NoCallFailed (jobs : ℕ) (old new : World) : Type 0 where
  pub files : ¬ CallFailed old.files new.files
  pub gates : ¬ AnyGateFailed jobs old.gates new.gates
  pub journal : ¬ CallFailed old.journal new.journal
  pub out : ¬ CallFailed old.out new.out

-- What a run of `reduce` with these options has done, with this status, by however many workers and however these interleaved.
-- What is said of a content holds where the object shows it.
pub record Headline (may_say : List ℕ → Verdict → Type 0) (options : ReduceOptions) (old new : World) (status : ℕ) : Type 0 where
  -- the texts that have a verdict, asked or recalled, with it, and which of these the reduction used, in their order
  pub history : History
  -- what was reduced: where a gate or the journal was reached, the files' own problem as they were, by the grammar as it is written in its file, or its two
  pub problem : Problem
  pub of_files : ¬ NotReached history old new → IsProblemOf options old.files problem
  -- the digest of its start; and the verdicts that were kept: those of the first record of each text in the journal that `--resume` names, and none without it
  pub start : Digest
  pub kept : List Record
  pub of_start : IsDigestOf (start_text problem) start
  pub of_resumed : ¬ NotReached history old new → IsKeptFrom options.resume old.files start kept
  -- ---- the result
  -- the output file holds what the recursive reduction gives over the verdicts
  pub written : WasWritten old.files new.files status → Holds (result_text options problem history) (new.files.shown options.output)
  -- every other file is as before; and where there is no result, this one too
  pub other_files : SameOthers old.files.shown new.files.shown options.output
  pub files_kept : status ≢ 0 → status ≢ 4 → SameFiles old.files.shown new.files.shown
  -- the start's verdict is yes, and each text that the reduction asks has one
  pub start_yes : HasResult status → FirstIs (start_text problem) Yes (records_of history)
  pub defined : HasResult status → HasVerdicts (verdicts_of history) (questions_over (admits_of options problem) problem history)
  -- the result's verdict is yes; it is a candidate too, with each keep text
  pub yes_at_end : HasResult status → verdicts_of history (result_text options problem history) ≡ Some Yes
  pub candidate : HasResult status → IsCandidateOf (admits_of options problem) problem (result_text options problem history)
  pub keeps : HasResult status → holds_all options.keeps (result_text options problem history) ≡ true
  -- and it keeps the lines or tokens that must stay
  pub protected : HasResult status → keeps_numbers (result_numbers options problem history) (numbers_stay options problem) ≡ true
  -- no single edit of it has a yes: each that may be asked has its recorded no. Of a respelling the edits are its shorter neighbours
  pub minimal : HasResult status → EndsMinimally (admits_of options problem) problem (verdicts_of history)
  -- a respelling follows the reduction of the tree, whose own end is minimal by the edits of trees
  pub respells : HasResult status → IsRespelled (admits_of options problem) (verdicts_of history) problem
  -- ---- the verdicts
  -- a record is kept exactly where its text has a kept verdict, and then it has that one
  pub resumed : AllGoWith (verdict_in kept) history
  -- each other is one that a gate may say of its text, and only `ask` gives it
  pub said : All (λ r. may_say r.text r.verdict) (asked_records_of history)
  -- no text has two
  pub distinct : IsDistinct bytes_eq (texts_of (records_of history))
  -- the workers' gates were opened for the script and the input, and asked as often as there are records that aren't kept; or not all were opened, and there
  -- is no such record. The others are as handed in
  pub asked : GatesWereUsed options (texts_of (asked_records_of history)) (logs_of old.gates) (logs_of new.gates) old.journal new.journal
  pub other_gates : drop options.jobs new.gates ≡ drop options.jobs old.gates
  -- each text is of some of the start's lines or tokens, those that must stay among them, in the language of the grammar as it is written, and has each
  -- keep text. With `--respell` tokens may have other spellings that their kinds have in the start
  pub candidates : All (λ r. IsCandidateOf (admits_of options problem) problem r.text) (records_of history)
  -- none is longer than the start
  pub short : All (λ r. length r.text ≤ length (start_text problem)) (records_of history)
  -- the first is the start, and after its no nothing was asked
  pub first : BeginsAt (start_text problem) (records_of history)
  pub ends_at_no : FirstIsNo (records_of history) → OnlyNo (records_of history)
  -- ---- the journal
  -- at 0, 4 and 8 it was opened under its name, and then got the bytes of the history, all of them and nothing else
  pub journal : IsOneOf (0 ∷ 4 ∷ 8 ∷ []) status → JournalWhole options.journal start history old.journal new.journal
  -- at 1 and 11 too; or it is as handed in or was only opened, and there is no history
  pub journal_so_far : IsOneOf (1 ∷ 11 ∷ []) status → JournalSoFar options.journal start history old.journal new.journal
  -- at 12 it wasn't opened, or broke off in its head, and there is no history; or in an event: by one worker in the last record, or in a commit or a kept
  -- record that would come next
  pub journal_broken : status ≡ 12 → JournalBroken options.jobs options.journal start (verdict_in kept) history old.journal new.journal
  -- at the others it and the gates are as handed in, and there is no history
  pub not_reached : ¬ IsOneOf (0 ∷ 1 ∷ 4 ∷ 8 ∷ 11 ∷ 12 ∷ []) status → NotReached history old new
  -- the start's digest and the history can be read back of the journal's bytes, and no others have them
  pub readable : IsHistory history
  pub only : (digest : Digest) (other : History) → IsDigest digest → IsHistory other → journal_text digest other ≡ journal_text start history
      → (digest ≡ start) × (other ≡ history)
  -- the texts of the earlier records that the commits name are what the reduction asks, in its order, from the first on; so there are no more
  pub legal : IsPrefix (committed_texts history) (questions_over (admits_of options problem) problem history)
  pub bounded : answer_count history ≤ length (questions_over (admits_of options problem) problem history)
  -- where there is a result, they are all of them
  pub ended : HasResult status → committed_texts history ≡ questions_over (admits_of options problem) problem history
  -- by one worker the history is a beginning of what one thread does that asks these texts and has these kept verdicts; where there is a result, all of it
  pub alone : options.jobs ≡ 1 → IsPrefix history (thread_over (admits_of options problem) problem (verdict_in kept) history)
  pub whole : HasResult status → options.jobs ≡ 1 → history ≡ thread_over (admits_of options problem) problem (verdict_in kept) history
  -- at 0 the report was put on `out`, and nothing else
  pub report : status ≡ 0 → Puts (report_text (counts_of (admits_of options problem) problem (records_of history))) old.out new.out
  -- ---- the run succeeds
  -- where the input is one of its mode, with each keep text and the lines that are named, a journal that is named can be resumed, and no call failed; unless
  -- its only verdict is no (8), or memory ran out (1)
  pub succeeds : IsShownProblem (problem_in options) old.files
      (λ text. AcceptsStart options text × CanResume options.resume old.files text)
      → NoCallFailed options.jobs old new
      → (status ≡ 0) ⊎ ((status ≡ 8) × OnlyNo (records_of history)) ⊎ (status ≡ 1)
