-- The command `reduce`: how it ends, by its status, and what its history and its records are.
use Rattle.std.specs.Prelude.{◌≡◌, ◌≢◌, ◌<◌, ◌≤◌, ◌⊎◌, ℕ, suc, ◌+◌, drop, length, map, sum, List, [], ◌∷◌}
use Rattle.std.specs.Prelude.{◌++◌, true, false, Option, Some, None, IsSome, All, codes, option_map, unwrap_or}
use Rattle.std.specs.List.{IsDistinct}
use Rattle.std.specs.Option.{option_to_list}
use Rattle.std.specs.Str.{bytes_eq}
use Rattle.script_gate_trait.specs.declared.gate.Verdict.{Verdict}
use Rattle.script_gate_trait.specs.declared.log.Log.{Log}
use Rattle.edge_io.specs.Files.{Holds, IsLonger, SameFiles, SameOthers}
use Rattle.verdict_table.specs.declared.record.Record.{Record}
use Rattle.reduce_journal.specs.History.{History, asked_records_of, records_of}
use Rattle.reduce_journal.specs.Journal.{IsBadAt, IsDigestOf, LacksHead}
use Rattle.reduce_journal.specs.declared.digest.Digest.{Digest}
use Rattle.reduce_journal.specs.Report.{report_text}
use Rattle.reduce_journal.specs.declared.counts.Counts.{Counts}
use Rattle.command_reduce_calls.specs.Journal.{JournalBroken, JournalSoFar, JournalUntouched, JournalWhole}
use Rattle.command_reduce_calls.specs.Stays.{AcceptsStart, NamesBeyond, first_beyond_start, tokens_stay, wishes_of}
use Rattle.verdict_table.specs.TableState.{texts_of, verdict_in}
use Rattle.ordered_commit.specs.Replay.{AllGoWith}
use Rattle.keep_guard.specs.Keep.{first_missing, holds_all}
use Rattle.reduce_core.specs.Reduction.{Admits}
use Rattle.line_guard.specs.MustStay.{Stays, stays_admit}
use Rattle.line_guard.specs.Protected.{protected_lines, protected_tokens}
use Rattle.run_gated.specs.Records.{FirstIsNo}
use Rattle.run_gated.specs.declared.known.Known.{Known}
use Rattle.reduce_trees_mode.specs.Input.{TreeInput}
use Rattle.reduce_trees_input.specs.Faults.{IsInputFault}
use Rattle.reduce_trees_input.specs.FaultText.{input_fault_text}
use Rattle.reduce_trees_input.specs.declared.fault.InputFault.{InputFault}
use Rattle.reduce_trees_input.specs.declared.fault.InputFault.TheVariants as input_fault
use Rattle.command_ends.specs.declared.status.NamedFile.{NamedFile}
use Rattle.command_ends.specs.declared.status.NamedFile.TheVariants as named
use Rattle.command_grammar.specs.Grammar.{IsFaultIn, IsGrammarText}
use Rattle.command_grammar.specs.Texts.{GrammarIsShown, GrammarWasRead, grammar_paths}
use Rattle.run_problem.specs.Problem.{Problem, start_text}
use Rattle.run_problem.specs.Ends.{AreOf, IsRefused, IsUnfinished, ReducesFrom}
use Rattle.command_problem.specs.Problem.{InputHas, IsReached, IsShownFault, IsShownGrammar, IsShownProblem, ProblemOptions, ProblemRead, limit_of, path_in}
use Rattle.command_problem.specs.Problem.{paths_before, problem_paths}
use Rattle.command_ends.specs.Status.{IsOneOf, IsUncut, bad_record_text, beyond_text, fault_line, keep_text, other_start_text, script_text, word_for}
use Rattle.command_words.specs.Commands.{GrammarOptions, ModeOptions, ReduceOptions}
use Rattle.worker_pool.specs.RunHistory.{with_all_asked}
use Rattle.command_reduce_calls.specs.Openings.{opened_from, opened_log}
use Rattle.command_ends.specs.World.{AnyGateFailed, AreQuiet, CallFailed, FilesRead, GateFailed, IsOver, IsQuiet, NotReached, Puts, SomeFilesRead, logs_of}
use Rattle.command_ends.specs.World.{UnreadAfter, UnwrittenAfter, WrittenAfter}
use Rattle.command_ends.specs.World.{PutsLine, PutsMessage, PutsPrefix, SeenFiles, SeenJournal, WasRead, World, grammar_limit, input_limit, journal_limit}
use Rattle.command_reduce.specs.Resume.{CanResume, IsKnownOf, IsOfOther, IsRead, IsShownBad, IsShownOfOther}

-- what is admitted of a tree: what has each keep text, and keeps the tokens that must stay
abbrev pub tree_admits : ReduceOptions → TreeInput → Admits
tree_admits options input = stays_admit (tokens_stay options input.start input.tokens)

-- what its command line says of the problem
abbrev pub problem_in : ReduceOptions → ProblemOptions
problem_in options = record { mode = options.mode; respell = options.respell; input = options.input; admitted = tree_admits options }

-- a problem was read in whose start each keep text occurs, and each line that is named is there, and the fact holds of it
abbrev pub ProblemAccepted : ReduceOptions → SeenFiles → (Problem → Type 0) → Type 0
ProblemAccepted options files P = ProblemRead (problem_in options) files (λ problem. AcceptsStart options (start_text problem) × P problem)

-- the numbers, from 0, of the lines or tokens of a problem that must stay
abbrev pub numbers_stay : ReduceOptions → Problem → List ℕ
numbers_stay options (Problem.of_lines start) = protected_lines (wishes_of options.protects) start
numbers_stay options (Problem.of_tree mode input) = protected_tokens (wishes_of options.protects) input.start input.tokens
numbers_stay options (Problem.of_respelling mode input) = protected_tokens (wishes_of options.protects) input.start input.tokens

-- what must stay of a problem
abbrev pub stays_of : ReduceOptions → Problem → Stays
stays_of options problem = record { texts = options.keeps; numbers = numbers_stay options problem }

-- what is admitted of it
abbrev pub admits_of : ReduceOptions → Problem → Admits
admits_of options problem = stays_admit (stays_of options problem)

-- the problem, of which this is known and whose history this is, reduces to the text, and this is its report
abbrev pub ReducesTo : ReduceOptions → SeenFiles → Known → History → List ℕ → List ℕ → Type 0
ReducesTo options files known history text report = ProblemAccepted options files (λ problem.
    IsKnownOf options files (start_text problem) known
    × (counts : Counts) × ReducesFrom options.jobs (verdict_in known.kept) (admits_of options problem) problem history text counts
    × (report ≡ report_text counts)
    × AreOf options.jobs (verdict_in known.kept) (admits_of options problem) problem history)

-- the output file holds what the input reduces to, of which this is the report
pub record IsReduced (options : ReduceOptions) (files files' : SeenFiles) (known : Known) (history : History) (report : List ℕ) : Type 0 where
  pub text : List ℕ
  pub reduces : ReducesTo options files known history text report
  pub written : Holds text (files'.shown options.output)

-- this is known of the problem, and the history is one of it
abbrev pub IsHistoryWith : ReduceOptions → SeenFiles → Known → History → Problem → Type 0
IsHistoryWith options files known history problem =
    IsKnownOf options files (start_text problem) known × AreOf options.jobs (verdict_in known.kept) (admits_of options problem) problem history

-- neither a gate nor the journal was reached, and the known digest is that of no bytes; or the input was read and accepted, and the history is one of it
abbrev pub IsHistoryOfInput : ReduceOptions → Known → History → World → World → Type 0
IsHistoryOfInput options known history old new =
    (NotReached history old new × IsDigestOf [] known.start) ⊎ ProblemAccepted options old.files (IsHistoryWith options old.files known history)

-- the logs of gates after those of the workers from this number on were opened, and then asked these texts, a list for each; the others are as before
abbrev pub used_from : ReduceOptions → ℕ → List (List (List ℕ)) → List (Option Log) → List (Option Log)
used_from options number [] logs = logs
used_from options number (texts ∷ shares) [] = []
used_from options number (texts ∷ shares) (log ∷ logs) =
    option_map (with_all_asked texts) (opened_log options number log) ∷ used_from options (suc number) shares logs

-- The gates of all workers were opened, and then asked as often as there are texts. The gate of a worker alone was asked for these, in this order.
pub record GatesWereAsked (options : ReduceOptions) (texts : List (List ℕ)) (old new : List (Option Log)) : Type 0 where
  pub shares : List (List (List ℕ))
  pub one_each : length shares ≡ options.jobs
  pub total : sum (map (λ share. length share) shares) ≡ length texts
  pub alone : options.jobs ≡ 1 → shares ≡ texts ∷ []
  pub used : new ≡ used_from options 1 shares old

-- Some gates were opened, but not those of all workers, none was asked, and the journal is as before.
pub record GatesWereOpened (options : ReduceOptions) (texts : List (List ℕ)) (old new : List (Option Log)) (before after : SeenJournal) : Type 0 where
  pub opened : ℕ
  pub not_all : suc opened < options.jobs
  pub none : texts ≡ []
  pub logs : new ≡ opened_from options 1 (suc opened) old
  pub journal : after ≡ before

-- no gate was opened or asked, and the journal is as before; or some were opened; or all of the workers were, and asked
abbrev pub GatesWereUsed : ReduceOptions → List (List ℕ) → List (Option Log) → List (Option Log) → SeenJournal → SeenJournal → Type 0
GatesWereUsed options texts old new before after =
    ((texts ≡ []) × (new ≡ old) × (after ≡ before)) ⊎ GatesWereOpened options texts old new before after ⊎ GatesWereAsked options texts old new

-- the paths of all files that are read, in their order: the grammar's, the input's, and that of the journal that is resumed; and of those before this one
abbrev pub read_paths : ReduceOptions → List (List ℕ)
read_paths options = problem_paths (problem_in options) ++ option_to_list options.resume

abbrev pub read_before : ReduceOptions → NamedFile → List (List ℕ)
read_before options named.Journal = problem_paths (problem_in options)
read_before options file = paths_before (problem_in options) file

-- the output file has what the input reduces to, and no other file was changed; the files were read in their order, and then it was written; the journal has
-- the whole history; and no call failed
pub record WritesReduced (options : ReduceOptions) (known : Known) (history : History) (report : List ℕ) (old new : World) : Type 0 where
  pub reduced : IsReduced options old.files new.files known history report
  pub others : SameOthers old.files.shown new.files.shown options.output
  pub calls : WrittenAfter (read_paths options) options.output old.calls new.calls
  pub files_quiet : IsQuiet old.files new.files
  pub gates_quiet : AreQuiet old.gates new.gates
  pub journal : JournalWhole options.journal known.start history old.journal new.journal

-- a journal that is to be resumed is read, once the input was accepted
abbrev pub IsResumeReached : ReduceOptions → SeenFiles → Type 0
IsResumeReached options files = IsSome options.resume × ProblemAccepted options files (λ problem. Unit {0})

-- the file is read
abbrev pub IsFileReached : ReduceOptions → NamedFile → SeenFiles → Type 0
IsFileReached options named.Journal files = IsResumeReached options files
IsFileReached options file files = IsReached options.mode file files

-- its path
abbrev pub path_of_file : ReduceOptions → NamedFile → List ℕ
path_of_file options named.Journal = unwrap_or options.resume []
path_of_file options file = path_in (problem_in options) file

-- a status of a run that reached neither a gate nor the journal
abbrev pub EndsBeforeTheRun : ℕ → Type 0
EndsBeforeTheRun status = IsOneOf (3 ∷ 5 ∷ 6 ∷ 7 ∷ 9 ∷ 10 ∷ 13 ∷ 14 ∷ 16 ∷ []) status

-- The gate of this worker wasn't opened; those of the workers before it were, and the other gates and the journal are as before.
pub record GateUnopened (options : ReduceOptions) (history : History) (worker : ℕ) (logs logs' : List (Option Log)) (old new : SeenJournal) : Type 0 where
  pub opened : ℕ
  pub at : worker ≡ suc opened
  pub before : logs' ≡ opened_from options 1 opened logs
  pub untouched : JournalUntouched history old new

-- where a call of the gate of this worker failed: the journal has the whole history; or the gate wasn't opened, and nothing was recorded
abbrev pub ScriptLeaves : ReduceOptions → Known → History → ℕ → World → World → Type 0
ScriptLeaves options known history worker old new =
    JournalWhole options.journal known.start history old.journal new.journal
    ⊎ GateUnopened options history worker (logs_of old.gates) (logs_of new.gates) old.journal new.journal

-- How `reduce` ends, by its status; this is known before its run, if there is one.
pub data ReduceEnds (options : ReduceOptions) (known : Known) (history : History) (old new : World) : ℕ → Type 0 where
  -- the result was written, and its report was put on `out`
  done : (report : List ℕ)
      → (writes : WritesReduced options known history report old new)
      → (put : Puts report old.out new.out)
      → ReduceEnds options known history old new 0
  -- out of memory, for which there is no evidence; no file was changed, and the gate of a worker alone didn't fail
  memory : (files : SomeFilesRead (read_paths options) old new)
      → (gates_quiet : options.jobs ≡ 1 → AreQuiet old.gates new.gates)
      → (journal : JournalSoFar options.journal known.start history old.journal new.journal)
      → (line : PutsMessage (codes "out of memory") old.out new.out)
      → ReduceEnds options known history old new 1
  -- a read failed of the file that the line names, after those of the files before it, and neither a gate nor the journal was reached
  unread : (file : NamedFile)
      → (reached : IsFileReached options file old.files)
      → (failed : CallFailed old.files new.files)
      → (reads : UnreadAfter (read_before options file) (path_of_file options file) old.calls new.calls)
      → (same : SameFiles old.files.shown new.files.shown)
      → (untouched : NotReached history old new)
      → (line : PutsMessage (codes "cannot read " ++ word_for file) old.out new.out)
      → ReduceEnds options known history old new 3
  -- the input reduces to some text, but the write of the output file failed, which may hold anything
  unwritten : (failed : CallFailed old.files new.files)
      → (calls : UnwrittenAfter (read_paths options) options.output old.calls new.calls)
      → (text report : List ℕ)
      → (reduces : ReducesTo options old.files known history text report)
      → (others : SameOthers old.files.shown new.files.shown options.output)
      → (gates_quiet : AreQuiet old.gates new.gates)
      → (journal : JournalWhole options.journal known.start history old.journal new.journal)
      → (line : PutsMessage (codes "cannot write") old.out new.out)
      → ReduceEnds options known history old new 4
  -- the result was written, but the put of its report failed: some prefix of it was put, and nothing more
  unput : (report : List ℕ)
      → (writes : WritesReduced options known history report old new)
      → (put : PutsPrefix report old.out new.out)
      → ReduceEnds options known history old new 4
  -- the grammar's files have no well-formed grammar, the line says why, and neither a gate nor the journal was reached
  faulty : (trees : GrammarOptions) (text : List ℕ)
      → (mode : options.mode ≡ ModeOptions.by_grammar trees)
      → (read : GrammarWasRead trees.grammar old.files (λ texts. IsFaultIn trees.grammar texts text))
      → (files : FilesRead (grammar_paths trees.grammar) old new)
      → (untouched : NotReached history old new)
      → (line : PutsLine (fault_line text) old.out new.out)
      → ReduceEnds options known history old new 5
  -- the grammar was read; the input isn't UTF-8, or isn't cut into tokens, and the line says from where on; and neither a gate nor the journal was reached
  no_token : (trees : GrammarOptions) (fault : InputFault)
      → (mode : options.mode ≡ ModeOptions.by_grammar trees)
      → (uncut : IsUncut fault)
      → (read : InputHas trees.grammar (λ c bytes. IsInputFault c bytes fault) (problem_in options) old.files)
      → (files : FilesRead (problem_paths (problem_in options)) old new)
      → (untouched : NotReached history old new)
      → (line : PutsMessage (input_fault_text fault) old.out new.out)
      → ReduceEnds options known history old new 6
  -- the grammar was read, its start rule doesn't derive the input's tokens, and neither a gate nor the journal was reached
  unparsed : (trees : GrammarOptions)
      → (mode : options.mode ≡ ModeOptions.by_grammar trees)
      → (read : InputHas trees.grammar (λ c bytes. IsInputFault c bytes input_fault.NoParse) (problem_in options) old.files)
      → (files : FilesRead (problem_paths (problem_in options)) old new)
      → (untouched : NotReached history old new)
      → (line : PutsMessage (codes "input does not parse") old.out new.out)
      → ReduceEnds options known history old new 7
  -- the input was read, and its verdict is no
  uninteresting : (read : ProblemAccepted options old.files (λ problem.
      IsKnownOf options old.files (start_text problem) known × IsRefused options.jobs (verdict_in known.kept) (admits_of options problem) problem history))
      → (files : FilesRead (read_paths options) old new)
      → (gates_quiet : AreQuiet old.gates new.gates)
      → (journal : JournalWhole options.journal known.start history old.journal new.journal)
      → (line : PutsMessage (codes "start is not interesting") old.out new.out)
      → ReduceEnds options known history old new 8
  -- the input was read, a keep text doesn't occur in it, the line names the first such by its number from 1, and neither a gate nor the journal was reached
  keep_missing : (index : ℕ)
      → (read : ProblemRead (problem_in options) old.files (λ problem. first_missing options.keeps (start_text problem) ≡ Some index))
      → (files : FilesRead (problem_paths (problem_in options)) old new)
      → (untouched : NotReached history old new)
      → (line : PutsMessage (keep_text (index + 1)) old.out new.out)
      → ReduceEnds options known history old new 9
  -- a file that is read is longer than its limit, the line names it, and neither a gate nor the journal was reached
  too_long : (file : NamedFile)
      → (reached : IsFileReached options file old.files)
      → (longer : IsLonger (limit_of file) (old.files.shown (path_of_file options file)))
      → (files : FilesRead (read_before options file ++ path_of_file options file ∷ []) old new)
      → (untouched : NotReached history old new)
      → (line : PutsMessage (word_for file ++ codes " is too long") old.out new.out)
      → ReduceEnds options known history old new 10
  -- the input was accepted, the journal that is resumed is of another start, and the line has the digests of that and of the input; neither a gate nor the
  -- new journal was reached
  other_start : (path : List ℕ) (other start : Digest)
      → (named : options.resume ≡ Some path)
      → (read : ProblemAccepted options old.files (λ problem. IsDigestOf (start_text problem) start))
      → (resumed : WasRead journal_limit (old.files.shown path) (λ bytes. IsRead bytes (IsOfOther start other)))
      → (files : FilesRead (read_paths options) old new)
      → (untouched : NotReached history old new)
      → (line : PutsMessage (other_start_text other start) old.out new.out)
      → ReduceEnds options known history old new 13
  -- the input was accepted, and the file that is to be resumed begins with no whole head of a journal
  no_head : (path : List ℕ)
      → (named : options.resume ≡ Some path)
      → (read : ProblemAccepted options old.files (λ problem. Unit {0}))
      → (bad : WasRead journal_limit (old.files.shown path) LacksHead)
      → (files : FilesRead (read_paths options) old new)
      → (untouched : NotReached history old new)
      → (line : PutsMessage (codes "bad journal head") old.out new.out)
      → ReduceEnds options known history old new 14
  -- the same of one that has neither an event, nor its end, nor a torn tail at the offset that the line names
  bad_event : (path : List ℕ) (offset : ℕ)
      → (named : options.resume ≡ Some path)
      → (read : ProblemAccepted options old.files (λ problem. Unit {0}))
      → (bad : WasRead journal_limit (old.files.shown path) (λ bytes. IsBadAt bytes offset))
      → (files : FilesRead (read_paths options) old new)
      → (untouched : NotReached history old new)
      → (line : PutsMessage (bad_record_text offset) old.out new.out)
      → ReduceEnds options known history old new 14
  -- the input was read, a call failed of the gate of the worker that the line names, and the journal has the whole history, unless that gate wasn't opened;
  -- with one worker the input's verdict isn't no, its reduction wasn't finished, and the history is all that one thread does over its records
  script : (worker : ℕ) (one_of : worker ≤ options.jobs) (failed : GateFailed worker old.gates new.gates)
      → (read : ProblemAccepted options old.files (λ problem.
      IsKnownOf options old.files (start_text problem) known
      × (options.jobs ≡ 1 → IsUnfinished (verdict_in known.kept) (admits_of options problem) problem history)))
      → (files : FilesRead (read_paths options) old new)
      → (journal : ScriptLeaves options known history worker old new)
      → (line : PutsMessage (script_text worker) old.out new.out)
      → ReduceEnds options known history old new 11
  -- the input was read, and a call of the journal failed: it wasn't opened, or it broke off
  journal : (failed : CallFailed old.journal new.journal)
      → (read : ProblemAccepted options old.files (IsHistoryWith options old.files known history))
      → (broken : JournalBroken options.jobs options.journal known.start (verdict_in known.kept) history old.journal new.journal)
      → (gates_quiet : options.jobs ≡ 1 → AreQuiet old.gates new.gates)
      → (files : FilesRead (read_paths options) old new)
      → (line : PutsMessage (codes "journal fault") old.out new.out)
      → ReduceEnds options known history old new 12
  -- the input was read, each keep text occurs in it, the line on `out` names the first last line of `--protect`, and then of `--only`, that is beyond its
  -- lines, and neither a gate nor the journal was reached
  beyond : (last lines : ℕ)
      → (read : ProblemRead (problem_in options) old.files (λ problem. NamesBeyond options last lines (start_text problem)))
      → (files : FilesRead (problem_paths (problem_in options)) old new)
      → (untouched : NotReached history old new)
      → (line : PutsMessage (beyond_text last lines) old.out new.out)
      → ReduceEnds options known history old new 16

-- Which status it has to be. This follows from how `reduce` ends.
pub record ReduceMustEnd (options : ReduceOptions) (records : List Record) (old new : World) (status : ℕ) : Type 0 where
  -- a grammar over its limit is refused
  pub grammar_over : (trees : GrammarOptions) → options.mode ≡ ModeOptions.by_grammar trees → IsOver grammar_limit (old.files.shown trees.grammar.path)
      → IsOneOf (10 ∷ 3 ∷ 1 ∷ []) status
  -- a grammar that isn't there can't be read
  pub grammar_missing : (trees : GrammarOptions) → options.mode ≡ ModeOptions.by_grammar trees → old.files.shown trees.grammar.path ≡ Some None
      → IsOneOf (3 ∷ 1 ∷ []) status
  -- so are a lexer over its limit, and one that isn't there, unless the other file was refused before
  pub lexer_over : (trees : GrammarOptions) (lexer : List ℕ) → options.mode ≡ ModeOptions.by_grammar trees → trees.grammar.lexer ≡ Some lexer
      → IsOver grammar_limit (old.files.shown lexer) → IsOneOf (10 ∷ 3 ∷ 1 ∷ []) status
  pub lexer_missing : (trees : GrammarOptions) (lexer : List ℕ) → options.mode ≡ ModeOptions.by_grammar trees → trees.grammar.lexer ≡ Some lexer
      → old.files.shown lexer ≡ Some None → IsOneOf (3 ∷ 10 ∷ 1 ∷ []) status
  -- a faulty grammar within its limit is refused
  pub faulty : (trees : GrammarOptions) → options.mode ≡ ModeOptions.by_grammar trees
      → GrammarIsShown trees.grammar old.files (λ texts. ¬ IsGrammarText trees.grammar texts) → IsOneOf (5 ∷ 3 ∷ 1 ∷ []) status
  -- an input over its limit is refused as such, where the mode has no grammar or a well-formed one
  pub input_over : IsShownGrammar options.mode old.files → IsOver input_limit (old.files.shown options.input) → IsOneOf (10 ∷ 3 ∷ 1 ∷ []) status
  -- an input that isn't there can't be read, where the mode has no grammar or a well-formed one
  pub input_missing : IsShownGrammar options.mode old.files → old.files.shown options.input ≡ Some None → IsOneOf (3 ∷ 1 ∷ []) status
  -- whatever the grammar is, an input over its limit is refused, unless the grammar was refused before
  pub over : IsOver input_limit (old.files.shown options.input) → IsOneOf (10 ∷ 3 ∷ 5 ∷ 1 ∷ []) status
  -- whatever the grammar is, an input that isn't there can't be read, unless the grammar was refused before
  pub missing : old.files.shown options.input ≡ Some None → IsOneOf (3 ∷ 5 ∷ 10 ∷ 1 ∷ []) status
  -- an input within its limit whose bytes aren't cut into tokens is refused, where the grammar is well-formed
  pub no_token : (trees : GrammarOptions) → options.mode ≡ ModeOptions.by_grammar trees
      → IsShownFault trees.grammar (problem_in options) old.files (λ fault. IsUncut fault) → IsOneOf (6 ∷ 3 ∷ 1 ∷ []) status
  -- one whose tokens the start rule doesn't derive is refused, where the grammar is well-formed
  pub unparsed : (trees : GrammarOptions) → options.mode ≡ ModeOptions.by_grammar trees
      → IsShownFault trees.grammar (problem_in options) old.files (λ fault. fault ≡ input_fault.NoParse) → IsOneOf (7 ∷ 3 ∷ 1 ∷ []) status
  -- an input in which a keep text doesn't occur is refused, where it is a problem of its mode
  pub keep_missing : IsShownProblem (problem_in options) old.files (λ start. holds_all options.keeps start ≡ false) → IsOneOf (9 ∷ 3 ∷ 1 ∷ []) status
  -- so is one, in which each keep text occurs, that has no line of a number that is named
  pub beyond : IsShownProblem (problem_in options) old.files
      (λ start. (holds_all options.keeps start ≡ true) × (first_beyond_start options.protects start ≢ None))
      → IsOneOf (16 ∷ 3 ∷ 1 ∷ []) status
  -- so is, after such a problem, a journal that is to be resumed: one over its limit, one that isn't there, one of another start, and what is no journal
  pub journal_over : (path : List ℕ) → options.resume ≡ Some path → IsShownProblem (problem_in options) old.files (AcceptsStart options)
      → IsOver journal_limit (old.files.shown path) → IsOneOf (10 ∷ 3 ∷ 1 ∷ []) status
  pub journal_missing : (path : List ℕ) → options.resume ≡ Some path → IsShownProblem (problem_in options) old.files (AcceptsStart options)
      → old.files.shown path ≡ Some None → IsOneOf (3 ∷ 1 ∷ []) status
  pub other_start : (path : List ℕ) → options.resume ≡ Some path
      → IsShownProblem (problem_in options) old.files (λ start. AcceptsStart options start × IsShownOfOther path old.files start)
      → IsOneOf (13 ∷ 3 ∷ 1 ∷ []) status
  pub bad_journal : (path : List ℕ) → options.resume ≡ Some path → IsShownProblem (problem_in options) old.files (AcceptsStart options)
      → IsShownBad path old.files → IsOneOf (14 ∷ 3 ∷ 1 ∷ []) status
  -- a problem in which each keep text occurs, and that has the lines that are named, is reduced, or isn't interesting, where no call failed, and a journal
  -- that is named can be resumed
  pub complete : IsShownProblem (problem_in options) old.files (λ start. AcceptsStart options start × CanResume options.resume old.files start)
      → ¬ CallFailed old.files new.files
      → ¬ AnyGateFailed options.jobs old.gates new.gates → ¬ CallFailed old.journal new.journal → ¬ CallFailed old.out new.out
      → IsOneOf (0 ∷ 8 ∷ 1 ∷ []) status
  -- a first no ends the run, unless it can't be written; or another worker's gate fails
  pub first_no : FirstIsNo records → IsOneOf (8 ∷ 11 ∷ 12 ∷ 1 ∷ []) status
  pub first_no_alone : options.jobs ≡ 1 → FirstIsNo records → IsOneOf (8 ∷ 12 ∷ 1 ∷ []) status
  -- where a call of the files failed, a file wasn't read or the result wasn't written
  pub files_failed : ¬ IsQuiet old.files new.files → IsOneOf (3 ∷ 4 ∷ []) status
  -- where a call of a gate failed, that is the status, unless memory ran out before or a call of the journal failed too; with one worker nothing else can have
  pub gate_failed : ¬ AreQuiet old.gates new.gates → IsOneOf (11 ∷ 12 ∷ 1 ∷ []) status
  pub gate_failed_alone : options.jobs ≡ 1 → ¬ AreQuiet old.gates new.gates → status ≡ 11
  -- where a call of the journal failed, that is the status
  pub journal_failed : ¬ IsQuiet old.journal new.journal → status ≡ 12
  -- where the put failed, it was that of the report (4) or of another status's line
  pub out_failed : ¬ IsQuiet old.out new.out → status ≢ 0

-- What holds of the records at every status, as the gates show them: no text is there twice; a record is kept exactly where its text has a kept verdict, and
-- then it has that one; each other verdict is a gate's, and the gates of the workers were opened for this input and script and asked as often as there are
-- such records, unless one wasn't opened, and then the journal wasn't either.
pub record RecordsAreSound (options : ReduceOptions) (may_say : List ℕ → Verdict → Type 0) (kept : List Record) (history : History)
    (old new : List (Option Log)) (before after : SeenJournal) : Type 0 where
  pub distinct : IsDistinct bytes_eq (texts_of (records_of history))
  pub resumed : AllGoWith (verdict_in kept) history
  pub said : All (λ r. may_say r.text r.verdict) (asked_records_of history)
  pub used : GatesWereUsed options (texts_of (asked_records_of history)) old new before after

-- A run of `reduce` with these options, before which this was known. Some history has come of it: that of the journal's bytes, where it shows them and is
-- whole. The gates beyond those of the workers are as before.
pub record Reduces (options : ReduceOptions) (may_say : List ℕ → Verdict → Type 0) (old new : World) (status : ℕ) : Type 0 where
  pub history : History
  pub known : Known
  pub ends : ReduceEnds options known history old new status
  pub must_end : ReduceMustEnd options (records_of history) old new status
  pub sound : RecordsAreSound options may_say known.kept history (logs_of old.gates) (logs_of new.gates) old.journal new.journal
  pub of_input : IsHistoryOfInput options known history old new
  pub others : drop options.jobs new.gates ≡ drop options.jobs old.gates
