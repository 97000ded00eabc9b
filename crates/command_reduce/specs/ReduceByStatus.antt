-- What each status of `reduce` means, read off how it ends.
use Rattle.std.specs.Prelude.{◌≡◌, ◌≢◌, ◌≤◌, ◌⊎◌, ℕ, ◌+◌, List, [], ◌∷◌, Some, None, codes}
use Rattle.keep_guard.specs.Keep.{first_missing}
use Rattle.edge_io.specs.Files.{IsLonger, SameFiles, SameOthers}
use Rattle.reduce_journal.specs.History.{History, records_of}
use Rattle.reduce_journal.specs.Journal.{IsBadAt, IsDigestOf, LacksHead}
use Rattle.reduce_journal.specs.declared.digest.Digest.{Digest}
use Rattle.verdict_table.specs.TableState.{verdict_in}
use Rattle.run_gated.specs.declared.known.Known.{Known}
use Rattle.run_gated.specs.Records.{OnlyNo}
use Rattle.command_reduce_calls.specs.Journal.{JournalBroken, JournalSoFar, JournalWhole}
use Rattle.command_reduce_calls.specs.Stays.{NamesBeyond}
use Rattle.reduce_trees_input.specs.Faults.{IsInputFault}
use Rattle.reduce_trees_input.specs.FaultText.{input_fault_text}
use Rattle.reduce_trees_input.specs.declared.fault.InputFault.{InputFault}
use Rattle.reduce_trees_input.specs.declared.fault.InputFault.TheVariants as input_fault
use Rattle.command_ends.specs.declared.status.NamedFile.{NamedFile}
use Rattle.command_grammar.specs.Grammar.{IsFaultIn}
use Rattle.command_grammar.specs.Texts.{GrammarWasRead}
use Rattle.run_problem.specs.Problem.{start_text}
use Rattle.command_reduce.specs.Reduce.{IsFileReached, IsReduced, ReduceEnds, ReducesTo, ScriptLeaves, path_of_file, problem_in}
use Rattle.command_reduce.specs.Resume.{IsOfOther, IsRead}
use Rattle.command_ends.specs.Status.{IsOneOf, IsUncut, PutsRefusal, bad_record_text, beyond_text, fault_line, keep_text, other_start_text, script_text}
use Rattle.command_words.specs.Commands.{GrammarOptions, ModeOptions, ReduceOptions}
use Rattle.command_ends.specs.World.{CallFailed, GateFailed, NotReached, Puts, PutsLine, PutsMessage, PutsPrefix, SeenFiles, SeenOut, WasRead, World}
use Rattle.command_ends.specs.World.{journal_limit}
use Rattle.command_problem.specs.Problem.{InputHas, ProblemRead, limit_of}

-- the line was put of a refusal that has this status, and names a file that is read if it names one
abbrev pub PutsItsLine : ReduceOptions → SeenFiles → SeenOut → SeenOut → ℕ → Type 0
PutsItsLine options files out out' status = (file : NamedFile) × IsFileReached options file files × PutsRefusal file out out' status

-- What `reduce` has done, by the number of its status.
pub record ReduceMeans (options : ReduceOptions) (known : Known) (history : History) (old new : World) (status : ℕ) : Type 0 where
  pub one_of : IsOneOf (0 ∷ 1 ∷ 3 ∷ 4 ∷ 5 ∷ 6 ∷ 7 ∷ 8 ∷ 9 ∷ 10 ∷ 11 ∷ 12 ∷ 13 ∷ 14 ∷ 16 ∷ []) status
  pub of_lines : options.mode ≡ ModeOptions.lines → IsOneOf (0 ∷ 1 ∷ 3 ∷ 4 ∷ 8 ∷ 9 ∷ 10 ∷ 11 ∷ 12 ∷ 13 ∷ 14 ∷ 16 ∷ []) status
  pub alone : options.resume ≡ None → IsOneOf (0 ∷ 1 ∷ 3 ∷ 4 ∷ 5 ∷ 6 ∷ 7 ∷ 8 ∷ 9 ∷ 10 ∷ 11 ∷ 12 ∷ 16 ∷ []) status
  pub done : status ≡ 0 → (report : List ℕ) × IsReduced options old.files new.files known history report × Puts report old.out new.out
  pub unread : status ≡ 3 → CallFailed old.files new.files
  pub write : status ≡ 4
      → (CallFailed old.files new.files × PutsItsLine options old.files old.out new.out status)
      ⊎ ((report : List ℕ) × IsReduced options old.files new.files known history report × PutsPrefix report old.out new.out)
  pub tried : status ≡ 4 → (text : List ℕ) × (report : List ℕ) × ReducesTo options old.files known history text report
  pub fault : status ≡ 5
      → (trees : GrammarOptions) × (text : List ℕ) × (options.mode ≡ ModeOptions.by_grammar trees)
      × GrammarWasRead trees.grammar old.files (λ texts. IsFaultIn trees.grammar texts text) × PutsLine (fault_line text) old.out new.out
  pub no_token : status ≡ 6
      → (trees : GrammarOptions) × (fault : InputFault) × (options.mode ≡ ModeOptions.by_grammar trees) × IsUncut fault
      × InputHas trees.grammar (λ c bytes. IsInputFault c bytes fault) (problem_in options) old.files × PutsMessage (input_fault_text fault) old.out new.out
  pub unparsed : status ≡ 7
      → (trees : GrammarOptions) × (options.mode ≡ ModeOptions.by_grammar trees)
      × InputHas trees.grammar (λ c bytes. IsInputFault c bytes input_fault.NoParse) (problem_in options) old.files
  pub not_interesting : status ≡ 8 → OnlyNo (records_of history)
  pub keep_missing : status ≡ 9
      → (index : ℕ) × ProblemRead (problem_in options) old.files (λ problem. first_missing options.keeps (start_text problem) ≡ Some index)
      × PutsMessage (keep_text (index + 1)) old.out new.out
  pub too_long : status ≡ 10 → (file : NamedFile) × IsFileReached options file old.files
      × IsLonger (limit_of file) (old.files.shown (path_of_file options file))
  pub script : status ≡ 11
      → (worker : ℕ) × (worker ≤ options.jobs) × GateFailed worker old.gates new.gates × ScriptLeaves options known history worker old new
      × PutsMessage (script_text worker) old.out new.out
  pub journal : status ≡ 12
      → CallFailed old.journal new.journal
      × JournalBroken options.jobs options.journal known.start (verdict_in known.kept) history old.journal new.journal
  pub other_start : status ≡ 13
      → (path : List ℕ) × (other : Digest) × (start : Digest) × (options.resume ≡ Some path)
      × ProblemRead (problem_in options) old.files (λ problem. IsDigestOf (start_text problem) start)
      × WasRead journal_limit (old.files.shown path) (λ bytes. IsRead bytes (IsOfOther start other))
      × PutsMessage (other_start_text other start) old.out new.out
  pub bad_journal : status ≡ 14
      → (path : List ℕ) × (options.resume ≡ Some path)
      × ((WasRead journal_limit (old.files.shown path) LacksHead × PutsMessage (codes "bad journal head") old.out new.out)
      ⊎ ((offset : ℕ) × WasRead journal_limit (old.files.shown path) (λ bytes. IsBadAt bytes offset)
      × PutsMessage (bad_record_text offset) old.out new.out))
  pub beyond : status ≡ 16
      → (last : ℕ) × (lines : ℕ) × ProblemRead (problem_in options) old.files (λ problem. NamesBeyond options last lines (start_text problem))
      × PutsMessage (beyond_text last lines) old.out new.out
  pub whole : IsOneOf (0 ∷ 4 ∷ 8 ∷ []) status → JournalWhole options.journal known.start history old.journal new.journal
  pub so_far : status ≡ 1 → JournalSoFar options.journal known.start history old.journal new.journal
  pub early : ¬ IsOneOf (0 ∷ 1 ∷ 4 ∷ 8 ∷ 11 ∷ 12 ∷ []) status → NotReached history old new
  pub others : SameOthers old.files.shown new.files.shown options.output
  pub unwritten : status ≢ 0 → status ≢ 4 → SameFiles old.files.shown new.files.shown
  pub line : IsOneOf (1 ∷ 3 ∷ 7 ∷ 8 ∷ 10 ∷ 12 ∷ []) status → PutsItsLine options old.files old.out new.out status

abbrev pub ReduceByStatus : Type 0
ReduceByStatus =
    (options : ReduceOptions) (known : Known) (history : History) (old new : World) (status : ℕ) → ReduceEnds options known history old new status
    → ReduceMeans options known history old new status
