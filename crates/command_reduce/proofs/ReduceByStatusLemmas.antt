-- Each status of `reduce`, from how it ends.
use Rattle.std.proofs.Common.{◌≡◌, ◌≢◌, ◌≤◌, ◌⊎◌, inl, inr, ℕ, ◌+◌, List, [], ◌∷◌, Some, None, codes, ⊎_elim, refl, sym, ◌∙◌}
use Rattle.std.proofs.lemmas.Bool.{false≢true}
use Rattle.faults.specs.Memory.{ran_out}
use Rattle.keep_guard.specs.Keep.{first_missing}
use Rattle.edge_io.specs.Files.{IsLonger, SameFiles, SameOthers}
use Rattle.verdict_table.specs.TableState.{verdict_in}
use Rattle.run_gated.specs.declared.known.Known.{Known}
use Rattle.reduce_journal.specs.Journal.{IsBadAt, IsDigestOf, LacksHead}
use Rattle.reduce_journal.specs.declared.digest.Digest.{Digest}
use Rattle.reduce_journal.specs.History.{History, records_of}
use Rattle.reduce_trees_input.specs.Faults.{IsInputFault}
use Rattle.reduce_trees_input.specs.FaultText.{input_fault_text}
use Rattle.reduce_trees_input.specs.declared.fault.InputFault.{InputFault}
use Rattle.reduce_trees_input.specs.declared.fault.InputFault.TheVariants as input_fault
use Rattle.command_ends.specs.declared.status.NamedFile.{NamedFile}
use Rattle.command_ends.specs.declared.status.NamedFile.TheVariants as named
use Rattle.command_ends.specs.declared.status.Refusal.TheVariants.{Memory, CannotRead, CannotWrite, NoParse, NotInteresting, TooLong, Journal}
use Rattle.run_gated.specs.Records.{OnlyNo}
use Rattle.command_grammar.specs.Grammar.{IsFaultIn}
use Rattle.command_grammar.specs.Texts.{GrammarWasRead}
use Rattle.run_problem.specs.Problem.{start_text}
use Rattle.run_problem.specs.Ends.{IsRefused}
use Rattle.command_reduce_calls.specs.Journal.{JournalBroken, JournalSoFar, JournalWhole}
use Rattle.command_reduce_calls.specs.Stays.{AcceptsStart, NamesBeyond}
use Rattle.command_reduce.specs.Reduce.{IsFileReached, IsReduced, ReduceEnds, ReducesTo, ScriptLeaves, admits_of, path_of_file, problem_in}
use Rattle.command_reduce.specs.Resume.{IsKnownOf, IsOfOther, IsRead}
use Rattle.command_reduce.specs.Reduce.ReduceEnds.{done, memory, unread, unwritten, unput, faulty, no_token, unparsed}
use Rattle.command_reduce.specs.Reduce.ReduceEnds.{uninteresting, keep_missing, beyond, too_long, other_start, no_head, bad_event, script, journal}
use Rattle.command_reduce.specs.ReduceByStatus.{PutsItsLine, ReduceByStatus}
use Rattle.command_words.specs.Commands.{GrammarOptions, ModeOptions, ReduceOptions}
use Rattle.command_ends.specs.Status.{IsOneOf, IsUncut, bad_record_text, beyond_text, fault_line, keep_text, other_start_text, script_text}
use Rattle.command_ends.specs.World.{CallFailed, GateFailed, NotReached, Puts, PutsLine, PutsMessage, PutsPrefix, SeenFiles, WasRead, World}
use Rattle.command_ends.specs.World.{journal_limit}
use Rattle.command_problem.specs.Problem.{InputHas, IsReached, ProblemRead, limit_of}
use Rattle.command_problem.proofs.Lent.{any_problem, problem_map}

-- some file is read in each mode
file_in : (mode : ModeOptions) (files : SeenFiles) → IsReached mode named.Input files ⊎ IsReached mode named.Grammar files
file_in ModeOptions.lines files = inl tt
file_in (ModeOptions.by_grammar trees) files = inr tt

file_of : (options : ReduceOptions) (files : SeenFiles) → (file : NamedFile) × IsFileReached options file files
file_of options files = ⊎_elim (λ input. (named.Input, input)) (λ grammar. (named.Grammar, grammar)) (file_in options.mode files)

module _ (options : ReduceOptions) (known : Known) (history : History) (old new : World) where
  abbrev Ends : ℕ → Type 0
  Ends status = ReduceEnds options known history old new status

  -- only a mode with a grammar has faults of it, and texts that aren't in its language
  is_of_lines : {status : ℕ} → Ends status → options.mode ≡ ModeOptions.lines
      → IsOneOf (0 ∷ 1 ∷ 3 ∷ 4 ∷ 8 ∷ 9 ∷ 10 ∷ 11 ∷ 12 ∷ 13 ∷ 14 ∷ 16 ∷ []) status
  is_of_lines (faulty trees text mode read files untouched put) is = absurd (cc (sym mode ∙ is))
  is_of_lines (no_token trees fault mode uncut read files untouched put) is = absurd (cc (sym mode ∙ is))
  is_of_lines (unparsed trees mode read files untouched put) is = absurd (cc (sym mode ∙ is))
  is_of_lines (done report writes put) is = refl
  is_of_lines (memory files gates_quiet kept put) is = refl
  is_of_lines (unread file reached failed calls same untouched put) is = refl
  is_of_lines (unwritten failed calls text report reduces others gates_quiet kept put) is = refl
  is_of_lines (uninteresting read files gates_quiet kept put) is = refl
  is_of_lines (keep_missing index read files untouched put) is = refl
  is_of_lines (beyond last lines read files untouched put) is = refl
  is_of_lines (too_long file reached longer files untouched put) is = refl
  is_of_lines (other_start path other start is_named read resumed files untouched put) is = refl
  is_of_lines (no_head path is_named read bad files untouched put) is = refl
  is_of_lines (bad_event path offset is_named read bad files untouched put) is = refl
  is_of_lines (script worker one_of failed read files kept put) is = refl
  is_of_lines (unput report writes put) is = refl
  is_of_lines (journal failed read broken gates_quiet files put) is = refl

  is_done : {status : ℕ} → Ends status → status ≡ 0 → (report : List ℕ) × IsReduced options old.files new.files known history report
      × Puts report old.out new.out
  is_done (done report writes put) is = (report, writes.reduced, put)
  is_done _ is = absurd (cc is)

  is_unread : {status : ℕ} → Ends status → status ≡ 3 → CallFailed old.files new.files
  is_unread (unread file reached failed calls same untouched put) is = failed
  is_unread _ is = absurd (cc is)

  is_unwritten : {status : ℕ} → Ends status → status ≡ 4
      → (CallFailed old.files new.files × PutsItsLine options old.files old.out new.out status)
      ⊎ ((report : List ℕ) × IsReduced options old.files new.files known history report × PutsPrefix report old.out new.out)
  is_unwritten (unwritten failed calls text report reduces others gates_quiet kept put) is =
      inl (failed, ((file_of options old.files).0, (file_of options old.files).1, (CannotWrite, tt, refl, put)))
  is_unwritten (unput report writes put) is = inr (report, writes.reduced, put)
  is_unwritten _ is = absurd (cc is)

  is_tried : {status : ℕ} → Ends status → status ≡ 4 → (text : List ℕ) × (report : List ℕ) × ReducesTo options old.files known history text report
  is_tried (unwritten failed calls text report reduces others gates_quiet kept put) is = (text, report, reduces)
  is_tried (unput report writes put) is = (writes.reduced.text, report, writes.reduced.reduces)
  is_tried _ is = absurd (cc is)

  is_uninteresting : {status : ℕ} → Ends status → status ≡ 8 → OnlyNo (records_of history)
  is_uninteresting (uninteresting read files gates_quiet kept put) is =
      (any_problem (problem_in options) old.files (λ problem. AcceptsStart options (start_text problem)
      × (IsKnownOf options old.files (start_text problem) known
      × IsRefused options.jobs (verdict_in known.kept) (admits_of options problem) problem history)) read).1.1.1.only
  is_uninteresting _ is = absurd (cc is)

  is_journal : {status : ℕ} → Ends status → status ≡ 12 → CallFailed old.journal new.journal
      × JournalBroken options.jobs options.journal known.start (verdict_in known.kept) history old.journal new.journal
  is_journal (journal failed read broken gates_quiet files put) is = (failed, broken)
  is_journal _ is = absurd (cc is)

  is_whole : {status : ℕ} → Ends status → IsOneOf (0 ∷ 4 ∷ 8 ∷ []) status → JournalWhole options.journal known.start history old.journal new.journal
  is_whole (done report writes put) is = writes.journal
  is_whole (unput report writes put) is = writes.journal
  is_whole (unwritten failed calls text report reduces others gates_quiet kept put) is = kept
  is_whole (uninteresting read files gates_quiet kept put) is = kept
  is_whole _ is = absurd (false≢true is)

  is_so_far : {status : ℕ} → Ends status → status ≡ 1 → JournalSoFar options.journal known.start history old.journal new.journal
  is_so_far (memory files gates_quiet kept put) is = kept
  is_so_far _ is = absurd (cc is)

  is_too_long : {status : ℕ} → Ends status → status ≡ 10 → (file : NamedFile) × IsFileReached options file old.files
      × IsLonger (limit_of file) (old.files.shown (path_of_file options file))
  is_too_long (too_long file reached longer files untouched put) is = (file, reached, longer)
  is_too_long _ is = absurd (cc is)

  is_script : {status : ℕ} → Ends status → status ≡ 11 → (worker : ℕ) × (worker ≤ options.jobs) × GateFailed worker old.gates new.gates
      × ScriptLeaves options known history worker old new × PutsMessage (script_text worker) old.out new.out
  is_script (script worker one_of failed read files kept put) is = (worker, one_of, failed, kept, put)
  is_script _ is = absurd (cc is)

  is_keep_missing : {status : ℕ} → Ends status → status ≡ 9 → (index : ℕ)
      × ProblemRead (problem_in options) old.files (λ problem. first_missing options.keeps (start_text problem) ≡ Some index)
      × PutsMessage (keep_text (index + 1)) old.out new.out
  is_keep_missing (keep_missing index read files untouched put) is = (index, read, put)
  is_keep_missing _ is = absurd (cc is)

  is_beyond : {status : ℕ} → Ends status → status ≡ 16 → (last : ℕ) × (lines : ℕ)
      × ProblemRead (problem_in options) old.files (λ problem. NamesBeyond options last lines (start_text problem))
      × PutsMessage (beyond_text last lines) old.out new.out
  is_beyond (beyond last lines read files untouched put) is = (last, lines, read, put)
  is_beyond _ is = absurd (cc is)

  is_other_start : {status : ℕ} → Ends status → status ≡ 13 → (path : List ℕ) × (other : Digest) × (start : Digest) × (options.resume ≡ Some path)
      × ProblemRead (problem_in options) old.files (λ problem. IsDigestOf (start_text problem) start)
      × WasRead journal_limit (old.files.shown path) (λ bytes. IsRead bytes (IsOfOther start other))
      × PutsMessage (other_start_text other start) old.out new.out
  is_other_start (other_start path other start is_named read resumed files untouched put) is = (
    path,
    other,
    start,
    is_named,
    problem_map (problem_in options) old.files (λ problem. AcceptsStart options (start_text problem) × IsDigestOf (start_text problem) start)
        (λ problem. IsDigestOf (start_text problem) start) (λ problem it. it.1) read,
    resumed,
    put,
  )
  is_other_start _ is = absurd (cc is)

  is_bad_journal : {status : ℕ} → Ends status → status ≡ 14 → (path : List ℕ) × (options.resume ≡ Some path)
      × ((WasRead journal_limit (old.files.shown path) LacksHead × PutsMessage (codes "bad journal head") old.out new.out)
      ⊎ ((offset : ℕ) × WasRead journal_limit (old.files.shown path) (λ bytes. IsBadAt bytes offset)
      × PutsMessage (bad_record_text offset) old.out new.out))
  is_bad_journal (no_head path is_named read bad files untouched put) is = (path, is_named, inl (bad, put))
  is_bad_journal (bad_event path offset is_named read bad files untouched put) is = (path, is_named, inr (offset, bad, put))
  is_bad_journal _ is = absurd (cc is)

  is_fault : {status : ℕ} → Ends status → status ≡ 5
      → (trees : GrammarOptions) × (text : List ℕ) × (options.mode ≡ ModeOptions.by_grammar trees)
      × GrammarWasRead trees.grammar old.files (λ texts. IsFaultIn trees.grammar texts text) × PutsLine (fault_line text) old.out new.out
  is_fault (faulty trees text mode read files untouched put) is = (trees, text, mode, read, put)
  is_fault _ is = absurd (cc is)

  is_no_token : {status : ℕ} → Ends status → status ≡ 6
      → (trees : GrammarOptions) × (fault : InputFault) × (options.mode ≡ ModeOptions.by_grammar trees) × IsUncut fault
      × InputHas trees.grammar (λ c bytes. IsInputFault c bytes fault) (problem_in options) old.files × PutsMessage (input_fault_text fault) old.out new.out
  is_no_token (no_token trees fault mode uncut read files untouched put) is = (trees, fault, mode, uncut, read, put)
  is_no_token _ is = absurd (cc is)

  is_unparsed : {status : ℕ} → Ends status → status ≡ 7
      → (trees : GrammarOptions) × (options.mode ≡ ModeOptions.by_grammar trees)
      × InputHas trees.grammar (λ c bytes. IsInputFault c bytes input_fault.NoParse) (problem_in options) old.files
  is_unparsed (unparsed trees mode read files untouched put) is = (trees, mode, read)
  is_unparsed _ is = absurd (cc is)

  is_early : {status : ℕ} → Ends status → ¬ IsOneOf (0 ∷ 1 ∷ 4 ∷ 8 ∷ 11 ∷ 12 ∷ []) status → NotReached history old new
  is_early (unread file reached failed calls same untouched put) other = untouched
  is_early (faulty trees text mode read files untouched put) other = untouched
  is_early (no_token trees fault mode uncut read files untouched put) other = untouched
  is_early (unparsed trees mode read files untouched put) other = untouched
  is_early (keep_missing index read files untouched put) other = untouched
  is_early (beyond last lines read files untouched put) other = untouched
  is_early (too_long file reached longer files untouched put) other = untouched
  is_early (other_start path of_other start is_named read resumed files untouched put) other = untouched
  is_early (no_head path is_named read bad files untouched put) other = untouched
  is_early (bad_event path offset is_named read bad files untouched put) other = untouched
  is_early _ other = absurd (other refl)

  same_others : {status : ℕ} → Ends status → SameOthers old.files.shown new.files.shown options.output
  same_others (done report writes put) = writes.others
  same_others (memory files gates_quiet kept put) = λ name other. files.same name
  same_others (unread file reached failed calls same untouched put) = λ name other. same name
  same_others (unwritten failed calls text report reduces others gates_quiet kept put) = others
  same_others (faulty trees text mode read files untouched put) = λ name other. files.same name
  same_others (no_token trees fault mode uncut read files untouched put) = λ name other. files.same name
  same_others (unparsed trees mode read files untouched put) = λ name other. files.same name
  same_others (uninteresting read files gates_quiet kept put) = λ name other. files.same name
  same_others (keep_missing index read files untouched put) = λ name other. files.same name
  same_others (beyond last lines read files untouched put) = λ name other. files.same name
  same_others (too_long file reached longer files untouched put) = λ name other. files.same name
  same_others (other_start path of_other start is_named read resumed files untouched put) = λ name other. files.same name
  same_others (no_head path is_named read bad files untouched put) = λ name other. files.same name
  same_others (bad_event path offset is_named read bad files untouched put) = λ name other. files.same name
  same_others (script worker one_of failed read files kept put) = λ name other. files.same name
  same_others (unput report writes put) = writes.others
  same_others (journal failed read broken gates_quiet files put) = λ name other. files.same name

  same_files : {status : ℕ} → Ends status → status ≢ 0 → status ≢ 4 → SameFiles old.files.shown new.files.shown
  same_files (done report writes put) not_done not_written = absurd (not_done refl)
  same_files (memory files gates_quiet kept put) not_done not_written = files.same
  same_files (unread file reached failed calls same untouched put) not_done not_written = same
  same_files (unwritten failed calls text report reduces others gates_quiet kept put) not_done not_written = absurd (not_written refl)
  same_files (faulty trees text mode read files untouched put) not_done not_written = files.same
  same_files (no_token trees fault mode uncut read files untouched put) not_done not_written = files.same
  same_files (unparsed trees mode read files untouched put) not_done not_written = files.same
  same_files (uninteresting read files gates_quiet kept put) not_done not_written = files.same
  same_files (keep_missing index read files untouched put) not_done not_written = files.same
  same_files (beyond last lines read files untouched put) not_done not_written = files.same
  same_files (too_long file reached longer files untouched put) not_done not_written = files.same
  same_files (other_start path of_other start is_named read resumed files untouched put) not_done not_written = files.same
  same_files (no_head path is_named read bad files untouched put) not_done not_written = files.same
  same_files (bad_event path offset is_named read bad files untouched put) not_done not_written = files.same
  same_files (script worker one_of failed read files kept put) not_done not_written = files.same
  same_files (unput report writes put) not_done not_written = absurd (not_written refl)
  same_files (journal failed read broken gates_quiet files put) not_done not_written = files.same

  is_one_of : {status : ℕ} → Ends status → IsOneOf (0 ∷ 1 ∷ 3 ∷ 4 ∷ 5 ∷ 6 ∷ 7 ∷ 8 ∷ 9 ∷ 10 ∷ 11 ∷ 12 ∷ 13 ∷ 14 ∷ 16 ∷ []) status
  is_one_of (done report writes put) = refl
  is_one_of (memory files gates_quiet kept put) = refl
  is_one_of (unread file reached failed calls same untouched put) = refl
  is_one_of (unwritten failed calls text report reduces others gates_quiet kept put) = refl
  is_one_of (faulty trees text mode read files untouched put) = refl
  is_one_of (no_token trees fault mode uncut read files untouched put) = refl
  is_one_of (unparsed trees mode read files untouched put) = refl
  is_one_of (uninteresting read files gates_quiet kept put) = refl
  is_one_of (keep_missing index read files untouched put) = refl
  is_one_of (beyond last lines read files untouched put) = refl
  is_one_of (too_long file reached longer files untouched put) = refl
  is_one_of (other_start path other start is_named read resumed files untouched put) = refl
  is_one_of (no_head path is_named read bad files untouched put) = refl
  is_one_of (bad_event path offset is_named read bad files untouched put) = refl
  is_one_of (script worker one_of failed read files kept put) = refl
  is_one_of (unput report writes put) = refl
  is_one_of (journal failed read broken gates_quiet files put) = refl

  -- without a journal to be resumed none is of another start or bad
  is_alone : {status : ℕ} → Ends status → options.resume ≡ None → IsOneOf (0 ∷ 1 ∷ 3 ∷ 4 ∷ 5 ∷ 6 ∷ 7 ∷ 8 ∷ 9 ∷ 10 ∷ 11 ∷ 12 ∷ 16 ∷ []) status
  is_alone (other_start path other start is_named read resumed files untouched put) is = absurd (cc (sym is_named ∙ is))
  is_alone (no_head path is_named read bad files untouched put) is = absurd (cc (sym is_named ∙ is))
  is_alone (bad_event path offset is_named read bad files untouched put) is = absurd (cc (sym is_named ∙ is))
  is_alone (done report writes put) is = refl
  is_alone (memory files gates_quiet kept put) is = refl
  is_alone (unread file reached failed calls same untouched put) is = refl
  is_alone (unwritten failed calls text report reduces others gates_quiet kept put) is = refl
  is_alone (faulty trees text mode read files untouched put) is = refl
  is_alone (no_token trees fault mode uncut read files untouched put) is = refl
  is_alone (unparsed trees mode read files untouched put) is = refl
  is_alone (uninteresting read files gates_quiet kept put) is = refl
  is_alone (keep_missing index read files untouched put) is = refl
  is_alone (beyond last lines read files untouched put) is = refl
  is_alone (too_long file reached longer files untouched put) is = refl
  is_alone (script worker one_of failed read files kept put) is = refl
  is_alone (unput report writes put) is = refl
  is_alone (journal failed read broken gates_quiet files put) is = refl

  puts_line : {status : ℕ} → Ends status → IsOneOf (1 ∷ 3 ∷ 7 ∷ 8 ∷ 10 ∷ 12 ∷ []) status → PutsItsLine options old.files old.out new.out status
  puts_line (memory files gates_quiet kept put) is = ((file_of options old.files).0, (file_of options old.files).1, (Memory ran_out, tt, refl, put))
  puts_line (unread file reached failed calls same untouched put) is = (file, reached, (CannotRead file, refl, refl, put))
  puts_line (unparsed trees mode read files untouched put) is =
      ((file_of options old.files).0, (file_of options old.files).1, (NoParse, tt, refl, put))
  puts_line (uninteresting read files gates_quiet kept put) is =
      ((file_of options old.files).0, (file_of options old.files).1, (NotInteresting, tt, refl, put))
  puts_line (too_long file reached longer files untouched put) is = (file, reached, (TooLong file, refl, refl, put))
  puts_line (journal failed read broken gates_quiet files put) is =
      ((file_of options old.files).0, (file_of options old.files).1, (Journal, tt, refl, put))
  puts_line _ is = absurd (false≢true is)

pub reduce_by_status : ReduceByStatus
reduce_by_status options known history old new status ends = record {
  one_of = is_one_of options known history old new ends;
  of_lines = is_of_lines options known history old new ends;
  alone = is_alone options known history old new ends;
  done = is_done options known history old new ends;
  unread = is_unread options known history old new ends;
  write = is_unwritten options known history old new ends;
  tried = is_tried options known history old new ends;
  fault = is_fault options known history old new ends;
  no_token = is_no_token options known history old new ends;
  unparsed = is_unparsed options known history old new ends;
  not_interesting = is_uninteresting options known history old new ends;
  keep_missing = is_keep_missing options known history old new ends;
  too_long = is_too_long options known history old new ends;
  script = is_script options known history old new ends;
  journal = is_journal options known history old new ends;
  other_start = is_other_start options known history old new ends;
  bad_journal = is_bad_journal options known history old new ends;
  beyond = is_beyond options known history old new ends;
  whole = is_whole options known history old new ends;
  so_far = is_so_far options known history old new ends;
  early = is_early options known history old new ends;
  others = same_others options known history old new ends;
  unwritten = same_files options known history old new ends;
  line = puts_line options known history old new ends;
}
