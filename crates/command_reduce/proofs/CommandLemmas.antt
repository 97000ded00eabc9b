-- How the steps of `reduce` end it.
use Rattle.std.proofs.Common.{◌≡◌, inl, inr, ℕ, List, [], ◌∷◌, drop, Option, Some, None}
use Rattle.std.proofs.Common.{IsSome, refl, sym, ap, ◌∙◌, subst, ⊎_elim, Result, Ok, Err, MatchResult}
use Rattle.std.proofs.Common.{string_bytes, unwrap_or}
use Rattle.std.specs.Global.{Vec}
use Rattle.faults.specs.Count.{Rose}
use Rattle.faults.specs.Memory.{ran_out}
use Rattle.reduce_core.specs.Reduction.{Admits}
use Rattle.line_guard.specs.MustStay.{Stays, stays_admit}
use Rattle.command_reduce_calls.specs.Stays.{AcceptsStart}
use Rattle.edge_io.specs.Files.{IsLonger, SameFiles}
use Rattle.edge_io.specs.FileCalls.{WereMade, failed_call, good_call}
use Rattle.edge_io.specs.declared.file_call.FileAction.TheVariants.{Write}
use Rattle.edge_io.proofs.Lent.{made_then}
use Rattle.script_gate_trait.specs.declared.gate.Verdict.{Verdict}
use Rattle.reduce_trees_input.specs.Laws.{InputFaultOnce, InputsAreInLanguage}
use Rattle.command_ends.specs.declared.status.NamedFile.{NamedFile}
use Rattle.command_ends.specs.declared.status.NamedFile.TheVariants as named
use Rattle.command_ends.specs.declared.status.Refusal.{Refusal}
use Rattle.command_ends.specs.declared.status.Refusal.TheVariants.{Memory, CannotRead, CannotWrite, Grammar, KeepMissing, BeyondLines, NoParse, TooLong, Uncut}
use Rattle.command_ends.specs.declared.status.Refusal.TheVariants.{BadJournal, OtherStart}
use Rattle.run_problem.specs.Problem.{Problem, start_text}
use Rattle.run_problem.specs.Ends.{AreOf, IsRefused, IsRunOf, IsUnfinished, ProblemEnds, ReducesFrom, RunFails}
use Rattle.run_problem.specs.Read.{IsReadAs, start_read}
use Rattle.run_problem.specs.declared.problem.ReadProblem.{ReadProblem}
use Rattle.reduce_journal.specs.Journal.{IsDigestOf}
use Rattle.reduce_journal.specs.declared.digest.Digest.{Digest}
use Rattle.reduce_journal.specs.declared.read.JournalFault.{JournalFault}
use Rattle.reduce_journal.specs.declared.read.JournalFault.TheVariants as journal_fault
use Rattle.run_gated.specs.declared.known.Known.{Known}
use Rattle.reduce_journal.specs.History.{History}
use Rattle.verdict_table.specs.TableState.{verdict_in}
use Rattle.reduce_journal.specs.Report.{report_text}
use Rattle.reduce_journal.specs.declared.counts.Counts.{Counts}
use Rattle.run_gated.specs.declared.ran.Reduced.{Reduced}
use Rattle.run_gated.specs.Faults.{fault_of}
use Rattle.run_gated.specs.Seen.{NoneFailed}
use Rattle.run_gated.specs.Run.{Run}
use Rattle.script_gate_trait.specs.declared.gate.GateFault.{GateFault}
use Rattle.script_gate_trait.specs.declared.gate.GateFault.TheVariants.{Failed as GateFailed, Memory as GateMemory}
use Rattle.command_reduce.specs.Reduce.{GateUnopened, IsHistoryWith, ProblemAccepted, RecordsAreSound, ReduceEnds, Reduces, ReducesTo, problem_in}
use Rattle.command_reduce.specs.Reduce.{IsFileReached, IsResumeReached, admits_of, path_of_file, read_paths}
use Rattle.command_reduce.specs.Resume.{IsKnownOf}
use Rattle.command_reduce.specs.inner.Resume.{IsFaultOf, ResumeFails, ResumeRefused}
use Rattle.command_reduce.specs.inner.Reduce.{Inside, ReduceFails, ReduceReports, ReduceSteps, beside}
use Rattle.command_reduce_calls.specs.Journal.{JournalSoFar, JournalWhole}
use Rattle.command_reduce.specs.inner.Read.{AcceptCalls, AcceptFails, StaysRefused, admits_read, stays_read}
use Rattle.command_reduce.specs.inner.Run.{IsSoundStarted, JournalAfter, StartLeaves, Unopened}
use Rattle.command_reduce_calls.specs.Calls.{WriteEnds, result_makes}
use Rattle.command_reduce.specs.Reduce.ReduceEnds.{done, memory, unread, unwritten, faulty, no_token, unparsed}
use Rattle.command_reduce.specs.Reduce.ReduceEnds.{uninteresting, unput, keep_missing, beyond, too_long, other_start, no_head, bad_event, script, journal}
use Rattle.run_gated.specs.declared.fault.RunFault.{RunFault}
use Rattle.run_gated.specs.declared.fault.RunFault.TheVariants as run_fault
use Rattle.command_ends.specs.Status.{EndsRefused, EndsWithAnswer, HasJournalLine, ending_of, ending_of_run}
use Rattle.command_words.specs.Commands.{ModeOptions, ReduceOptions}
use Rattle.command_ends.specs.World.{AreQuiet, FilesKept, FilesRead, fault_counts_of, logs_of, IsQuiet, PutsLine, NotReached, SeenCalls, SeenFiles, SeenGate}
use Rattle.command_ends.specs.World.{SeenOut, SomeFilesRead, WasRead, WereRead, journal_limit, reads_of}
use Rattle.command_ends.proofs.Lent.{all_some, read_then_none}
use Rattle.command_reduce.proofs.MustEndLemmas.{must_end}
use Rattle.command_reduce.proofs.ProblemLemmas.{accepted_as, start_as, stays_as}
use Rattle.command_reduce.proofs.UsedLemmas.{none_sound}
use Rattle.command_reduce.proofs.LentLemmas.{AreFirst, all_quiet, one_failed, one_unopened, sound_among}
use Rattle.command_problem.specs.Problem.{IsReached, ProblemRead, grammar_paths_in, limit_of, path_in, problem_paths}
use Rattle.command_problem.specs.Read.{ProblemFails}
use Rattle.command_problem.proofs.Lent.{any_problem, problem_map}

-- neither a gate nor the journal was reached
module _ (options : ReduceOptions) (may_say : List ℕ → Verdict → Type 0) (known : Known) (history : History) (old new : Inside)
    (empty : IsDigestOf [] known.start)
    (none : history ≡ [])
    (same_gates : new.gates ≡ old.gates) (same_journal : new.journal ≡ old.journal) (same : SameFiles old.files.shown new.files.shown) where
  untouched : (out out' : SeenOut) → NotReached history (beside old out) (beside new out')
  untouched out out' = record { no_history = none; gates = same_gates; journal = same_journal }

  gates_quiet : AreQuiet old.gates new.gates
  gates_quiet = ap fault_counts_of same_gates

  so_far : JournalSoFar options.journal known.start history old.journal new.journal
  so_far = JournalSoFar.untouched (record { no_history = none; same = same_journal })

  -- the files of the problem are read as files of the run
  file_reached : (file : NamedFile) → IsReached options.mode file old.files → IsFileReached options file old.files
  file_reached named.Input is = is
  file_reached named.Grammar is = is
  file_reached named.Lexer is = is
  file_reached named.Result is = is
  file_reached named.Journal is = absurd is

  file_longer : (file : NamedFile) → IsReached options.mode file old.files → IsLonger (limit_of file) (old.files.shown (path_in (problem_in options) file))
      → IsLonger (limit_of file) (old.files.shown (path_of_file options file))
  file_longer named.Input is longer = longer
  file_longer named.Grammar is longer = longer
  file_longer named.Lexer is longer = longer
  file_longer named.Result is longer = longer
  file_longer named.Journal is longer = absurd is

  problem_at : (refusal : Refusal) → ProblemFails (problem_in options) old.files new.files refusal → AcceptCalls options old.calls new.calls refusal
      → ReduceFails options known history old new refusal
  problem_at (Memory _) why calls = λ out out' put. memory (record { same = same; quiet = why; reads = calls }) (λ alone. gates_quiet) so_far put
  problem_at (CannotRead file) why calls = λ out out' put. unread file (file_reached file why.0) why.1 calls same (untouched out out') put
  problem_at (TooLong file) why calls = λ out out' put.
      too_long file (file_reached file why.0) (file_longer file why.0 why.1) (record { same = same; quiet = why.2; reads = calls }) (untouched out out') put
  problem_at (Grammar line) why calls = λ out out' put.
      faulty why.0 why.2.0 why.1 why.2.1
      (record { same = same; quiet = why.2.3; reads = subst (λ (m : ModeOptions). WereRead (grammar_paths_in m) old.calls new.calls) why.1 calls })
      (untouched out out') (subst (λ l. PutsLine l out out') why.2.2 put)
  problem_at (Uncut line) why calls = λ out out' put.
      no_token why.0 why.1 why.2 why.3 why.4 (record { same = same; quiet = why.6; reads = calls }) (untouched out out') (subst
      (λ l. PutsLine l out out') why.5 put)
  problem_at NoParse why calls = λ out out' put. unparsed why.0 why.1 why.2 (record { same = same; quiet = why.3; reads = calls }) (untouched out out') put
  problem_at _ why calls = absurd why

  module _ (quiet : IsQuiet old.files new.files) where
    kept : WereRead (problem_paths (problem_in options)) old.calls new.calls → (out out' : SeenOut)
        → FilesRead (problem_paths (problem_in options)) (beside old out) (beside new out')
    kept calls out out' = record { same = same; quiet = quiet; reads = calls }

    stays_at : (refusal : Refusal) → StaysRefused options old.files refusal → AcceptCalls options old.calls new.calls refusal
        → ReduceFails options known history old new refusal
    stays_at (Memory _) why calls = λ out out' put. memory (record { same = same; quiet = quiet; reads = calls }) (λ alone. gates_quiet) so_far put
    stays_at (KeepMissing line) why calls = λ out out' put. keep_missing why.0 why.1 (kept calls out out') (untouched out out') (subst
        (λ l. PutsLine l out out') why.2 put)
    stays_at (BeyondLines line) why calls =
        λ out out' put. beyond why.0 why.1 why.2 (kept calls out out') (untouched out out') (subst (λ l. PutsLine l out out') why.3 put)
    stays_at _ why calls = absurd why

  -- a problem was accepted, but the journal that is to be resumed isn't one of it
  module _ (path : List ℕ) (is_named : options.resume ≡ Some path) (start : Digest)
      (accepted : ProblemAccepted options old.files (λ problem. IsDigestOf (start_text problem) start)) where
    reached : IsResumeReached options old.files
    reached = (
      subst (λ (resume : Option (List ℕ)). IsSome resume) (sym is_named) refl,
      problem_map (problem_in options) old.files (λ problem. AcceptsStart options (start_text problem) × IsDigestOf (start_text problem) start)
          (λ problem. AcceptsStart options (start_text problem) × Unit {0}) (λ problem is. (is.0, tt)) accepted,
    )

    bad_at : (text : List ℕ) (fault : JournalFault) → WasRead journal_limit (old.files.shown path) (IsFaultOf fault) → HasJournalLine fault text
        → IsQuiet old.files new.files → WereRead (read_paths options) old.calls new.calls → (out out' : SeenOut) → PutsLine text out out'
        → ReduceEnds options known history (beside old out) (beside new out') 14
    bad_at text journal_fault.BadHead read is quiet calls = λ out out' put.
        no_head path is_named reached.1 (record { bytes = read.bytes; read = read.read; within = read.within; holds = read.holds })
        (record { same = same; quiet = quiet; reads = calls }) (untouched out out') (subst (λ l. PutsLine l out out') is put)
    bad_at text (journal_fault.BadRecord offset) read is quiet calls = λ out out' put.
        bad_event path offset is_named reached.1 (record { bytes = read.bytes; read = read.read; within = read.within; holds = read.holds })
        (record { same = same; quiet = quiet; reads = calls }) (untouched out out') (subst (λ l. PutsLine l out out') is put)
    bad_at text (journal_fault.Memory _) read is quiet calls = absurd is

    resume_at : (refusal : Refusal) → ResumeFails path start old.files new.files refusal → AcceptCalls options old.calls new.calls refusal
        → ReduceFails options known history old new refusal
    resume_at (Memory _) why calls = λ out out' put. memory (record { same = same; quiet = why; reads = calls }) (λ alone. gates_quiet) so_far put
    resume_at (CannotRead file) why calls = λ out out' put.
        unread file (subst (λ f. IsFileReached options f old.files) (sym why.0) reached) why.1 calls same (untouched out out') put
    resume_at (TooLong file) why calls = λ out out' put.
        too_long file (subst (λ f. IsFileReached options f old.files) (sym why.0) reached)
        (subst (λ f. IsLonger (limit_of f) (old.files.shown (path_of_file options f))) (sym why.0)
        (subst (λ resume. IsLonger journal_limit (old.files.shown (unwrap_or resume []))) (sym is_named) why.1))
        (record { same = same; quiet = why.2; reads = calls }) (untouched out out') put
    resume_at (OtherStart line) why calls = λ out out' put.
        other_start path why.0 start is_named accepted why.1 (record { same = same; quiet = why.3; reads = calls }) (untouched out out')
        (subst (λ l. PutsLine l out out') why.2 put)
    resume_at (BadJournal line) why calls = bad_at (string_bytes line) why.0 why.1 why.2 why.3 calls
    resume_at _ why calls = absurd why

  resume_by : (resume : Option (List ℕ)) → options.resume ≡ resume → (refusal : Refusal) (start : Digest)
      → ProblemAccepted options old.files (λ problem. IsDigestOf (start_text problem) start) → ResumeRefused resume start old.files new.files refusal
      → AcceptCalls options old.calls new.calls refusal → ReduceFails options known history old new refusal
  resume_by None is refusal start accepted why calls = absurd why
  resume_by (Some path) is refusal start accepted why calls = resume_at path is start accepted refusal why calls

  -- there is no problem, or it wasn't accepted, or it can't go on from the journal
  pub stops_accept : (refusal : Refusal) → AcceptFails options old.files new.files refusal → AcceptCalls options old.calls new.calls refusal
      → ReduceSteps options may_say history old new (Err refusal)
  stops_accept refusal why calls = record {
    known = known;
    sound =
        none_sound options may_say known.kept history (logs_of old.gates) (logs_of new.gates) old.journal new.journal none (ap logs_of same_gates)
        same_journal;
    of_input = λ out out'. inl (untouched out out', empty);
    others = ap (drop options.jobs) same_gates;
    ends =
        ⊎_elim (λ problem. problem_at refusal problem calls)
        (λ later. ⊎_elim (λ stays. stays_at stays.0 refusal stays.1 calls)
        (λ resume. resume_by options.resume refl refusal resume.0 resume.1 resume.2 calls) later) why;
  }

-- a problem was accepted, and its run ended, which used these gates
module _ (options : ReduceOptions) (may_say : List ℕ → Verdict → Type 0) (known : Known) (history : History) (old new : Inside) (part part' : List SeenGate)
    (first : AreFirst options part part' old.gates new.gates)
    (sound : RecordsAreSound options may_say known.kept history (logs_of part) (logs_of part') old.journal new.journal)
    (are : ProblemAccepted options old.files (IsHistoryWith options old.files known history)) where
  -- the run, by what it answered
  abbrev run_to : Result Reduced RunFault → Run
  run_to outcome = record {
    workers = options.jobs;
    start = known.start;
    kept = known.kept;
    before = record { gates = part; journal = old.journal };
    after = record { gates = part'; journal = new.journal };
    history = history;
    outcome = outcome;
  }

  some : (P : Problem → Type 0) → ProblemAccepted options old.files P → (problem : Problem) × (AcceptsStart options (start_text problem) × P problem)
  some P read = any_problem (problem_in options) old.files (λ problem. AcceptsStart options (start_text problem) × P problem) read

  but : (P Q : Problem → Type 0) → ((problem : Problem) → P problem → Q problem) → ProblemAccepted options old.files P → ProblemAccepted options old.files Q
  but P Q then read =
      problem_map (problem_in options) old.files (λ problem. AcceptsStart options (start_text problem) × P problem)
      (λ problem. AcceptsStart options (start_text problem) × Q problem)
      (λ problem is. (is.0, then problem is.1)) read

  abbrev Fails : RunFault → Problem → Type 0
  Fails fault problem = IsKnownOf options old.files (start_text problem) known × RunFails (admits_of options problem) problem (run_to (Err fault)) fault

  -- it ends with this status and this line, whatever becomes of the line
  abbrev EndsBy : ℕ × List ℕ → Type 0
  EndsBy ending = (out out' : SeenOut) → PutsLine ending.1 out out' → ReduceEnds options known history (beside old out) (beside new out') ending.0

  -- the history is one of the problem, which reduces to this
  abbrev Comes : Reduced → Problem → Type 0
  Comes reduced problem =
      IsHistoryWith options old.files known history problem
      × ReducesFrom options.jobs (verdict_in known.kept) (admits_of options problem) problem history reduced.text.items reduced.counts

  abbrev Waits : Problem → Type 0
  Waits problem =
      IsKnownOf options old.files (start_text problem) known
      × (options.jobs ≡ 1 → IsUnfinished (verdict_in known.kept) (admits_of options problem) problem history)

  -- all files were read, or some
  files_read : FilesKept old.files new.files → WereRead (read_paths options) old.calls new.calls → (out out' : SeenOut)
      → FilesRead (read_paths options) (beside old out) (beside new out')
  files_read kept read out out' = record { same = kept.same; quiet = kept.quiet; reads = read }

  some_read : FilesKept old.files new.files → WereRead (read_paths options) old.calls new.calls → (out out' : SeenOut)
      → SomeFilesRead (read_paths options) (beside old out) (beside new out')
  some_read kept read out out' = record { same = kept.same; quiet = kept.quiet; reads = all_some (read_paths options) old.calls new.calls read }

  -- without a reduction
  fault_at : (fault : RunFault) → FilesKept old.files new.files → WereRead (read_paths options) old.calls new.calls
      → ProblemAccepted options old.files (Fails fault)
      → JournalAfter {A = Reduced} options.jobs options.journal known.start (verdict_in known.kept) history old.journal new.journal (Err fault)
      → EndsBy (ending_of_run fault)
  fault_at (run_fault.Memory _) kept read why ends =
      λ out out' put. memory (some_read kept read out out') (λ alone. all_quiet first ((some (Fails (run_fault.Memory ran_out)) why).1.1.1.1 alone)) ends put
  fault_at run_fault.NotInteresting kept read why ends = λ out out' put.
      uninteresting
      (but (Fails run_fault.NotInteresting) (λ problem. IsKnownOf options old.files (start_text problem) known
      × IsRefused options.jobs (verdict_in known.kept) (admits_of options problem) problem history)
      (λ problem is. (is.0, is.1.0)) why) (files_read kept read out out')
      (all_quiet first (some (Fails run_fault.NotInteresting) why).1.1.1.1.gates) ends put
  fault_at (run_fault.Script worker) kept read why ends = λ out out' put.
      let failed = one_failed first worker (some (Fails (run_fault.Script worker)) why).1.1.1.0 in
      script worker failed.0 failed.1 (but (Fails (run_fault.Script worker)) Waits (λ problem is. (is.0, is.1.2)) why)
      (files_read kept read out out') (inl ends) put
  fault_at run_fault.Journal kept read why ends =
      λ out out' put. journal (some (Fails run_fault.Journal) why).1.1.1.0 are ends
      (λ alone. all_quiet first ((some (Fails run_fault.Journal) why).1.1.1.1 alone)) (files_read kept read out out') put

  -- without an opened gate
  unopened_at : (worker : ℕ) (fault : GateFault) → FilesKept old.files new.files → WereRead (read_paths options) old.calls new.calls
      → ProblemAccepted options old.files (Fails (fault_of worker fault))
      → GateUnopened options history worker (logs_of part) (logs_of part') old.journal new.journal → EndsBy (ending_of_run (fault_of worker fault))
  unopened_at worker GateFailed kept read why un = λ out out' put.
      let failed = one_failed first worker (some (Fails (run_fault.Script worker)) why).1.1.1.0 in
      script worker failed.0 failed.1 (but (Fails (run_fault.Script worker)) Waits (λ problem is. (is.0, is.1.2)) why) (files_read kept read out out')
      (inr (one_unopened first history worker old.journal new.journal failed.0 un)) put
  unopened_at worker (GateMemory _) kept read why un =
      λ out out' put. memory (some_read kept read out out') (λ alone. all_quiet first ((some (Fails (run_fault.Memory ran_out)) why).1.1.1.1 alone))
      (JournalSoFar.untouched un.untouched) put

  all_sound : RecordsAreSound options may_say known.kept history (logs_of old.gates) (logs_of new.gates) old.journal new.journal
  all_sound = sound_among first may_say known.kept history old.journal new.journal sound

  stops_run : (fault : RunFault) (refusal : Refusal) → ending_of refusal ≡ ending_of_run fault → FilesKept old.files new.files
      → WereRead (read_paths options) old.calls new.calls
      → ProblemAccepted options old.files (Fails fault)
      → JournalAfter {A = Reduced} options.jobs options.journal known.start (verdict_in known.kept) history old.journal new.journal (Err fault)
      → ReduceSteps options may_say history old new (Err refusal)
  stops_run fault refusal same kept read why ends =
      record {
        known = known;
        sound = all_sound;
        of_input = λ out out'. inr are;
        others = first.others;
        ends = subst EndsBy (sym same) (fault_at fault kept read why ends);
      }

  -- with one, whose result was written or wasn't
  module _ (read : SeenFiles) (mid : SeenCalls) (reduced : Reduced) (same : SameFiles old.files.shown read.shown) (quiet : IsQuiet old.files read)
      (were_read : WereRead (read_paths options) old.calls mid)
      (gates_quiet : AreQuiet old.gates new.gates) (whole : JournalWhole options.journal known.start history old.journal new.journal)
      (reduces : ProblemAccepted options old.files (Comes reduced)) where
    reduces_to : (report : List ℕ) → report ≡ report_text reduced.counts → ReducesTo options old.files known history reduced.text.items report
    reduces_to report is =
        but (Comes reduced)
        (λ problem.
        IsKnownOf options old.files (start_text problem) known × (counts : Counts)
        × ReducesFrom options.jobs (verdict_in known.kept) (admits_of options problem) problem history reduced.text.items counts × (report ≡ report_text counts)
        × AreOf options.jobs (verdict_in known.kept) (admits_of options problem) problem history)
        (λ problem from. (from.0.0, reduced.counts, from.1, is, from.0.1)) reduces

    write_at : (outcome : Result (Vec ℕ) Refusal) → WriteEnds options.output read new.files (Ok reduced) outcome
        → WereMade (result_makes options.output (Ok reduced) outcome) mid new.calls
        → MatchResult outcome (λ report. ReduceReports options known history old new report.items)
        (λ refusal. ReduceFails options known history old new refusal)
    write_at (Ok report) ends made = λ out out'. record {
      reduced = record { text = reduced.text.items; reduces = reduces_to report.items ends.0; written = ends.1 };
      others = λ name other. ends.2 name other ∙ same name;
      calls = made_then (reads_of (read_paths options)) (good_call Write options.output ∷ []) old.calls mid new.calls were_read made;
      files_quiet = ends.3 ∙ quiet;
      gates_quiet = gates_quiet;
      journal = whole;
    }
    write_at (Err (Memory _)) ends made =
        λ out out' put. memory
        (record {
          same = λ name. ends.same name ∙ same name;
          quiet = ends.quiet ∙ quiet;
          reads = all_some (read_paths options) old.calls new.calls (read_then_none (read_paths options) old.calls mid new.calls were_read made);
        }) (λ alone. gates_quiet)
        (JournalSoFar.whole whole) put
    write_at (Err CannotWrite) ends made = λ out out' put.
        unwritten (subst (λ count. Rose count new.files.faults) quiet ends.0)
        (made_then (reads_of (read_paths options))
        (failed_call Write options.output ∷ []) old.calls mid new.calls were_read made) reduced.text.items (report_text reduced.counts)
        (reduces_to (report_text reduced.counts) refl) (λ name other. ends.1 name other ∙ same name) gates_quiet whole put
    write_at (Err _) ends made = absurd ends

    pub stops_write : (outcome : Result (Vec ℕ) Refusal) → WriteEnds options.output read new.files (Ok reduced) outcome
        → WereMade (result_makes options.output (Ok reduced) outcome) mid new.calls
        → ReduceSteps options may_say history old new outcome
    stops_write outcome ends made =
        record { known = known; sound = all_sound; of_input = λ out out'. inr are; others = first.others; ends = write_at outcome ends made }

  -- whatever the run came to
  pub stops_ran : (read : SeenFiles) (mid : SeenCalls) → SameFiles old.files.shown read.shown → IsQuiet old.files read
      → WereRead (read_paths options) old.calls mid → (ran : Result Reduced RunFault)
      → ProblemAccepted options old.files
      (λ problem. IsHistoryWith options old.files known history problem × ProblemEnds (admits_of options problem) problem (run_to ran) ran)
      → JournalAfter options.jobs options.journal known.start (verdict_in known.kept) history old.journal new.journal ran → (outcome : Result (Vec ℕ) Refusal)
      → WriteEnds options.output read new.files ran outcome → WereMade (result_makes options.output ran outcome) mid new.calls
      → ReduceSteps options may_say history old new outcome
  stops_ran read mid same quiet were_read (Ok reduced) ends whole outcome writes made =
      let P : Problem → Type 0 =
      λ problem. IsHistoryWith options old.files known history problem
      × (ReducesFrom options.jobs (verdict_in known.kept) (admits_of options problem) problem history reduced.text.items reduced.counts
      × NoneFailed (run_to (Ok reduced)).before (run_to (Ok reduced)).after) in
      stops_write read mid reduced same quiet were_read (all_quiet first (some P ends).1.1.1.1.gates) whole
      (but P (Comes reduced) (λ problem is. (is.0, is.1.0)) ends) outcome writes made
  stops_ran read mid same quiet were_read (Err fault) ends after outcome writes made =
      subst (λ (o : Result (Vec ℕ) Refusal). ReduceSteps options may_say history old new o) (sym writes.0.1)
      (stops_run fault writes.0.0 writes.0.2 (subst (FilesKept old.files) (sym writes.1) (record { same = same; quiet = quiet }))
      (read_then_none (read_paths options) old.calls mid new.calls were_read made)
      (but (λ problem. IsHistoryWith options old.files known history problem × RunFails (admits_of options problem) problem (run_to (Err fault)) fault)
      (Fails fault) (λ problem is. (is.0.0, is.1)) ends) after)

  -- a gate wasn't opened
  pub stops_unopened : (read : SeenFiles) (mid : SeenCalls) → SameFiles old.files.shown read.shown → IsQuiet old.files read
      → WereRead (read_paths options) old.calls mid → (ran : Result Reduced RunFault)
      → ProblemAccepted options old.files
      (λ problem. IsKnownOf options old.files (start_text problem) known × ProblemEnds (admits_of options problem) problem (run_to ran) ran)
      → Unopened options history (logs_of part) (logs_of part') old.journal new.journal ran → (outcome : Result (Vec ℕ) Refusal)
      → WriteEnds options.output read new.files ran outcome → WereMade (result_makes options.output ran outcome) mid new.calls
      → ReduceSteps options may_say history old new outcome
  stops_unopened read mid same quiet were_read ran ends un outcome writes made =
      let answer : Result Reduced RunFault = Err (fault_of un.worker un.fault) in
      let why : ProblemAccepted options old.files (Fails (fault_of un.worker un.fault)) =
      subst
      (λ (r : Result Reduced RunFault). ProblemAccepted options old.files
      (λ problem. IsKnownOf options old.files (start_text problem) known × ProblemEnds (admits_of options problem) problem (run_to ran) r))
      un.answer ends in
      let wrote : WriteEnds options.output read new.files answer outcome =
      subst (λ (r : Result Reduced RunFault). WriteEnds options.output read new.files r outcome) un.answer writes in
      let none : WereMade [] mid new.calls =
      subst (λ (r : Result Reduced RunFault). WereMade (result_makes options.output r outcome) mid new.calls) un.answer made in
      subst (λ (o : Result (Vec ℕ) Refusal). ReduceSteps options may_say history old new o) (sym wrote.0.1) (record {
        known = known;
        sound = all_sound;
        of_input = λ out out'. inr are;
        others = first.others;
        ends =
            subst EndsBy (sym wrote.0.2) (unopened_at un.worker un.fault
            (subst (FilesKept old.files) (sym wrote.1) (record { same = same; quiet = quiet }))
            (read_then_none (read_paths options) old.calls mid new.calls were_read none) why un.left);
      })

-- what was known before a run
abbrev pub known_of : Run → Known
known_of run = record { start = run.start; kept = run.kept }

-- the steps of a problem that was read and accepted, of which this must stay, and whose run is this
pub steps_end : (options : ReduceOptions) (may_say : List ℕ → Verdict → Type 0) (run : Run) (files files' : SeenFiles) (calls calls' : SeenCalls)
    (gates gates' : List SeenGate)
    (read : SeenFiles) (mid : SeenCalls) (problem : ReadProblem) (stays : Stays) (outcome : Result (Vec ℕ) Refusal)
    → AreFirst options run.before.gates run.after.gates gates gates' → options.jobs ≡ run.workers
    → ProblemRead (problem_in options) files (IsReadAs (admits_read options problem) problem) → stays ≡ stays_read options problem
    → AcceptsStart options (start_read problem)
    → SameFiles files.shown read.shown → IsQuiet files read → WereRead (read_paths options) calls mid
    → IsKnownOf options files (start_read problem) (known_of run) → IsSoundStarted options may_say run
    → ((one : Problem) → IsReadAs (stays_admit stays) problem one → IsRunOf (stays_admit stays) one run)
    → WriteEnds options.output read files' run.outcome outcome → WereMade (result_makes options.output run.outcome outcome) mid calls'
    → ReduceSteps options may_say run.history (record { files = files; calls = calls; gates = gates; journal = run.before.journal })
    (record { files = files'; calls = calls'; gates = gates'; journal = run.after.journal }) outcome
steps_end options may_say run files files' calls calls' gates gates' read mid problem stays outcome first jobs was these all same quiet were_read is_known sound
    runs writes made =
    let old : Inside = record { files = files; calls = calls; gates = gates; journal = run.before.journal } in
    let new : Inside = record { files = files'; calls = calls'; gates = gates'; journal = run.after.journal } in
    let lent : Run = record run { workers = options.jobs } in
    let known : Known = known_of run in
    let guard : Admits = admits_read options problem in
    let these_run : (one : Problem) → IsReadAs guard problem one → IsRunOf guard one lent =
    subst (λ (n : ℕ). (one : Problem) → IsReadAs guard problem one → IsRunOf guard one (record run { workers = n })) (sym jobs)
    (subst (λ (k : Stays). (one : Problem) → IsReadAs (stays_admit k) problem one → IsRunOf (stays_admit k) one run) these runs) in
    let all_run : (one : Problem) → IsReadAs guard problem one → IsRunOf (admits_of options one) one lent =
    λ one is. subst (λ (k : Stays). IsRunOf (stays_admit k) one lent) (sym (stays_as options guard problem one is)) (these_run one is) in
    let Of : Problem → Type 0 = IsHistoryWith options files known run.history in
    let Ends : Problem → Type 0 = λ one. IsKnownOf options files (start_text one) known × ProblemEnds (admits_of options one) one lent run.outcome in
    let known_at : (one : Problem) → IsReadAs guard problem one → IsKnownOf options files (start_text one) known =
    λ one is. subst (λ (text : List ℕ). IsKnownOf options files text known) (sym (start_as guard problem one is)) is_known in
    let left : StartLeaves options.jobs options run.start (verdict_in run.kept) run.history (logs_of run.before.gates)
    (logs_of run.after.gates) run.before.journal run.after.journal run.outcome =
    subst (λ (n : ℕ). StartLeaves n options run.start (verdict_in run.kept) run.history (logs_of run.before.gates) (logs_of run.after.gates)
    run.before.journal run.after.journal run.outcome) (sym jobs) sound.journal in
    let accepted : ProblemAccepted options files Of =
    accepted_as options files guard problem Of all (λ one is. (known_at one is, (all_run one is).history)) was in
    let ended : ProblemAccepted options files Ends =
    accepted_as options files guard problem Ends all (λ one is. (known_at one is, (all_run one is).ends)) was in
    let both : ProblemAccepted options files (λ one. Of one × ProblemEnds (admits_of options one) one lent run.outcome) =
    accepted_as options files guard problem (λ one. Of one × ProblemEnds (admits_of options one) one lent run.outcome) all
    (λ one is. ((known_at one is, (all_run one is).history), (all_run one is).ends)) was in
    ⊎_elim (λ after. stops_ran options may_say known run.history old new run.before.gates run.after.gates first sound.records accepted read mid same quiet
    were_read run.outcome both after outcome writes made)
    (λ un. stops_unopened options may_say known run.history old new run.before.gates run.after.gates first sound.records accepted read mid same quiet
    were_read run.outcome ended un outcome writes made) left

-- the end of the command
pub reduce_ends : InputFaultOnce → InputsAreInLanguage
    → (options : ReduceOptions) (may_say : List ℕ → Verdict → Type 0) (history : History) (old new : Inside) (out out' : SeenOut)
    (outcome : Result (Vec ℕ) Refusal) (status : ℕ)
    → ReduceSteps options may_say history old new outcome
    → MatchResult outcome (λ report. EndsWithAnswer report.items out out' status) (λ refusal. EndsRefused out out' status refusal)
    → Reduces options may_say (beside old out) (beside new out') status
reduce_ends faults languages options may_say history old new out out' outcome status steps end =
    let ends : ReduceEnds options steps.known history (beside old out) (beside new out') status = at outcome steps.ends end in
    record {
      history = history;
      known = steps.known;
      ends = ends;
      must_end = must_end faults languages options steps.known history (beside old out) (beside new out') ends;
      sound = steps.sound;
      of_input = steps.of_input out out';
      others = steps.others;
    }
  where
    at : (outcome : Result (Vec ℕ) Refusal)
        → MatchResult outcome (λ report. ReduceReports options steps.known history old new report.items)
        (λ refusal. ReduceFails options steps.known history old new refusal)
        → MatchResult outcome (λ report. EndsWithAnswer report.items out out' status) (λ refusal. EndsRefused out out' status refusal)
        → ReduceEnds options steps.known history (beside old out) (beside new out') status
    at (Ok report) reports end =
        ⊎_elim (λ all. subst (ReduceEnds options steps.known history (beside old out) (beside new out')) (sym all.0)
        (done report.items (reports out out') all.1))
        (λ part. subst (ReduceEnds options steps.known history (beside old out) (beside new out')) (sym part.0)
        (unput report.items (reports out out') part.1)) end
    at (Err refusal) fails end = subst (ReduceEnds options steps.known history (beside old out) (beside new out')) (sym end.status_is) (fails out out' end.line)
