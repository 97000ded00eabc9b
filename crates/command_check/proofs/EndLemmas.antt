-- How `check` ends.
use Rattle.std.proofs.Common.{◌≡◌, ◌≢◌, ℕ, List, Some, Result, Ok, Err, MatchResult, IfOk, IfErr, OnOk, Vec, true, inl, inr, refl, sym, ◌∙◌, subst}
use Rattle.std.specs.Prelude.{codes}
use Rattle.edge_io.specs.Files.{IsLonger, SameFiles}
use Rattle.keep_guard.specs.Keep.{first_missing, holds_all}
use Rattle.keep_guard.proofs.Lent.{holds_all_or_misses}
use Rattle.reduce_journal.specs.History.{History}
use Rattle.reduce_journal.specs.declared.head.Head.{Head}
use Rattle.reduce_journal.specs.Journal.{IsJournalOf}
use Rattle.reduce_trees_input.specs.Laws.{InputFaultOnce, InputsAreInLanguage}
use Rattle.run_problem.specs.Problem.{Problem, start_text}
use Rattle.cert_check.specs.Laws.{OneIsFound}
use Rattle.command_ends.specs.declared.status.NamedFile.{NamedFile}
use Rattle.command_ends.specs.declared.status.NamedFile.TheVariants as named
use Rattle.command_ends.specs.declared.status.Refusal.{Refusal}
use Rattle.command_ends.specs.Status.{EndsRefused, EndsWithAnswer}
use Rattle.command_ends.specs.World.{IsQuiet, Puts, PutsPrefix, SeenCalls, SeenFiles, SeenOut, WereRead, journal_limit, result_limit}
use Rattle.command_ends.proofs.Lent.{not_longer}
use Rattle.command_problem.specs.Problem.{ProblemRead, limit_of}
use Rattle.command_problem.proofs.Lent.{fault_not_shown, faulty_not_shown, long_grammar_not_shown, long_input_not_shown, parse_caused, read_and_shown}
use Rattle.command_problem.proofs.Lent.{shown_holds, uncut_caused}
use Rattle.reduce_trees_input.specs.declared.fault.InputFault.TheVariants as input_fault
use Rattle.command_words.specs.Commands.{CheckOptions}
use Rattle.command_check.specs.Check.{CheckEnds, CheckMustEnd, Checks, ConfirmedIn, IsFileReached, IsShownHeld, IsShownRun, JournalIsBad, ProblemMustEnd}
use Rattle.command_check.specs.Check.{RunMustEnd, checked_problem, path_of_file, read_paths}
use Rattle.command_check.proofs.ProblemLemmas.{faulty_must_end, held_must_end, input_must_end, long_must_end, memory_must_end, read_must_end}
use Rattle.command_check.proofs.ProblemLemmas.{uncut_must_end, unparsed_must_end, unread_must_end}
use Rattle.command_check.proofs.RunLemmas.{JournalsAreOne, bad_must_end, long_journal, long_result, no_must_end, run_hidden, run_memory, run_unread}
use Rattle.command_check.proofs.RunLemmas.{yes_must_end}
use Rattle.command_check.specs.Check.CheckEnds.{confirmed, memory, unread, unput, faulty, no_token, unparsed}
use Rattle.command_check.specs.Check.CheckEnds.{keep_missing, too_long, no_head, bad_event, not_confirmed}
use Rattle.command_check.specs.inner.Check.{CheckFails}

module _ (options : CheckOptions) (files files' : SeenFiles) (calls calls' : SeenCalls) (out out' : SeenOut) where
  abbrev Ends : ℕ → Type 0
  Ends status = CheckEnds options files files' calls calls' out out' status

  abbrev MustEnd : ℕ → Type 0
  MustEnd status = CheckMustEnd options files files' out out' status

  -- no run ends as words do that are none
  pub never_usage : {status : ℕ} → Ends status → status ≢ 2
  never_usage (confirmed found quiet reads put) is = cc is
  never_usage (memory quiet reads line) is = cc is
  never_usage (unread file reached failed reads line) is = cc is
  never_usage (unput found quiet reads put) is = cc is
  never_usage (faulty trees text mode read quiet reads line) is = cc is
  never_usage (no_token trees fault mode uncut read quiet reads line) is = cc is
  never_usage (unparsed trees mode read quiet reads line) is = cc is
  never_usage (keep_missing index read quiet reads line) is = cc is
  never_usage (too_long file reached longer quiet reads line) is = cc is
  never_usage (no_head read quiet reads line) is = cc is
  never_usage (bad_event offset read quiet reads line) is = cc is
  never_usage (not_confirmed why found quiet reads line) is = cc is

  -- a run that ends with a refusal, where no call of the files failed and the status isn't 0
  refused : {status : ℕ} → status ≢ 0 → IsQuiet files files' → (IsShownRun options files → ⊥) → ProblemMustEnd options files status
      → RunMustEnd options files status → MustEnd status
  refused other quiet hidden problem run = record {
    problem = problem;
    run = run;
    complete = λ shown fine out_fine. absurd (hidden shown);
    files_failed = λ failed. absurd (failed quiet);
    out_failed = λ failed is. other is;
  }

  keeps_hidden : (index : ℕ) → ProblemRead (checked_problem options) files (λ problem. first_missing options.keeps (start_text problem) ≡ Some index)
      → IsShownHeld options files → ⊥
  keeps_hidden index read shown =
      let it : (problem : Problem) × (first_missing options.keeps (start_text problem) ≡ Some index) × (holds_all options.keeps (start_text problem) ≡ true) =
      read_and_shown (checked_problem options) files (λ problem. first_missing options.keeps (start_text problem) ≡ Some index)
      (λ start. holds_all options.keeps start ≡ true) read shown in
      absurd (cc (sym it.1 ∙ (holds_all_or_misses options.keeps (start_text it.0)).0 it.2))

  bad_hidden : (P : List ℕ → Type 0) → JournalIsBad P options files → IsShownRun options files → ⊥
  bad_hidden P read shown =
      let it : (head : Head) × (history : History) × (torn : ℕ) × IsJournalOf read.1.bytes head history torn =
      shown_holds journal_limit (λ bytes. (head : Head) × (history : History) × (torn : ℕ) × IsJournalOf bytes head history torn)
      (files.shown options.journal) shown.journal read.1.bytes read.1.read in
      read.1.holds.1 it.0 it.1 it.2 it.3

  module _ (faults : InputFaultOnce) (languages : InputsAreInLanguage) (journals : JournalsAreOne) (once : OneIsFound) where
    long_ends : (file : NamedFile) → IsFileReached options file files → IsLonger (limit_of file) (files.shown (path_of_file options file))
        → IsQuiet files files' → MustEnd 10
    long_ends named.Input reached longer quiet =
        let hidden : IsShownHeld options files → ⊥ =
        long_input_not_shown (checked_problem options) files _ reached longer in
        refused (λ is. cc is) quiet (λ shown. hidden shown.problem) (input_must_end options files reached longer) (run_hidden options files 10 hidden)
    long_ends named.Grammar reached longer quiet =
        let hidden : IsShownHeld options files → ⊥ =
        long_grammar_not_shown (checked_problem options) files named.Grammar _ reached longer in
        refused (λ is. cc is) quiet (λ shown. hidden shown.problem) (long_must_end options files named.Grammar reached longer)
        (run_hidden options files 10 hidden)
    long_ends named.Lexer reached longer quiet =
        let hidden : IsShownHeld options files → ⊥ =
        long_grammar_not_shown (checked_problem options) files named.Lexer _ reached longer in
        refused (λ is. cc is) quiet (λ shown. hidden shown.problem) (long_must_end options files named.Lexer reached longer)
        (run_hidden options files 10 hidden)
    long_ends named.Result reached longer quiet =
        refused (λ is. cc is) quiet (λ shown. not_longer result_limit _ (files.shown options.output) shown.result longer)
        (held_must_end options files faults languages 10 _ reached) (long_result options files longer)
    long_ends named.Journal reached longer quiet =
        refused (λ is. cc is) quiet (λ shown. not_longer journal_limit _ (files.shown options.journal) shown.journal longer)
        (held_must_end options files faults languages 10 _ reached.0) (long_journal options files reached longer)

    must_end : {status : ℕ} → Ends status → MustEnd status
    must_end (confirmed found quiet reads put) = record {
      problem = held_must_end options files faults languages 0 _ found;
      run = yes_must_end options files journals once 0 refl found;
      complete = λ shown fine out_fine. refl;
      files_failed = λ failed. absurd (failed quiet);
      out_failed = λ failed. absurd (failed put.quiet);
    }
    must_end (memory quiet reads line) = record {
      problem = memory_must_end options files;
      run = run_memory options files;
      complete = λ shown fine out_fine. refl;
      files_failed = λ failed. absurd (failed quiet);
      out_failed = λ failed is. cc is;
    }
    must_end (unread file reached call_failed reads line) = record {
      problem = unread_must_end options files;
      run = run_unread options files;
      complete = λ shown fine out_fine. absurd (fine call_failed);
      files_failed = λ failed. refl;
      out_failed = λ failed is. cc is;
    }
    must_end (unput found quiet reads put) = record {
      problem = held_must_end options files faults languages 4 _ found;
      run = yes_must_end options files journals once 4 refl found;
      complete = λ shown fine out_fine. absurd (out_fine put.failed);
      files_failed = λ failed. absurd (failed quiet);
      out_failed = λ failed is. cc is;
    }
    must_end (faulty trees text mode read quiet reads line) =
        let hidden : IsShownHeld options files → ⊥ =
        faulty_not_shown (checked_problem options) files trees text _ mode read in
        refused (λ is. cc is) quiet (λ shown. hidden shown.problem) (faulty_must_end options files trees text mode read) (run_hidden options files 5 hidden)
    must_end (no_token trees fault mode uncut read quiet reads line) =
        let hidden : IsShownHeld options files → ⊥ =
        fault_not_shown (checked_problem options) files faults trees fault (uncut_caused fault uncut) read _ mode in
        refused (λ is. cc is) quiet (λ shown. hidden shown.problem) (uncut_must_end options files faults trees fault mode uncut read)
        (run_hidden options files 6 hidden)
    must_end (unparsed trees mode read quiet reads line) =
        let hidden : IsShownHeld options files → ⊥ =
        fault_not_shown (checked_problem options) files faults trees input_fault.NoParse (parse_caused input_fault.NoParse refl) read _ mode in
        refused (λ is. cc is) quiet (λ shown. hidden shown.problem) (unparsed_must_end options files faults trees mode read) (run_hidden options files 7 hidden)
    must_end (keep_missing index read quiet reads line) =
        refused (λ is. cc is) quiet (λ shown. keeps_hidden index read shown.problem)
        (read_must_end options files faults languages 9 _ read (λ shown. refl)) (run_hidden options files 9 (keeps_hidden index read))
    must_end (too_long file reached longer quiet reads line) = long_ends file reached longer quiet
    must_end (no_head read quiet reads line) =
        refused (λ is. cc is) quiet (bad_hidden _ read) (held_must_end options files faults languages 14 _ read.0.0) (bad_must_end options files _ read)
    must_end (bad_event offset read quiet reads line) =
        refused (λ is. cc is) quiet (bad_hidden _ read) (held_must_end options files faults languages 14 _ read.0.0) (bad_must_end options files _ read)
    must_end (not_confirmed why found quiet reads line) = record {
      problem = held_must_end options files faults languages 15 _ found;
      run = no_must_end options files journals once why found;
      complete = λ shown fine out_fine. refl;
      files_failed = λ failed. absurd (failed quiet);
      out_failed = λ failed is. cc is;
    }

  -- a run by how it ends
  pub checks_of : InputFaultOnce → InputsAreInLanguage → JournalsAreOne → OneIsFound → {status : ℕ} → Ends status
      → SameFiles files.shown files'.shown → Checks options files files' calls calls' out out' status
  checks_of faults languages journals once ends same =
      record { ends = ends; must_end = must_end faults languages journals once ends; same = same }

  -- where memory ran out
  pub checks_memory : (ends : Ends 1) → IsQuiet files files' → SameFiles files.shown files'.shown → Checks options files files' calls calls' out out' 1
  checks_memory ends quiet same = record {
    ends = ends;
    must_end =
        record {
          problem = memory_must_end options files;
          run = run_memory options files;
          complete = λ shown fine out_fine. refl;
          files_failed = λ failed. absurd (failed quiet);
          out_failed = λ failed is. cc is;
        };
    same = same;
  }

  -- the end of the command, by its answer
  pub check_ends : {A : Type 0} (outcome : Result (Vec ℕ A) Refusal) (status : ℕ) → IfOk outcome (λ answer. answer.items ≡ codes "check: yes\n")
      → OnOk outcome (ConfirmedIn options files) → OnOk outcome (IsQuiet files files')
      → OnOk outcome (WereRead (read_paths options) calls calls') → IfErr outcome (λ refusal. CheckFails options files files' calls calls' refusal)
      → MatchResult outcome (λ answer. EndsWithAnswer answer.items out out' status) (λ refusal. EndsRefused out out' status refusal) → Ends status
  check_ends (Ok answer) status says found quiet reads fails (inl (is, put)) =
      subst Ends (sym is) (confirmed found quiet reads (subst (λ (bytes : List ℕ). Puts bytes out out') says put))
  check_ends (Ok answer) status says found quiet reads fails (inr (is, put)) =
      subst Ends (sym is) (unput found quiet reads (subst (λ (bytes : List ℕ). PutsPrefix bytes out out') says put))
  check_ends (Err refusal) status says found quiet reads fails end = subst Ends (sym end.status_is) (fails out out' end.line)
