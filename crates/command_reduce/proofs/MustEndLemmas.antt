-- Which status `reduce` has to end with, from how it ends.
use Rattle.std.proofs.Common.{◌≡◌, ◌≢◌, ◌⊎◌, inl, inr, ℕ, List, [], ◌∷◌, Option, Some, None, true, false, ⊎_elim, refl, sym, ap, ◌∙◌, subst, unwrap_or}
use Rattle.std.proofs.lemmas.Bool.{false≢true}
use Rattle.edge_io.specs.Files.{IsLonger}
use Rattle.keep_guard.specs.Keep.{first_missing, holds_all}
use Rattle.keep_guard.proofs.Lent.{holds_all_or_misses}
use Rattle.script_gate_trait.specs.declared.gate.Verdict.TheVariants.{Yes}
use Rattle.verdict_table.specs.declared.record.Record.{Record}
use Rattle.run_gated.specs.Records.{FirstIs, FirstIsNo}
use Rattle.reduce_trees_input.specs.Faults.{IsInputFault}
use Rattle.reduce_trees_input.specs.Laws.{InputFaultOnce, InputsAreInLanguage}
use Rattle.reduce_trees_input.specs.declared.fault.InputFault.{InputFault}
use Rattle.reduce_trees_input.specs.declared.fault.InputFault.TheVariants as input_fault
use Rattle.command_ends.specs.declared.status.NamedFile.{NamedFile}
use Rattle.command_ends.specs.declared.status.NamedFile.TheVariants as named
use Rattle.command_grammar.specs.Grammar.{IsFaultIn}
use Rattle.command_grammar.specs.Texts.{GrammarWasRead}
use Rattle.command_grammar.proofs.Lent.{grammar_not_missing as file_not_missing, grammar_not_over as file_not_over}
use Rattle.command_grammar.proofs.Lent.{lexer_not_missing, lexer_not_over, no_grammar, not_faulty}
use Rattle.run_problem.specs.Problem.{Problem, start_text}
use Rattle.run_problem.specs.Ends.{AreOf, IsUnfinished, ReducesFrom}
use Rattle.verdict_table.specs.TableState.{verdict_in}
use Rattle.run_gated.specs.declared.known.Known.{Known}
use Rattle.reduce_journal.specs.Journal.{IsBadAt, IsDigestOf, LacksHead}
use Rattle.reduce_journal.specs.declared.digest.Digest.{Digest}
use Rattle.reduce_journal.specs.History.{History, records_of}
use Rattle.reduce_journal.specs.Report.{report_text}
use Rattle.reduce_journal.specs.declared.counts.Counts.{Counts}
use Rattle.command_reduce_calls.specs.Journal.{JournalSoFar}
use Rattle.command_reduce.specs.Reduce.{ProblemAccepted, problem_in}
use Rattle.command_reduce.specs.Reduce.{ReduceEnds, ReduceMustEnd, ReducesTo, admits_of}
use Rattle.command_reduce.specs.Resume.{CanResume, IsKnownOf, IsOfOther, IsRead, IsShownBad, IsShownOfOther}
use Rattle.command_reduce_calls.specs.Stays.{AcceptsStart, NamesBeyond, first_beyond, first_beyond_start}
use Rattle.command_reduce.specs.Reduce.ReduceEnds.{done, memory, unread, unwritten, unput, faulty, no_token, unparsed}
use Rattle.command_reduce.specs.Reduce.ReduceEnds.{uninteresting, keep_missing, beyond, too_long, other_start, no_head, bad_event, script, journal}
use Rattle.command_ends.specs.Status.{IsUncut}
use Rattle.command_words.specs.Commands.{GrammarOptions, GrammarSource, ModeOptions, ReduceOptions}
use Rattle.command_ends.specs.World.{IsOver, IsQuiet, IsShownWithin, NotReached, SeenJournal, WasRead, fault_counts_of, World, grammar_limit}
use Rattle.command_ends.specs.World.{input_limit, journal_limit}
use Rattle.command_ends.proofs.Lent.{longer_not_missing, read_not_missing, read_not_over}
use Rattle.command_problem.proofs.Lent.{any_problem, fault_is, fault_not_shown, faulty_not_shown, grammar_not_faulty, grammar_not_missing}
use Rattle.command_problem.proofs.Lent.{grammar_not_over, input_read, long_grammar_hidden, long_grammar_not_shown, long_grammar_there}
use Rattle.command_problem.proofs.Lent.{long_input_no_fault, long_input_not_shown, no_fault, no_lexer_missing, no_lexer_over, parse_caused}
use Rattle.command_problem.proofs.Lent.{reached_grammar, read_and_shown, shown_not_faulty, shown_not_long, uncut_caused}
use Rattle.command_problem.specs.Problem.{InputHas, IsGrammarReached, IsShownFault, IsShownProblem, ProblemRead, grammar_in}
use Rattle.command_reduce.proofs.ResumeLemmas.{bad_not_other, bad_not_resumed, known_not_bad, known_not_missing, known_not_other, known_not_over}
use Rattle.command_reduce.proofs.ResumeLemmas.{long_not_bad, long_not_other, long_not_resumed, other_not_bad, other_not_resumed, path_there}

yes_no : (start : List ℕ) (records : List Record) → FirstIs start Yes records → FirstIsNo records → ⊥
yes_no start [] first first_no = first
yes_no start (r ∷ records) first first_no = absurd (cc (sym first.1 ∙ first_no))

none_no : (records : List Record) → records ≡ [] → FirstIsNo records → ⊥
none_no records none first_no = subst FirstIsNo none first_no

none_missing : (keeps : List (List ℕ)) (start : List ℕ) (index : ℕ) → holds_all keeps start ≡ true → first_missing keeps start ≡ Some index → ⊥
none_missing keeps start index holds missing = absurd (cc (sym missing ∙ (holds_all_or_misses keeps start).0 holds))

-- one path is named
one_path : {resume : Option (List ℕ)} (one other : List ℕ) → resume ≡ Some one → resume ≡ Some other → one ≡ other
one_path one other is is' = cc (sym is ∙ is')

-- each keep text occurs in a start, and a line is named that is beyond its last
abbrev IsBeyond : ReduceOptions → List ℕ → Type 0
IsBeyond options start = (holds_all options.keeps start ≡ true) × (first_beyond_start options.protects start ≢ None)

-- the grammar of a mode, and of one without a grammar this one
abbrev named_in : GrammarSource → ModeOptions → GrammarSource
named_in other ModeOptions.lines = other
named_in other (ModeOptions.by_grammar trees) = trees.grammar

-- a mode has one grammar
same_grammar : {mode : ModeOptions} {one other : GrammarOptions} → mode ≡ ModeOptions.by_grammar one → mode ≡ ModeOptions.by_grammar other
    → one.grammar ≡ other.grammar
same_grammar {one = one} is is' = ap (named_in one.grammar) (sym is ∙ is')

module _ (faults : InputFaultOnce) (languages : InputsAreInLanguage) (options : ReduceOptions) (known : Known) (history : History) (old new : World) where
  abbrev records : List Record
  records = records_of history

  keeps_all : (P : Problem → Type 0) → ProblemAccepted options old.files P
      → IsShownProblem (problem_in options) old.files (λ start. holds_all options.keeps start ≡ false) → ⊥
  keeps_all P read shown =
      let it : (problem : Problem) × (AcceptsStart options (start_text problem) × P problem) × (holds_all options.keeps (start_text problem) ≡ false) =
      read_and_shown (problem_in options) old.files (λ problem. AcceptsStart options (start_text problem) × P problem)
      (λ start. holds_all options.keeps start ≡ false) read shown in
      false≢true (sym it.2 ∙ it.1.0.0)

  within_all : (P : Problem → Type 0) → ProblemAccepted options old.files P → IsShownProblem (problem_in options) old.files (IsBeyond options) → ⊥
  within_all P read shown =
      let it : (problem : Problem) × (AcceptsStart options (start_text problem) × P problem) × IsBeyond options (start_text problem) =
      read_and_shown (problem_in options) old.files (λ problem. AcceptsStart options (start_text problem) × P problem) (IsBeyond options) read shown in
      it.2.1 it.1.0.1

  missing_keeps : (S : List ℕ → Type 0) → ((start : List ℕ) → S start → holds_all options.keeps start ≡ true) → (index : ℕ)
      → ProblemRead (problem_in options) old.files (λ problem. first_missing options.keeps (start_text problem) ≡ Some index)
      → IsShownProblem (problem_in options) old.files S → ⊥
  missing_keeps S holds index read shown =
      let it : (problem : Problem) × (first_missing options.keeps (start_text problem) ≡ Some index) × S (start_text problem) =
      read_and_shown (problem_in options) old.files (λ problem. first_missing options.keeps (start_text problem) ≡ Some index) S read shown in
      none_missing options.keeps (start_text it.0) index (holds (start_text it.0) it.2) it.1

  -- a start that names a line beyond its last has each keep text, and isn't accepted
  module _ (last lines : ℕ) (read : ProblemRead (problem_in options) old.files (λ problem. NamesBeyond options last lines (start_text problem))) where
    beyond_keeps : IsShownProblem (problem_in options) old.files (λ start. holds_all options.keeps start ≡ false) → ⊥
    beyond_keeps shown =
        let it : (problem : Problem) × NamesBeyond options last lines (start_text problem) × (holds_all options.keeps (start_text problem) ≡ false) =
        read_and_shown (problem_in options) old.files (λ problem. NamesBeyond options last lines (start_text problem))
        (λ start. holds_all options.keeps start ≡ false) read shown in
        false≢true (sym it.2 ∙ it.1.0)

    beyond_accepted : (S : List ℕ → Type 0) → ((start : List ℕ) → S start → AcceptsStart options start) → IsShownProblem (problem_in options) old.files S → ⊥
    beyond_accepted S accepts shown =
        let it : (problem : Problem) × NamesBeyond options last lines (start_text problem) × S (start_text problem) =
        read_and_shown (problem_in options) old.files (λ problem. NamesBeyond options last lines (start_text problem)) S read shown in
        let accepted : AcceptsStart options (start_text it.0) = accepts (start_text it.0) it.2 in
        absurd (cc (sym it.1.2 ∙ ap (first_beyond options.protects) it.1.1 ∙ accepted.1))

  yes_first : (text report : List ℕ) → ReducesTo options old.files known history text report → FirstIsNo records → ⊥
  yes_first text report reduces first_no =
      let P : Problem → Type 0 = λ problem. IsKnownOf options old.files (start_text problem) known
      × (counts : Counts) × ReducesFrom options.jobs (verdict_in known.kept) (admits_of options problem) problem history text counts
      × (report ≡ report_text counts)
      × AreOf options.jobs (verdict_in known.kept) (admits_of options problem) problem history in
      let it : (problem : Problem) × (AcceptsStart options (start_text problem) × P problem) =
      any_problem (problem_in options) old.files (λ problem. AcceptsStart options (start_text problem) × P problem) reduces in
      yes_no (start_text it.0) records it.1.1.2.first first_no

  not_no : options.jobs ≡ 1
      → ProblemAccepted options old.files
      (λ problem. IsKnownOf options old.files (start_text problem) known
      × (options.jobs ≡ 1 → IsUnfinished (verdict_in known.kept) (admits_of options problem) problem history)) → FirstIsNo records → ⊥
  not_no alone read first_no =
      let P : Problem → Type 0 = λ problem. IsKnownOf options old.files (start_text problem) known
      × (options.jobs ≡ 1 → IsUnfinished (verdict_in known.kept) (admits_of options problem) problem history) in
      let it : (problem : Problem) × (AcceptsStart options (start_text problem) × P problem) =
      any_problem (problem_in options) old.files (λ problem. AcceptsStart options (start_text problem) × P problem) read in
      (it.1.1.1 alone).not_no first_no

  -- ---- a journal that is resumed

  -- the journal that was named was read, and is one of the problem
  module _ (P : Problem → Type 0) (read : ProblemAccepted options old.files P)
      (known_of : (problem : Problem) → P problem → IsKnownOf options old.files (start_text problem) known) (path : List ℕ)
      (is_named : options.resume ≡ Some path) where
    abbrev Whole : Problem → Type 0
    Whole problem = AcceptsStart options (start_text problem) × P problem

    kept_not_over : IsOver journal_limit (old.files.shown path) → ⊥
    kept_not_over over =
        let it : (problem : Problem) × Whole problem = any_problem (problem_in options) old.files Whole read in
        known_not_over options old.files path is_named (start_text it.0) known (known_of it.0 it.1.1) over

    kept_not_missing : old.files.shown path ≡ Some None → ⊥
    kept_not_missing none =
        let it : (problem : Problem) × Whole problem = any_problem (problem_in options) old.files Whole read in
        known_not_missing options old.files path is_named (start_text it.0) known (known_of it.0 it.1.1) none

    kept_not_other : IsShownProblem (problem_in options) old.files (λ start. AcceptsStart options start × IsShownOfOther path old.files start) → ⊥
    kept_not_other shown =
        let it : (problem : Problem) × Whole problem × (AcceptsStart options (start_text problem) × IsShownOfOther path old.files (start_text problem)) =
        read_and_shown (problem_in options) old.files Whole (λ start. AcceptsStart options start × IsShownOfOther path old.files start) read shown in
        known_not_other options old.files path is_named (start_text it.0) known (known_of it.0 it.1.1) it.2.1

    kept_not_bad : IsShownBad path old.files → ⊥
    kept_not_bad bad =
        let it : (problem : Problem) × Whole problem = any_problem (problem_in options) old.files Whole read in
        known_not_bad options old.files path is_named (start_text it.0) known (known_of it.0 it.1.1) bad

  -- what is visible of an accepted problem and of its journal
  module _ (P : Problem → Type 0) (read : ProblemAccepted options old.files P) where
    shown_of : (S : List ℕ → Type 0) → IsShownProblem (problem_in options) old.files (λ start. AcceptsStart options start × S start)
        → (problem : Problem) × P problem × S (start_text problem)
    shown_of S shown =
        let it : (problem : Problem) × (AcceptsStart options (start_text problem) × P problem) × (AcceptsStart options (start_text problem)
        × S (start_text problem)) =
        read_and_shown (problem_in options) old.files (λ problem. AcceptsStart options (start_text problem) × P problem)
        (λ start. AcceptsStart options start × S start) read shown in
        (it.0, it.1.1, it.2.1)

  -- a journal that was named and is too long
  module _ (P : Problem → Type 0) (read : ProblemAccepted options old.files P) (path : List ℕ) (is_named : options.resume ≡ Some path)
      (longer : IsLonger journal_limit (old.files.shown path)) where
    long_hides : IsShownProblem (problem_in options) old.files (λ start. AcceptsStart options start × CanResume options.resume old.files start) → ⊥
    long_hides shown =
        let it = shown_of P read (CanResume options.resume old.files) shown in
        long_not_resumed options old.files path is_named (start_text it.0) longer it.2

    long_hides_other : IsShownProblem (problem_in options) old.files (λ start. AcceptsStart options start × IsShownOfOther path old.files start) → ⊥
    long_hides_other shown =
        let it = shown_of P read (IsShownOfOther path old.files) shown in
        long_not_other options old.files path is_named (start_text it.0) longer it.2

  -- one of another start
  module _ (path : List ℕ) (is_named : options.resume ≡ Some path) (other start : Digest)
      (read : ProblemAccepted options old.files (λ problem. IsDigestOf (start_text problem) start))
      (resumed : WasRead journal_limit (old.files.shown path) (λ bytes. IsRead bytes (IsOfOther start other))) where
    other_hides : IsShownProblem (problem_in options) old.files (λ start. AcceptsStart options start × CanResume options.resume old.files start) → ⊥
    other_hides shown =
        let it = shown_of (λ problem. IsDigestOf (start_text problem) start) read (CanResume options.resume old.files) shown in
        other_not_resumed options old.files path is_named (start_text it.0) start other it.1 resumed it.2

    other_not_bad_here : IsShownBad path old.files → ⊥
    other_not_bad_here bad =
        let it = any_problem (problem_in options) old.files
        (λ problem. AcceptsStart options (start_text problem) × IsDigestOf (start_text problem) start) read in
        other_not_bad options old.files path is_named (start_text it.0) start other it.1.1 resumed bad

  -- and what is no journal
  module _ (path : List ℕ) (is_named : options.resume ≡ Some path) (read : ProblemAccepted options old.files (λ problem. Unit {0}))
      (bad : WasRead journal_limit (old.files.shown path) (λ bytes. LacksHead bytes ⊎ ((offset : ℕ) × IsBadAt bytes offset))) where
    bad_hides : IsShownProblem (problem_in options) old.files (λ start. AcceptsStart options start × CanResume options.resume old.files start) → ⊥
    bad_hides shown =
        let it = shown_of (λ problem. Unit {0}) read (CanResume options.resume old.files) shown in
        bad_not_resumed options old.files path is_named (start_text it.0) bad it.2

    bad_hides_other : (given : List ℕ) → options.resume ≡ Some given
        → IsShownProblem (problem_in options) old.files (λ start. AcceptsStart options start × IsShownOfOther given old.files start) → ⊥
    bad_hides_other given is shown =
        let it = shown_of (λ problem. Unit {0}) read (IsShownOfOther given old.files) shown in
        let same : given ≡ path = one_path given path is is_named in
        bad_not_other options old.files path is_named (start_text it.0) bad
        (subst (λ (p : List ℕ). IsShownOfOther p old.files (start_text it.0)) same it.2)

  must_end_bad : (path : List ℕ) (is_named : options.resume ≡ Some path) (read : ProblemAccepted options old.files (λ problem. Unit {0}))
      → WasRead journal_limit (old.files.shown path) (λ bytes. LacksHead bytes ⊎ ((offset : ℕ) × IsBadAt bytes offset))
      → IsQuiet old.files new.files → NotReached history old new → ReduceMustEnd options records old new 14
  must_end_bad path is_named read bad quiet untouched = record {
    grammar_over = λ g is over. absurd (grammar_not_over (problem_in options) old.files _ read g is over);
    grammar_missing = λ g is none. absurd (grammar_not_missing (problem_in options) old.files _ read g is none);
    lexer_over = λ g lexer is named over. absurd (no_lexer_over (problem_in options) old.files _ read g is lexer named over);
    lexer_missing = λ g lexer is named none. absurd (no_lexer_missing (problem_in options) old.files _ read g is lexer named none);
    faulty = λ g is shown. absurd (grammar_not_faulty (problem_in options) old.files _ read g is shown);
    input_over = λ fine over. absurd (read_not_over (input_read (problem_in options) old.files _ read) over);
    input_missing = λ fine none. absurd (read_not_missing (input_read (problem_in options) old.files _ read) none);
    over = λ over. absurd (read_not_over (input_read (problem_in options) old.files _ read) over);
    missing = λ none. absurd (read_not_missing (input_read (problem_in options) old.files _ read) none);
    no_token = λ g is shown. absurd (no_fault (problem_in options) old.files _ read g is faults languages IsUncut uncut_caused shown);
    unparsed =
        λ g is shown. absurd (no_fault (problem_in options) old.files _ read g is faults languages (λ fault. fault ≡ input_fault.NoParse) parse_caused shown);
    keep_missing = λ shown. absurd (keeps_all _ read shown);
    beyond = λ shown. absurd (within_all _ read shown);
    journal_over =
        λ given is shown over.
        absurd (read_not_over bad (subst (λ (p : List ℕ). IsOver journal_limit (old.files.shown p)) (one_path given path is is_named) over));
    journal_missing =
        λ given is shown none.
        absurd (read_not_missing bad (subst (λ (p : List ℕ). old.files.shown p ≡ Some None) (one_path given path is is_named) none));
    other_start = λ given is shown. absurd (bad_hides_other path is_named read bad given is shown);
    bad_journal = λ given is shown bad. refl;
    complete = λ shown files_fine gate_fine journal_fine out_fine. absurd (bad_hides path is_named read bad shown);
    first_no = λ first_no. absurd (none_no records (ap records_of untouched.no_history) first_no);
    first_no_alone = λ alone first_no. absurd (none_no records (ap records_of untouched.no_history) first_no);
    files_failed = λ failed. absurd (failed quiet);
    gate_failed = λ failed. absurd (failed (ap fault_counts_of untouched.gates));
    gate_failed_alone = λ alone failed. absurd (failed (ap fault_counts_of untouched.gates));
    journal_failed = λ failed. absurd (failed (ap (λ (j : SeenJournal). j.faults) untouched.journal));
    out_failed = λ failed is. cc is;
  }

  so_far_quiet : (name : List ℕ) (start : Digest) → JournalSoFar name start history old.journal new.journal → IsQuiet old.journal new.journal
  so_far_quiet name start (JournalSoFar.whole it) = it.quiet
  so_far_quiet name start (JournalSoFar.untouched it) = ap (λ (j : SeenJournal). j.faults) it.same
  so_far_quiet name start (JournalSoFar.empty it) = it.quiet

  module _ {trees g : GrammarOptions} (mode : options.mode ≡ ModeOptions.by_grammar trees) (is : options.mode ≡ ModeOptions.by_grammar g) where
    fault_at : (text : List ℕ) → GrammarWasRead trees.grammar old.files (λ texts. IsFaultIn trees.grammar texts text)
        → GrammarWasRead g.grammar old.files (λ texts. IsFaultIn g.grammar texts text)
    fault_at text read =
        subst (λ (named : GrammarSource). GrammarWasRead named old.files (λ texts. IsFaultIn named texts text)) (same_grammar mode is) read

    faulty_no_fault : (text : List ℕ) → GrammarWasRead trees.grammar old.files (λ texts. IsFaultIn trees.grammar texts text) → (Q : InputFault → Type 0)
        → IsShownFault g.grammar (problem_in options) old.files Q → ⊥
    faulty_no_fault text read Q shown =
        no_grammar g.grammar old.files text (fault_at text read)
        (λ c. IsShownWithin input_limit (old.files.shown options.input) (λ bytes. (fault : InputFault) × IsInputFault c bytes fault × Q fault)) shown

    has_at : (fault : InputFault) → InputHas trees.grammar (λ c bytes. IsInputFault c bytes fault) (problem_in options) old.files
        → InputHas g.grammar (λ c bytes. IsInputFault c bytes fault) (problem_in options) old.files
    has_at fault read =
        subst (λ (named : GrammarSource). InputHas named (λ c bytes. IsInputFault c bytes fault) (problem_in options) old.files) (same_grammar mode is) read

  -- where a file of the grammar is too long
  long_must_end : (file : NamedFile) → IsGrammarReached options.mode file old.files → IsLonger grammar_limit (old.files.shown (grammar_in options.mode file))
      → IsQuiet old.files new.files → NotReached history old new → ReduceMustEnd options records old new 10
  long_must_end file reached longer quiet untouched = record {
    grammar_over = λ g is over. refl;
    grammar_missing = λ g is none. absurd (long_grammar_there (problem_in options) old.files g is file reached longer none);
    lexer_over = λ g lexer is named over. refl;
    lexer_missing = λ g lexer is named none. refl;
    faulty = λ g is shown. absurd (long_grammar_hidden (problem_in options) old.files g is file reached longer _ shown);
    input_over = λ fine over. refl;
    input_missing = λ fine none. absurd (shown_not_long (problem_in options) old.files file fine reached longer);
    over = λ over. refl;
    missing = λ none. refl;
    no_token = λ g is shown. absurd (long_grammar_hidden (problem_in options) old.files g is file reached longer _ shown);
    unparsed = λ g is shown. absurd (long_grammar_hidden (problem_in options) old.files g is file reached longer _ shown);
    keep_missing = λ shown. absurd (long_grammar_not_shown (problem_in options) old.files file _ reached longer shown);
    beyond = λ shown. absurd (long_grammar_not_shown (problem_in options) old.files file _ reached longer shown);
    journal_over = λ path is shown over. refl;
    journal_missing = λ path is shown none. absurd (long_grammar_not_shown (problem_in options) old.files file _ reached longer shown);
    other_start = λ path is shown. absurd (long_grammar_not_shown (problem_in options) old.files file _ reached longer shown);
    bad_journal = λ path is shown bad. absurd (long_grammar_not_shown (problem_in options) old.files file _ reached longer shown);
    complete = λ shown files_fine gate_fine journal_fine out_fine. absurd (long_grammar_not_shown (problem_in options) old.files file _ reached longer shown);
    first_no = λ first_no. absurd (none_no records (ap records_of untouched.no_history) first_no);
    first_no_alone = λ alone first_no. absurd (none_no records (ap records_of untouched.no_history) first_no);
    files_failed = λ failed. absurd (failed quiet);
    gate_failed = λ failed. absurd (failed (ap fault_counts_of untouched.gates));
    gate_failed_alone = λ alone failed. absurd (failed (ap fault_counts_of untouched.gates));
    journal_failed = λ failed. absurd (failed (ap (λ (j : SeenJournal). j.faults) untouched.journal));
    out_failed = λ failed is. cc is;
  }

  -- which status it has to be
  pub must_end : {status : ℕ} → ReduceEnds options known history old new status → ReduceMustEnd options records old new status
  must_end (done report writes put) = record {
    grammar_over = λ g is over. absurd (grammar_not_over (problem_in options) old.files _ writes.reduced.reduces g is over);
    grammar_missing = λ g is none. absurd (grammar_not_missing (problem_in options) old.files _ writes.reduced.reduces g is none);
    lexer_over = λ g lexer is named over. absurd (no_lexer_over (problem_in options) old.files _ writes.reduced.reduces g is lexer named over);
    lexer_missing = λ g lexer is named none. absurd (no_lexer_missing (problem_in options) old.files _ writes.reduced.reduces g is lexer named none);
    faulty = λ g is shown. absurd (grammar_not_faulty (problem_in options) old.files _ writes.reduced.reduces g is shown);
    input_over = λ fine over. absurd (read_not_over (input_read (problem_in options) old.files _ writes.reduced.reduces) over);
    input_missing = λ fine none. absurd (read_not_missing (input_read (problem_in options) old.files _ writes.reduced.reduces) none);
    over = λ over. absurd (read_not_over (input_read (problem_in options) old.files _ writes.reduced.reduces) over);
    missing = λ none. absurd (read_not_missing (input_read (problem_in options) old.files _ writes.reduced.reduces) none);
    no_token = λ g is shown. absurd (no_fault (problem_in options) old.files _ writes.reduced.reduces g is faults languages IsUncut uncut_caused shown);
    unparsed =
        λ g is shown. absurd (no_fault (problem_in options) old.files _ writes.reduced.reduces g is faults languages
        (λ fault. fault ≡ input_fault.NoParse) parse_caused shown);
    keep_missing = λ shown. absurd (keeps_all _ writes.reduced.reduces shown);
    beyond = λ shown. absurd (within_all _ writes.reduced.reduces shown);
    journal_over = λ path is shown over. absurd (kept_not_over _ writes.reduced.reduces (λ problem it. it.0) path is over);
    journal_missing = λ path is shown none. absurd (kept_not_missing _ writes.reduced.reduces (λ problem it. it.0) path is none);
    other_start = λ path is shown. absurd (kept_not_other _ writes.reduced.reduces (λ problem it. it.0) path is shown);
    bad_journal = λ path is shown bad. absurd (kept_not_bad _ writes.reduced.reduces (λ problem it. it.0) path is bad);
    complete = λ shown files_fine gate_fine journal_fine out_fine. refl;
    first_no = λ first_no. absurd (yes_first _ _ writes.reduced.reduces first_no);
    first_no_alone = λ alone first_no. absurd (yes_first _ _ writes.reduced.reduces first_no);
    files_failed = λ failed. absurd (failed writes.files_quiet);
    gate_failed = λ failed. absurd (failed writes.gates_quiet);
    gate_failed_alone = λ alone failed. absurd (failed writes.gates_quiet);
    journal_failed = λ failed. absurd (failed writes.journal.quiet);
    out_failed = λ failed. absurd (failed put.quiet);
  }
  must_end (unput report writes put) = record {
    grammar_over = λ g is over. absurd (grammar_not_over (problem_in options) old.files _ writes.reduced.reduces g is over);
    grammar_missing = λ g is none. absurd (grammar_not_missing (problem_in options) old.files _ writes.reduced.reduces g is none);
    lexer_over = λ g lexer is named over. absurd (no_lexer_over (problem_in options) old.files _ writes.reduced.reduces g is lexer named over);
    lexer_missing = λ g lexer is named none. absurd (no_lexer_missing (problem_in options) old.files _ writes.reduced.reduces g is lexer named none);
    faulty = λ g is shown. absurd (grammar_not_faulty (problem_in options) old.files _ writes.reduced.reduces g is shown);
    input_over = λ fine over. absurd (read_not_over (input_read (problem_in options) old.files _ writes.reduced.reduces) over);
    input_missing = λ fine none. absurd (read_not_missing (input_read (problem_in options) old.files _ writes.reduced.reduces) none);
    over = λ over. absurd (read_not_over (input_read (problem_in options) old.files _ writes.reduced.reduces) over);
    missing = λ none. absurd (read_not_missing (input_read (problem_in options) old.files _ writes.reduced.reduces) none);
    no_token = λ g is shown. absurd (no_fault (problem_in options) old.files _ writes.reduced.reduces g is faults languages IsUncut uncut_caused shown);
    unparsed = λ g is shown. absurd (no_fault (problem_in options) old.files _ writes.reduced.reduces g is faults languages
        (λ fault. fault ≡ input_fault.NoParse) parse_caused shown);
    keep_missing = λ shown. absurd (keeps_all _ writes.reduced.reduces shown);
    beyond = λ shown. absurd (within_all _ writes.reduced.reduces shown);
    journal_over = λ path is shown over. absurd (kept_not_over _ writes.reduced.reduces (λ problem it. it.0) path is over);
    journal_missing = λ path is shown none. absurd (kept_not_missing _ writes.reduced.reduces (λ problem it. it.0) path is none);
    other_start = λ path is shown. absurd (kept_not_other _ writes.reduced.reduces (λ problem it. it.0) path is shown);
    bad_journal = λ path is shown bad. absurd (kept_not_bad _ writes.reduced.reduces (λ problem it. it.0) path is bad);
    complete = λ shown files_fine gate_fine journal_fine out_fine. absurd (out_fine put.failed);
    first_no = λ first_no. absurd (yes_first _ _ writes.reduced.reduces first_no);
    first_no_alone = λ alone first_no. absurd (yes_first _ _ writes.reduced.reduces first_no);
    files_failed = λ failed. absurd (failed writes.files_quiet);
    gate_failed = λ failed. absurd (failed writes.gates_quiet);
    gate_failed_alone = λ alone failed. absurd (failed writes.gates_quiet);
    journal_failed = λ failed. absurd (failed writes.journal.quiet);
    out_failed = λ failed is. cc is;
  }
  must_end (memory files gates_quiet kept put) = record {
    grammar_over = λ g is over. refl;
    grammar_missing = λ g is none. refl;
    lexer_over = λ g lexer is named over. refl;
    lexer_missing = λ g lexer is named none. refl;
    faulty = λ g is shown. refl;
    input_over = λ fine over. refl;
    input_missing = λ fine none. refl;
    over = λ over. refl;
    missing = λ none. refl;
    no_token = λ g is shown. refl;
    unparsed = λ g is shown. refl;
    keep_missing = λ shown. refl;
    beyond = λ shown. refl;
    journal_over = λ path is shown over. refl;
    journal_missing = λ path is shown none. refl;
    other_start = λ path is shown. refl;
    bad_journal = λ path is shown bad. refl;
    complete = λ shown files_fine gate_fine journal_fine out_fine. refl;
    first_no = λ first_no. refl;
    first_no_alone = λ alone first_no. refl;
    files_failed = λ failed. absurd (failed files.quiet);
    gate_failed = λ failed. refl;
    gate_failed_alone = λ alone failed. absurd (failed (gates_quiet alone));
    journal_failed = λ failed. absurd (failed (so_far_quiet _ _ kept));
    out_failed = λ failed is. cc is;
  }
  must_end (unread file reached call_failed calls same untouched put) = record {
    grammar_over = λ g is over. refl;
    grammar_missing = λ g is none. refl;
    lexer_over = λ g lexer is named over. refl;
    lexer_missing = λ g lexer is named none. refl;
    faulty = λ g is shown. refl;
    input_over = λ fine over. refl;
    input_missing = λ fine none. refl;
    over = λ over. refl;
    missing = λ none. refl;
    no_token = λ g is shown. refl;
    unparsed = λ g is shown. refl;
    keep_missing = λ shown. refl;
    beyond = λ shown. refl;
    journal_over = λ path is shown over. refl;
    journal_missing = λ path is shown none. refl;
    other_start = λ path is shown. refl;
    bad_journal = λ path is shown bad. refl;
    complete = λ shown files_fine gate_fine journal_fine out_fine. absurd (files_fine call_failed);
    first_no = λ first_no. absurd (none_no records (ap records_of untouched.no_history) first_no);
    first_no_alone = λ alone first_no. absurd (none_no records (ap records_of untouched.no_history) first_no);
    files_failed = λ failed. refl;
    gate_failed = λ failed. absurd (failed (ap fault_counts_of untouched.gates));
    gate_failed_alone = λ alone failed. absurd (failed (ap fault_counts_of untouched.gates));
    journal_failed = λ failed. absurd (failed (ap (λ (j : SeenJournal). j.faults) untouched.journal));
    out_failed = λ failed is. cc is;
  }
  must_end (unwritten call_failed calls text report reduces others gates_quiet kept put) = record {
    grammar_over = λ g is over. absurd (grammar_not_over (problem_in options) old.files _ reduces g is over);
    grammar_missing = λ g is none. absurd (grammar_not_missing (problem_in options) old.files _ reduces g is none);
    lexer_over = λ g lexer is named over. absurd (no_lexer_over (problem_in options) old.files _ reduces g is lexer named over);
    lexer_missing = λ g lexer is named none. absurd (no_lexer_missing (problem_in options) old.files _ reduces g is lexer named none);
    faulty = λ g is shown. absurd (grammar_not_faulty (problem_in options) old.files _ reduces g is shown);
    input_over = λ fine over. absurd (read_not_over (input_read (problem_in options) old.files _ reduces) over);
    input_missing = λ fine none. absurd (read_not_missing (input_read (problem_in options) old.files _ reduces) none);
    over = λ over. absurd (read_not_over (input_read (problem_in options) old.files _ reduces) over);
    missing = λ none. absurd (read_not_missing (input_read (problem_in options) old.files _ reduces) none);
    no_token = λ g is shown. absurd (no_fault (problem_in options) old.files _ reduces g is faults languages IsUncut uncut_caused shown);
    unparsed =
        λ g is shown.
        absurd (no_fault (problem_in options) old.files _ reduces g is faults languages (λ fault. fault ≡ input_fault.NoParse) parse_caused shown);
    keep_missing = λ shown. absurd (keeps_all _ reduces shown);
    beyond = λ shown. absurd (within_all _ reduces shown);
    journal_over = λ path is shown over. absurd (kept_not_over _ reduces (λ problem it. it.0) path is over);
    journal_missing = λ path is shown none. absurd (kept_not_missing _ reduces (λ problem it. it.0) path is none);
    other_start = λ path is shown. absurd (kept_not_other _ reduces (λ problem it. it.0) path is shown);
    bad_journal = λ path is shown bad. absurd (kept_not_bad _ reduces (λ problem it. it.0) path is bad);
    complete = λ shown files_fine gate_fine journal_fine out_fine. absurd (files_fine call_failed);
    first_no = λ first_no. absurd (yes_first _ _ reduces first_no);
    first_no_alone = λ alone first_no. absurd (yes_first _ _ reduces first_no);
    files_failed = λ failed. refl;
    gate_failed = λ failed. absurd (failed gates_quiet);
    gate_failed_alone = λ alone failed. absurd (failed gates_quiet);
    journal_failed = λ failed. absurd (failed kept.quiet);
    out_failed = λ failed is. cc is;
  }
  must_end (faulty trees text mode read files untouched put) = record {
    grammar_over = λ g is over. absurd (file_not_over g.grammar old.files _ (fault_at mode is text read) over);
    grammar_missing = λ g is none. absurd (file_not_missing g.grammar old.files _ (fault_at mode is text read) none);
    lexer_over = λ g lexer is named over. absurd (lexer_not_over g.grammar old.files lexer named _ (fault_at mode is text read) over);
    lexer_missing = λ g lexer is named none. absurd (lexer_not_missing g.grammar old.files lexer named _ (fault_at mode is text read) none);
    faulty = λ g is shown. refl;
    input_over = λ fine over. absurd (shown_not_faulty (problem_in options) old.files text mode read fine);
    input_missing = λ fine none. absurd (shown_not_faulty (problem_in options) old.files text mode read fine);
    over = λ over. refl;
    missing = λ none. refl;
    no_token = λ g is shown. absurd (faulty_no_fault mode is text read IsUncut shown);
    unparsed = λ g is shown. absurd (faulty_no_fault mode is text read (λ fault. fault ≡ input_fault.NoParse) shown);
    keep_missing = λ shown. absurd (faulty_not_shown (problem_in options) old.files trees text _ mode read shown);
    beyond = λ shown. absurd (faulty_not_shown (problem_in options) old.files trees text _ mode read shown);
    journal_over = λ path is shown over. absurd (faulty_not_shown (problem_in options) old.files trees text _ mode read shown);
    journal_missing = λ path is shown none. absurd (faulty_not_shown (problem_in options) old.files trees text _ mode read shown);
    other_start = λ path is shown. absurd (faulty_not_shown (problem_in options) old.files trees text _ mode read shown);
    bad_journal = λ path is shown bad. absurd (faulty_not_shown (problem_in options) old.files trees text _ mode read shown);
    complete = λ shown files_fine gate_fine journal_fine out_fine. absurd (faulty_not_shown (problem_in options) old.files trees text _ mode read shown);
    first_no = λ first_no. absurd (none_no records (ap records_of untouched.no_history) first_no);
    first_no_alone = λ alone first_no. absurd (none_no records (ap records_of untouched.no_history) first_no);
    files_failed = λ failed. absurd (failed files.quiet);
    gate_failed = λ failed. absurd (failed (ap fault_counts_of untouched.gates));
    gate_failed_alone = λ alone failed. absurd (failed (ap fault_counts_of untouched.gates));
    journal_failed = λ failed. absurd (failed (ap (λ (j : SeenJournal). j.faults) untouched.journal));
    out_failed = λ failed is. cc is;
  }
  must_end (no_token trees fault mode uncut read files untouched put) = record {
    grammar_over = λ g is over. absurd (file_not_over g.grammar old.files _ (has_at mode is fault read).1 over);
    grammar_missing = λ g is none. absurd (file_not_missing g.grammar old.files _ (has_at mode is fault read).1 none);
    lexer_over = λ g lexer is named over. absurd (lexer_not_over g.grammar old.files lexer named _ (has_at mode is fault read).1 over);
    lexer_missing = λ g lexer is named none. absurd (lexer_not_missing g.grammar old.files lexer named _ (has_at mode is fault read).1 none);
    faulty = λ g is shown. absurd (not_faulty g.grammar old.files _ (has_at mode is fault read).1 shown);
    input_over = λ fine over. absurd (read_not_over read.2 over);
    input_missing = λ fine none. absurd (read_not_missing read.2 none);
    over = λ over. absurd (read_not_over read.2 over);
    missing = λ none. absurd (read_not_missing read.2 none);
    no_token = λ g is shown. refl;
    unparsed =
        λ g is shown.
        absurd (subst IsUncut (fault_is (problem_in options) old.files faults g fault (uncut_caused fault uncut) (has_at mode is fault read)
        (λ f. f ≡ input_fault.NoParse) parse_caused shown) uncut);
    keep_missing = λ shown. absurd (fault_not_shown (problem_in options) old.files faults trees fault (uncut_caused fault uncut) read _ mode shown);
    beyond = λ shown. absurd (fault_not_shown (problem_in options) old.files faults trees fault (uncut_caused fault uncut) read _ mode shown);
    journal_over = λ path is shown over.
        absurd (fault_not_shown (problem_in options) old.files faults trees fault (uncut_caused fault uncut) read _ mode shown);
    journal_missing = λ path is shown none.
        absurd (fault_not_shown (problem_in options) old.files faults trees fault (uncut_caused fault uncut) read _ mode shown);
    other_start = λ path is shown. absurd (fault_not_shown (problem_in options) old.files faults trees fault (uncut_caused fault uncut) read _ mode shown);
    bad_journal = λ path is shown bad. absurd (fault_not_shown (problem_in options) old.files faults trees fault (uncut_caused fault uncut) read _ mode shown);
    complete =
        λ shown files_fine gate_fine journal_fine out_fine.
        absurd (fault_not_shown (problem_in options) old.files faults trees fault (uncut_caused fault uncut) read _ mode shown);
    first_no = λ first_no. absurd (none_no records (ap records_of untouched.no_history) first_no);
    first_no_alone = λ alone first_no. absurd (none_no records (ap records_of untouched.no_history) first_no);
    files_failed = λ failed. absurd (failed files.quiet);
    gate_failed = λ failed. absurd (failed (ap fault_counts_of untouched.gates));
    gate_failed_alone = λ alone failed. absurd (failed (ap fault_counts_of untouched.gates));
    journal_failed = λ failed. absurd (failed (ap (λ (j : SeenJournal). j.faults) untouched.journal));
    out_failed = λ failed is. cc is;
  }
  must_end (unparsed trees mode read files untouched put) = record {
    grammar_over = λ g is over. absurd (file_not_over g.grammar old.files _ (has_at mode is input_fault.NoParse read).1 over);
    grammar_missing = λ g is none. absurd (file_not_missing g.grammar old.files _ (has_at mode is input_fault.NoParse read).1 none);
    lexer_over = λ g lexer is named over. absurd (lexer_not_over g.grammar old.files lexer named _ (has_at mode is input_fault.NoParse read).1 over);
    lexer_missing = λ g lexer is named none. absurd (lexer_not_missing g.grammar old.files lexer named _ (has_at mode is input_fault.NoParse read).1 none);
    faulty = λ g is shown. absurd (not_faulty g.grammar old.files _ (has_at mode is input_fault.NoParse read).1 shown);
    input_over = λ fine over. absurd (read_not_over read.2 over);
    input_missing = λ fine none. absurd (read_not_missing read.2 none);
    over = λ over. absurd (read_not_over read.2 over);
    missing = λ none. absurd (read_not_missing read.2 none);
    no_token =
        λ g is shown. absurd (fault_is (problem_in options) old.files faults g input_fault.NoParse (parse_caused input_fault.NoParse refl)
        (has_at mode is input_fault.NoParse read) IsUncut uncut_caused shown);
    unparsed = λ g is shown. refl;
    keep_missing =
        λ shown.
        absurd (fault_not_shown (problem_in options) old.files faults trees input_fault.NoParse (parse_caused input_fault.NoParse refl) read _ mode shown);
    beyond =
        λ shown.
        absurd (fault_not_shown (problem_in options) old.files faults trees input_fault.NoParse (parse_caused input_fault.NoParse refl) read _ mode shown);
    journal_over =
        λ path is shown over.
        absurd (fault_not_shown (problem_in options) old.files faults trees input_fault.NoParse (parse_caused input_fault.NoParse refl) read _ mode shown);
    journal_missing =
        λ path is shown none.
        absurd (fault_not_shown (problem_in options) old.files faults trees input_fault.NoParse (parse_caused input_fault.NoParse refl) read _ mode shown);
    other_start =
        λ path is shown.
        absurd (fault_not_shown (problem_in options) old.files faults trees input_fault.NoParse (parse_caused input_fault.NoParse refl) read _ mode shown);
    bad_journal =
        λ path is shown bad.
        absurd (fault_not_shown (problem_in options) old.files faults trees input_fault.NoParse (parse_caused input_fault.NoParse refl) read _ mode shown);
    complete =
        λ shown files_fine gate_fine journal_fine out_fine.
        absurd (fault_not_shown (problem_in options) old.files faults trees input_fault.NoParse (parse_caused input_fault.NoParse refl) read _ mode shown);
    first_no = λ first_no. absurd (none_no records (ap records_of untouched.no_history) first_no);
    first_no_alone = λ alone first_no. absurd (none_no records (ap records_of untouched.no_history) first_no);
    files_failed = λ failed. absurd (failed files.quiet);
    gate_failed = λ failed. absurd (failed (ap fault_counts_of untouched.gates));
    gate_failed_alone = λ alone failed. absurd (failed (ap fault_counts_of untouched.gates));
    journal_failed = λ failed. absurd (failed (ap (λ (j : SeenJournal). j.faults) untouched.journal));
    out_failed = λ failed is. cc is;
  }
  must_end (uninteresting read files gates_quiet kept put) = record {
    grammar_over = λ g is over. absurd (grammar_not_over (problem_in options) old.files _ read g is over);
    grammar_missing = λ g is none. absurd (grammar_not_missing (problem_in options) old.files _ read g is none);
    lexer_over = λ g lexer is named over. absurd (no_lexer_over (problem_in options) old.files _ read g is lexer named over);
    lexer_missing = λ g lexer is named none. absurd (no_lexer_missing (problem_in options) old.files _ read g is lexer named none);
    faulty = λ g is shown. absurd (grammar_not_faulty (problem_in options) old.files _ read g is shown);
    input_over = λ fine over. absurd (read_not_over (input_read (problem_in options) old.files _ read) over);
    input_missing = λ fine none. absurd (read_not_missing (input_read (problem_in options) old.files _ read) none);
    over = λ over. absurd (read_not_over (input_read (problem_in options) old.files _ read) over);
    missing = λ none. absurd (read_not_missing (input_read (problem_in options) old.files _ read) none);
    no_token = λ g is shown. absurd (no_fault (problem_in options) old.files _ read g is faults languages IsUncut uncut_caused shown);
    unparsed =
        λ g is shown. absurd (no_fault (problem_in options) old.files _ read g is faults languages (λ fault. fault ≡ input_fault.NoParse) parse_caused shown);
    keep_missing = λ shown. absurd (keeps_all _ read shown);
    beyond = λ shown. absurd (within_all _ read shown);
    journal_over = λ path is shown over. absurd (kept_not_over _ read (λ problem it. it.0) path is over);
    journal_missing = λ path is shown none. absurd (kept_not_missing _ read (λ problem it. it.0) path is none);
    other_start = λ path is shown. absurd (kept_not_other _ read (λ problem it. it.0) path is shown);
    bad_journal = λ path is shown bad. absurd (kept_not_bad _ read (λ problem it. it.0) path is bad);
    complete = λ shown files_fine gate_fine journal_fine out_fine. refl;
    first_no = λ first_no. refl;
    first_no_alone = λ alone first_no. refl;
    files_failed = λ failed. absurd (failed files.quiet);
    gate_failed = λ failed. absurd (failed gates_quiet);
    gate_failed_alone = λ alone failed. absurd (failed gates_quiet);
    journal_failed = λ failed. absurd (failed kept.quiet);
    out_failed = λ failed is. cc is;
  }
  must_end (keep_missing index read files untouched put) = record {
    grammar_over = λ g is over. absurd (grammar_not_over (problem_in options) old.files _ read g is over);
    grammar_missing = λ g is none. absurd (grammar_not_missing (problem_in options) old.files _ read g is none);
    lexer_over = λ g lexer is named over. absurd (no_lexer_over (problem_in options) old.files _ read g is lexer named over);
    lexer_missing = λ g lexer is named none. absurd (no_lexer_missing (problem_in options) old.files _ read g is lexer named none);
    faulty = λ g is shown. absurd (grammar_not_faulty (problem_in options) old.files _ read g is shown);
    input_over = λ fine over. absurd (read_not_over (input_read (problem_in options) old.files _ read) over);
    input_missing = λ fine none. absurd (read_not_missing (input_read (problem_in options) old.files _ read) none);
    over = λ over. absurd (read_not_over (input_read (problem_in options) old.files _ read) over);
    missing = λ none. absurd (read_not_missing (input_read (problem_in options) old.files _ read) none);
    no_token = λ g is shown. absurd (no_fault (problem_in options) old.files _ read g is faults languages IsUncut uncut_caused shown);
    unparsed =
        λ g is shown. absurd (no_fault (problem_in options) old.files _ read g is faults languages (λ fault. fault ≡ input_fault.NoParse) parse_caused shown);
    keep_missing = λ shown. refl;
    beyond = λ shown. absurd (missing_keeps (IsBeyond options) (λ start it. it.0) index read shown);
    journal_over = λ path is shown over. absurd (missing_keeps (AcceptsStart options) (λ start it. it.0) index read shown);
    journal_missing = λ path is shown none. absurd (missing_keeps (AcceptsStart options) (λ start it. it.0) index read shown);
    other_start = λ path is shown.
        absurd (missing_keeps
        (λ start. AcceptsStart options start × IsShownOfOther path old.files start) (λ start it. it.0.0) index read shown);
    bad_journal = λ path is shown bad. absurd (missing_keeps (AcceptsStart options) (λ start it. it.0) index read shown);
    complete = λ shown files_fine gate_fine journal_fine out_fine.
        absurd (missing_keeps
        (λ start. AcceptsStart options start × CanResume options.resume old.files start) (λ start it. it.0.0) index read shown);
    first_no = λ first_no. absurd (none_no records (ap records_of untouched.no_history) first_no);
    first_no_alone = λ alone first_no. absurd (none_no records (ap records_of untouched.no_history) first_no);
    files_failed = λ failed. absurd (failed files.quiet);
    gate_failed = λ failed. absurd (failed (ap fault_counts_of untouched.gates));
    gate_failed_alone = λ alone failed. absurd (failed (ap fault_counts_of untouched.gates));
    journal_failed = λ failed. absurd (failed (ap (λ (j : SeenJournal). j.faults) untouched.journal));
    out_failed = λ failed is. cc is;
  }
  must_end (beyond last lines read files untouched put) = record {
    grammar_over = λ g is over. absurd (grammar_not_over (problem_in options) old.files _ read g is over);
    grammar_missing = λ g is none. absurd (grammar_not_missing (problem_in options) old.files _ read g is none);
    lexer_over = λ g lexer is named over. absurd (no_lexer_over (problem_in options) old.files _ read g is lexer named over);
    lexer_missing = λ g lexer is named none. absurd (no_lexer_missing (problem_in options) old.files _ read g is lexer named none);
    faulty = λ g is shown. absurd (grammar_not_faulty (problem_in options) old.files _ read g is shown);
    input_over = λ fine over. absurd (read_not_over (input_read (problem_in options) old.files _ read) over);
    input_missing = λ fine none. absurd (read_not_missing (input_read (problem_in options) old.files _ read) none);
    over = λ over. absurd (read_not_over (input_read (problem_in options) old.files _ read) over);
    missing = λ none. absurd (read_not_missing (input_read (problem_in options) old.files _ read) none);
    no_token = λ g is shown. absurd (no_fault (problem_in options) old.files _ read g is faults languages IsUncut uncut_caused shown);
    unparsed =
        λ g is shown. absurd (no_fault (problem_in options) old.files _ read g is faults languages (λ fault. fault ≡ input_fault.NoParse) parse_caused shown);
    keep_missing = λ shown. absurd (beyond_keeps last lines read shown);
    beyond = λ shown. refl;
    journal_over = λ path is shown over. absurd (beyond_accepted last lines read (AcceptsStart options) (λ start it. it) shown);
    journal_missing = λ path is shown none. absurd (beyond_accepted last lines read (AcceptsStart options) (λ start it. it) shown);
    other_start = λ path is shown.
        absurd (beyond_accepted last lines read
        (λ start. AcceptsStart options start × IsShownOfOther path old.files start) (λ start it. it.0) shown);
    bad_journal = λ path is shown bad. absurd (beyond_accepted last lines read (AcceptsStart options) (λ start it. it) shown);
    complete = λ shown files_fine gate_fine journal_fine out_fine.
        absurd (beyond_accepted last lines read
        (λ start. AcceptsStart options start × CanResume options.resume old.files start) (λ start it. it.0) shown);
    first_no = λ first_no. absurd (none_no records (ap records_of untouched.no_history) first_no);
    first_no_alone = λ alone first_no. absurd (none_no records (ap records_of untouched.no_history) first_no);
    files_failed = λ failed. absurd (failed files.quiet);
    gate_failed = λ failed. absurd (failed (ap fault_counts_of untouched.gates));
    gate_failed_alone = λ alone failed. absurd (failed (ap fault_counts_of untouched.gates));
    journal_failed = λ failed. absurd (failed (ap (λ (j : SeenJournal). j.faults) untouched.journal));
    out_failed = λ failed is. cc is;
  }
  must_end (too_long named.Input reached longer files untouched put) = record {
    grammar_over = λ g is over. refl;
    grammar_missing = λ g is none. absurd (file_not_missing g.grammar old.files _ (reached_grammar (problem_in options) old.files g is reached).1 none);
    lexer_over = λ g lexer is named over. refl;
    lexer_missing = λ g lexer is named none. refl;
    faulty = λ g is shown. absurd (not_faulty g.grammar old.files _ (reached_grammar (problem_in options) old.files g is reached).1 shown);
    input_over = λ fine over. refl;
    input_missing = λ fine none. absurd (longer_not_missing input_limit _ longer none);
    over = λ over. refl;
    missing = λ none. refl;
    no_token = λ g is shown. absurd (long_input_no_fault (problem_in options) old.files g is IsUncut reached longer shown);
    unparsed = λ g is shown. absurd (long_input_no_fault (problem_in options) old.files g is (λ fault. fault ≡ input_fault.NoParse) reached longer shown);
    keep_missing = λ shown. absurd (long_input_not_shown (problem_in options) old.files _ reached longer shown);
    beyond = λ shown. absurd (long_input_not_shown (problem_in options) old.files _ reached longer shown);
    journal_over = λ path is shown over. refl;
    journal_missing = λ path is shown none. absurd (long_input_not_shown (problem_in options) old.files _ reached longer shown);
    other_start = λ path is shown. absurd (long_input_not_shown (problem_in options) old.files _ reached longer shown);
    bad_journal = λ path is shown bad. absurd (long_input_not_shown (problem_in options) old.files _ reached longer shown);
    complete = λ shown files_fine gate_fine journal_fine out_fine. absurd (long_input_not_shown (problem_in options) old.files _ reached longer shown);
    first_no = λ first_no. absurd (none_no records (ap records_of untouched.no_history) first_no);
    first_no_alone = λ alone first_no. absurd (none_no records (ap records_of untouched.no_history) first_no);
    files_failed = λ failed. absurd (failed files.quiet);
    gate_failed = λ failed. absurd (failed (ap fault_counts_of untouched.gates));
    gate_failed_alone = λ alone failed. absurd (failed (ap fault_counts_of untouched.gates));
    journal_failed = λ failed. absurd (failed (ap (λ (j : SeenJournal). j.faults) untouched.journal));
    out_failed = λ failed is. cc is;
  }
  must_end (too_long named.Grammar reached longer files untouched put) = long_must_end named.Grammar reached longer files.quiet untouched
  must_end (too_long named.Lexer reached longer files untouched put) = long_must_end named.Lexer reached longer files.quiet untouched
  must_end (too_long named.Result reached longer files untouched put) = absurd reached
  must_end (too_long named.Journal reached longer files untouched put) =
      let there : options.resume ≡ Some (unwrap_or options.resume []) = path_there options.resume reached.0 in
      let long_at : (given : List ℕ) → options.resume ≡ Some given → IsLonger journal_limit (old.files.shown given) =
      λ given is. subst (λ (p : List ℕ). IsLonger journal_limit (old.files.shown p)) (one_path (unwrap_or options.resume []) given there is) longer in record {
        grammar_over = λ g is over. absurd (grammar_not_over (problem_in options) old.files _ reached.1 g is over);
        grammar_missing = λ g is none. absurd (grammar_not_missing (problem_in options) old.files _ reached.1 g is none);
        lexer_over = λ g lexer is named over. absurd (no_lexer_over (problem_in options) old.files _ reached.1 g is lexer named over);
        lexer_missing = λ g lexer is named none. absurd (no_lexer_missing (problem_in options) old.files _ reached.1 g is lexer named none);
        faulty = λ g is shown. absurd (grammar_not_faulty (problem_in options) old.files _ reached.1 g is shown);
        input_over = λ fine over. absurd (read_not_over (input_read (problem_in options) old.files _ reached.1) over);
        input_missing = λ fine none. absurd (read_not_missing (input_read (problem_in options) old.files _ reached.1) none);
        over = λ over. absurd (read_not_over (input_read (problem_in options) old.files _ reached.1) over);
        missing = λ none. absurd (read_not_missing (input_read (problem_in options) old.files _ reached.1) none);
        no_token = λ g is shown. absurd (no_fault (problem_in options) old.files _ reached.1 g is faults languages IsUncut uncut_caused shown);
        unparsed =
            λ g is shown.
            absurd (no_fault (problem_in options) old.files _ reached.1 g is faults languages (λ fault. fault ≡ input_fault.NoParse) parse_caused shown);
        keep_missing = λ shown. absurd (keeps_all _ reached.1 shown);
        beyond = λ shown. absurd (within_all _ reached.1 shown);
        journal_over = λ given is shown over. refl;
        journal_missing = λ given is shown none. absurd (longer_not_missing journal_limit _ (long_at given is) none);
        other_start = λ given is shown. absurd (long_hides_other _ reached.1 given is (long_at given is) shown);
        bad_journal = λ given is shown bad. absurd (long_not_bad old.files given (long_at given is) bad);
        complete = λ shown files_fine gate_fine journal_fine out_fine. absurd (long_hides _ reached.1 (unwrap_or options.resume []) there longer shown);
        first_no = λ first_no. absurd (none_no records (ap records_of untouched.no_history) first_no);
        first_no_alone = λ alone first_no. absurd (none_no records (ap records_of untouched.no_history) first_no);
        files_failed = λ failed. absurd (failed files.quiet);
        gate_failed = λ failed. absurd (failed (ap fault_counts_of untouched.gates));
        gate_failed_alone = λ alone failed. absurd (failed (ap fault_counts_of untouched.gates));
        journal_failed = λ failed. absurd (failed (ap (λ (j : SeenJournal). j.faults) untouched.journal));
        out_failed = λ failed is. cc is;
      }
  must_end (other_start path other start is_named read resumed files untouched put) = record {
    grammar_over = λ g is over. absurd (grammar_not_over (problem_in options) old.files _ read g is over);
    grammar_missing = λ g is none. absurd (grammar_not_missing (problem_in options) old.files _ read g is none);
    lexer_over = λ g lexer is named over. absurd (no_lexer_over (problem_in options) old.files _ read g is lexer named over);
    lexer_missing = λ g lexer is named none. absurd (no_lexer_missing (problem_in options) old.files _ read g is lexer named none);
    faulty = λ g is shown. absurd (grammar_not_faulty (problem_in options) old.files _ read g is shown);
    input_over = λ fine over. absurd (read_not_over (input_read (problem_in options) old.files _ read) over);
    input_missing = λ fine none. absurd (read_not_missing (input_read (problem_in options) old.files _ read) none);
    over = λ over. absurd (read_not_over (input_read (problem_in options) old.files _ read) over);
    missing = λ none. absurd (read_not_missing (input_read (problem_in options) old.files _ read) none);
    no_token = λ g is shown. absurd (no_fault (problem_in options) old.files _ read g is faults languages IsUncut uncut_caused shown);
    unparsed =
        λ g is shown. absurd (no_fault (problem_in options) old.files _ read g is faults languages (λ fault. fault ≡ input_fault.NoParse) parse_caused shown);
    keep_missing = λ shown. absurd (keeps_all _ read shown);
    beyond = λ shown. absurd (within_all _ read shown);
    journal_over =
        λ given is shown over.
        absurd (read_not_over resumed (subst (λ (p : List ℕ). IsOver journal_limit (old.files.shown p)) (one_path given path is is_named) over));
    journal_missing =
        λ given is shown none.
        absurd (read_not_missing resumed (subst (λ (p : List ℕ). old.files.shown p ≡ Some None) (one_path given path is is_named) none));
    other_start = λ given is shown. refl;
    bad_journal =
        λ given is shown bad.
        absurd (other_not_bad_here path is_named other start read resumed
        (subst (λ (p : List ℕ). IsShownBad p old.files) (one_path given path is is_named) bad));
    complete = λ shown files_fine gate_fine journal_fine out_fine. absurd (other_hides path is_named other start read resumed shown);
    first_no = λ first_no. absurd (none_no records (ap records_of untouched.no_history) first_no);
    first_no_alone = λ alone first_no. absurd (none_no records (ap records_of untouched.no_history) first_no);
    files_failed = λ failed. absurd (failed files.quiet);
    gate_failed = λ failed. absurd (failed (ap fault_counts_of untouched.gates));
    gate_failed_alone = λ alone failed. absurd (failed (ap fault_counts_of untouched.gates));
    journal_failed = λ failed. absurd (failed (ap (λ (j : SeenJournal). j.faults) untouched.journal));
    out_failed = λ failed is. cc is;
  }
  must_end (no_head path is_named read bad files untouched put) =
      must_end_bad path is_named read (record { bytes = bad.bytes; read = bad.read; within = bad.within; holds = inl bad.holds }) files.quiet untouched
  must_end (bad_event path offset is_named read bad files untouched put) =
      must_end_bad path is_named read (record {
        bytes = bad.bytes;
        read = bad.read;
        within = bad.within;
        holds = inr
            (offset, bad.holds);
      }) files.quiet untouched
  must_end (script worker one_of call_failed read files kept put) = record {
    grammar_over = λ g is over. absurd (grammar_not_over (problem_in options) old.files _ read g is over);
    grammar_missing = λ g is none. absurd (grammar_not_missing (problem_in options) old.files _ read g is none);
    lexer_over = λ g lexer is named over. absurd (no_lexer_over (problem_in options) old.files _ read g is lexer named over);
    lexer_missing = λ g lexer is named none. absurd (no_lexer_missing (problem_in options) old.files _ read g is lexer named none);
    faulty = λ g is shown. absurd (grammar_not_faulty (problem_in options) old.files _ read g is shown);
    input_over = λ fine over. absurd (read_not_over (input_read (problem_in options) old.files _ read) over);
    input_missing = λ fine none. absurd (read_not_missing (input_read (problem_in options) old.files _ read) none);
    over = λ over. absurd (read_not_over (input_read (problem_in options) old.files _ read) over);
    missing = λ none. absurd (read_not_missing (input_read (problem_in options) old.files _ read) none);
    no_token = λ g is shown. absurd (no_fault (problem_in options) old.files _ read g is faults languages IsUncut uncut_caused shown);
    unparsed =
        λ g is shown. absurd (no_fault (problem_in options) old.files _ read g is faults languages (λ fault. fault ≡ input_fault.NoParse) parse_caused shown);
    keep_missing = λ shown. absurd (keeps_all _ read shown);
    beyond = λ shown. absurd (within_all _ read shown);
    journal_over = λ path is shown over. absurd (kept_not_over _ read (λ problem it. it.0) path is over);
    journal_missing = λ path is shown none. absurd (kept_not_missing _ read (λ problem it. it.0) path is none);
    other_start = λ path is shown. absurd (kept_not_other _ read (λ problem it. it.0) path is shown);
    bad_journal = λ path is shown bad. absurd (kept_not_bad _ read (λ problem it. it.0) path is bad);
    complete = λ shown files_fine gate_fine journal_fine out_fine. absurd (gate_fine (worker, one_of, call_failed));
    first_no = λ first_no. refl;
    first_no_alone = λ alone first_no. absurd (not_no alone read first_no);
    files_failed = λ failed. absurd (failed files.quiet);
    gate_failed = λ failed. refl;
    gate_failed_alone = λ alone failed. refl;
    journal_failed = λ failed. absurd (⊎_elim (λ it. failed it.quiet) (λ it. failed (ap (λ (seen : SeenJournal). seen.faults) it.untouched.same)) kept);
    out_failed = λ failed is. cc is;
  }
  must_end (journal call_failed read broken gates_quiet files put) = record {
    grammar_over = λ g is over. absurd (grammar_not_over (problem_in options) old.files _ read g is over);
    grammar_missing = λ g is none. absurd (grammar_not_missing (problem_in options) old.files _ read g is none);
    lexer_over = λ g lexer is named over. absurd (no_lexer_over (problem_in options) old.files _ read g is lexer named over);
    lexer_missing = λ g lexer is named none. absurd (no_lexer_missing (problem_in options) old.files _ read g is lexer named none);
    faulty = λ g is shown. absurd (grammar_not_faulty (problem_in options) old.files _ read g is shown);
    input_over = λ fine over. absurd (read_not_over (input_read (problem_in options) old.files _ read) over);
    input_missing = λ fine none. absurd (read_not_missing (input_read (problem_in options) old.files _ read) none);
    over = λ over. absurd (read_not_over (input_read (problem_in options) old.files _ read) over);
    missing = λ none. absurd (read_not_missing (input_read (problem_in options) old.files _ read) none);
    no_token = λ g is shown. absurd (no_fault (problem_in options) old.files _ read g is faults languages IsUncut uncut_caused shown);
    unparsed =
        λ g is shown. absurd (no_fault (problem_in options) old.files _ read g is faults languages (λ fault. fault ≡ input_fault.NoParse) parse_caused shown);
    keep_missing = λ shown. absurd (keeps_all _ read shown);
    beyond = λ shown. absurd (within_all _ read shown);
    journal_over = λ path is shown over. absurd (kept_not_over _ read (λ problem it. it.0) path is over);
    journal_missing = λ path is shown none. absurd (kept_not_missing _ read (λ problem it. it.0) path is none);
    other_start = λ path is shown. absurd (kept_not_other _ read (λ problem it. it.0) path is shown);
    bad_journal = λ path is shown bad. absurd (kept_not_bad _ read (λ problem it. it.0) path is bad);
    complete = λ shown files_fine gate_fine journal_fine out_fine. absurd (journal_fine call_failed);
    first_no = λ first_no. refl;
    first_no_alone = λ alone first_no. refl;
    files_failed = λ failed. absurd (failed files.quiet);
    gate_failed = λ failed. refl;
    gate_failed_alone = λ alone failed. absurd (failed (gates_quiet alone));
    journal_failed = λ failed. refl;
    out_failed = λ failed is. cc is;
  }
