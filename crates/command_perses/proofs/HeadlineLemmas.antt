-- The headline, from how `reduce` ends.
use Rattle.std.proofs.Common.{◌≡◌, ◌≢◌, ◌⊎◌, ◌∙◌, inl, inr, ⊎_elim, ℕ, List, [], ◌∷◌, Option, Some, None, IsSome, true, refl, sym, ap, subst}
use Rattle.std.proofs.lemmas.Bool.{and_parts, false≢true}
use Rattle.std.proofs.lemmas.Option.{same_Some}
use Rattle.edge_io.specs.Files.{FileContent, Holds}
use Rattle.script_gate_trait.specs.declared.gate.Verdict.{Verdict}
use Rattle.script_gate_trait.specs.declared.gate.Verdict.TheVariants.{Yes}
use Rattle.grammar_tree.specs.Written.{CheckedGrammar}
use Rattle.keep_guard.specs.Keep.{holds_all}
use Rattle.verdict_table.specs.TableState.{verdict_in}
use Rattle.reduce_journal.specs.History.{History, IsHistory, records_of}
use Rattle.reduce_journal.specs.Journal.{IsDigest, IsDigestOf, journal_text}
use Rattle.reduce_journal.specs.declared.digest.Digest.{Digest}
use Rattle.reduce_journal.specs.Report.{report_text}
use Rattle.reduce_journal.specs.declared.counts.Counts.{Counts}
use Rattle.reduce_trees_input.specs.Parsed.{IsInputOf}
use Rattle.run_gated.specs.Records.{OnlyNo}
use Rattle.run_gated.specs.declared.known.Known.{Known}
use Rattle.run_problem.specs.Committed.{questions_over}
use Rattle.run_problem.specs.Ends.{AreOf, ReducesFrom}
use Rattle.run_problem.specs.Laws.{AnswersAreBounded}
use Rattle.run_problem.specs.Problem.{IsCandidateOf, Problem, start_text, tree_problem}
use Rattle.run_problem.proofs.Lent.{none_of}
use Rattle.command_words.specs.Commands.{Command, ModeOptions, ReduceOptions}
use Rattle.command_grammar.proofs.Lent.{one_grammar}
use Rattle.command_ends.specs.Status.{IsOneOf}
use Rattle.command_ends.specs.World.{NotReached, Puts, SeenFiles, World}
use Rattle.command_reduce_calls.specs.Journal.{JournalSoFar}
use Rattle.command_reduce_calls.specs.Stays.{AcceptsStart}
use Rattle.command_reduce.specs.Reduce.{admits_of, problem_in}
use Rattle.command_reduce.specs.Reduce.{IsHistoryOfInput, IsHistoryWith, ProblemAccepted, ReduceEnds, ReduceMustEnd, Reduces, ReducesTo}
use Rattle.command_reduce.specs.Reduce.ReduceEnds.{done, memory, script, uninteresting, unput, unwritten}
use Rattle.command_reduce.specs.ReduceByStatus.{ReduceMeans}
use Rattle.command_reduce.specs.Resume.{CanResume, IsKeptFrom, IsKnownOf}
use Rattle.command_reduce.proofs.Lent.{reduce_by_status}
use Rattle.command_perses.specs.Call.{RunsCommand}
use Rattle.command_perses.specs.Headline.{AreVisible, HasResult, Headline, IsProblemOf, NoCallFailed, WasWritten, verdicts_of}
use Rattle.command_problem.specs.Problem.{IsShownProblem, ReadIn}

-- bytes have one history
abbrev pub BytesHaveOneHistory : Type 0
BytesHaveOneHistory =
    (start start_other : Digest) (one other : History) → IsDigest start → IsDigest start_other → IsHistory one → IsHistory other
    → journal_text start one ≡ journal_text start_other other → (start ≡ start_other) × (one ≡ other)

-- ---- the problem

-- a file that is visible holds one text
holds_once : (content : Option FileContent) (one other : List ℕ) → IsSome content → Holds one content → Holds other content → one ≡ other
holds_once None one other some here here' = absurd (cc some)
holds_once (Some file) one other some here here' = same_Some one other (sym here ∙ here')

module _ (options : ReduceOptions) (files : SeenFiles) where
  -- where there is a problem with a fact, it is the problem of the files, and has the fact
  known_in : (mode : ModeOptions) (P : Problem → Type 0) → ReadIn mode (problem_in options) files P
      → (problem : Problem) × ReadIn mode (problem_in options) files (λ one. one ≡ problem) × P problem
  known_in ModeOptions.lines P read =
      (Problem.of_lines read.bytes, record { bytes = read.bytes; read = read.read; within = read.within; holds = refl }, read.holds)
  known_in (ModeOptions.by_grammar trees) P read = (
    tree_problem options.respell trees.mode read.2.holds.0,
    (read.0, read.1, record { bytes = read.2.bytes; read = read.2.read; within = read.2.within; holds = (read.2.holds.0, read.2.holds.1, refl) }),
    read.2.holds.2,
  )

  one_in : (mode : ModeOptions) (problem other : Problem) → AreVisible mode options files
      → ReadIn mode (problem_in options) files (λ one. one ≡ problem) → ReadIn mode (problem_in options) files (λ one. one ≡ other) → other ≡ problem
  one_in ModeOptions.lines problem other visible read read' =
      sym read'.holds ∙ ap Problem.of_lines (holds_once (files.shown options.input) read'.bytes read.bytes visible read'.read read.read) ∙ read.holds
  one_in (ModeOptions.by_grammar trees) problem other visible read read' =
      let same_grammar : read.0 ≡ read'.0 = one_grammar trees.grammar files read.0 read'.0 visible.0 read.1 read'.1 in
      let same_text = holds_once (files.shown options.input) read'.2.bytes read.2.bytes visible.1 read'.2.read read.2.read in
      let input = read'.2.holds.0 in
      let of_text : IsInputOf read'.0 read.2.bytes input = subst (λ (text : List ℕ). IsInputOf read'.0 text input) same_text read'.2.holds.1.of_text in
      let of_both : IsInputOf read.0 read.2.bytes input = subst (λ (c : CheckedGrammar). IsInputOf c read.2.bytes input) (sym same_grammar) of_text in
      let same_input = read.2.holds.1.only input of_both read'.2.holds.1.admits read'.2.holds.1.squeezes in
      sym read'.2.holds.2 ∙ ap (tree_problem options.respell trees.mode) (sym same_input) ∙ read.2.holds.2

  the_problem : (P : Problem → Type 0) → ProblemAccepted options files P → (problem : Problem) × IsProblemOf options files problem × P problem
  the_problem P accepted =
      let Kept : Problem → Type 0 = λ problem. AcceptsStart options (start_text problem) × P problem in
      let it : (problem : Problem) × ReadIn options.mode (problem_in options) files (λ one. one ≡ problem) × Kept problem =
      known_in options.mode Kept accepted in
      (it.0, record { read = it.1; accepted = it.2.0; only = λ visible other read. one_in options.mode it.0 other visible it.1 read }, it.2.1)

-- ---- the result

-- what is written has come to its result
has_written : (old new : SeenFiles) (status : ℕ) → WasWritten old new status → HasResult status
has_written old new status was = ⊎_elim (λ is. subst HasResult (sym is) refl) (λ at_four. subst HasResult (sym at_four.0) refl) was

module _ (options : ReduceOptions) (known : Known) (history : History) (old new : World) where
  -- that of a history; any will do where neither a gate nor the journal was reached
  problem_of : IsHistoryOfInput options known history old new
      → (problem : Problem)
      × (¬ NotReached history old new → IsProblemOf options old.files problem × IsKeptFrom options.resume old.files known.start known.kept)
      × IsDigestOf (start_text problem) known.start × AreOf options.jobs (verdict_in known.kept) (admits_of options problem) problem history
  problem_of (inl none) = (
    Problem.of_lines [],
    λ reached. absurd (reached none.0),
    none.1,
    none_of options.jobs (verdict_in known.kept) (admits_of options (Problem.of_lines [])) (Problem.of_lines []) history none.0.no_history,
  )
  problem_of (inr are) =
      let it : (problem : Problem) × IsProblemOf options old.files problem × IsHistoryWith options old.files known history problem =
      the_problem options old.files (IsHistoryWith options old.files known history) are in
      (it.0, λ reached. (it.1, it.2.0.kept), it.2.0.start, it.2.1)

  -- The problem reduces to a text, which was written, and its report was put.
  record ResultOf (problem : Problem) (status : ℕ) : Type 0 where
    text : List ℕ
    counts : Counts
    reduces : ReducesFrom options.jobs (verdict_in known.kept) (admits_of options problem) problem history text counts
    written : WasWritten old.files new.files status → Holds text (new.files.shown options.output)
    report : status ≡ 0 → Puts (report_text counts) old.out new.out

  -- some problem does
  record HasCome (status : ℕ) : Type 0 where
    problem : Problem
    of_files : IsProblemOf options old.files problem
    is_known : IsKnownOf options old.files (start_text problem) known
    are : AreOf options.jobs (verdict_in known.kept) (admits_of options problem) problem history
    result : ResultOf problem status

  come : {status : ℕ} (text report : List ℕ) → ReducesTo options old.files known history text report
      → (WasWritten old.files new.files status → Holds text (new.files.shown options.output)) → (status ≡ 0 → Puts report old.out new.out) → HasCome status
  come text report reduces written put =
      let P : Problem → Type 0 =
      λ problem. IsKnownOf options old.files (start_text problem) known
      × (counts : Counts) × ReducesFrom options.jobs (verdict_in known.kept) (admits_of options problem) problem history text counts
      × (report ≡ report_text counts)
      × AreOf options.jobs (verdict_in known.kept) (admits_of options problem) problem history in
      let it : (problem : Problem) × IsProblemOf options old.files problem × P problem = the_problem options old.files P reduces in
      record {
        problem = it.0;
        of_files = it.1;
        is_known = it.2.0;
        are = it.2.4;
        result = record {
          text = text;
          counts = it.2.1;
          reduces = it.2.2;
          written = written;
          report = λ is. subst (λ (r : List ℕ). Puts r old.out new.out) it.2.3 (put is);
        };
      }

  -- by how it ended
  result_in : {status : ℕ} → ReduceEnds options known history old new status → HasCome status ⊎ (HasResult status → ⊥)
  result_in (done report writes put) = inl (come writes.reduced.text report writes.reduced.reduces (λ was. writes.reduced.written) (λ is. put))
  result_in (unwritten failed calls text report reduces others gates_quiet kept put) =
      inl (come text report reduces (λ was. ⊎_elim (λ is. absurd (cc is)) (λ at_four. absurd (at_four.1 failed)) was) (λ is. absurd (cc is)))
  result_in (unput report writes put) =
      inl (come writes.reduced.text report writes.reduced.reduces (λ was. writes.reduced.written) (λ is. absurd (cc is)))
  result_in _ = inr (λ has. false≢true has)

  so_far : {status : ℕ} → ReduceEnds options known history old new status → IsOneOf (1 ∷ 11 ∷ []) status
      → JournalSoFar options.journal known.start history old.journal new.journal
  so_far (memory files gates_quiet kept put) is = kept
  so_far (script worker one_of failed read files kept put) is =
      ⊎_elim (λ whole. JournalSoFar.whole whole) (λ unopened. JournalSoFar.untouched unopened.untouched) kept
  so_far _ is = absurd (false≢true is)

  -- the run succeeds
  done_at : {status : ℕ} → ReduceEnds options known history old new status → ReduceMustEnd options (records_of history) old new status
      → (status ≡ 8 → OnlyNo (records_of history))
      → IsShownProblem (problem_in options) old.files (λ text. AcceptsStart options text × CanResume options.resume old.files text)
      → NoCallFailed options.jobs old new
      → (status ≡ 0) ⊎ ((status ≡ 8) × OnlyNo (records_of history)) ⊎ (status ≡ 1)
  done_at (done report writes put) must refused shown quiet = inl refl
  done_at (memory files gates_quiet kept put) must refused shown quiet = inr (inr refl)
  done_at (uninteresting read files gates_quiet kept put) must refused shown quiet = inr (inl (refl, refused refl))
  done_at _ must refused shown quiet = absurd (false≢true (must.complete shown quiet.files quiet.gates quiet.journal quiet.out))

-- ---- the headline

module _ (one_history : BytesHaveOneHistory) (bounded : AnswersAreBounded) (may_say : List ℕ → Verdict → Type 0) (options : ReduceOptions)
    (old new : World) (status : ℕ) (runs : Reduces options may_say old new status) where
  abbrev history : History
  history = runs.history

  abbrev known : Known
  known = runs.known

  means : ReduceMeans options known history old new status
  means = reduce_by_status options known history old new status runs.ends

  headline_at : (problem : Problem)
      → (¬ NotReached history old new → IsProblemOf options old.files problem × IsKeptFrom options.resume old.files known.start known.kept)
      → IsDigestOf (start_text problem) known.start
      → AreOf options.jobs (verdict_in known.kept) (admits_of options problem) problem history
      → (HasResult status → ResultOf options known history old new problem status)
      → Headline may_say options old new status
  headline_at problem of_files of_start are result = record {
    history = history;
    problem = problem;
    of_files = λ reached. (of_files reached).0;
    start = known.start;
    kept = known.kept;
    of_start = of_start;
    of_resumed = λ reached. (of_files reached).1;
    journal = means.whole;
    journal_so_far = so_far options known history old new runs.ends;
    journal_broken = λ is. (means.journal is).1;
    not_reached = means.early;
    readable = are.readable;
    only = λ digest other is_digest of_other same. one_history digest known.start other history is_digest of_start.0 of_other are.readable same;
    resumed = runs.sound.resumed;
    said = runs.sound.said;
    distinct = runs.sound.distinct;
    asked = runs.sound.used;
    other_gates = runs.others;
    candidates = are.candidates;
    short = are.short;
    first = are.first;
    ends_at_no = are.ends_at_no;
    legal = are.legal;
    bounded = bounded.of_questions history (questions_over (admits_of options problem) problem history) are.readable are.legal;
    alone = are.sequential;
    written = λ was.
        let it = result (has_written old.files new.files status was) in
        subst (λ (text : List ℕ). Holds text (new.files.shown options.output)) it.reduces.reduced.is_text (it.written was);
    other_files = means.others;
    files_kept = means.unwritten;
    start_yes = λ has. (result has).reduces.first;
    defined = λ has. (result has).reduces.reduced.defined;
    ended = λ has. (result has).reduces.committed;
    whole = λ has. (result has).reduces.whole;
    yes_at_end = λ has. let it = (result has).reduces.reduced in subst (λ (text : List ℕ). verdicts_of history text ≡ Some Yes) it.is_text it.yes_at_end;
    candidate = λ has.
        let it = (result has).reduces.reduced in
        subst (λ (text : List ℕ). IsCandidateOf (admits_of options problem) problem text) it.is_text it.candidate;
    keeps = λ has.
        let it = (result has).reduces.reduced in
        subst (λ (text : List ℕ). holds_all options.keeps text ≡ true) it.is_text (and_parts _ _ it.admitted).0;
    protected = λ has. (and_parts _ _ (result has).reduces.reduced.admitted).1;
    minimal = λ has. (result has).reduces.reduced.minimal;
    respells = λ has. (result has).reduces.reduced.respells;
    report = λ is.
        let it = result (subst HasResult (sym is) refl) in
        subst (λ (counts : Counts). Puts (report_text counts) old.out new.out) it.reduces.is_counts (it.report is);
    succeeds = done_at options known history old new runs.ends runs.must_end means.not_interesting;
  }

  of_any : (HasResult status → ⊥) → Headline may_say options old new status
  of_any none =
      let any = problem_of options known history old new runs.of_input in
      headline_at any.0 any.1 any.2 any.3 (λ has. absurd (none has))

  headline : Headline may_say options old new status
  headline =
      ⊎_elim (λ it. headline_at it.problem (λ reached. (it.of_files, it.is_known.kept)) it.is_known.start it.are (λ has. it.result)) of_any
      (result_in options known history old new runs.ends)

module _ (one_history : BytesHaveOneHistory) (bounded : AnswersAreBounded) (may_say : List ℕ → Verdict → Type 0) (old new : World) (status : ℕ) where
  -- of a command line of `reduce`
  pub headline_of : {command : Option Command} → RunsCommand may_say old new status command → (options : ReduceOptions)
      → command ≡ Some (Command.reduce options)
      → Headline may_say options old new status
  headline_of (RunsCommand.reduce options runs) asked is =
      let same : options ≡ asked = cc is in
      subst (λ (o : ReduceOptions). Headline may_say o old new status) same (headline one_history bounded may_say options old new status runs)
  headline_of _ asked is = absurd (cc is)
