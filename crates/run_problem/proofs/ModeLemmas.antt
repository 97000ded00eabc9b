-- What a run of a reducer says, in the words of the reduction of lines and of that of trees.
use Rattle.std.proofs.Common.{◌≡◌, ◌≤◌, arith, ℕ, List, [], ◌∷◌, All, length, Option, IsSome, true, false, refl, sym, ap, ◌∙◌, subst, inr, Result, Ok, Err}
use Rattle.std.proofs.lemmas.Bool.{false≢true}
use Rattle.std.proofs.lemmas.List.{length-append}
use Rattle.std.specs.List.{IsDistinct}
use Rattle.std.specs.Str.{bytes_eq}
use Rattle.std.proofs.lemmas.List.Elements.{All-nil, All-weaker}
use Rattle.faults.specs.Memory.{ran_out}
use Rattle.script_gate_trait.specs.declared.gate.Verdict.{Verdict}
use Rattle.script_gate_trait.specs.declared.gate.Verdict.TheVariants.{Yes, No}
use Rattle.verdict_table.specs.declared.record.Record.{Record}
use Rattle.reduce_step.specs.Plan.{StepResult}
use Rattle.verdict_table.specs.TableState.{texts_of, verdict_in}
use Rattle.reduce_rounds.specs.ByTrials as trials
use Rattle.reduce_rounds.specs.Reduction.{Recursion, Reduction, reduction}
use Rattle.reduce_rounds.specs.Trials.{IsTriedAtNo}
use Rattle.reduce_rounds.specs.Laws.{EndsWell, IsTextOf, result_of}
use Rattle.reduce_rounds.specs.Verdicts.{HasVerdicts, says_yes}
use Rattle.reduce_rounds.specs.Mode.{RoundMode}
use Rattle.reduce_rounds.specs.RoundsPlan.{IsStart, plan_first}
use Rattle.run_gated.specs.declared.fault.RunFault.{RunFault}
use Rattle.run_gated.specs.declared.fault.RunFault.TheVariants as run_fault
use Rattle.run_gated.specs.declared.ran.Reduced.{Reduced}
use Rattle.reduce_journal.specs.History.{History, asked_records_of, records_of}
use Rattle.reduce_journal.specs.declared.counts.Counts.{Counts}
use Rattle.ordered_commit.specs.Moves.{KeptVerdicts}
use Rattle.ordered_commit.specs.Replay.{AllGoWith, IsLegal}
use Rattle.run_gated.specs.Seen.{Reached, SeenGate, fault_counts_of, logs_of}
use Rattle.run_gated.specs.Run.{Run}
use Rattle.run_gated.specs.Records.{AreAnswers, AreAsked, AreOfMode, BeginsAt, FirstIs}
use Rattle.run_gated.proofs.Lent.{nothing_asked}
use Rattle.run_gated.specs.RunEnds as ends
use Rattle.run_gated.specs.RunEnds.{IsRunIn, IsSound, JournalHas, ReducesIn, RunEndsIn, RunFailsIn, reduction_over}
use Rattle.reduce_core.specs.declared.lines.Line.{Line}
use Rattle.reduce_core.specs.Laws.{LinesAreRecursions, LinesEndMinimal}
use Rattle.reduce_core.specs.LineMode.{AreOfStart, LineInput, line_mode}
use Rattle.reduce_core.specs.Candidates.{IsLineCandidate, IsSubsequence}
use Rattle.reduce_core.specs.Candidates.IsSubsequence.{nothing, keeps as keeps_line, leaves as leaves_line}
use Rattle.reduce_core.specs.Lines.{numbered_lines, numbers_of, text_of}
use Rattle.reduce_core.specs.Reduction.{Admits, is_listed, line_recursion}
use Rattle.reduce_core.proofs.Lent.{text-numbered_lines}
use Rattle.syntax_tree.specs.Trees.{leaves}
use Rattle.reduce_trees_mode.specs.Input.{IsInput, TreeInput, TreeState}
use Rattle.reduce_trees_mode.specs.Candidates.{IsCandidate}
use Rattle.reduce_trees_mode.specs.Laws.{WholeIsStart}
use Rattle.reduce_trees_mode.specs.Listed.{IsKept, text_of_state}
use Rattle.token_print.specs.Laws.{all_kept}
use Rattle.reduce_trees.specs.Ends.{AdmitsStart, BeginsWith, IsEndBy}
use Rattle.reduce_trees.specs.Laws.{WalksAreRecursions}
use Rattle.reduce_trees.specs.WalkMode.{walk_mode}
use Rattle.reduce_step.specs.declared.mode.TreeMode.{TreeMode}
use Rattle.run_problem.specs.Problem.{IsEditBy, Problem, questions_of, recursion_of, reduction_of}
use Rattle.run_problem.specs.Committed.{IsPrefix, questions_over, thread_history, thread_over}
use Rattle.run_problem.specs.Laws.{GoesByQuestions, HistoriesGoByQuestions}
use Rattle.run_problem.specs.Reducer.{reducer_of, round_trials}
use Rattle.run_problem.specs.TreeMode.{IsTreeMode}
use Rattle.run_problem.specs.Ends.{AreOf, IsRunOf, IsUnfinished, ProblemEnds, ReducesFrom, RunFails}

no_texts : IsDistinct bytes_eq []
unfolding IsDistinct
no_texts = tt

-- no record was made, and no gate was asked
pub none_answers : (may_say : List ℕ → Verdict → Type 0) (run : Run) → run.history ≡ [] → run.after.gates ≡ run.before.gates → AreAnswers may_say run
none_answers may_say run none same = record {
  distinct = subst (λ (rs : List Record). IsDistinct bytes_eq (texts_of rs)) (sym no_records) no_texts;
  resumed = subst (λ (h : History). AllGoWith (verdict_in run.kept) h) (sym none) tt;
  said = subst (λ (rs : List Record). All (λ r. may_say r.text r.verdict) rs) (sym no_asked) (All-nil _);
  asked = subst (λ (gates : List SeenGate). AreAsked (texts_of (asked_records_of run.history)) (logs_of run.before.gates) (logs_of gates)) (sym same)
      (subst (λ (rs : List Record). AreAsked (texts_of rs) (logs_of run.before.gates) (logs_of run.before.gates)) (sym no_asked)
      (nothing_asked (logs_of run.before.gates)));
}
  where
    no_records : records_of run.history ≡ []
    no_records = ap records_of none

    no_asked : asked_records_of run.history ≡ []
    no_asked = ap asked_records_of none

module _ (guard : Admits) where
  -- the input of mode lines
  abbrev pub lines_of : List ℕ → LineInput
  lines_of start = record { admits = guard; start = start }

  -- the start is admitted with all of its lines
  abbrev pub IsAdmitted : List ℕ → Type 0
  IsAdmitted start = guard (numbers_of (numbered_lines start)) start ≡ true

  -- so it may be asked
  pub admits_start : (start : List ℕ) → IsAdmitted start → is_listed guard (numbered_lines start) ≡ true
  admits_start start kept = ap (guard (numbers_of (numbered_lines start))) (text-numbered_lines start) ∙ kept

  -- some lines of a start have no more bytes than all of them
  part_no_longer : (lines all : List Line) → IsSubsequence lines all → length (text_of lines) ≤ length (text_of all)
  part_no_longer lines all (leaves_line line _ others some) =
      let rest = part_no_longer lines others some in
      let other = length-append line.bytes (text_of others) in
      omega (arith, rest, other)
  part_no_longer [] [] nothing = omega arith
  part_no_longer (line ∷ lines) (same ∷ all) (keeps_line _ _ _ some) =
      let rest = part_no_longer lines all some in
      let one = length-append line.bytes (text_of lines) in
      let other = length-append line.bytes (text_of all) in
      omega (arith, rest, one, other)

  no_longer : (start text : List ℕ) (lines : List Line) → IsSubsequence lines (numbered_lines start) → text ≡ text_of lines → length text ≤ length start
  no_longer start text lines some is =
      let within = part_no_longer lines (numbered_lines start) some in
      let of_text = ap (λ (t : List ℕ). length t) is in
      let of_start = ap (λ (t : List ℕ). length t) (text-numbered_lines start) in
      omega (arith, within, of_text, of_start)

  -- the history is one of lines
  pub are_of : HistoriesGoByQuestions → (workers : ℕ) (K : KeptVerdicts) (start : List ℕ) (history : History)
      → AreOfMode workers K (line_mode (lines_of start)) (AreOfStart (lines_of start)) history → AreOf workers K guard (Problem.of_lines start) history
  are_of by workers K start history of =
      let records : List Record = records_of history in
      let goes : GoesByQuestions guard (Problem.of_lines start) history = by guard (Problem.of_lines start) tt history in
      record {
        distinct = of.legal.distinct;
        legal = goes.answers of.legal;
        readable = of.readable;
        sequential = λ alone. subst (IsPrefix history) (goes.alone K) (of.sequential alone);
        candidates =
            All-weaker (λ (r : Record). IsTextOf (line_mode (lines_of start)) (AreOfStart (lines_of start)) r.text)
            (λ (r : Record). IsLineCandidate guard start r.text)
            (λ r one. record { lines = one.state; some = one.kept; listed = one.listed; joined = one.same }) records of.candidates;
        short =
            All-weaker (λ (r : Record). IsTextOf (line_mode (lines_of start)) (AreOfStart (lines_of start)) r.text)
            (λ (r : Record). length r.text ≤ length start)
            (λ r one. no_longer start r.text one.state one.kept one.same) records of.candidates;
        first = subst (λ (text : List ℕ). BeginsAt text records) (text-numbered_lines start) of.first;
        ends_at_no = of.ends_at_no;
      }

  module _ (recursions : LinesAreRecursions) (by : HistoriesGoByQuestions) (start : List ℕ) (run : Run)
      (legal : IsLegal (reducer_of guard (Problem.of_lines start)) run.history) where
    abbrev records : List Record
    records = records_of run.history

    goes : GoesByQuestions guard (Problem.of_lines start) run.history
    goes = by guard (Problem.of_lines start) tt run.history

    abbrev R : Reduction (List Line)
    R = reduction (line_recursion guard start) (says_yes (verdict_in records))

    same_reduction : reduction_over (line_mode (lines_of start)) records ≡ R
    same_reduction = sym (recursions guard (says_yes (verdict_in records)) start)

    first_text : (verdict : Verdict) → FirstIs (text_of (numbered_lines start)) verdict records → FirstIs start verdict records
    first_text verdict first = subst (λ (text : List ℕ). FirstIs text verdict records) (text-numbered_lines start) first

    -- the start is reduced to the text of the result
    reduces : LinesEndMinimal → IsAdmitted start → (result : StepResult) (counts : Counts)
        → counts ≡ ends.counts_of_result (length (numbered_lines start)) (length (text_of (numbered_lines start))) result (length records)
        → ReducesIn run.workers (verdict_in run.kept) (line_mode (lines_of start)) (AreOfStart (lines_of start)) run.history result
        → ReducesFrom run.workers (verdict_in run.kept) guard (Problem.of_lines start) run.history result.text counts
    reduces minimal kept result counts are_counts it =
        let V = verdict_in records in
        let defined : HasVerdicts V R.questions = subst (λ (r : Reduction (List Line)). HasVerdicts V r.questions) same_reduction it.defined in
        let interesting : R.refused ≡ false = sym (ap (λ (r : Reduction (List Line)). r.refused) same_reduction) ∙ it.interesting in
        let text : result.text ≡ text_of R.state =
        ap (λ (r : StepResult). r.text) it.is_result ∙ ap (λ (r : Reduction (List Line)). text_of r.state) same_reduction in
        let well = minimal guard V start (admits_start start kept) interesting defined in
        record {
          first = first_text Yes it.first;
          reduced =
              record {
                is_problem = tt;
                defined = defined;
                interesting = interesting;
                is_text = text;
                yes_at_end = ap V text ∙ well.yes_at_end;
                admitted = ap (guard (numbers_of R.state)) text ∙ well.listed;
                candidate = record { lines = R.state; some = well.kept; listed = well.listed; joined = text };
                minimal = well.minimal;
                respells = tt;
              };
          is_counts = are_counts
              ∙ ap (λ (r : StepResult). ends.counts_of_result (length (numbered_lines start)) (length (text_of (numbered_lines start))) r (length records))
              (it.is_result ∙ ap (result_of (trials.recursion_of (line_mode (lines_of start)))) same_reduction)
              ∙ ap (λ (text : List ℕ). ends.counts_of_result (length (numbered_lines start)) (length text)
              (result_of (trials.recursion_of (line_mode (lines_of start))) R) (length records)) (text-numbered_lines start);
          whole = λ alone. it.whole alone ∙ goes.alone (verdict_in run.kept);
          committed = goes.answered legal it.committed;
        }

    -- why the start has no reduction
    fails : (fault : RunFault) → RunFailsIn (line_mode (lines_of start)) run fault → RunFails guard (Problem.of_lines start) run fault
    fails run_fault.NotInteresting why = (
      record {
        first = first_text No why.0;
        only = why.1;
        whole = λ alone. why.3 alone ∙ goes.alone (verdict_in run.kept);
        committed = goes.answered legal why.4;
      },
      why.2,
    )
    fails (run_fault.Script worker) why = (
      why.0,
      why.1,
      λ alone.
          let waits = why.2 alone in
          record {
            waits = λ has. waits.1 (subst (λ (r : Reduction (List Line)). HasVerdicts (verdict_in records) r.questions) (sym same_reduction) has);
            not_no = waits.0;
            whole = waits.2 ∙ goes.alone (verdict_in run.kept);
          },
    )
    fails run_fault.Journal why = why
    fails (run_fault.Memory _) why = why

    -- how the run of the start's lines ends
    pub lines_end : LinesEndMinimal → IsAdmitted start → (result : Result Reduced RunFault)
        → RunEndsIn (line_mode (lines_of start)) (AreOfStart (lines_of start)) run result → ProblemEnds guard (Problem.of_lines start) run result
    lines_end minimal kept (Ok reduced) came = (
      subst (λ (text : List ℕ). ReducesFrom run.workers (verdict_in run.kept) guard (Problem.of_lines start) run.history text reduced.counts) (sym came.0.1)
          (reduces minimal kept came.0.0 reduced.counts came.0.2 came.0.3),
      came.1,
    )
    lines_end minimal kept (Err fault) came = fails fault came

-- nothing was asked of a problem
none_answered : (K : KeptVerdicts) (questions : List (List ℕ)) → thread_history (verdict_in []) K questions ≡ []
none_answered K [] = refl
none_answered K (text ∷ questions) = refl

none_own : (guard : Admits) (problem : Problem) (K : KeptVerdicts) → thread_over guard problem K [] ≡ []
none_own guard problem K = none_answered K (questions_over guard problem [])

pub none_of : (workers : ℕ) (K : KeptVerdicts) (guard : Admits) (problem : Problem) (history : History) → history ≡ []
    → AreOf workers K guard problem history
unfolding IsDistinct
none_of workers K guard problem history none = subst (AreOf workers K guard problem) (sym none) (record {
  distinct = tt;
  legal = (questions_over guard problem [], refl);
  readable = tt;
  sequential = λ _. ([], none_own guard problem K);
  candidates = All-nil _;
  short = All-nil _;
  first = tt;
  ends_at_no = λ first_no. first_no;
})

-- where memory ran out before anything was asked
module _ (run : Run) (none : run.history ≡ []) (out : run.outcome ≡ Err (run_fault.Memory ran_out)) (same : run.after ≡ run.before) where
  pub refused_sound : (may_say : List ℕ → Verdict → Type 0) → IsSound may_say run
  refused_sound may_say = record {
    answers = none_answers may_say run none (ap (λ (r : Reached). r.gates) same);
    journal = subst (JournalHas run) (sym out) (inr (none, ap (λ (r : Reached). r.journal.shown) same), ap (λ (r : Reached). r.journal.faults) same);
  }

  pub refused_of : (guard : Admits) (problem : Problem) → IsRunOf guard problem run
  refused_of guard problem = record {
    history = none_of run.workers (verdict_in run.kept) guard problem run.history none;
    ends =
        subst (ProblemEnds guard problem run) (sym out) (ap (λ (r : Reached). r.journal.faults) same, λ _. ap (λ (r : Reached). fault_counts_of r.gates) same);
  }

-- the start is asked first, so without a record the reduction waits for its verdict
start_known : {T : Type 0} (V : List ℕ → Option Verdict) (recursion : Recursion T) → HasVerdicts V (reduction recursion (says_yes V)).questions
    → IsSome (V (recursion.text recursion.start))
unfolding reduction
start_known V recursion has = has.0

none_waits : (guard : Admits) (problem : Problem) → HasVerdicts (verdict_in []) (questions_of guard problem (verdict_in [])) → ⊥
none_waits guard problem has = false≢true (start_known (verdict_in []) (recursion_of guard problem) has)

pub unfinished_without : (K : KeptVerdicts) (guard : Admits) (problem : Problem) → IsUnfinished K guard problem []
unfinished_without K guard problem =
    record { waits = none_waits guard problem; not_no = λ first_no. first_no; whole = sym (none_own guard problem K) }

-- the start is admitted with the leaves of its tree, which are all tokens
pub admitted : (input : TreeInput) → WholeIsStart → IsInput input → input.admits (all_kept input.tokens) input.start ≡ true → AdmitsStart input
admitted input whole is kept = subst (λ (numbers : List ℕ). input.admits numbers input.start ≡ true) (sym (whole input is).tokens) kept

-- What a run of a reducer of trees says, in the words of the reduction of trees.
module _ (mode : TreeMode) (laws : IsTreeMode (round_trials mode) (IsEditBy mode)) (recursions : WalksAreRecursions mode (round_trials mode))
    (by : HistoriesGoByQuestions) (input : TreeInput) (is : IsInput input) (admitted : AdmitsStart input) (run : Run) where
  abbrev tree_records : List Record
  tree_records = records_of run.history

  abbrev trees : RoundMode TreeState
  trees = walk_mode (round_trials mode) input

  -- the reduction over the records, whatever is said to be admitted
  abbrev over_records : Admits → Reduction TreeState
  over_records guard = reduction_of guard (Problem.of_tree mode input) (verdict_in tree_records)

  same_trees : (guard : Admits) → reduction_over trees tree_records ≡ over_records guard
  same_trees guard = sym (recursions input (says_yes (verdict_in tree_records)) is)

  begins : BeginsWith trees input.start
  begins = laws.begins input is admitted

  goes_on : (guard : Admits) → GoesByQuestions guard (Problem.of_tree mode input) run.history
  goes_on guard = by guard (Problem.of_tree mode input) is run.history

  -- the history is one of trees
  are_of_tree : (guard : Admits) → AreOfMode run.workers (verdict_in run.kept) trees (IsKept input) run.history
      → AreOf run.workers (verdict_in run.kept) guard (Problem.of_tree mode input) run.history
  are_of_tree guard of =
      record {
        distinct = of.legal.distinct;
        legal = (goes_on guard).answers of.legal;
        readable = of.readable;
        sequential = λ alone. subst (IsPrefix run.history) ((goes_on guard).alone (verdict_in run.kept)) (of.sequential alone);
        candidates =
            All-weaker (λ (r : Record). IsTextOf trees (IsKept input) r.text) (λ (r : Record). IsCandidate input r.text)
            (λ r one. laws.asks input r.text is one) tree_records of.candidates;
        short = All-weaker (λ (r : Record). IsTextOf trees (IsKept input) r.text) (λ (r : Record). length r.text ≤ length input.start)
            (λ r one. subst (λ (text : List ℕ). length text ≤ length input.start) (sym one.same) (laws.no_longer input one.state is one.kept)) tree_records
            of.candidates;
        first = subst (λ (text : List ℕ). BeginsAt text tree_records) begins.text of.first;
        ends_at_no = of.ends_at_no;
      }

  -- the tree is reduced to the text of the result
  tree_reduces : (guard : Admits) → IsLegal (plan_first trees) run.history → input.admits ≡ guard → (result : StepResult) (counts : Counts)
      → counts ≡ ends.counts_of_result (trees.size trees.start) (length (trees.text trees.start)) result (length tree_records)
      → ReducesIn run.workers (verdict_in run.kept) trees (IsKept input) run.history result
      → ReducesFrom run.workers (verdict_in run.kept) guard (Problem.of_tree mode input) run.history result.text counts
  tree_reduces guard legal admits result counts are_counts it =
      let V = verdict_in tree_records in
      let R = over_records guard in
      let same = same_trees guard in
      let well =
      subst (λ (r : Reduction TreeState). EndsWell trees (IsKept input) (λ one other. IsTriedAtNo (trees.round one) other) V r.state) same
      (it.ends_well (laws.lawful input is) begins.listed) in
      let end : IsEndBy (IsEditBy mode) input V R.state = laws.minimal input V R.state is well in
      let text : result.text ≡ text_of_state input R.state =
      ap (λ (r : StepResult). r.text) it.is_result ∙ ap (λ (r : Reduction TreeState). text_of_state input r.state) same in
      let candidate : IsCandidate input result.text =
      laws.asks input result.text is (record { state = R.state; kept = well.kept; listed = well.listed; same = text }) in
      record {
        first = subst (λ (start : List ℕ). FirstIs start Yes tree_records) begins.text it.first;
        reduced =
            record {
              is_problem = is;
              defined = subst (λ (r : Reduction TreeState). HasVerdicts V r.questions) same it.defined;
              interesting = sym (ap (λ (r : Reduction TreeState). r.refused) same) ∙ it.interesting;
              is_text = text;
              yes_at_end = ap V text ∙ well.yes_at_end;
              admitted =
                  sym (ap (λ (a : Admits). a (leaves R.state.tree) result.text) admits) ∙ ap (input.admits (leaves R.state.tree)) text ∙ end.listed.admitted;
              candidate = candidate;
              minimal = end.minimal;
              respells = tt;
            };
        is_counts = are_counts
            ∙ ap (λ (r : StepResult). ends.counts_of_result (trees.size trees.start) (length (trees.text trees.start)) r (length tree_records))
            (it.is_result ∙ ap (result_of (trials.recursion_of trees)) same)
            ∙ ap (λ (text : List ℕ). ends.counts_of_result (trees.size trees.start) (length text) (result_of (trials.recursion_of trees) R)
            (length tree_records)) begins.text;
        whole = λ alone. it.whole alone ∙ (goes_on guard).alone (verdict_in run.kept);
        committed = (goes_on guard).answered legal it.committed;
      }

  -- why the tree has no reduction
  tree_fails : (guard : Admits) → IsLegal (plan_first trees) run.history → (fault : RunFault) → RunFailsIn trees run fault
      → RunFails guard (Problem.of_tree mode input) run fault
  tree_fails guard legal run_fault.NotInteresting why = (
    record {
      first = subst (λ (start : List ℕ). FirstIs start No tree_records) begins.text why.0;
      only = why.1;
      whole = λ alone. why.3 alone ∙ (goes_on guard).alone (verdict_in run.kept);
      committed = (goes_on guard).answered legal why.4;
    },
    why.2,
  )
  tree_fails guard legal (run_fault.Script worker) why = (
    why.0,
    why.1,
    λ alone.
        let waits = why.2 alone in
        record {
          waits = λ has. waits.1 (subst (λ (r : Reduction TreeState). HasVerdicts (verdict_in tree_records) r.questions) (sym (same_trees guard)) has);
          not_no = waits.0;
          whole = waits.2 ∙ (goes_on guard).alone (verdict_in run.kept);
        },
  )
  tree_fails guard legal run_fault.Journal why = why
  tree_fails guard legal (run_fault.Memory _) why = why

  -- how the run of the tree ends
  tree_ends : (guard : Admits) → IsLegal (plan_first trees) run.history → input.admits ≡ guard → (result : Result Reduced RunFault)
      → RunEndsIn trees (IsKept input) run result → ProblemEnds guard (Problem.of_tree mode input) run result
  tree_ends guard legal admits (Ok reduced) came = (
    subst (λ (text : List ℕ). ReducesFrom run.workers (verdict_in run.kept) guard (Problem.of_tree mode input) run.history text reduced.counts) (sym came.0.1)
        (tree_reduces guard legal admits came.0.0 reduced.counts came.0.2 came.0.3),
    came.1,
  )
  tree_ends guard legal admits (Err fault) came = tree_fails guard legal fault came

  -- what the run of the tree comes to, where this is what is admitted
  pub tree_run : (guard : Admits) → input.admits ≡ guard → (so_far : StepResult) → IsStart trees so_far
      → IsRunIn trees (IsKept input) so_far run → IsRunOf guard (Problem.of_tree mode input) run
  tree_run guard admits so_far start ran =
      let of = ran.history (laws.lawful input is).keeps begins.listed in
      record { history = are_of_tree guard of; ends = tree_ends guard of.legal admits run.outcome (ran.ends start) }
