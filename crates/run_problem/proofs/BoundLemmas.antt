-- A reducer isn't answered more often than its height says.
use Rattle.std.proofs.Common.{◌≡◌, ◌≤◌, ◌+◌, ◌++◌, arith, ℕ, suc, Bool, true, false, List, [], ◌∷◌, Option, Some, None, refl, is_some}
use Rattle.std.specs.Prelude.{max, if◌then◌else◌}
use Rattle.std.specs.List.{list_any}
use Rattle.std.specs.Str.{bytes_eq}
use Rattle.script_gate_trait.specs.declared.gate.Verdict.{Verdict}
use Rattle.script_gate_trait.specs.declared.gate.Verdict.TheVariants.{Yes, No}
use Rattle.verdict_table.specs.declared.record.Record.{Record}
use Rattle.verdict_table.specs.TableState.{texts_of}
use Rattle.reduce_step.specs.Plan.{Plan, End, Ask, after, height}
use Rattle.reduce_journal.specs.History.{History}
use Rattle.reduce_journal.specs.declared.event.Event.TheVariants.{Recorded, Committed}
use Rattle.ordered_commit.specs.Replay.{CommitsWhatIsAsked}
use Rattle.ordered_commit.specs.Moves.{KeptVerdicts}
use Rattle.worker_pool.specs.Sequential.{answer_events, by_verdict, number_for, records_after, sequential_from}
use Rattle.run_problem.specs.Laws.{AnswersAreBounded, answer_count}
use Rattle.run_problem.proofs.QuestionLemmas.{commits_are_few}

-- an answer lowers the height
lower : (text : List ℕ) (at_yes at_no : Plan) (verdict : Verdict) → suc (height (after (Ask text at_yes at_no) verdict)) ≤ height (Ask text at_yes at_no)
lower text at_yes at_no Yes = omega arith
lower text at_yes at_no No = omega arith

-- the commits of a history that a reducer can have from here on
commits_within : (earlier : List Record) (plan : Plan) (history : History) → CommitsWhatIsAsked earlier plan history → answer_count history ≤ height plan
commits_within earlier plan [] commits = omega arith
commits_within earlier plan (Recorded text verdict kept ∷ history) commits =
    commits_within (earlier ++ record { text = text; verdict = verdict } ∷ []) plan history commits
commits_within earlier (End result) (Committed number ∷ history) commits = absurd (cc commits.2)
commits_within earlier (Ask text at_yes at_no) (Committed number ∷ history) commits =
    let rest = commits_within earlier (after (Ask text at_yes at_no) commits.0.verdict) history commits.3 in
    let one = lower text at_yes at_no commits.0.verdict in
    omega (arith, rest, one)

-- an answer is one commit, and perhaps a record before it
one_commit : (taken kept : Bool) (text : List ℕ) (verdict : Verdict) (number : ℕ) (later : History)
    → answer_count (((if taken then [] else (Recorded text verdict kept ∷ [])) ++ (Committed number ∷ [])) ++ later) ≡ suc (answer_count later)
one_commit true kept text verdict number later = refl
one_commit false kept text verdict number later = refl

-- what follows a verdict, if there is one
verdict_within : (verdict : Option Verdict) (at_yes at_no : History) (most other : ℕ) → answer_count at_yes ≤ suc most → answer_count at_no ≤ suc other
    → answer_count (by_verdict verdict at_yes at_no) ≤ max most other + 1
verdict_within None at_yes at_no most other first second = omega arith
verdict_within (Some Yes) at_yes at_no most other first second = omega (arith, first)
verdict_within (Some No) at_yes at_no most other first second = omega (arith, second)

-- the answers of one thread
module _ (V : List ℕ → Option Verdict) (kept : KeptVerdicts) where
  answered_within : (records : List Record) (text : List ℕ) (verdict : Verdict) (later : History) (most : ℕ) → answer_count later ≤ most
      → answer_count (answer_events kept records text verdict ++ later) ≤ suc most
  answered_within records text verdict later most within =
      let one = one_commit (list_any (bytes_eq text) (texts_of records)) (is_some (kept text)) text verdict (number_for records text) later in
      omega (arith, within, one)

  thread_within : (records : List Record) (plan : Plan) → answer_count (sequential_from V kept records plan) ≤ height plan
  thread_within records (End result) = omega arith
  thread_within records (Ask text at_yes at_no) =
      let at_yes_records = records_after kept records text Yes in
      let at_no_records = records_after kept records text No in
      verdict_within (V text)
      (answer_events kept records text Yes ++ sequential_from V kept at_yes_records at_yes)
      (answer_events kept records text No ++ sequential_from V kept at_no_records at_no) (height at_yes) (height at_no)
      (answered_within records text Yes (sequential_from V kept at_yes_records at_yes) (height at_yes) (thread_within at_yes_records at_yes))
      (answered_within records text No (sequential_from V kept at_no_records at_no) (height at_no) (thread_within at_no_records at_no))

pub answers_are_bounded : AnswersAreBounded
answers_are_bounded = record {
  of_reducers = λ first. record {
    in_history = λ history legal. commits_within [] first history legal.commits;
    by_verdicts = λ V kept. thread_within V kept [] first;
  };
  of_questions = commits_are_few;
}
