-- A run of a program over the rule ends with its summary, or out of memory.
use Rattle.std.proofs.Common.{arith, ◌≡◌, ◌∙◌, ◌≤◌, inl, inr, ℕ, zero, suc, List, [], ◌∷◌, ◌++◌, Option, Result, Ok, Err, refl, sym, ap, subst}
use Rattle.std.specs.Prelude.{IfOk}
use Rattle.std.proofs.lemmas.Result.{IfOk-weaker}
use Rattle.std.specs.List.{AllByRecursion}
use Rattle.std.proofs.lemmas.List.Elements.{recursion_from_All}
use Rattle.faults.specs.Count.{Rose}
use Rattle.faults.specs.Memory.{ran_out}
use Rattle.script_gate_trait.specs.declared.gate.Verdict.TheVariants.{Yes, No}
use Rattle.script_gate_trait.specs.declared.log.Log.{Log}
use Rattle.script_gate_trait.specs.Rule.{rule_verdict}
use Rattle.verdict_table.specs.declared.record.Record.{Record}
use Rattle.verdict_table.specs.TableState.{verdict_in}
use Rattle.reduce_journal.specs.History.{History, asked_records_of, records_of}
use Rattle.reduce_journal.specs.declared.counts.Counts.{Counts}
use Rattle.ordered_commit.specs.Replay.{AllGoWith}
use Rattle.ordered_commit.proofs.Lent.{none_recalled}
use Rattle.run_gated.specs.Seen.{SeenGate, fault_counts_of, seen_gates}
use Rattle.run_gated.specs.Run.{Run}
use Rattle.run_gated.specs.Records.{FirstIs}
use Rattle.run_gated.specs.Workers.{RoseAtIndex}
use Rattle.run_gated.specs.declared.fault.RunFault.{RunFault}
use Rattle.run_gated.specs.declared.ran.Reduced.{Reduced}
use Rattle.run_gated.specs.declared.fault.RunFault.TheVariants as run_fault
use Rattle.reduce_step.specs.declared.mode.TreeMode.{TreeMode}
use Rattle.reduce_core.specs.Reduction.{Admits}
use Rattle.run_problem.specs.Problem.{IsReductionOf, Problem, counts_of, start_text}
use Rattle.run_problem.specs.Laws.{ProblemsReduceAlike}
use Rattle.run_problem.specs.Ends.{IsRunOf, ProblemEnds, ReducesFrom, RunFails}
use Rattle.run_problem.specs.Read.{IsReadAs}
use Rattle.run_problem.specs.declared.problem.ReadProblem.{ReadProblem}
use Rattle.worker_pool.specs.declared.worker.Worker.{Worker}
use Rattle.case_reduction.specs.LanguageLaws.{CasesGetYes}
use Rattle.reduce_journal.specs.Report.{first_lines}
use Rattle.case_reduction.specs.Summary.{IsCaseProblem, IsSummary, admits_all}
use Rattle.case_reduction.proofs.Alike.{BySaid, by_rule, over_each}
use Rattle.case_reduction.proofs.CaseTrees.{begins_with_case}

-- where no verdict is kept, the rule says all verdicts
pub all_said : (kept : List Record) (history : History) → kept ≡ [] → AllGoWith (verdict_in kept) history
    → BySaid (asked_records_of history) → BySaid (records_of history)
all_said kept history none resumed asked =
    subst BySaid (none_recalled history (subst (λ (rs : List Record). AllGoWith (verdict_in rs) history) none resumed)) asked

-- a count that is zero didn't rise
never_rose : (count : ℕ) → Rose count 0 → ⊥
never_rose count (inl less) = omega (arith, less)
never_rose count (inr full) = omega (arith, full)

-- of workers whose gates never fail
none_rose : {G : Type 0} (counts : List ℕ) (log : G → Option Log) (workers : List (Worker G)) (index : ℕ)
    → RoseAtIndex counts (fault_counts_of (seen_gates log (λ _. 0) workers)) index → ⊥
none_rose [] log workers index rose = rose
none_rose (count ∷ counts) log [] index rose = rose
none_rose (count ∷ counts) log (w ∷ workers) zero rose = never_rose count rose
none_rose (count ∷ counts) log (w ∷ workers) (suc index) rose = none_rose counts log workers index rose

-- the rule doesn't refuse a text that it says yes to
not_refused : (records : List Record) → AllByRecursion (λ (r : Record). r.verdict ≡ rule_verdict 23121 r.text) records → (start : List ℕ)
    → rule_verdict 23121 start ≡ Yes → FirstIs start No records → ⊥
not_refused [] by start is first = first
not_refused (r ∷ records) by start is first =
    let no : No ≡ Yes = sym first.1 ∙ by.0 ∙ ap (rule_verdict 23121) first.0 ∙ is in
    cc

module _ (mode : TreeMode) (number size : ℕ) (problem : Problem) (of : IsCaseProblem mode number size problem) (run : Run)
    (by : BySaid (records_of run.history)) where
  -- it fails only where memory runs out
  pub only_memory : {G : Type 0} (log : G → Option Log) (workers : List (Worker G)) → run.after.gates ≡ seen_gates log (λ _. 0) workers
      → run.after.journal.faults ≡ 0
      → CasesGetYes → 1 ≤ size → (fault : RunFault) → RunFails admits_all problem run fault → fault ≡ run_fault.Memory ran_out
  only_memory log workers gates quiet get_yes some run_fault.NotInteresting why =
      absurd (not_refused (records_of run.history) (recursion_from_All _ (records_of run.history) by) (start_text problem)
      (ap (rule_verdict 23121) (begins_with_case mode number size problem of) ∙ get_yes number size some) why.0.first)
  only_memory log workers gates quiet get_yes some (run_fault.Script worker) why =
      let counts = fault_counts_of run.before.gates in
      absurd (none_rose counts log workers why.0.0 (subst (λ (after : List SeenGate). RoseAtIndex counts (fault_counts_of after) why.0.0) gates why.0.2))
  only_memory log workers gates quiet get_yes some run_fault.Journal why =
      absurd (never_rose run.before.journal.faults (subst (λ (count : ℕ). Rose run.before.journal.faults count) quiet why.0))
  only_memory log workers gates quiet get_yes some (run_fault.Memory _) why = refl

  -- the report's first lines and the text are the summary
  pub is_summary : ProblemsReduceAlike → (text : List ℕ) (counts : Counts) → ReducesFrom run.workers (verdict_in run.kept) admits_all problem run.history
      text counts
      → IsSummary mode number size (first_lines counts ++ text)
  is_summary alike text counts came =
      let records : List Record = records_of run.history in
      let reduced : IsReductionOf admits_all (verdict_in records) (Problem.of_tree mode of.input) text =
      subst (λ (p : Problem). IsReductionOf admits_all (verdict_in records) p text) of.is_problem came.reduced in
      let is_counts : counts ≡ counts_of admits_all (Problem.of_tree mode of.input) records =
      came.is_counts ∙ ap (λ (p : Problem). counts_of admits_all p records) of.is_problem in
      record {
        problem = Problem.of_tree mode of.input;
        of_case = subst (IsCaseProblem mode number size) of.is_problem of;
        reduces = by_rule mode of.input (alike admits_all (Problem.of_tree mode of.input) of.of_case.is_input) records by text reduced;
        is_summary = over_each mode of.input (alike admits_all (Problem.of_tree mode of.input) of.of_case.is_input) records by text counts reduced is_counts;
      }

-- A run of what was read of the program, without keep texts.
module _ (mode : TreeMode) (number size : ℕ) (read : ReadProblem)
    (of : (problem : Problem) × IsReadAs admits_all read problem × IsCaseProblem mode number size problem)
    (guard : Admits) (all : guard ≡ admits_all)
    (run : Run) (by : BySaid (records_of run.history)) (ran : (one : Problem) → IsReadAs guard read one → IsRunOf guard one run) where
  its_end : ProblemEnds admits_all of.0 run run.outcome
  its_end =
      subst (λ (a : Admits). ProblemEnds a of.0 run run.outcome) all
      (ran of.0 (subst (λ (a : Admits). IsReadAs a read of.0) (sym all) of.1)).ends

  pub ends_with_summary : ProblemsReduceAlike → (reduced : Reduced) → run.outcome ≡ Ok reduced
      → IsSummary mode number size (first_lines reduced.counts ++ reduced.text.items)
  ends_with_summary alike reduced is =
      let end = subst (ProblemEnds admits_all of.0 run) is its_end in
      is_summary mode number size of.0 of.2 run by alike reduced.text.items reduced.counts end.0

  pub ends_in_memory : {G : Type 0} (log : G → Option Log) (workers : List (Worker G)) → run.after.gates ≡ seen_gates log (λ _. 0) workers
      → run.after.journal.faults ≡ 0
      → CasesGetYes → 1 ≤ size → (fault : RunFault) → run.outcome ≡ Err fault → fault ≡ run_fault.Memory ran_out
  ends_in_memory log workers gates quiet get_yes some fault is =
      only_memory mode number size of.0 of.2 run by log workers gates quiet get_yes some fault (subst (ProblemEnds admits_all of.0 run) is its_end)

-- a text that is answered is this one
pub answered : {X E : Type 0} (answer : Result X E) (items : X → List ℕ) (text : List ℕ) (P : List ℕ → Type 0) → IfOk answer (λ x. items x ≡ text) → P text
    → IfOk answer (λ x. P (items x))
answered answer items text P is holds = IfOk-weaker answer (λ x. items x ≡ text) (λ x. P (items x)) (λ x same. subst P (sym same) holds) is
