-- The files of a run that came to its end are confirmed.
use Rattle.std.proofs.Common.{◌≡◌, ◌∙◌, ℕ, Bool, false, cond, List, [], ◌∷◌, Some, refl, sym, ap, true≢false}
use Rattle.std.proofs.lemmas.Slice.Eq.{bytes_eq-Decides}
use Rattle.script_gate_trait.specs.declared.gate.Verdict.{Verdict}
use Rattle.script_gate_trait.specs.declared.gate.Verdict.TheVariants as verdict
use Rattle.verdict_table.specs.declared.record.Record.{Record}
use Rattle.verdict_table.specs.TableState.{verdict_in}
use Rattle.reduce_journal.specs.History.{records_of}
use Rattle.reduce_rounds.specs.Verdicts.{is_yes, says_yes}
use Rattle.reduce_rounds.proofs.Lent.{start_not_refused}
use Rattle.reduce_core.specs.Reduction.{Admits}
use Rattle.reduce_core.proofs.Lent.{text-numbered_lines}
use Rattle.reduce_trees_mode.specs.Laws.{WholeIsStart}
use Rattle.run_gated.specs.Records.{FirstIs}
use Rattle.run_problem.specs.Laws.{HistoriesGoByQuestions}
use Rattle.run_problem.specs.Problem.{IsProblem, Problem, recursion_of, refuses, start_text}
use Rattle.cert_check.specs.Laws.{FinishedRunsAreConfirmed}

-- what is the first record's verdict is its text's
first_verdict : (text : List ℕ) (v : Verdict) (rs : List Record) → FirstIs text v rs → verdict_in rs text ≡ Some v
first_verdict text v [] first = elim first [ ]
first_verdict text v (r ∷ rs) first =
    ap (λ (b : Bool). cond b (Some r.verdict) (verdict_in rs text)) ((bytes_eq-Decides text r.text).1 (sym first.0))
    ∙ ap (λ (w : Verdict). Some w) first.1

-- the text that the reduction begins with is the problem's
begins_with : WholeIsStart → (guard : Admits) (problem : Problem) → IsProblem problem
    → (recursion_of guard problem).text (recursion_of guard problem).start ≡ start_text problem
begins_with whole guard (Problem.of_lines start) is = text-numbered_lines start
begins_with whole guard (Problem.of_tree mode input) is = (whole input is).text
begins_with whole guard (Problem.of_respelling mode input) is = (whole input is).text

not_refused : WholeIsStart → (guard : Admits) (problem : Problem) → IsProblem problem → (rs : List Record) → FirstIs (start_text problem) verdict.Yes rs
    → refuses guard problem (verdict_in rs) ≡ false
not_refused whole guard problem is rs first =
    start_not_refused (recursion_of guard problem) (says_yes (verdict_in rs))
    (ap (λ (text : List ℕ). says_yes (verdict_in rs) text) (begins_with whole guard problem is)
    ∙ ap is_yes (first_verdict (start_text problem) verdict.Yes rs first))

pub finished_runs_are_confirmed : HistoriesGoByQuestions → WholeIsStart → FinishedRunsAreConfirmed
finished_runs_are_confirmed law whole guard problem head history output of_start run = (
  record {
    whole = refl;
    of_start = of_start;
    legal = (law guard problem run.is_problem history).legal run.distinct run.readable run.legal;
    candidates = run.candidates;
  },
  run.defined,
  λ refused. true≢false (sym refused ∙ not_refused whole guard problem run.is_problem (records_of history) run.start_yes),
  run.is_text,
)
