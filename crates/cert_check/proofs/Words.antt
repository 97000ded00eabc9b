-- What is found of a reducer's run, in the words of its problem.
use Rattle.std.proofs.Common.{◌≡◌, ℕ, List, true, Option, sym, ap, ◌∙◌, subst}
use Rattle.std.specs.Prelude.{◌↔◌}
use Rattle.std.proofs.lemmas.List.Elements.{All-weaker}
use Rattle.script_gate_trait.specs.declared.gate.Verdict.{Verdict}
use Rattle.verdict_table.specs.declared.record.Record.{Record}
use Rattle.verdict_table.specs.TableState.{verdict_in}
use Rattle.reduce_step.specs.Plan.{End, HasEnded, Plan, StepResult, asked, follow}
use Rattle.reduce_journal.specs.declared.head.Head.TheVariants.{Version1}
use Rattle.reduce_journal.specs.History.{History, records_of}
use Rattle.reduce_rounds.specs.Laws.{IsTheReduction, result_of}
use Rattle.reduce_core.specs.Reduction.{Admits}
use Rattle.run_problem.specs.Problem.{IsCandidateOf, IsProblem, Problem, recursion_of, reduction_of}
use Rattle.run_problem.specs.Reducer.{reducer_of}
use Rattle.cert_check.specs.declared.finding.Finding.{Finding}
use Rattle.cert_check.specs.declared.finding.Finding.TheVariants.{Yes, No}
use Rattle.cert_check.specs.declared.finding.Why.TheVariants.{Torn, OtherStart, NotLegal, NotCandidate, Unfinished, StartIsNo, OtherResult}
use Rattle.cert_check.specs.Findings.{IsFirstOther, IsFound, IsFoundWith, IsItsResult, IsFinishedRun, IsSoundRun, RefusesStart}
use Rattle.cert_check.specs.Laws.{ReducersAreReductions}
use Rattle.cert_check.specs.inner.Steps.{EndsSo, IsFindingOfPlan}
use Rattle.cert_check.proofs.Found.{one_end}

-- What is found in some words is found in others that say the same; of a refusal and a result they need to do so of a finished run alone.
module _ (first : Plan) (Is Is' : List ℕ → Type 0) (same : (text : List ℕ) → Is text ↔ Is' text) (S S' : Type 0) (of_start : S ↔ S')
    (F F' : Type 0) (finished : F ↔ F') (R R' : Type 0) (refuses : F → R ↔ R') (T T' : Type 0) (result : F → T ↔ T') (history : History) (torn : ℕ) where
  sound : IsSoundRun first Is S history torn → IsSoundRun first Is' S' history torn
  sound it = record {
    whole = it.whole;
    of_start = of_start.0 it.of_start;
    legal = it.legal;
    candidates = All-weaker (λ (r : Record). Is r.text) (λ (r : Record). Is' r.text) (λ r one. (same r.text).0 one) (records_of history) it.candidates;
  }

  -- the first record whose text may not be asked
  other_record : (number : ℕ) → IsFirstOther Is (records_of history) number → IsFirstOther Is' (records_of history) number
  other_record number it = record {
    found = it.found;
    there = it.there;
    other = λ one. it.other ((same (it.found).text).1 one);
    earlier = λ before r sooner at. (same r.text).0 (it.earlier before r sooner at);
  }

  pub alike : (finding : Finding) → IsFoundWith first Is S F R T history torn finding → IsFoundWith first Is' S' F' R' T' history torn finding
  alike (No (Torn bytes)) f = f
  alike (No OtherStart) f = (f.0, λ is. f.1 (of_start.1 is))
  alike (No (NotLegal event)) f = (f.0, of_start.0 f.1, f.2)
  alike (No (NotCandidate number)) f = (f.0, of_start.0 f.1, f.2, other_record number f.3)
  alike (No Unfinished) f = (sound f.0, λ is. f.1 (finished.1 is))
  alike (No StartIsNo) f = (sound f.0, finished.0 f.1, (refuses f.1).0 f.2)
  alike (No OtherResult) f = (sound f.0, finished.0 f.1, λ is. f.2 ((refuses f.1).1 is), λ is. f.3 ((result f.1).1 is))
  alike Yes f = (sound f.0, finished.0 f.1, λ is. f.2 ((refuses f.1).1 is), (result f.1).0 f.3)

module _ (guard : Admits) (problem : Problem) (is : IsProblem problem) (reducers : ReducersAreReductions) (Is : List ℕ → Type 0)
    (same : (text : List ℕ) → Is text ↔ IsCandidateOf guard problem text) (output : List ℕ) (history : History) (torn : ℕ) where
  abbrev V : List ℕ → Option Verdict
  V = verdict_in (records_of history)

  abbrev first : Plan
  first = reducer_of guard problem

  abbrev its_end : StepResult
  its_end = result_of (recursion_of guard problem) (reduction_of guard problem V)

  reduces : IsTheReduction first (recursion_of guard problem) V
  reduces = reducers guard problem is V

  -- it is followed to its end exactly where the run is finished, and then to this end
  ended : HasEnded (follow V first) ↔ IsFinishedRun guard problem history
  ended = (reduces.defined, λ done. ap asked (reduces.ends done))

  ends_so : (So : StepResult → Type 0) → HasEnded (follow V first) → EndsSo first history So ↔ So its_end
  ends_so So done =
      let ends : follow V first ≡ End its_end = reduces.ends (reduces.defined done) in
      (λ so. subst So (one_end so.0 its_end (sym so.1 ∙ ends)) so.2, λ so. (its_end, ends, so))

  pub in_words : (finding : Finding) → IsFindingOfPlan first Is output history torn finding → IsFound guard problem output Version1 history torn finding
  in_words finding f =
      alike first Is (IsCandidateOf guard problem) same (Unit {0}) (Unit {0}) (λ it. it, λ it. it)
      (HasEnded (follow V first)) (IsFinishedRun guard problem history) ended
      (EndsSo first history (λ end. end.refused ≡ true)) (RefusesStart guard problem history) (ends_so (λ end. end.refused ≡ true))
      (EndsSo first history (λ end. output ≡ end.text)) (IsItsResult guard problem history output) (ends_so (λ end. output ≡ end.text))
      history torn finding f
