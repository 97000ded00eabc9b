-- What the reducers of problems do, what they may ask, and that files which are confirmed hold a reduction.
use Rattle.std.proofs.Common.{◌≡◌, ℕ, Bool, List, Option, true, false, inl, inr, ◌⊎◌, refl, sym, ap, ◌∙◌, subst}
use Rattle.std.proofs.lemmas.Bool.{cases_Bool}
use Rattle.script_gate_trait.specs.declared.gate.Verdict.{Verdict}
use Rattle.verdict_table.specs.TableState.{verdict_in}
use Rattle.reduce_step.specs.Plan.{End, MayAsk, Plan, StepResult}
use Rattle.reduce_step.specs.declared.mode.TreeMode.{TreeMode}
use Rattle.reduce_step.specs.declared.mode.TreeMode.TheVariants.{Hdd, Perses}
use Rattle.reduce_journal.specs.History.{records_of}
use Rattle.reduce_rounds.specs.ByTrials as trials
use Rattle.reduce_rounds.specs.Laws.{EndsWell, IsTheReduction, result_of}
use Rattle.reduce_rounds.specs.Mode.{RoundMode}
use Rattle.reduce_rounds.specs.Reduction.{Recursion, Reduction, reduction}
use Rattle.reduce_rounds.specs.RoundsPlan.{plan_first}
use Rattle.reduce_rounds.specs.Trials.{IsTriedAtNo}
use Rattle.reduce_rounds.specs.Verdicts.{HasVerdicts, says_yes}
use Rattle.reduce_rounds.proofs.Lent.{asks_candidates, ends_minimal, follows_reduction}
use Rattle.reduce_core.specs.Laws as lines
use Rattle.reduce_core.specs.Lines.{numbered_lines, numbers_of}
use Rattle.reduce_core.specs.Reduction.{Admits, is_listed}
use Rattle.reduce_core.specs.declared.lines.Line.{Line}
use Rattle.reduce_core.proofs.Lent.{text-numbered_lines}
use Rattle.reduce_trees.specs.Ends.{AdmitsStart, BeginsWith, IsEndBy}
use Rattle.reduce_trees.specs.Laws.{WalksAreRecursions}
use Rattle.reduce_trees.specs.WalkMode.{walk_mode}
use Rattle.reduce_trees_mode.specs.Candidates.{IsCandidate}
use Rattle.reduce_trees_mode.specs.Input.{IsInput, TreeInput, TreeState}
use Rattle.reduce_trees_mode.specs.Listed.{IsKept, text_of_state}
use Rattle.syntax_tree.specs.Trees.{leaves}
use Rattle.spell_shrink.specs.Laws.{IsSpellCandidate, SpellersAreRecursions}
use Rattle.spell_shrink.specs.Respelled.{SpellState}
use Rattle.spell_shrink.specs.SpellMode.{IsKeptInPhase, spell_mode}
use Rattle.run_problem.specs.Problem.{IsEditBy, IsReductionOf, Problem, questions_of, recursion_of, reduction_of, refuses}
use Rattle.run_problem.specs.Reducer.{round_trials}
use Rattle.run_problem.specs.TreeMode.{IsSpellMode, IsTreeMode}
use Rattle.run_problem.proofs.Lent.{spelled_reduction}
use Rattle.cert_check.specs.Laws.{ConfirmedAreReductions, ReducersAreReductions, ReducersAskCandidates}

-- What a machine is of one recursion it is of each with the same reductions and results.
moved : {T : Type 0} (plan : Plan) (one other : Recursion T) → ((verdict : List ℕ → Bool) → reduction one verdict ≡ reduction other verdict)
    → ((r : Reduction T) → result_of one r ≡ result_of other r)
    → (V : List ℕ → Option Verdict) → IsTheReduction plan other V → IsTheReduction plan one V
moved {T = T} plan one other same results V it =
    record {
      ends = λ has.
          it.ends (subst (λ (r : Reduction T). HasVerdicts V r.questions) (same (says_yes V)) has)
          ∙ ap (λ (r : StepResult). End r) (sym (results (reduction one (says_yes V)) ∙ ap (result_of other) (same (says_yes V))));
      defined = λ ended. subst (λ (r : Reduction T). HasVerdicts V r.questions) (sym (same (says_yes V))) (it.defined ended);
    }

module _ (mode : TreeMode) (recursions : WalksAreRecursions mode (round_trials mode)) (input : TreeInput) (is : IsInput input) where
  abbrev trees : RoundMode TreeState
  trees = walk_mode (round_trials mode) input

  tree_is : (guard : Admits) (V : List ℕ → Option Verdict) → IsTheReduction (plan_first trees) (recursion_of guard (Problem.of_tree mode input)) V
  tree_is guard V =
      moved (plan_first trees) (recursion_of guard (Problem.of_tree mode input)) (trials.recursion_of trees) (λ verdict. recursions input verdict is)
      (λ r. refl) V (follows_reduction trees V)

-- the same with the respelling that follows
module _ (mode : TreeMode) (recursions : SpellersAreRecursions (round_trials mode) mode) (input : TreeInput) (is : IsInput input) where
  abbrev both : RoundMode SpellState
  both = spell_mode (round_trials mode) input

  speller_is : (guard : Admits) (V : List ℕ → Option Verdict) → IsTheReduction (plan_first both) (recursion_of guard (Problem.of_respelling mode input)) V
  speller_is guard V =
      moved (plan_first both) (recursion_of guard (Problem.of_respelling mode input)) (trials.recursion_of both) (λ verdict. recursions input verdict is)
      (λ r. refl) V (follows_reduction both V)

pub reducers_are_reductions : lines.FollowsLines → WalksAreRecursions Perses (round_trials Perses) → WalksAreRecursions Hdd (round_trials Hdd)
    → SpellersAreRecursions (round_trials Perses) Perses → SpellersAreRecursions (round_trials Hdd) Hdd → ReducersAreReductions
reducers_are_reductions follows visits levels spelled spelled_levels guard (Problem.of_lines start) is V = follows guard V start
reducers_are_reductions follows visits levels spelled spelled_levels guard (Problem.of_tree Perses input) is V = tree_is Perses visits input is guard V
reducers_are_reductions follows visits levels spelled spelled_levels guard (Problem.of_tree Hdd input) is V = tree_is Hdd levels input is guard V
reducers_are_reductions follows visits levels spelled spelled_levels guard (Problem.of_respelling Perses input) is V =
    speller_is Perses spelled input is guard V
reducers_are_reductions follows visits levels spelled spelled_levels guard (Problem.of_respelling Hdd input) is V =
    speller_is Hdd spelled_levels input is guard V

-- a start that is admitted may be asked
admits_lines : (guard : Admits) (start : List ℕ) → guard (numbers_of (numbered_lines start)) start ≡ true → is_listed guard (numbered_lines start) ≡ true
admits_lines guard start kept = ap (guard (numbers_of (numbered_lines start))) (text-numbered_lines start) ∙ kept

module _ (mode : TreeMode) (laws : IsTreeMode (round_trials mode) (IsEditBy mode)) (input : TreeInput) (is : IsInput input)
    (admitted : AdmitsStart input) where
  abbrev tried : RoundMode TreeState
  tried = walk_mode (round_trials mode) input

  begins : BeginsWith tried input.start
  begins = laws.begins input is admitted

  tree_asks : (text : List ℕ) → MayAsk (plan_first tried) text → IsCandidate input text
  tree_asks text may = laws.asks input text is (asks_candidates tried (IsKept input) (laws.lawful input is).keeps begins.listed text may)

  module _ (recursions : WalksAreRecursions mode (round_trials mode)) (guard : Admits) (guarded : input.admits ≡ guard)
      (V : List ℕ → Option Verdict) (text : List ℕ) where
    abbrev over : Reduction TreeState
    over = reduction_of guard (Problem.of_tree mode input) V

    same : trials.reduction_of tried (says_yes V) ≡ over
    same = sym (recursions input (says_yes V) is)

    tree_reduces : HasVerdicts V over.questions → over.refused ≡ false → text ≡ text_of_state input over.state
        → IsReductionOf guard V (Problem.of_tree mode input) text
    tree_reduces defined interesting is_text =
        let has = subst (λ (r : Reduction TreeState). HasVerdicts V r.questions) (sym same) defined in
        let not_refused = ap (λ (r : Reduction TreeState). r.refused) same ∙ interesting in
        let by_trials =
        ends_minimal tried (IsKept input) (λ state other. IsTriedAtNo (tried.round state) other) (λ state. tt) (laws.lawful input is)
        (λ state other kept at_no. at_no) begins.listed V not_refused has in
        let well =
        subst (λ (r : Reduction TreeState). EndsWell tried (IsKept input) (λ state other. IsTriedAtNo (tried.round state) other) V r.state) same by_trials in
        let end : IsEndBy (IsEditBy mode) input V over.state = laws.minimal input V over.state is well in
        let candidate : IsCandidate input text =
        laws.asks input text is (record { state = over.state; kept = well.kept; listed = well.listed; same = is_text }) in
        record {
          is_problem = is;
          defined = defined;
          interesting = interesting;
          is_text = is_text;
          yes_at_end = ap V is_text ∙ well.yes_at_end;
          admitted =
              sym (ap (λ (a : Admits). a (leaves over.state.tree) text) guarded) ∙ ap (input.admits (leaves over.state.tree)) is_text ∙ end.listed.admitted;
          candidate = candidate;
          minimal = end.minimal;
          respells = tt;
        }

-- the same of trees and respellings
module _ (mode : TreeMode) (laws : IsSpellMode (round_trials mode) (IsEditBy mode)) (input : TreeInput) (is : IsInput input)
    (admitted : AdmitsStart input) where
  speller_asks : (text : List ℕ) → MayAsk (plan_first (spell_mode (round_trials mode) input)) text → IsSpellCandidate input text
  speller_asks text may =
      (laws.asks input text is
      (asks_candidates (spell_mode (round_trials mode) input) (IsKeptInPhase input) (laws.lawful input is).keeps (laws.begins input is admitted).1 text may)).0

pub reducers_ask_candidates : lines.AsksCandidates → IsSpellMode (round_trials Perses) (IsEditBy Perses) → IsSpellMode (round_trials Hdd) (IsEditBy Hdd)
    → ReducersAskCandidates
reducers_ask_candidates asks visits levels guard (Problem.of_lines start) is admitted text may =
    asks guard start text (admits_lines guard start admitted) may
reducers_ask_candidates asks visits levels guard (Problem.of_tree Perses input) is admitted text may =
    tree_asks Perses visits.tree_mode input is admitted text may
reducers_ask_candidates asks visits levels guard (Problem.of_tree Hdd input) is admitted text may = tree_asks Hdd levels.tree_mode input is admitted text may
reducers_ask_candidates asks visits levels guard (Problem.of_respelling Perses input) is admitted text may =
    speller_asks Perses visits input is admitted text may
reducers_ask_candidates asks visits levels guard (Problem.of_respelling Hdd input) is admitted text may = speller_asks Hdd levels input is admitted text may

-- what isn't true is false
not_true : (b : Bool) → ¬ (b ≡ true) → b ≡ false
not_true b not = by (cases_Bool b)
  where
    by : (b ≡ true) ⊎ (b ≡ false) → b ≡ false
    by (inl is) = absurd (not is)
    by (inr is) = is

line_reduces : lines.LinesEndMinimal → (guard : Admits) (V : List ℕ → Option Verdict) (start text : List ℕ)
    → guard (numbers_of (numbered_lines start)) start ≡ true → HasVerdicts V (questions_of guard (Problem.of_lines start) V)
    → refuses guard (Problem.of_lines start) V ≡ false
    → text ≡ (recursion_of guard (Problem.of_lines start)).text (reduction_of guard (Problem.of_lines start) V).state
    → IsReductionOf guard V (Problem.of_lines start) text
line_reduces minimal guard V start text kept defined interesting is_text =
    let over : Reduction (List Line) = reduction_of guard (Problem.of_lines start) V in
    let well = minimal guard V start (admits_lines guard start kept) interesting defined in
    record {
      is_problem = tt;
      defined = defined;
      interesting = interesting;
      is_text = is_text;
      yes_at_end = ap V is_text ∙ well.yes_at_end;
      admitted = ap (guard (numbers_of over.state)) is_text ∙ well.listed;
      candidate = record { lines = over.state; some = well.kept; listed = well.listed; joined = is_text };
      minimal = well.minimal;
      respells = tt;
    }

pub confirmed_are_reductions : lines.LinesEndMinimal → IsSpellMode (round_trials Perses) (IsEditBy Perses) → IsSpellMode (round_trials Hdd) (IsEditBy Hdd)
    → WalksAreRecursions Perses (round_trials Perses) → WalksAreRecursions Hdd (round_trials Hdd) → SpellersAreRecursions (round_trials Perses) Perses
    → SpellersAreRecursions (round_trials Hdd) Hdd → ConfirmedAreReductions
confirmed_are_reductions minimal visits levels by_visits by_levels spelled spelled_levels guard (Problem.of_lines start) output head history torn is guarded
    kept it =
    line_reduces minimal guard (verdict_in (records_of history)) start output kept it.1
    (not_true (refuses guard (Problem.of_lines start) (verdict_in (records_of history))) it.2) it.3
confirmed_are_reductions minimal visits levels by_visits by_levels spelled spelled_levels guard (Problem.of_tree Perses input) output head history torn is
    guarded kept it =
    tree_reduces Perses visits.tree_mode input is kept by_visits guard guarded (verdict_in (records_of history)) output it.1
    (not_true (refuses guard (Problem.of_tree Perses input) (verdict_in (records_of history))) it.2) it.3
confirmed_are_reductions minimal visits levels by_visits by_levels spelled spelled_levels guard (Problem.of_tree Hdd input) output head history torn is
    guarded kept it =
    tree_reduces Hdd levels.tree_mode input is kept by_levels guard guarded (verdict_in (records_of history)) output it.1
    (not_true (refuses guard (Problem.of_tree Hdd input) (verdict_in (records_of history))) it.2) it.3
confirmed_are_reductions minimal visits levels by_visits by_levels spelled spelled_levels guard (Problem.of_respelling Perses input) output head history torn is
    guarded kept it =
    spelled_reduction Perses visits by_visits spelled input is kept (verdict_in (records_of history)) it.1
    (not_true (refuses guard (Problem.of_respelling Perses input) (verdict_in (records_of history))) it.2) guard guarded output it.3
confirmed_are_reductions minimal visits levels by_visits by_levels spelled spelled_levels guard (Problem.of_respelling Hdd input) output head history torn is
    guarded kept it =
    spelled_reduction Hdd levels by_levels spelled_levels input is kept (verdict_in (records_of history)) it.1
    (not_true (refuses guard (Problem.of_respelling Hdd input) (verdict_in (records_of history))) it.2) guard guarded output it.3
