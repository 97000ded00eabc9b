-- What a run of a speller says, in the words of the reduction of trees with the respelling that follows.
use Rattle.std.proofs.Common.{◌≡◌, ◌∙◌, ◌≤◌, ◌++◌, ℕ, Bool, true, false, cond, List, [], ◌∷◌, length, Option, Some, Result, Ok, Err, refl, sym, ap, subst}
use Rattle.std.proofs.lemmas.List.Elements.{All-weaker}
use Rattle.script_gate_trait.specs.declared.gate.Verdict.{Verdict}
use Rattle.script_gate_trait.specs.declared.gate.Verdict.TheVariants.{Yes, No}
use Rattle.verdict_table.specs.declared.record.Record.{Record}
use Rattle.verdict_table.specs.TableState.{verdict_in}
use Rattle.reduce_step.specs.Plan.{StepResult}
use Rattle.reduce_step.specs.declared.mode.TreeMode.{TreeMode}
use Rattle.reduce_journal.specs.History.{records_of}
use Rattle.reduce_journal.specs.declared.counts.Counts.{Counts}
use Rattle.ordered_commit.specs.Replay.{IsLegal}
use Rattle.reduce_rounds.specs.ByTrials as trials
use Rattle.reduce_rounds.specs.Laws.{EndsWell, IsTextOf, result_of}
use Rattle.reduce_rounds.specs.Minimal.{IsMinimal}
use Rattle.reduce_rounds.specs.Mode.{RoundMode}
use Rattle.reduce_rounds.specs.Reduction.{Reduction, reduction}
use Rattle.reduce_rounds.specs.RoundsPlan.{IsStart, plan_first}
use Rattle.reduce_rounds.specs.Trials.{IsTriedAtNo}
use Rattle.reduce_rounds.specs.Verdicts.{HasVerdicts, says_yes}
use Rattle.reduce_rounds.proofs.Lent.{ends_minimal}
use Rattle.reduce_core.specs.Reduction.{Admits}
use Rattle.run_gated.specs.declared.fault.RunFault.{RunFault}
use Rattle.run_gated.specs.declared.fault.RunFault.TheVariants as run_fault
use Rattle.run_gated.specs.declared.ran.Reduced.{Reduced}
use Rattle.run_gated.specs.Run.{Run}
use Rattle.run_gated.specs.Records.{AreOfMode, BeginsAt, FirstIs}
use Rattle.run_gated.specs.RunEnds as ends
use Rattle.run_gated.specs.RunEnds.{IsRunIn, ReducesIn, RunEndsIn, RunFailsIn}
use Rattle.reduce_trees_mode.specs.Input.{IsInput, TreeInput, TreeState}
use Rattle.reduce_trees_mode.specs.InStyles.{tree_recursion}
use Rattle.reduce_trees_mode.specs.Listed.{IsKept}
use Rattle.reduce_trees.specs.Ends.{AdmitsStart, IsEndBy}
use Rattle.reduce_trees.specs.Laws.{WalksAreRecursions}
use Rattle.reduce_trees.specs.TreeRounds.{tree_round}
use Rattle.reduce_trees.specs.WalkMode.{walk_mode}
use Rattle.spell_shrink.specs.Laws.{IsEndOfRespelling, IsSpellCandidate, SpellersAreRecursions}
use Rattle.spell_shrink.specs.Phases.{IsListedInPhase, IsNeighbour, numbers_in_phase}
use Rattle.spell_shrink.specs.Respelled.{Reduced as Left, Respelled, SpellState, followed_by, respelled, respelling_of}
use Rattle.spell_shrink.specs.SpellMode.{IsKeptInPhase, spell_mode, text_in_phase}
use Rattle.spell_shrink.specs.SpellRecursion.{spell_recursion}
use Rattle.spell_shrink.specs.Texts.{IsListedRespelling, text_of_respelling}
use Rattle.run_problem.specs.Committed.{IsPrefix}
use Rattle.run_problem.specs.Ends.{AreOf, IsRunOf, ProblemEnds, ReducesFrom, RunFails}
use Rattle.run_problem.specs.Laws.{GoesByQuestions, HistoriesGoByQuestions}
use Rattle.run_problem.specs.Problem.{IsEditBy, IsReductionOf, Problem}
use Rattle.run_problem.specs.Reducer.{round_trials}
use Rattle.run_problem.specs.TreeMode.{IsSpellMode}

-- ---- the reduction before the respelling

has_left : (V : List ℕ → Option Verdict) (texts later : List (List ℕ)) → HasVerdicts V (texts ++ later) → HasVerdicts V texts
has_left V [] later has = tt
has_left V (text ∷ texts) later has = (has.0, has_left V texts later has.1)

module _ (input : TreeInput) (verdict : List ℕ → Bool) (first : Reduction TreeState) where
  abbrev by_refusal : Bool → Reduction SpellState
  by_refusal refused =
      cond refused (record { questions = first.questions; state = Left first.state; rounds = first.rounds; refused = true })
      (followed_by first (respelling_of input verdict first.state))

  -- what is respelled wasn't refused
  not_refused : (respelled input verdict first).refused ≡ false → first.refused ≡ false
  not_refused is = by first.refused is
    where
      by : (refused : Bool) → (by_refusal refused).refused ≡ false → refused ≡ false
      by true is = absurd (cc is)
      by false is = refl

  -- and asks what it asked
  has_first : (V : List ℕ → Option Verdict) → HasVerdicts V (respelled input verdict first).questions → HasVerdicts V first.questions
  has_first V has = by first.refused has
    where
      by : (refused : Bool) → HasVerdicts V (by_refusal refused).questions → HasVerdicts V first.questions
      by true has = has
      by false has = has_left V first.questions (respelling_of input verdict first.state).questions has

-- ---- the end of a respelling

module _ (input : TreeInput) (V : List ℕ → Option Verdict) (state : SpellState) (end : IsEndOfRespelling input V state) where
  admits_end : input.admits (numbers_in_phase state) (text_in_phase input state) ≡ true
  admits_end =
      subst (λ (s : SpellState). input.admits (numbers_in_phase s) (text_in_phase input s) ≡ true) (sym end.is_respelled) end.listed.admitted

  shorter_is_no : (other : SpellState) → IsNeighbour input (Respelled end.style end.respelling) other → IsListedInPhase input other
      → V (text_in_phase input other) ≡ Some No
  shorter_is_no (Left other) edit listed = absurd edit
  shorter_is_no (Respelled style other) edit listed =
      subst (λ s. V (text_of_respelling input s other) ≡ Some No) edit.0
      (end.minimal other edit.1 (subst (λ s. IsListedRespelling input s other) (sym edit.0) listed))

  minimal_end : IsMinimal (IsNeighbour input) (IsListedInPhase input) (text_in_phase input) V state
  minimal_end = subst (IsMinimal (IsNeighbour input) (IsListedInPhase input) (text_in_phase input) V) (sym end.is_respelled) shorter_is_no

-- ---- the reduction over a map of verdicts

module _ (mode : TreeMode) (laws : IsSpellMode (round_trials mode) (IsEditBy mode)) (walks : WalksAreRecursions mode (round_trials mode))
    (recursions : SpellersAreRecursions (round_trials mode) mode) (input : TreeInput) (is : IsInput input) (admitted : AdmitsStart input) where
  abbrev both : RoundMode SpellState
  both = spell_mode (round_trials mode) input

  abbrev trees : RoundMode TreeState
  trees = walk_mode (round_trials mode) input

  begins : (both.text both.start ≡ input.start) × (both.is_listed both.start ≡ true)
  begins = laws.begins input is admitted

  module _ (V : List ℕ → Option Verdict) where
    abbrev R : Reduction SpellState
    R = reduction (spell_recursion mode input) (says_yes V)

    abbrev T : Reduction TreeState
    T = reduction (tree_recursion (tree_round mode input) input) (says_yes V)

    same_both : trials.reduction_of both (says_yes V) ≡ R
    same_both = sym (recursions input (says_yes V) is)

    same_trees : trials.reduction_of trees (says_yes V) ≡ T
    same_trees = sym (walks input (says_yes V) is)

    follows : R ≡ respelled input (says_yes V) T
    follows = recursions input (says_yes V) is ∙ laws.follows input (says_yes V) is ∙ ap (respelled input (says_yes V)) same_trees

    module _ (defined : HasVerdicts V R.questions) (interesting : R.refused ≡ false) where
      tree_interesting : T.refused ≡ false
      tree_interesting = not_refused input (says_yes V) T (sym (ap (λ (r : Reduction SpellState). r.refused) follows) ∙ interesting)

      tree_defined : HasVerdicts V T.questions
      tree_defined = has_first input (says_yes V) T V (subst (λ (r : Reduction SpellState). HasVerdicts V r.questions) follows defined)

      -- the tree's own reduction ends at a minimal tree
      tree_end : IsEndBy (IsEditBy mode) input V T.state
      tree_end =
          let by_trials =
          ends_minimal trees (IsKept input) (λ state other. IsTriedAtNo (trees.round state) other) (λ state. tt) (laws.tree_mode.lawful input is)
          (λ state other kept at_no. at_no) (laws.tree_mode.begins input is admitted).listed V
          (ap (λ (r : Reduction TreeState). r.refused) same_trees ∙ tree_interesting)
          (subst (λ (r : Reduction TreeState). HasVerdicts V r.questions) (sym same_trees) tree_defined) in
          laws.tree_mode.minimal input V T.state is
          (subst (λ (r : Reduction TreeState). EndsWell trees (IsKept input) (λ state other. IsTriedAtNo (trees.round state) other) V r.state) same_trees
          by_trials)

      well : EndsWell both (IsKeptInPhase input) (λ state other. IsTriedAtNo (both.round state) other) V R.state
      well =
          subst (λ (r : Reduction SpellState). EndsWell both (IsKeptInPhase input) (λ state other. IsTriedAtNo (both.round state) other) V r.state) same_both
          (ends_minimal both (IsKeptInPhase input) (λ state other. IsTriedAtNo (both.round state) other) (laws.agrees input) (laws.lawful input is)
          (λ state other kept at_no. at_no) begins.1 V (ap (λ (r : Reduction SpellState). r.refused) same_both ∙ interesting)
          (subst (λ (r : Reduction SpellState). HasVerdicts V r.questions) (sym same_both) defined))

      -- the text of its end is what the problem reduces to
      pub spelled_reduction : (guard : Admits) → input.admits ≡ guard → (text : List ℕ) → text ≡ text_in_phase input R.state
          → IsReductionOf guard V (Problem.of_respelling mode input) text
      spelled_reduction guard guarded text is_text =
          let end : IsEndOfRespelling input V R.state = laws.ends input V R.state is well in
          record {
            is_problem = is;
            defined = defined;
            interesting = interesting;
            is_text = is_text;
            yes_at_end = ap V is_text ∙ well.yes_at_end;
            admitted =
                sym (ap (λ (a : Admits). a (numbers_in_phase R.state) text) guarded) ∙ ap (input.admits (numbers_in_phase R.state)) is_text
                ∙ admits_end input V R.state end;
            candidate = (laws.asks input text is (record { state = R.state; kept = well.kept; listed = well.listed; same = is_text })).0;
            minimal = minimal_end input V R.state end;
            respells = record { defined = tree_defined; minimal = tree_end.minimal; follows = follows };
          }

  -- ---- a run

  module _ (by : HistoriesGoByQuestions) (run : Run) where
    abbrev records : List Record
    records = records_of run.history

    abbrev problem : Problem
    problem = Problem.of_respelling mode input

    goes_on : (guard : Admits) → GoesByQuestions guard problem run.history
    goes_on guard = by guard problem is run.history

    -- the history is one of trees and respellings
    are_of_spelled : (guard : Admits) → AreOfMode run.workers (verdict_in run.kept) both (IsKeptInPhase input) run.history
        → AreOf run.workers (verdict_in run.kept) guard problem run.history
    are_of_spelled guard of = record {
      distinct = of.legal.distinct;
      legal = (goes_on guard).answers of.legal;
      readable = of.readable;
      sequential = λ alone. subst (IsPrefix run.history) ((goes_on guard).alone (verdict_in run.kept)) (of.sequential alone);
      candidates =
          All-weaker (λ (r : Record). IsTextOf both (IsKeptInPhase input) r.text) (λ (r : Record). IsSpellCandidate input r.text)
          (λ r one. (laws.asks input r.text is one).0) records of.candidates;
      short =
          All-weaker (λ (r : Record). IsTextOf both (IsKeptInPhase input) r.text) (λ (r : Record). length r.text ≤ length input.start)
          (λ r one. (laws.asks input r.text is one).1) records of.candidates;
      first = subst (λ (text : List ℕ). BeginsAt text records) begins.0 of.first;
      ends_at_no = of.ends_at_no;
    }

    -- the tree is reduced and respelled to the text of the result
    spelled_reduces : (guard : Admits) → IsLegal (plan_first both) run.history → input.admits ≡ guard → (result : StepResult) (counts : Counts)
        → counts ≡ ends.counts_of_result (both.size both.start) (length (both.text both.start)) result (length records)
        → ReducesIn run.workers (verdict_in run.kept) both (IsKeptInPhase input) run.history result
        → ReducesFrom run.workers (verdict_in run.kept) guard problem run.history result.text counts
    spelled_reduces guard legal admits result counts are_counts it =
        let V = verdict_in records in
        let same = same_both V in
        let text : result.text ≡ text_in_phase input (R V).state =
        ap (λ (r : StepResult). r.text) it.is_result ∙ ap (λ (r : Reduction SpellState). text_in_phase input r.state) same in
        record {
          first = subst (λ (start : List ℕ). FirstIs start Yes records) begins.0 it.first;
          reduced =
              spelled_reduction V (subst (λ (r : Reduction SpellState). HasVerdicts V r.questions) same it.defined)
              (sym (ap (λ (r : Reduction SpellState). r.refused) same) ∙ it.interesting) guard admits result.text text;
          is_counts = are_counts
              ∙ ap (λ (r : StepResult). ends.counts_of_result (both.size both.start) (length (both.text both.start)) r (length records))
              (it.is_result ∙ ap (result_of (trials.recursion_of both)) same)
              ∙ ap (λ (start : List ℕ). ends.counts_of_result (both.size both.start) (length start) (result_of (trials.recursion_of both) (R V))
              (length records)) begins.0;
          whole = λ alone. it.whole alone ∙ (goes_on guard).alone (verdict_in run.kept);
          committed = (goes_on guard).answered legal it.committed;
        }

    -- why it has no reduction
    spelled_fails : (guard : Admits) → IsLegal (plan_first both) run.history → (fault : RunFault) → RunFailsIn both run fault
        → RunFails guard problem run fault
    spelled_fails guard legal run_fault.NotInteresting why = (
      record {
        first = subst (λ (start : List ℕ). FirstIs start No records) begins.0 why.0;
        only = why.1;
        whole = λ alone. why.3 alone ∙ (goes_on guard).alone (verdict_in run.kept);
        committed = (goes_on guard).answered legal why.4;
      },
      why.2,
    )
    spelled_fails guard legal (run_fault.Script worker) why = (
      why.0,
      why.1,
      λ alone.
          let waits = why.2 alone in
          record {
            waits = λ has.
                waits.1 (subst (λ (r : Reduction SpellState). HasVerdicts (verdict_in records) r.questions) (sym (same_both (verdict_in records))) has);
            not_no = waits.0;
            whole = waits.2 ∙ (goes_on guard).alone (verdict_in run.kept);
          },
    )
    spelled_fails guard legal run_fault.Journal why = why
    spelled_fails guard legal (run_fault.Memory _) why = why

    -- how the run ends
    spelled_ends : (guard : Admits) → IsLegal (plan_first both) run.history → input.admits ≡ guard → (result : Result Reduced RunFault)
        → RunEndsIn both (IsKeptInPhase input) run result → ProblemEnds guard problem run result
    spelled_ends guard legal admits (Ok reduced) came = (
      subst (λ (text : List ℕ). ReducesFrom run.workers (verdict_in run.kept) guard problem run.history text reduced.counts) (sym came.0.1)
          (spelled_reduces guard legal admits came.0.0 reduced.counts came.0.2 came.0.3),
      came.1,
    )
    spelled_ends guard legal admits (Err fault) came = spelled_fails guard legal fault came

    -- what the run comes to, where this is what is admitted
    pub spelled_run : (guard : Admits) → input.admits ≡ guard → (so_far : StepResult) → IsStart both so_far
        → IsRunIn both (IsKeptInPhase input) so_far run → IsRunOf guard problem run
    spelled_run guard admits so_far start ran =
        let of = ran.history (laws.lawful input is).keeps begins.1 in
        record { history = are_of_spelled guard of; ends = spelled_ends guard of.legal admits run.outcome (ran.ends start) }
