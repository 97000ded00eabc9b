-- What is found of a reducer that has been replayed and then followed over its records.
use Rattle.std.proofs.Common.{◌≡◌, ◌≢◌, ℕ, suc, List, Bool, true, false, Option, Some, None, All, refl, sym, ap, ◌∙◌, subst, true≢false}
use Rattle.std.specs.Prelude.{MatchOption, slice_get}
use Rattle.script_gate_trait.specs.declared.gate.Verdict.{Verdict}
use Rattle.verdict_table.specs.declared.record.Record.{Record}
use Rattle.verdict_table.specs.TableState.{TableState, verdict_in}
use Rattle.verdict_table.proofs.Lent.{extends_itself}
use Rattle.reduce_step.specs.Plan.{End, HasEnded, MayAsk, Plan, StepResult, asked, follow}
use Rattle.reduce_journal.specs.History.{History, records_of}
use Rattle.ordered_commit.specs.Replay.{IsLegal, record_at}
use Rattle.cert_check.specs.Findings.{IsFirstIllegal, IsFirstOther, IsSoundRun}
use Rattle.cert_check.specs.declared.finding.Finding.{Finding}
use Rattle.cert_check.specs.declared.finding.Finding.TheVariants.{Yes, No}
use Rattle.cert_check.specs.declared.finding.Why.TheVariants.{Torn, OtherStart, NotLegal, NotCandidate, Unfinished, StartIsNo, OtherResult}
use Rattle.cert_check.specs.Laws.{LegalHistoriesFollow}
use Rattle.cert_check.specs.inner.Asked.{MarkedMayBeAsked}
use Rattle.cert_check.specs.inner.Replayed.{IsReplayed}
use Rattle.cert_check.specs.inner.Steps.{EndsSo, IsFindingOfEnd, IsFindingOfPlan}
use Rattle.cert_check.proofs.Legal.{legal_take}

-- an end is one result
pub one_end : (one other : StepResult) → End one ≡ End other → one ≡ other
one_end one other e = cc e

-- ---- the end

module _ (first plan : Plan) (history : History) (output : List ℕ) (legal : IsLegal first history)
    (is : plan ≡ follow (verdict_in (records_of history)) first) where
  any : IsSoundRun first (λ text. Unit {0}) (Unit {0}) history 0
  any = record { whole = refl; of_start = tt; legal = legal; candidates = λ k d lt. tt }

  pub unfinished : ¬ HasEnded plan → IsFindingOfEnd first output history (No Unfinished)
  unfinished not = (any, λ ended. not (ap asked is ∙ ended))

  module _ (end : StepResult) (ends : plan ≡ End end) where
    follows : follow (verdict_in (records_of history)) first ≡ End end
    follows = sym is ∙ ends

    not_refused : end.refused ≡ false → ¬ EndsSo first history (λ other. other.refused ≡ true)
    not_refused goes_on (other, ends', refuses) =
        true≢false (sym refuses ∙ ap (λ (r : StepResult). r.refused) (one_end other end (sym ends' ∙ follows)) ∙ goes_on)

    pub refused_start : end.refused ≡ true → IsFindingOfEnd first output history (No StartIsNo)
    refused_start refuses = (any, ap asked follows, (end, follows, refuses))

    pub its_result : end.refused ≡ false → output ≡ end.text → IsFindingOfEnd first output history Yes
    its_result goes_on same = (any, ap asked follows, not_refused goes_on, (end, follows, same))

    pub other_result : end.refused ≡ false → output ≢ end.text → IsFindingOfEnd first output history (No OtherResult)
    other_result goes_on not = (any, ap asked follows, not_refused goes_on, differs)
      where
        differs : ¬ EndsSo first history (λ other. output ≡ other.text)
        differs (other, ends', same) = not (same ∙ ap (λ (r : StepResult). r.text) (one_end other end (sym ends' ∙ follows)))

-- ---- the run

module _ (first : Plan) (Is : List ℕ → Type 0) (output : List ℕ) (history : History) where
  -- what is found at the end is found of the run, where each recorded text may be asked
  at_end : (finding : Finding) → IsLegal first history → All (λ (r : Record). Is r.text) (records_of history) → IsFindingOfEnd first output history finding
      → IsFindingOfPlan first Is output history 0 finding
  at_end (No (Torn bytes)) legal all f = absurd (f.1 (sym f.0))
  at_end (No OtherStart) legal all f = absurd (f.1 tt)
  at_end (No (NotLegal event)) legal all f = absurd ((f.2).illegal (legal_take first history event legal))
  at_end (No (NotCandidate number)) legal all f = absurd ((f.3).other tt)
  at_end (No Unfinished) legal all f = (record { whole = refl; of_start = tt; legal = legal; candidates = all }, f.1)
  at_end (No StartIsNo) legal all f = (record { whole = refl; of_start = tt; legal = legal; candidates = all }, f.1, f.2)
  at_end (No OtherResult) legal all f = (record { whole = refl; of_start = tt; legal = legal; candidates = all }, f.1, f.2, f.3)
  at_end Yes legal all f = (record { whole = refl; of_start = tt; legal = legal; candidates = all }, f.1, f.2, f.3)

  pub found : LegalHistoriesFollow → (plan ended : Plan) (table : TableState) (marks : List Bool) (finding : Finding)
      → IsReplayed first history plan table marks → ended ≡ follow (verdict_in table.records) plan → All (λ (r : Record). Is r.text) table.records
      → ((new : Plan) (h : History) → IsLegal new h → ended ≡ follow (verdict_in (records_of h)) new → IsFindingOfEnd new output h finding)
      → IsFindingOfPlan first Is output history 0 finding
  found law plan ended table marks finding it followed candidates ends =
      let V : List ℕ → Option Verdict = verdict_in (records_of history) in
      let over : ended ≡ follow V plan = subst (λ (rs : List Record). ended ≡ follow (verdict_in rs) plan) it.records followed in
      let same : ended ≡ follow V first =
      over ∙ ap (follow V) it.plan_is ∙ sym (law first history it.legal V (extends_itself (records_of history) (it.legal).distinct)) in
      at_end finding it.legal (subst (λ (rs : List Record). All (λ (r : Record). Is r.text) rs) it.records candidates) (ends first history it.legal same)

  -- the texts of marked records may be asked
  pub marked_ask : ((asked : List ℕ) → MayAsk first asked → Is asked) → (ended : Plan) (table : TableState) (marks : List Bool)
      → MarkedMayBeAsked first ended table.records marks → (lent : List Bool) → lent ≡ marks → (records : List Record) → records ≡ table.records
      → (index : ℕ) (r : Record) → slice_get lent index ≡ Some true → record_at (suc index) records ≡ Some r → Is r.text
  marked_ask asks ended table marks it lent lent_is records records_are index r marked there =
      asks r.text (it.marked index r (ap (λ (ms : List Bool). slice_get ms index) (sym lent_is) ∙ marked)
      (ap (record_at (suc index)) (sym records_are) ∙ there))

  -- the first record whose text may not be asked
  pub found_other : (plan : Plan) (table : TableState) (marks : List Bool) → IsReplayed first history plan table marks → (records : List Record)
      → records ≡ table.records → (number : ℕ) → IsFirstOther Is records number
      → IsFindingOfPlan first Is output history 0 (No (NotCandidate number))
  found_other plan table marks it records records_are number other =
      (refl, tt, it.legal, subst (λ (rs : List Record). IsFirstOther Is rs number) (records_are ∙ it.records) other)

-- the texts of all records, as they are lent
pub all_candidates : (Is : List ℕ → Type 0) (table : TableState) (records : List Record) → records ≡ table.records
    → All (λ (r : Record). Is r.text) records → All (λ (r : Record). Is r.text) table.records
all_candidates Is table records records_are all = subst (λ (rs : List Record). All (λ (r : Record). Is r.text) rs) records_are all

-- all events have been taken, or one is the first that the reducer can't have
pub all_taken : (first : Plan) (history : History) (plan : Plan) (table : TableState) (marks : List Bool) (o : Option ℕ) → ((event : ℕ) → o ≡ Some event → ⊥)
    → MatchOption o (IsReplayed first history plan table marks) (IsFirstIllegal first history) → IsReplayed first history plan table marks
all_taken first history plan table marks None not it = it
all_taken first history plan table marks (Some event) not it = absurd (not event refl)

-- none is the first that may not be asked, or one is
pub none_other : (Is : List ℕ → Type 0) (records : List Record) (o : Option ℕ) → ((number : ℕ) → o ≡ Some number → ⊥)
    → MatchOption o (All (λ (r : Record). Is r.text) records) (IsFirstOther Is records) → All (λ (r : Record). Is r.text) records
none_other Is records None not it = it
none_other Is records (Some number) not it = absurd (not number refl)
