-- One thing is found of files.
use Rattle.std.proofs.Common.{◌≡◌, ◌≢◌, ◌⊎◌, inl, inr, ◌<◌, ℕ, zero, suc, List, [], ◌∷◌, All, Some, refl, sym, ap, ◌∙◌, subst}
use Rattle.std.proofs.lemmas.Bool.{cases_order}
use Rattle.std.proofs.lemmas.List.Elements.{All-head, All-tail}
use Rattle.verdict_table.specs.declared.record.Record.{Record}
use Rattle.reduce_step.specs.Plan.{Plan}
use Rattle.reduce_journal.specs.History.{History, records_of}
use Rattle.ordered_commit.specs.Replay.{IsLegal, record_at}
use Rattle.run_problem.specs.Problem.{IsCandidateOf, start_text}
use Rattle.run_problem.specs.Reducer.{reducer_of}
use Rattle.cert_check.specs.declared.finding.Finding.{Finding}
use Rattle.cert_check.specs.declared.finding.Finding.TheVariants.{Yes, No}
use Rattle.cert_check.specs.declared.finding.Why.TheVariants.{Torn, OtherStart, NotLegal, NotCandidate, Unfinished, StartIsNo, OtherResult}
use Rattle.cert_check.specs.Findings.{IsFinishedRun, IsFirstIllegal, IsFirstOther, IsFoundWith, IsItsResult, IsOfStart, RefusesStart}
use Rattle.cert_check.specs.Laws.{OneIsFound}
use Rattle.cert_check.proofs.Legal.{legal_take}

-- what holds of all records holds of the record with a number
pub at_number : (P : Record → Type 0) (rs : List Record) (n : ℕ) (r : Record) → record_at n rs ≡ Some r → All P rs → P r
at_number P rs zero r at all = absurd (cc at)
at_number P [] (suc n) r at all = absurd (cc at)
at_number P (q ∷ rs) (suc zero) r at all = let same : q ≡ r = cc at in subst P same (All-head P q rs all)
at_number P (q ∷ rs) (suc (suc n)) r at all = at_number P rs (suc n) r at (All-tail P q rs all)

-- a history has one first event that isn't legal
one_event : (first : Plan) (history : History) (n m : ℕ) → IsFirstIllegal first history n → IsFirstIllegal first history m → n ≡ m
one_event first history n m f g = by (cases_order n m)
  where
    by : (n ≡ m) ⊎ ((n < m) ⊎ (m < n)) → n ≡ m
    by (inl same) = same
    by (inr (inl before)) = absurd (f.illegal (g.shortest n before))
    by (inr (inr after)) = absurd (g.illegal (f.shortest m after))

-- and one first record whose text isn't such
one_number : (Is : List ℕ → Type 0) (rs : List Record) (n m : ℕ) → IsFirstOther Is rs n → IsFirstOther Is rs m → n ≡ m
one_number Is rs n m f g = by (cases_order n m)
  where
    by : (n ≡ m) ⊎ ((n < m) ⊎ (m < n)) → n ≡ m
    by (inl same) = same
    by (inr (inl before)) = absurd (f.other (g.earlier n f.found before f.there))
    by (inr (inr after)) = absurd (g.other (f.earlier m g.found after g.there))

module _ (first : Plan) (Is : List ℕ → Type 0) (OfStart IsFinished Refuses IsResult : Type 0) (history : History) (torn : ℕ) where
  -- what a cause says isn't so where one after it holds
  torn_not : (n : ℕ) → (torn ≡ n) × (n ≢ 0) → torn ≡ 0 → ⊥
  torn_not n f whole = f.1 (sym f.0 ∙ whole)

  illegal_not : (n : ℕ) → IsFirstIllegal first history n → IsLegal first history → ⊥
  illegal_not n f legal = f.illegal (legal_take first history n legal)

  other_not : (n : ℕ) → IsFirstOther Is (records_of history) n → All (λ (r : Record). Is r.text) (records_of history) → ⊥
  other_not n f all = f.other (at_number (λ (r : Record). Is r.text) (records_of history) n f.found f.there all)

  one_found : (one other : Finding) → IsFoundWith first Is OfStart IsFinished Refuses IsResult history torn one
      → IsFoundWith first Is OfStart IsFinished Refuses IsResult history torn other → one ≡ other
  one_found (No (Torn n)) (No (Torn m)) f g = ap (λ (k : ℕ). No (Torn k)) (sym f.0 ∙ g.0)
  one_found (No (Torn n)) (No OtherStart) f g = absurd (torn_not n f g.0)
  one_found (No (Torn n)) (No (NotLegal m)) f g = absurd (torn_not n f g.0)
  one_found (No (Torn n)) (No (NotCandidate m)) f g = absurd (torn_not n f g.0)
  one_found (No (Torn n)) (No Unfinished) f g = absurd (torn_not n f (g.0).whole)
  one_found (No (Torn n)) (No StartIsNo) f g = absurd (torn_not n f (g.0).whole)
  one_found (No (Torn n)) (No OtherResult) f g = absurd (torn_not n f (g.0).whole)
  one_found (No (Torn n)) Yes f g = absurd (torn_not n f (g.0).whole)
  one_found (No OtherStart) (No (Torn m)) f g = absurd (torn_not m g f.0)
  one_found (No OtherStart) (No OtherStart) f g = refl
  one_found (No OtherStart) (No (NotLegal m)) f g = absurd (f.1 g.1)
  one_found (No OtherStart) (No (NotCandidate m)) f g = absurd (f.1 g.1)
  one_found (No OtherStart) (No Unfinished) f g = absurd (f.1 (g.0).of_start)
  one_found (No OtherStart) (No StartIsNo) f g = absurd (f.1 (g.0).of_start)
  one_found (No OtherStart) (No OtherResult) f g = absurd (f.1 (g.0).of_start)
  one_found (No OtherStart) Yes f g = absurd (f.1 (g.0).of_start)
  one_found (No (NotLegal n)) (No (Torn m)) f g = absurd (torn_not m g f.0)
  one_found (No (NotLegal n)) (No OtherStart) f g = absurd (g.1 f.1)
  one_found (No (NotLegal n)) (No (NotLegal m)) f g = ap (λ (k : ℕ). No (NotLegal k)) (one_event first history n m f.2 g.2)
  one_found (No (NotLegal n)) (No (NotCandidate m)) f g = absurd (illegal_not n f.2 g.2)
  one_found (No (NotLegal n)) (No Unfinished) f g = absurd (illegal_not n f.2 (g.0).legal)
  one_found (No (NotLegal n)) (No StartIsNo) f g = absurd (illegal_not n f.2 (g.0).legal)
  one_found (No (NotLegal n)) (No OtherResult) f g = absurd (illegal_not n f.2 (g.0).legal)
  one_found (No (NotLegal n)) Yes f g = absurd (illegal_not n f.2 (g.0).legal)
  one_found (No (NotCandidate n)) (No (Torn m)) f g = absurd (torn_not m g f.0)
  one_found (No (NotCandidate n)) (No OtherStart) f g = absurd (g.1 f.1)
  one_found (No (NotCandidate n)) (No (NotLegal m)) f g = absurd (illegal_not m g.2 f.2)
  one_found (No (NotCandidate n)) (No (NotCandidate m)) f g = ap (λ (k : ℕ). No (NotCandidate k)) (one_number Is (records_of history) n m f.3 g.3)
  one_found (No (NotCandidate n)) (No Unfinished) f g = absurd (other_not n f.3 (g.0).candidates)
  one_found (No (NotCandidate n)) (No StartIsNo) f g = absurd (other_not n f.3 (g.0).candidates)
  one_found (No (NotCandidate n)) (No OtherResult) f g = absurd (other_not n f.3 (g.0).candidates)
  one_found (No (NotCandidate n)) Yes f g = absurd (other_not n f.3 (g.0).candidates)
  one_found (No Unfinished) (No (Torn m)) f g = absurd (torn_not m g (f.0).whole)
  one_found (No Unfinished) (No OtherStart) f g = absurd (g.1 (f.0).of_start)
  one_found (No Unfinished) (No (NotLegal m)) f g = absurd (illegal_not m g.2 (f.0).legal)
  one_found (No Unfinished) (No (NotCandidate m)) f g = absurd (other_not m g.3 (f.0).candidates)
  one_found (No Unfinished) (No Unfinished) f g = refl
  one_found (No Unfinished) (No StartIsNo) f g = absurd (f.1 g.1)
  one_found (No Unfinished) (No OtherResult) f g = absurd (f.1 g.1)
  one_found (No Unfinished) Yes f g = absurd (f.1 g.1)
  one_found (No StartIsNo) (No (Torn m)) f g = absurd (torn_not m g (f.0).whole)
  one_found (No StartIsNo) (No OtherStart) f g = absurd (g.1 (f.0).of_start)
  one_found (No StartIsNo) (No (NotLegal m)) f g = absurd (illegal_not m g.2 (f.0).legal)
  one_found (No StartIsNo) (No (NotCandidate m)) f g = absurd (other_not m g.3 (f.0).candidates)
  one_found (No StartIsNo) (No Unfinished) f g = absurd (g.1 f.1)
  one_found (No StartIsNo) (No StartIsNo) f g = refl
  one_found (No StartIsNo) (No OtherResult) f g = absurd (g.2 f.2)
  one_found (No StartIsNo) Yes f g = absurd (g.2 f.2)
  one_found (No OtherResult) (No (Torn m)) f g = absurd (torn_not m g (f.0).whole)
  one_found (No OtherResult) (No OtherStart) f g = absurd (g.1 (f.0).of_start)
  one_found (No OtherResult) (No (NotLegal m)) f g = absurd (illegal_not m g.2 (f.0).legal)
  one_found (No OtherResult) (No (NotCandidate m)) f g = absurd (other_not m g.3 (f.0).candidates)
  one_found (No OtherResult) (No Unfinished) f g = absurd (g.1 f.1)
  one_found (No OtherResult) (No StartIsNo) f g = absurd (f.2 g.2)
  one_found (No OtherResult) (No OtherResult) f g = refl
  one_found (No OtherResult) Yes f g = absurd (f.3 g.3)
  one_found Yes (No (Torn m)) f g = absurd (torn_not m g (f.0).whole)
  one_found Yes (No OtherStart) f g = absurd (g.1 (f.0).of_start)
  one_found Yes (No (NotLegal m)) f g = absurd (illegal_not m g.2 (f.0).legal)
  one_found Yes (No (NotCandidate m)) f g = absurd (other_not m g.3 (f.0).candidates)
  one_found Yes (No Unfinished) f g = absurd (g.1 f.1)
  one_found Yes (No StartIsNo) f g = absurd (f.2 g.2)
  one_found Yes (No OtherResult) f g = absurd (g.3 f.3)
  one_found Yes Yes f g = refl

pub one_is_found : OneIsFound
one_is_found guard problem output head history torn one other f g =
    one_found (reducer_of guard problem) (IsCandidateOf guard problem) (IsOfStart head (start_text problem)) (IsFinishedRun guard problem history)
    (RefusesStart guard problem history) (IsItsResult guard problem history output) history torn one other f g
