-- What a run comes to, by what its board keeps, or by what its only worker does.
use Rattle.std.proofs.Common.{arith, ◌≡◌, ◌≢◌, ◌*◌, ℕ, List, [], ◌∷◌, Contains, Option, Some, None, IfSome}
use Rattle.std.proofs.Common.{length, slice_index_or, slice_set, refl, sym, ap, ◌∙◌, subst}
use Rattle.std.proofs.lemmas.List.Elements.{All-nil}
use Rattle.faults.specs.Count.{Rose}
use Rattle.edge_io.specs.Sink.{Put}
use Rattle.script_gate_trait.specs.declared.gate.Verdict.{Verdict}
use Rattle.script_gate_trait.specs.declared.log.Log.{Log}
use Rattle.reduce_step.specs.Ahead.{ahead}
use Rattle.reduce_step.specs.Plan.{Ask, End, HasEnded, Plan, follow}
use Rattle.verdict_table.specs.declared.record.Record.{Record}
use Rattle.verdict_table.specs.declared.table.Claim.{Claim}
use Rattle.verdict_table.specs.TableState.{verdict_in}
use Rattle.reduce_journal.specs.History.{History, records_of}
use Rattle.reduce_journal.specs.Journal.{journal_text}
use Rattle.reduce_journal.specs.declared.digest.Digest.{Digest}
use Rattle.ordered_commit.specs.Replay.{replay}
use Rattle.ordered_commit.specs.declared.fault.PoolFault.{PoolFault}
use Rattle.ordered_commit.specs.declared.fault.PoolFault.TheVariants.{Journal, Memory, Script}
use Rattle.ordered_commit.specs.declared.outcome.Outcome.{Outcome}
use Rattle.ordered_commit.specs.BoardState.{BoardState}
use Rattle.ordered_commit.specs.Kept.{BeginsWithin, IsJournal, IsKept}
use Rattle.ordered_commit.specs.Made.{new_board}
use Rattle.worker_pool.specs.RunHistory.{BeginsWith}
use Rattle.worker_pool.specs.RunEnds.{IsCaused, ReducerEnds}
use Rattle.worker_pool.specs.declared.worker.Worker.{Worker}
use Rattle.worker_pool.specs.Ends.{IsOfOne}
use Rattle.worker_pool.specs.Runs.{RunMembers}
use Rattle.worker_pool.proofs.DoneLemmas.{gone_on}

-- ---- a new board

module _ {S J : Type 0} (plan first : S → Plan) (may_say : List ℕ → Verdict → Type 0) (put : J → Option Put) (faults : J → ℕ) (n : ℕ) (state : BoardState S J)
    (start : Digest) (verdicts : List Record) (front : S) (journal : J)
    (kept : IsKept plan first may_say put faults state) (is : state ≡ new_board n start verdicts front journal) where
  unstopped : state.fault ≡ None
  unstopped = ap (λ (s : BoardState S J). s.fault) is

  pub no_history : state.history ≡ []
  no_history = ap (λ (s : BoardState S J). s.history) is

  -- its front was asked nothing
  pub new_first : first state.front ≡ plan state.front
  new_first = sym (kept.replayed unstopped ∙ ap (replay (first state.front)) no_history)

  -- its journal has the head
  pub new_head : IfSome (put state.journal) (λ p. p.bytes ≡ journal_text state.start [])
  new_head =
      subst (λ (f : Option PoolFault). IfSome (put state.journal) (λ p. IsJournal state.start f [] p.bytes)) unstopped
      (subst (λ (h : History). IfSome (put state.journal) (λ p. IsJournal state.start state.fault h p.bytes)) no_history kept.journal)

-- ---- how the records begin

-- once the claims have ended, they say nothing
pub begins_kept : (texts : List (List ℕ)) (rs : List Record) (claims : List Claim) → BeginsWithin texts rs claims → BeginsWithin texts rs []
begins_kept texts [] claims begins = All-nil (λ (c : Claim). Contains texts c.text)
begins_kept texts (r ∷ rs) claims begins = begins

pub begins_none : (texts : List (List ℕ)) (history : History) → history ≡ [] → BeginsWithin texts (records_of history) []
begins_none texts history none = subst (λ (h : History). BeginsWithin texts (records_of h) []) (sym none) (All-nil (λ (c : Claim). Contains texts c.text))

-- so they begin with what was ahead
pub begins_of : {S J : Type 0} (plan first : S → Plan) (may_say : List ℕ → Verdict → Type 0) (put : J → Option Put) (faults : J → ℕ) (state : BoardState S J)
    (n : ℕ) (start : Plan) → IsKept plan first may_say put faults state → length state.seats ≡ n → first state.front ≡ start
    → BeginsWithin (ahead (2 * n) start) (records_of state.history) []
begins_of plan first may_say put faults state n start kept as_many same =
    let texts : ahead (2 * length state.seats) (first state.front) ≡ ahead (2 * n) start =
    ap (λ (k : ℕ). ahead (2 * k) (first state.front)) as_many ∙ ap (ahead (2 * n)) same in
    subst (λ (ts : List (List ℕ)). BeginsWithin ts (records_of state.history) []) texts
    (subst (λ (rs : List Record). BeginsWithin (ahead (2 * length state.seats) (first state.front)) rs []) kept.recorded.recorded
    (begins_kept (ahead (2 * length state.seats) (first state.front)) state.table.records state.table.claims kept.begins))

-- what is asked first is ahead
pub begins_ahead : (first : Plan) (rs : List Record) → BeginsWith first rs → BeginsWithin (ahead 2 first) rs []
begins_ahead first [] begun = All-nil (λ (c : Claim). Contains (ahead 2 first) c.text)
begins_ahead (End result) (r ∷ rs) begun = absurd (cc begun)
begins_ahead (Ask text a b) (r ∷ rs) begun = let same : text ≡ r.text = cc begun in (0, omega arith, same)

-- ---- by the fault

pub ended_by : (fault : Option PoolFault) (first plan : Plan) (rs : List Record) → ReducerEnds fault first plan rs → fault ≡ None → HasEnded plan
    × (plan ≡ follow (verdict_in rs) first)
ended_by fault first plan rs ends is = subst (λ (f : Option PoolFault). ReducerEnds f first plan rs) is ends

module _ (fault : Option PoolFault) (gate gate' journal journal' : ℕ) where
  abbrev Caused : Option PoolFault → Type 0
  Caused f = IsCaused f gate gate' journal journal'

  pub script_by : Caused fault → fault ≡ Some (Script 1) → Rose gate gate'
  script_by caused is = (subst Caused is caused).1

  pub number_by : Caused fault → (worker : ℕ) → fault ≡ Some (Script worker) → worker ≡ 1
  number_by caused worker is = (subst Caused is caused).0

  pub same_by : Caused fault → fault ≡ None → gate' ≡ gate
  same_by caused is = (subst Caused is caused).0

  pub rose_by : Caused fault → fault ≡ Some Journal → Rose journal journal'
  rose_by caused is = (subst Caused is caused).1

pub quiet_by : (fault : Option PoolFault) (gate gate' journal journal' : ℕ) → IsCaused fault gate gate' journal journal' → fault ≢ Some Journal
    → journal' ≡ journal
quiet_by None gate gate' journal journal' caused other = caused.1
quiet_by (Some (Script worker)) gate gate' journal journal' caused other = caused.2
quiet_by (Some Journal) gate gate' journal journal' caused other = absurd (other refl)
quiet_by (Some (Memory _)) gate gate' journal journal' caused other = caused.1

-- ---- one worker

module _ {S J G : Type 0} (plan : S → Plan) (log : G → Option Log) (gate_faults : G → ℕ) (put : J → Option Put) (faults : J → ℕ) (run : RunMembers)
    (outcome : Outcome S J) where
  abbrev Of : Worker G → Worker G → Type 0
  Of old new = IsOfOne plan log gate_faults put faults run outcome old new

  -- whose gate was asked in its place
  pub is_of_one : (workers : List (Worker G)) (e : Worker G) (gate' : G) → length workers ≡ 1
      → Of (slice_index_or workers 0 e) (gone_on gate' (slice_index_or workers 0 e))
      → (d : Worker G) → Of (slice_index_or workers 0 d) (slice_index_or (slice_set workers 0 (gone_on gate' (slice_index_or workers 0 e))) 0 d)
  is_of_one [] e gate' one is d = let no : ⊥ = omega (arith, one) in absurd no
  is_of_one (w ∷ workers) e gate' one is d = is
