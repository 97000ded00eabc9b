-- What each worker did, by what its seat says at the end.
use Rattle.std.proofs.Common.{arith, ◌≡◌, ◌⊎◌, inl, inr, ⊎_elim, ◌+◌, ◌<◌, ◌≤◌, ℕ, zero, suc, List, [], ◌∷◌, All, Bool, true, false, cond, eqb-true}
use Rattle.std.proofs.Common.{nat_eq, Option, Some, None, length, map, option_map, slice_index_or, slice_set, refl, sym, ap, ◌∙◌, subst}
use Rattle.std.proofs.lemmas.List.{length-map}
use Rattle.std.specs.List.{range_with_len}
use Rattle.std.specs.Option.{IsSomeAnd}
use Rattle.faults.specs.Count.{Rose}
use Rattle.faults.specs.Memory.{ran_out}
use Rattle.script_gate_trait.specs.declared.log.Log.{Log}
use Rattle.verdict_table.specs.declared.record.Record.{Record}
use Rattle.verdict_table.specs.TableState.{texts_of}
use Rattle.reduce_journal.specs.History.{History, asked_records_of}
use Rattle.ordered_commit.specs.declared.fault.PoolFault.{PoolFault}
use Rattle.ordered_commit.specs.declared.fault.PoolFault.TheVariants.{Memory, Script}
use Rattle.ordered_commit.specs.declared.seat.Seat.{Seat}
use Rattle.ordered_commit.specs.Kept.{IsOfWorker}
use Rattle.ordered_commit.specs.Seats.{Agrees, new_seat, new_seats, seat_of}
use Rattle.ordered_commit.proofs.Lent.{new_counted, new_length, new_numbered}
use Rattle.worker_pool.specs.RunHistory.{with_all_asked}
use Rattle.worker_pool.proofs.EndLemmas.{none_asked}
use Rattle.worker_pool.specs.declared.worker.Worker.{Worker}
use Rattle.worker_pool.specs.Ends.{AreDone, IsDone}
use Rattle.worker_pool.specs.inner.Ends.{HasDone}
use Rattle.worker_pool.proofs.PoolLemmas.{new_empty, numbers}
use Rattle.worker_pool.proofs.RunLemmas.{Unfailed, own_unfailed}

abbrev pub records_made : List Seat → List ℕ
records_made seats = map (λ s. s.records) seats

pub records_at : (seats : List Seat) (i : ℕ) (e : Seat) → i < length seats → slice_index_or (records_made seats) i 0 ≡ (slice_index_or seats i e).records
records_at [] i e less = let no : ⊥ = omega (arith, less) in absurd no
records_at (s ∷ seats) zero e less = refl
records_at (s ∷ seats) (suc i) e less = records_at seats i e (omega (arith, less))

-- seats that are numbered in order, one by one
worker_at : (seats : List Seat) (k i : ℕ) (e : Seat) → numbers seats ≡ range_with_len k (length seats) → i < length seats
    → (slice_index_or seats i e).worker ≡ k + i
worker_at [] k i e is less = let no : ⊥ = omega (arith, less) in absurd no
worker_at (s ∷ seats) k zero e is less = let here : s.worker ≡ k = cc is in omega (arith, here)
worker_at (s ∷ seats) k (suc i) e is less =
    let tail : numbers seats ≡ range_with_len (k + 1) (length seats) = cc is in
    let later = worker_at seats (k + 1) i e tail (omega (arith, less)) in
    omega (arith, later)

pub new_worker : (seats : List Seat) (n i : ℕ) (e : Seat) → seats ≡ new_seats n → i < n → (slice_index_or seats i e).worker ≡ suc i
new_worker seats n i e is less =
    let numbered : numbers (new_seats n) ≡ range_with_len 1 (length (new_seats n)) = new_numbered n ∙ ap (range_with_len 1) (sym (new_length n)) in
    let within : i < length (new_seats n) = subst (λ (m : ℕ). i < m) (sym (new_length n)) less in
    let at = worker_at (new_seats n) 1 i e numbered within in
    ap (λ (ss : List Seat). (slice_index_or ss i e).worker) is ∙ omega (arith, at)

-- a script's fault is that of a worker whose ask failed
pub failed_at : (fault : Option PoolFault) (seats : List Seat) (seat : Seat) (worker : ℕ) → IsOfWorker fault seats → Agrees seats seat → seat.worker ≡ worker
    → fault ≡ Some (Script worker) → seat.failed ≡ true
failed_at fault seats seat worker of_worker agrees same is =
    let at : seat_of worker seats ≡ Some seat = subst (λ (n : ℕ). seat_of n seats ≡ Some seat) same agrees in
    subst (λ (o : Option Seat). IsSomeAnd o (λ (s : Seat). s.failed ≡ true)) at (of_worker worker is)

-- the worker, with its gate as it is then
abbrev pub gone_on : {G : Type 0} → G → Worker G → Worker G
gone_on gate w = record { gate = gate; number = w.number; seat = w.seat }

-- a worker that is found among numbered ones has one of their numbers
found_or : (b : Bool) (s : Seat) (rest : Option Seat) → IsSomeAnd (cond b (Some s) rest) (λ t. t.failed ≡ true) → (b ≡ true)
    ⊎ IsSomeAnd rest (λ t. t.failed ≡ true)
found_or true s rest some = inl refl
found_or false s rest some = inr some

number_within : (worker k : ℕ) (seats : List Seat) → numbers seats ≡ range_with_len k (length seats) → IsSomeAnd (seat_of worker seats) (λ s. s.failed ≡ true)
    → (k ≤ worker) × (worker < k + length seats)
number_within worker k [] is some = absurd some
number_within worker k (s ∷ seats) is some =
    let here : s.worker ≡ k = cc is in
    let tail : numbers seats ≡ range_with_len (k + 1) (length seats) = cc is in
    ⊎_elim
    (λ e. let same : s.worker ≡ worker = eqb-true s.worker worker e in (omega (arith, here, same), omega (arith, here, same)))
    (λ some. let later = number_within worker (k + 1) seats tail some in let low = later.0 in let high = later.1 in (omega (arith, low), omega (arith, high)))
    (found_or (nat_eq s.worker worker) s (seat_of worker seats) some)

pub named_by : (fault : Option PoolFault) (seats : List Seat) (n worker : ℕ) → numbers seats ≡ range_with_len 1 (length seats) → length seats ≡ n
    → IsOfWorker fault seats → fault ≡ Some (Script worker) → (1 ≤ worker) × (worker ≤ n)
named_by fault seats n worker numbered as_many of_worker is =
    let within = number_within worker 1 seats numbered (of_worker worker is) in
    let high = within.1 in
    (within.0, omega (arith, high, as_many))

module _ {G : Type 0} (log : G → Option Log) (faults : G → ℕ) where
  -- one of several workers
  pub each_done : (fault : Option PoolFault) (begun seats board : List Seat) (n i : ℕ) (e : Seat) (old new : Worker G) → begun ≡ new_seats n → length seats ≡ n
      → i < n → HasDone log faults (slice_index_or begun i e).worker (slice_index_or seats i e) old new
      → IsOfWorker fault board → (fault ≡ None → Unfailed board) → All (Agrees board) seats
      → IsDone log faults fault (suc i) (slice_index_or (records_made seats) i 0) old new
  each_done fault begun seats board n i e old new from as_many less done of_worker unfailed agree =
      let within : i < length seats = subst (λ (m : ℕ). i < m) (sym as_many) less in
      let worker = done.same_worker ∙ new_worker begun n i e from less in
      record {
        number = done.number;
        unseated = done.unseated;
        answered =
            record { texts = done.answered.texts; counted = done.answered.counted ∙ sym (records_at seats i e within); answered = done.answered.answered };
        quiet = λ none. done.quiet (own_unfailed (slice_index_or seats i e) board (agree i e within) (unfailed none));
        failed = λ is. done.failed (failed_at fault board (slice_index_or seats i e) (suc i) of_worker (agree i e within) worker is);
      }

  -- nobody did anything
  none_at : (workers : List (Worker G)) (i : ℕ) (d : Worker G) → i < length workers → (slice_index_or workers i d).seat ≡ None
      → IsDone log faults (Some (Memory ran_out)) (suc i) (slice_index_or (records_made (new_seats (length workers))) i 0) (slice_index_or workers i d)
      (slice_index_or workers i d)
  none_at workers i d less unseated =
      let n = length workers in
      let within : i < length (new_seats n) = subst (λ (m : ℕ). i < m) (sym (new_length n)) less in
      let none : slice_index_or (records_made (new_seats n)) i 0 ≡ 0 = records_at (new_seats n) i (new_seat 0) within ∙ (new_empty n i (new_seat 0) within).0 in
      record {
        number = refl;
        unseated = unseated;
        answered = record { texts = []; counted = sym none; answered = none_asked (log (slice_index_or workers i d).gate) };
        failed = λ is. absurd (cc is);
        quiet = λ is. absurd (cc is);
      }

  pub none_done : (workers : List (Worker G)) (history : History) → history ≡ [] → All (λ w. w.seat ≡ None) workers
      → AreDone log faults (Some (Memory ran_out)) history workers workers
  none_done workers history none unseated = record {
    counts = records_made (new_seats (length workers));
    one_each = length-map (new_seats (length workers)) (λ (s : Seat). s.records) ∙ new_length (length workers);
    lengths = refl;
    each = λ i d less. none_at workers i d less (unseated i d less);
    total = new_counted (length workers) ∙ ap (λ (h : History). length (asked_records_of h)) (sym none);
    named = λ worker is. absurd (cc is);
  }

  -- the only worker
  module _ (fault : Option PoolFault) (records : List Record) (gate' : G) where
    only_at : (w : Worker G) (i : ℕ) (d : Worker G) → w.seat ≡ None → log gate' ≡ option_map (with_all_asked (texts_of records)) (log w.gate)
        → (fault ≡ Some (Script 1) → Rose (faults w.gate) (faults gate')) → (fault ≡ None → faults gate' ≡ faults w.gate)
        → i < 1 → IsDone log faults fault (suc i) (slice_index_or (length records ∷ []) i 0) (slice_index_or (w ∷ []) i d)
        (slice_index_or (gone_on gate' w ∷ []) i d)
    only_at w zero d unseated asked rose quiet less = record {
      number = refl;
      unseated = unseated;
      answered = record { texts = texts_of records; counted = length-map records (λ (r : Record). r.text); answered = asked };
      failed = rose;
      quiet = quiet;
    }
    only_at w (suc i) d unseated asked rose quiet less = let no : ⊥ = omega (arith, less) in absurd no

    pub only_done : (workers : List (Worker G)) (d : Worker G) (history : History) → asked_records_of history ≡ records → length workers ≡ 1
        → All (λ w. w.seat ≡ None) workers
        → log gate' ≡ option_map (with_all_asked (texts_of records)) (log (slice_index_or workers 0 d).gate)
        → (fault ≡ Some (Script 1) → Rose (faults (slice_index_or workers 0 d).gate) (faults gate'))
        → (fault ≡ None → faults gate' ≡ faults (slice_index_or workers 0 d).gate) → ((worker : ℕ) → fault ≡ Some (Script worker) → worker ≡ 1)
        → AreDone log faults fault history workers (slice_set workers 0 (gone_on gate' (slice_index_or workers 0 d)))
    only_done [] d history is one unseated asked rose quiet first = let no : ⊥ = omega (arith, one) in absurd no
    only_done (w ∷ []) d history is one unseated asked rose quiet first = record {
      counts = length records ∷ [];
      one_each = refl;
      lengths = refl;
      each = λ i b less. only_at w i b (unseated 0 w (omega arith)) asked rose quiet less;
      total = omega (arith, ap length is);
      named = λ worker by. let number = first worker by in (omega (arith, number), omega (arith, number));
    }
    only_done (w ∷ v ∷ workers) d history is one unseated asked rose quiet first = let no : ⊥ = omega (arith, one) in absurd no
