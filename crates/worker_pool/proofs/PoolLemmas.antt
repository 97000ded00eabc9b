-- What all workers did, one by one.
use Rattle.std.proofs.Common.{arith, ◌≡◌, ◌≢◌, ⊎_elim, ◌<◌, ◌++◌, ℕ, zero, suc, List, [], ◌∷◌, All, false, Option, Some, None, drop}
use Rattle.std.proofs.Common.{length, map, take, nat_eq, slice_index_or, slice_set, refl, sym, ap, ◌∙◌, subst}
use Rattle.std.proofs.lemmas.Cmp.{nat_eq_equiv}
use Rattle.std.proofs.lemmas.List.Elements.{All-cons, All-head, All-nil, All-push, All-tail}
use Rattle.std.proofs.lemmas.List.Sorted.{IsPermutation-refl}
use Rattle.std.proofs.lemmas.Map.Keys.{IsDistinct-head}
use Rattle.std.specs.List.{AllByRecursion, IsDistinct, range_with_len}
use Rattle.std.specs.List.Sorted.{IsPermutation}
use Rattle.script_gate_trait.specs.declared.log.Log.{Log}
use Rattle.ordered_commit.specs.declared.seat.Seat.{Seat}
use Rattle.ordered_commit.specs.Seats.{Agrees, AreFreeSeats, SameForOthers, new_seat, new_seats}
use Rattle.ordered_commit.proofs.Lent.{all_agree, workers_apart}
use Rattle.worker_pool.specs.declared.worker.Worker.{Worker}
use Rattle.worker_pool.specs.inner.Work.{HasWorked}
use Rattle.worker_pool.specs.inner.Ends.{GoesOn, HasDone, HasWorkedFrom, IsBrought, IsLeft, IsTaken}
use Rattle.worker_pool.proofs.FinishLemmas.{same_seats}
use Rattle.worker_pool.proofs.WorkLemmas.{worked_none, worked_then}

abbrev pub numbers : List Seat → List ℕ
numbers seats = map (λ s. s.worker) seats

-- ---- lists of seats

-- element by element
pub same_numbers : (xs ys : List Seat) → length xs ≡ length ys
    → ((i : ℕ) (e : Seat) → i < length xs → (slice_index_or xs i e).worker ≡ (slice_index_or ys i e).worker) → numbers xs ≡ numbers ys
same_numbers [] [] lengths each = refl
same_numbers [] (y ∷ ys) lengths each = let no : ⊥ = omega (arith, lengths) in absurd no
same_numbers (x ∷ xs) [] lengths each = let no : ⊥ = omega (arith, lengths) in absurd no
same_numbers (x ∷ xs) (y ∷ ys) lengths each =
    let head : x.worker ≡ y.worker = each 0 x (omega arith) in
    let tail = same_numbers xs ys (omega (arith, lengths)) (λ i e less. each (suc i) e (omega (arith, less))) in
    (λ i. head i ∷ tail i)

-- seats that were brought back are the board's
pub are_of_board : (seats given : List Seat) (n : ℕ) → numbers seats ≡ range_with_len 1 (length seats) → length seats ≡ n → numbers given ≡ range_with_len 1 n
    → All (Agrees seats) given → seats ≡ given
are_of_board seats given n numbered as_many given_numbered agree =
    same_seats seats seats given (numbered ∙ ap (range_with_len 1) as_many ∙ sym given_numbered) (all_agree seats (workers_apart seats numbered)) agree

not_same : (w v : ℕ) → nat_eq w v ≡ false → v ≢ w
not_same w v apart is = absurd (cc (sym (ap (nat_eq w) is ∙ nat_eq_equiv.refl w) ∙ apart))

others_agree : (w : ℕ) (old new : List Seat) (given : List Seat) → AllByRecursion (λ y. nat_eq w y ≡ false) (numbers given) → SameForOthers w old new
    → All (Agrees old) given → All (Agrees new) given
others_agree w old new [] apart same agree = All-nil (Agrees new)
others_agree w old new (s ∷ given) apart same agree =
    All-cons (Agrees new) s given
    (same s.worker (not_same w s.worker apart.0) ∙ All-head (Agrees old) s given agree)
    (others_agree w old new given apart.1 same (All-tail (Agrees old) s given agree))

-- the first of them changed
pub first_changed : (old new given : List Seat) (n : ℕ) (e : Seat) (seat' : Seat) → 0 < length given → numbers old ≡ range_with_len 1 (length old)
    → length old ≡ n → numbers new ≡ range_with_len 1 (length new) → length new ≡ n
    → numbers given ≡ range_with_len 1 n → All (Agrees old) given → All (λ s. s.claim ≡ None) given
    → seat'.worker ≡ (slice_index_or given 0 e).worker → Agrees new seat' → SameForOthers (slice_index_or given 0 e).worker old new → seat'.claim ≡ None
    → AreFreeSeats new (slice_set given 0 seat')
first_changed old new [] n e seat' some old_numbered old_many new_numbered new_many given_numbered agree free same agrees others own = let no : ⊥ =
    omega (arith, some) in absurd no
first_changed old new (s ∷ given) n e seat' some old_numbered old_many new_numbered new_many given_numbered agree free same agrees others own =
    let apart : IsDistinct nat_eq (numbers (s ∷ given)) =
    subst (IsDistinct nat_eq) (old_numbered ∙ ap (range_with_len 1) old_many ∙ sym given_numbered) (workers_apart old old_numbered) in
    let number : numbers new ≡ numbers (seat' ∷ given) =
    new_numbered ∙ ap (range_with_len 1) new_many ∙ sym given_numbered ∙ ap (λ (w : ℕ). w ∷ numbers given) (sym same) in
    record {
      one_each = subst (λ (ns : List ℕ). IsPermutation (numbers new) ns) number (IsPermutation-refl (numbers new));
      agree =
          All-cons (Agrees new) seat' given agrees
          (others_agree s.worker old new given (IsDistinct-head nat_eq s.worker (numbers given) apart) others (All-tail (Agrees old) s given agree));
      free = All-cons (λ (t : Seat). t.claim ≡ None) seat' given own (All-tail (λ (t : Seat). t.claim ≡ None) s given free);
    }

-- new seats
pub new_empty : (n : ℕ) → All (λ s. (s.records ≡ 0) × (s.failed ≡ false)) (new_seats n)
new_empty zero = All-nil (λ (s : Seat). (s.records ≡ 0) × (s.failed ≡ false))
new_empty (suc n) = All-push (λ (s : Seat). (s.records ≡ 0) × (s.failed ≡ false)) (new_seats n) (new_seat (suc n)) (new_empty n) (refl, refl)

-- ---- workers

one_last : (a b : Seat) → Some a ≡ Some b → a ≡ b
one_last a b is = cc is

module _ {G : Type 0} (log : G → Option Log) (faults : G → ℕ) where
  still : (seat : Seat) (worker : Worker G) → GoesOn log faults seat seat worker worker
  still seat worker = record { number = refl; same_seat = refl; worked = worked_none (log worker.gate) (faults worker.gate) seat }

  -- the first one went on
  pub first_goes_on : (seats : List Seat) (workers : List (Worker G)) (e : Seat) (d : Worker G) (seat' : Seat) (gate' : G) → 0 < length seats
      → length workers ≡ length seats
      → HasWorked (slice_index_or seats 0 e) seat' (log (slice_index_or workers 0 d).gate) (log gate') (faults (slice_index_or workers 0 d).gate) (faults gate')
      → (i : ℕ) (b : Worker G) (a : Seat) → i < length workers
      → GoesOn log faults (slice_index_or seats i a) (slice_index_or (slice_set seats 0 seat') i a) (slice_index_or workers i b)
      (slice_index_or (slice_set workers 0 (record { gate = gate'; number = (slice_index_or workers 0 d).number; seat = (slice_index_or workers 0 d).seat })) i
      b)
  first_goes_on [] workers e d seat' gate' some lengths worked i b a less = let no : ⊥ = omega (arith, some) in absurd no
  first_goes_on (s ∷ seats) [] e d seat' gate' some lengths worked i b a less = let no : ⊥ = omega (arith, less) in absurd no
  first_goes_on (s ∷ seats) (w ∷ workers) e d seat' gate' some lengths worked zero b a less = record { number = refl; same_seat = refl; worked = worked }
  first_goes_on (s ∷ seats) (w ∷ workers) e d seat' gate' some lengths worked (suc i) b a less = still (slice_index_or seats i a) (slice_index_or workers i b)

  -- a seat was taken back, and then its worker went on
  pub taken : (seat seat' : Seat) (old mid new : Worker G) → IsLeft old mid → old.seat ≡ Some seat → GoesOn log faults seat seat' mid new
      → IsTaken log faults seat' old new
  taken seat seat' old mid new left had goes = record {
    number = goes.number ∙ ap (λ (w : Worker G). w.number) left;
    unseated = goes.same_seat ∙ ap (λ (w : Worker G). w.seat) left;
    last = seat;
    had = had;
    worked = subst (λ (g : G). HasWorked seat seat' (log g) (log new.gate) (faults g) (faults new.gate)) (ap (λ (w : Worker G). w.gate) left) goes.worked;
  }

  pub brought : (seat : Seat) (old new : Worker G) → HasWorkedFrom log faults seat old new → IsBrought seat new
  brought seat old new from = record { last = from.last; has = from.has; same = from.worked.worker; free = from.free }

  -- all that a worker did
  pub done : (seat seat' : Seat) (old mid new : Worker G) → (seat.records ≡ 0) × (seat.failed ≡ false) → HasWorkedFrom log faults seat old mid
      → IsTaken log faults seat' mid new → HasDone log faults seat.worker seat' old new
  done seat seat' old mid new empty from taken =
      let same : from.last ≡ taken.last = one_last from.last taken.last (sym from.has ∙ taken.had) in
      let later : HasWorked from.last seat' (log mid.gate) (log new.gate) (faults mid.gate) (faults new.gate) =
      subst (λ (s : Seat). HasWorked s seat' (log mid.gate) (log new.gate) (faults mid.gate) (faults new.gate)) (sym same) taken.worked in
      let all =
      worked_then seat from.last seat' (log old.gate) (log mid.gate) (log new.gate) (faults old.gate) (faults mid.gate) (faults new.gate) from.worked later in
      record {
        same_worker = all.worker;
        number = taken.number ∙ from.number;
        unseated = taken.unseated;
        answered = record { texts = all.texts; counted = let n = all.counted in let z = empty.0 in omega (arith, n, z); answered = all.answered };
        failed = λ is. ⊎_elim (λ before. absurd (cc (sym empty.1 ∙ before))) (λ rose. rose) (all.failed is);
        quiet = all.quiet;
      }

-- ---- seats that are taken back are those that the workers had

module _ {G : Type 0} (seats seats' : List Seat) (workers : List (Worker G)) (as_many : length workers ≡ length seats) (so_many : length seats' ≡ length seats)
    (had : (i : ℕ) (d : Worker G) (e : Seat) → i < length workers → IsBrought (slice_index_or seats i e) (slice_index_or workers i d))
    (back : (i : ℕ) (d : Worker G) (e : Seat) → i < length workers → (slice_index_or workers i d).seat ≡ Some (slice_index_or seats' i e)) where
  some_worker : (ws : List (Worker G)) (i : ℕ) → i < length ws → Worker G
  some_worker [] i less = let no : ⊥ = omega (arith, less) in absurd no
  some_worker (w ∷ ws) i less = w

  within : (i : ℕ) → i < length seats' → i < length workers
  within i less = subst (λ (n : ℕ). i < n) (so_many ∙ sym as_many) less

  same_seat : (i : ℕ) (e : Seat) (less : i < length workers) (d : Worker G) → (had i d e less).last ≡ slice_index_or seats' i e
  same_seat i e less d = one_last (had i d e less).last (slice_index_or seats' i e) (sym (had i d e less).has ∙ back i d e less)

  pub back_numbers : numbers seats' ≡ numbers seats
  back_numbers = same_numbers seats' seats so_many (λ i e less.
      let at = within i less in
      let d = some_worker workers i at in
      ap (λ (s : Seat). s.worker) (sym (same_seat i e at d)) ∙ (had i d e at).same)

  pub back_free : All (λ s. s.claim ≡ None) seats'
  back_free = λ i e less.
      let at = within i less in
      let d = some_worker workers i at in
      ap (λ (s : Seat). s.claim) (sym (same_seat i e at d)) ∙ (had i d e at).free

-- ---- a vector whose slice was lent

take_lent : (xs ys : List Seat) → length ys ≡ length xs → take (length xs) (xs ++ drop (length xs) ys) ≡ xs
take_lent [] [] same = refl
take_lent [] (y ∷ ys) same = refl
take_lent (x ∷ xs) [] same = let no : ⊥ = omega (arith, same) in absurd no
take_lent (x ∷ xs) (y ∷ ys) same = ap (λ (zs : List Seat). x ∷ zs) (take_lent xs ys (omega (arith, same)))

pub lent : (xs ys : List Seat) (n : ℕ) → length ys ≡ n → length xs ≡ n → take n (xs ++ drop (length xs) ys) ≡ xs
lent xs ys n old new = subst (λ (m : ℕ). take m (xs ++ drop (length xs) ys) ≡ xs) new (take_lent xs ys (old ∙ sym new))
