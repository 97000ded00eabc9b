-- What a worker did, one step after another.
use Rattle.std.proofs.Common.{arith, ◌≡◌, ◌≢◌, ◌⊎◌, inl, inr, ⊎_elim, ◌≤◌, ◌++◌, [], ◌∷◌, ◌||◌, ℕ, List, Bool, true, false, Option, Some, None}
use Rattle.std.proofs.Common.{Result, Ok, Err, option_map, append-nil, append_assoc, length-append, refl, sym, ap, ◌∙◌, subst}
use Rattle.std.proofs.lemmas.Bool.{cases_lt}
use Rattle.faults.specs.Count.{Rose}
use Rattle.script_gate_trait.specs.declared.log.Log.{Log}
use Rattle.script_gate_trait.specs.declared.gate.GateFault.{GateFault}
use Rattle.script_gate_trait.specs.declared.gate.GateFault.TheVariants as gate
use Rattle.script_gate_trait.specs.Log.{with_asked}
use Rattle.ordered_commit.specs.declared.seat.Seat.{Seat}
use Rattle.ordered_commit.specs.Seats.{is_failure, with_claim, with_record, without_claim}
use Rattle.faults.specs.declared.Memory.{Memory as OutOfMemory}
use Rattle.reduce_step.specs.Plan.{Plan}
use Rattle.ordered_commit.specs.declared.take.Take.{Take}
use Rattle.ordered_commit.specs.declared.take.Take.TheVariants.{Work, NotYet, Done, Stopped}
use Rattle.ordered_commit.specs.BoardState.{BoardState}
use Rattle.ordered_commit.specs.TakeEnds.{TakeEnds}
use Rattle.worker_pool.specs.RunHistory.{with_all_asked}
use Rattle.worker_pool.specs.inner.Work.{HasWorked}

-- a count that rose, and then doesn't fall, rose
pub rose_on : (a b c : ℕ) → a ≤ b → b ≤ c → Rose a b → Rose a c
rose_on a b c low high (inl less) = inl (omega (arith, less, high))
rose_on a b c low high (inr last) = ⊎_elim (λ more. inl (omega (arith, low, more))) (λ less. inr (omega (arith, less, high, last))) (cases_lt b c)

pub rose_before : (a b c : ℕ) → a ≤ b → Rose b c → Rose a c
rose_before a b c low (inl less) = inl (omega (arith, less, low))
rose_before a b c low (inr last) = inr last

module _ (log : Option Log) (faults : ℕ) where
  -- nothing
  no_text : (o : Option Log) → o ≡ option_map (with_all_asked []) o
  no_text None = refl
  no_text (Some l) = ap (λ (ts : List (List ℕ)). Some (record l { asked = ts })) (sym (append-nil l.asked))

  pub worked_none : (seat : Seat) → HasWorked seat seat log log faults faults
  worked_none seat = record {
    worker = refl;
    texts = [];
    answered = no_text log;
    counted = omega arith;
    stays = λ is. is;
    count = omega arith;
    failed = λ is. inl is;
    quiet = λ _. refl;
  }

  -- a claim
  pub worked_claim : (claim : ℕ) (seat seat' : Seat) → seat' ≡ with_claim claim seat → HasWorked seat seat' log log faults faults
  worked_claim claim seat seat' is = subst (λ (s : Seat). HasWorked seat s log log faults faults) (sym is) (record {
    worker = refl;
    texts = [];
    answered = no_text log;
    counted = omega arith;
    stays = λ f. f;
    count = omega arith;
    failed = λ f. inl f;
    quiet = λ _. refl;
  })

  -- an answer that was recorded
  pub worked_record : (text : List ℕ) (seat seat' : Seat) (log' : Option Log) (faults' : ℕ) → seat' ≡ with_record seat → log' ≡ option_map (with_asked text) log
      → faults' ≡ faults → HasWorked seat seat' log log' faults faults'
  worked_record text seat seat' log' faults' is asked quiet = subst (λ (s : Seat). HasWorked seat s log log' faults faults') (sym is) (record {
    worker = refl;
    texts = text ∷ [];
    answered = asked;
    counted = omega arith;
    stays = λ f. f;
    count = omega (arith, quiet);
    failed = λ f. inl f;
    quiet = λ _. quiet;
  })

  -- a claim that was given up
  failed_or : (fault : GateFault) (failed : Bool) (faults' : ℕ) → (fault ≡ gate.Failed → Rose faults faults') → (failed || is_failure fault) ≡ true
      → (failed ≡ true) ⊎ Rose faults faults'
  failed_or gate.Failed failed faults' rose is = inr (rose refl)
  failed_or (gate.Memory _) true faults' rose is = inl refl
  failed_or (gate.Memory _) false faults' rose is = absurd (cc is)

  stays_so : (fault : GateFault) (failed : Bool) → failed ≡ true → (failed || is_failure fault) ≡ true
  stays_so fault true is = refl
  stays_so fault false is = absurd (cc is)

  not_so : (fault : GateFault) (failed : Bool) (faults' : ℕ) → (fault ≢ gate.Failed → faults' ≡ faults) → (failed || is_failure fault) ≡ false
      → faults' ≡ faults
  not_so gate.Failed true faults' quiet is = absurd (cc is)
  not_so gate.Failed false faults' quiet is = absurd (cc is)
  not_so (gate.Memory _) failed faults' quiet is = quiet (λ e. cc e)

  pub worked_give_up : (fault : GateFault) (seat seat' : Seat) (log' : Option Log) (faults' : ℕ) → seat' ≡ without_claim fault seat → log' ≡ log
      → faults ≤ faults' → (fault ≡ gate.Failed → Rose faults faults') → (fault ≢ gate.Failed → faults' ≡ faults)
      → HasWorked seat seat' log log' faults faults'
  worked_give_up fault seat seat' log' faults' is same count rose quiet = subst (λ (s : Seat). HasWorked seat s log log' faults faults') (sym is) (record {
    worker = refl;
    texts = [];
    answered = same ∙ no_text log;
    counted = omega arith;
    stays = stays_so fault seat.failed;
    count = count;
    failed = failed_or fault seat.failed faults' rose;
    quiet = not_so fault seat.failed faults' quiet;
  })

-- and then
more_texts : (o : Option Log) (one two : List (List ℕ))
    → option_map (with_all_asked two) (option_map (with_all_asked one) o) ≡ option_map (with_all_asked (one ++ two)) o
more_texts None one two = refl
more_texts (Some l) one two = ap (λ (ts : List (List ℕ)). Some (record l { asked = ts })) (append_assoc l.asked one two)

was_not : (b c : Bool) → (b ≡ true → c ≡ true) → c ≡ false → b ≡ false
was_not true c stays is = absurd (cc (sym (stays refl) ∙ is))
was_not false c stays is = refl

pub worked_then : (a b c : Seat) (l m n : Option Log) (f g h : ℕ) → HasWorked a b l m f g → HasWorked b c m n g h → HasWorked a c l n f h
worked_then a b c l m n f g h one two = record {
  worker = two.worker ∙ one.worker;
  texts = one.texts ++ two.texts;
  answered = two.answered ∙ ap (option_map (with_all_asked two.texts)) one.answered ∙ more_texts l one.texts two.texts;
  counted = let x = one.counted in let y = two.counted in omega (arith, x, y, length-append one.texts two.texts);
  stays = λ is. two.stays (one.stays is);
  count = let x = one.count in let y = two.count in omega (arith, x, y);
  failed = λ is. ⊎_elim
      (λ before. ⊎_elim (λ first. inl first) (λ rose. inr (rose_on f g h one.count two.count rose)) (one.failed before))
      (λ rose. inr (rose_before f g h one.count rose))
      (two.failed is);
  quiet = λ is. two.quiet is ∙ one.quiet (was_not b.failed c.failed two.stays is);
}

-- a take asks nothing
pub taken_worked : {S J : Type 0} (plan : S → Plan) (old new : BoardState S J) (seat seat' : Seat) (log : Option Log) (faults : ℕ)
    (result : Result Take OutOfMemory) → TakeEnds plan result seat seat' old new → HasWorked seat seat' log log faults faults
taken_worked plan old new seat seat' log faults (Ok Stopped) ends =
    subst (λ (s : Seat). HasWorked seat s log log faults faults) (sym ends.1) (worked_none log faults seat)
taken_worked plan old new seat seat' log faults (Ok Done) ends =
    subst (λ (s : Seat). HasWorked seat s log log faults faults) (sym ends.2) (worked_none log faults seat)
taken_worked plan old new seat seat' log faults (Ok NotYet) ends =
    subst (λ (s : Seat). HasWorked seat s log log faults faults) (sym ends.1) (worked_none log faults seat)
taken_worked plan old new seat seat' log faults (Ok (Work permit)) ends = worked_claim log faults permit.claim seat seat' ends.of_worker
taken_worked plan old new seat seat' log faults (Err memory) ends =
    subst (λ (s : Seat). HasWorked seat s log log faults faults) (sym ends.2) (worked_none log faults seat)
