-- The gates of the workers are opened one after another.
use Rattle.std.proofs.Common.{◌≡◌, ◌≤◌, ◌<◌, ◌+◌, ◌∙◌, arith, ℕ, zero, suc, List, [], ◌∷◌, Option, None, get_or, length, set, refl, sym, ap, subst}
use Rattle.std.proofs.lemmas.List.{get_or-map, length-map, length-set, map-set}
use Rattle.std.proofs.lemmas.List.Elements.{All-get_or, All-set}
use Rattle.std.proofs.lemmas.List.FromFn.{get_or-range_with_len}
use Rattle.std.proofs.Math.Seq.{map-set_same}
use Rattle.std.specs.List.{range_with_len}
use Rattle.faults.specs.Count.{Rose}
use Rattle.script_gate_trait.specs.declared.gate.GateFault.{GateFault}
use Rattle.script_gate_trait.specs.declared.gate.GateFault.TheVariants.{Failed, Memory}
use Rattle.script_gate_trait.specs.declared.log.Log.{Log}
use Rattle.command_words.specs.Commands.{ReduceOptions}
use Rattle.run_gated.specs.Seen.{AreQuiet, fault_counts_of, logs_of, seen, seen_gates}
use Rattle.run_gated.specs.Workers.{AreIdle, RoseAtIndex}
use Rattle.run_gated.proofs.Lent.{counts_seen, logs_seen, worker_faults, worker_logs}
use Rattle.worker_pool.specs.declared.worker.Worker.{Worker}
use Rattle.command_reduce_calls.specs.inner.Calls.{OpenFails}
use Rattle.command_reduce_calls.specs.Openings.{GateRefused, OpenFailed, opened_from, opened_log}

-- the next log
next_opened : (options : ReduceOptions) (number i at : ℕ) (d : Option Log) (logs : List (Option Log)) → at ≡ number + i → i < length logs →
    set (opened_from options number i logs) i (opened_log options at (get_or (opened_from options number i logs) i d)) ≡ opened_from options number (suc i) logs
next_opened options number zero at d [] is less = let no : ⊥ = omega (arith, less) in absurd no
next_opened options number zero at d (log ∷ logs) is less = let same : at ≡ number = omega (arith, is) in ap (λ (n : ℕ). opened_log options n log ∷ logs) same
next_opened options number (suc i) at d [] is less = let no : ⊥ = omega (arith, less) in absurd no
next_opened options number (suc i) at d (log ∷ logs) is less =
    ap (λ (ls : List (Option Log)). opened_log options number log ∷ ls) (next_opened options (suc number) i at d logs (omega (arith, is)) (omega (arith, less)))

-- all logs
pub all_opened : (options : ReduceOptions) (number n : ℕ) (logs : List (Option Log)) → length logs ≤ n
    → opened_from options number n logs ≡ opened_from options number (length logs) logs
all_opened options number zero [] many = refl
all_opened options number zero (log ∷ logs) many = let no : ⊥ = omega (arith, many) in absurd no
all_opened options number (suc n) [] many = refl
all_opened options number (suc n) (log ∷ logs) many =
    ap (λ (ls : List (Option Log)). opened_log options number log ∷ ls) (all_opened options (suc number) n logs (omega (arith, many)))

-- the count at an index rose, and no other
rose_at_set : (counts : List ℕ) (i count' d : ℕ) → i < length counts → Rose (get_or counts i d) count' → RoseAtIndex counts (set counts i count') i
rose_at_set [] i count' d less rose = let no : ⊥ = omega (arith, less) in absurd no
rose_at_set (count ∷ counts) zero count' d less rose = rose
rose_at_set (count ∷ counts) (suc i) count' d less rose = rose_at_set counts i count' d (omega (arith, less)) rose

module _ {G : Type 0} (log : G → Option Log) (faults : G → ℕ) (options : ReduceOptions) where
  -- The gates of so many workers were opened, and the others are as before.
  pub record AreOpened (opened : ℕ) (old new : List (Worker G)) : Type 0 where
    pub idle : AreIdle new
    pub as_many : length new ≡ length old
    pub logs : worker_logs log new ≡ opened_from options 1 opened (worker_logs log old)
    pub quiet : worker_faults faults new ≡ worker_faults faults old

  pub none_opened : (old : List (Worker G)) → AreIdle old → AreOpened 0 old old
  none_opened old idle = record { idle = idle; as_many = refl; logs = refl; quiet = refl }

  -- a worker of the same number and without a seat
  same_idle : (workers : List (Worker G)) (i : ℕ) (d worker : Worker G) → AreIdle workers → i < length workers → worker.number ≡ (get_or workers i d).number
      → worker.seat ≡ (get_or workers i d).seat → AreIdle (set workers i worker)
  same_idle workers i d worker idle less number seat =
      let len : length (set workers i worker) ≡ length workers = length-set workers i worker in
      record {
        some = subst (λ (n : ℕ). 1 ≤ n) (sym len) idle.some;
        few = subst (λ (n : ℕ). n ≤ 16) (sym len) idle.few;
        numbered = map-set_same (λ (w : Worker G). w.number) workers i worker d number ∙ idle.numbered ∙ ap (range_with_len 1) (sym len);
        unseated =
            All-set (λ (w : Worker G). w.seat ≡ None) workers i worker
            (seat ∙ All-get_or (λ (w : Worker G). w.seat ≡ None) workers i d less idle.unseated) idle.unseated;
      }

  -- the number of a worker
  number_at : (workers : List (Worker G)) (i : ℕ) (d : Worker G) → AreIdle workers → i < length workers → (get_or workers i d).number ≡ suc i
  number_at workers i d idle less =
      let is : (get_or workers i d).number ≡ 1 + i =
      sym (get_or-map (λ (w : Worker G). w.number) workers i d d.number less) ∙ ap (λ (ns : List ℕ). get_or ns i d.number) idle.numbered
      ∙ get_or-range_with_len 1 (length workers) i d.number less in
      omega (arith, is)

  -- one gate more
  pub one_opened : (old new : List (Worker G)) (i : ℕ) (d worker : Worker G) → AreOpened i old new → i < length new → worker.number ≡ (get_or new i d).number
      → worker.seat ≡ (get_or new i d).seat
      → log worker.gate ≡ opened_log options (get_or new i d).number (log (get_or new i d).gate) → faults worker.gate ≡ faults (get_or new i d).gate
      → AreOpened (i + 1) old (set new i worker)
  one_opened old new i d worker are less number seat opened quiet =
      let at : Worker G → Option Log = λ w. log w.gate in
      let more : suc i ≡ i + 1 = omega arith in
      let next : (get_or new i d).number ≡ 1 + i = let is = number_at new i d are.idle less in omega (arith, is) in
      let within : i < length (worker_logs log old) = let len = length-map old at in let many = are.as_many in omega (arith, less, len, many) in
      let before : log (get_or new i d).gate ≡ get_or (opened_from options 1 i (worker_logs log old)) i (at d) =
      sym (get_or-map at new i d (at d) less) ∙ ap (λ (ls : List (Option Log)). get_or ls i (at d)) are.logs in
      record {
        idle = same_idle new i d worker are.idle less number seat;
        as_many = length-set new i worker ∙ are.as_many;
        logs = map-set at new i worker ∙ ap (set (worker_logs log new) i) (opened ∙ ap (opened_log options (get_or new i d).number) before)
            ∙ ap (λ (ls : List (Option Log)). set ls i
            (opened_log options (get_or new i d).number (get_or (opened_from options 1 i (worker_logs log old)) i (at d)))) are.logs
            ∙ next_opened options 1 i (get_or new i d).number (at d) (worker_logs log old) next within
            ∙ ap (λ (n : ℕ). opened_from options 1 n (worker_logs log old)) more;
        quiet = map-set_same (λ (w : Worker G). faults w.gate) new i worker d quiet ∙ are.quiet;
      }

  abbrev count : Worker G → ℕ
  count w = faults w.gate

  -- a gate that wasn't opened
  pub refused_idle : (old new : List (Worker G)) (i : ℕ) (d worker : Worker G) → AreOpened i old new → i < length new → worker.number ≡ (get_or new i d).number
      → worker.seat ≡ (get_or new i d).seat → AreIdle (set new i worker)
  refused_idle old new i d worker are less number seat = same_idle new i d worker are.idle less number seat

  -- what the gates show that were opened
  pub opened_seen : (old new : List (Worker G)) (opened : ℕ) → worker_logs log new ≡ opened_from options 1 opened (worker_logs log old)
      → logs_of (seen_gates log faults new) ≡ opened_from options 1 opened (logs_of (seen_gates log faults old))
  opened_seen old new opened is = logs_seen log faults new ∙ is ∙ ap (opened_from options 1 opened) (sym (logs_seen log faults old))

  pub quiet_seen : (old new : List (Worker G)) → worker_faults faults new ≡ worker_faults faults old
      → AreQuiet (seen_gates log faults old) (seen_gates log faults new)
  quiet_seen old new is = counts_seen log faults new ∙ is ∙ sym (counts_seen log faults old)

  pub gate_refused : (old new : List (Worker G)) (i : ℕ) (d worker : Worker G) (number : ℕ) (fault : GateFault) → AreOpened i old new → i < length new
      → number ≡ (get_or new i d).number
      → log worker.gate ≡ log (get_or new i d).gate → OpenFails (faults (get_or new i d).gate) (faults worker.gate) fault
      → GateRefused options (seen_gates log faults old) (seen_gates log faults (set new i worker)) (record { worker = number; fault = fault })
  gate_refused old new i d worker number fault are less same kept why = record {
    opened = i;
    at = is_next;
    one_of = let len = length-map old (λ (w : Worker G). seen log faults w.gate) in let many = are.as_many in let is =
        is_next in omega (arith, less, len, many, is);
    before = opened_seen old (set new i worker) i (map-set_same (λ (w : Worker G). log w.gate) new i worker d kept ∙ are.logs);
    fault = at fault why;
  }
    where
      is_next : number ≡ suc i
      is_next = same ∙ number_at new i d are.idle less

      at : (fault : GateFault) → OpenFails (faults (get_or new i d).gate) (faults worker.gate) fault
          → OpenFailed fault number (seen_gates log faults old) (seen_gates log faults (set new i worker))
      at (Memory _) why = quiet_seen old (set new i worker) (map-set_same count new i worker d why ∙ are.quiet)
      at Failed why =
          let within : i < length (worker_faults faults old) = let len = length-map old count in let many = are.as_many in omega (arith, less, len, many) in
          let is : faults (get_or new i d).gate ≡ get_or (worker_faults faults old) i (count d) =
          sym (get_or-map count new i d (count d) less) ∙ ap (λ (cs : List ℕ). get_or cs i (count d)) are.quiet in
          let changed : fault_counts_of (seen_gates log faults (set new i worker)) ≡ set (worker_faults faults old) i (count worker) =
          counts_seen log faults (set new i worker) ∙ map-set count new i worker ∙ ap (λ (cs : List ℕ). set cs i (count worker)) are.quiet in
          let rose : RoseAtIndex (worker_faults faults old) (set (worker_faults faults old) i (count worker)) i =
          rose_at_set (worker_faults faults old) i (count worker) (count d) within (subst (λ (c : ℕ). Rose c (count worker)) is why) in (
            i,
            is_next,
            subst (λ (cs : List ℕ). RoseAtIndex cs (fault_counts_of (seen_gates log faults (set new i worker))) i) (sym (counts_seen log faults old))
                (subst (λ (cs : List ℕ). RoseAtIndex (worker_faults faults old) cs i) (sym changed) rose),
          )
