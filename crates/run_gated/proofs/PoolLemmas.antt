-- What a run of several workers says, as a run by so many workers.
use Rattle.std.proofs.Common.{◌≡◌, ◌≢◌, ◌-◌, ◌<◌, ◌∙◌, arith, ℕ, suc, List, [], ◌∷◌, Option, Some, None, length, map, sum, refl, sym, ap, subst}
use Rattle.std.proofs.lemmas.List.{length-map}
use Rattle.script_gate_trait.specs.declared.log.Log.{Log}
use Rattle.verdict_table.specs.TableState.{texts_of}
use Rattle.reduce_journal.specs.History.{History, asked_records_of}
use Rattle.ordered_commit.specs.declared.fault.PoolFault.{PoolFault}
use Rattle.ordered_commit.specs.declared.fault.PoolFault.TheVariants.{Script}
use Rattle.worker_pool.specs.Ends.{AreDone}
use Rattle.worker_pool.specs.declared.worker.Worker.{Worker}
use Rattle.run_gated.specs.Records.{AreAsked}
use Rattle.run_gated.specs.Seen.{AreQuiet, GateFailed, fault_counts_of, logs_of, seen_gates}
use Rattle.run_gated.specs.Workers.{RoseAt}
use Rattle.run_gated.proofs.ShareLemmas.{AreShares, all_quiet, rose_at, shares_of}

-- what the gates of workers show, and their counts
abbrev pub worker_logs : {G : Type 0} → (G → Option Log) → List (Worker G) → List (Option Log)
worker_logs log workers = map (λ w. log w.gate) workers

abbrev pub worker_faults : {G : Type 0} → (G → ℕ) → List (Worker G) → List ℕ
worker_faults faults workers = map (λ w. faults w.gate) workers

module _ {G : Type 0} (log : G → Option Log) (faults : G → ℕ) where
  pub logs_seen : (workers : List (Worker G)) → logs_of (seen_gates log faults workers) ≡ worker_logs log workers
  logs_seen [] = refl
  logs_seen (worker ∷ workers) = ap (λ (ls : List (Option Log)). log worker.gate ∷ ls) (logs_seen workers)

  pub counts_seen : (workers : List (Worker G)) → fault_counts_of (seen_gates log faults workers) ≡ worker_faults faults workers
  counts_seen [] = refl
  counts_seen (worker ∷ workers) = ap (λ (cs : List ℕ). faults worker.gate ∷ cs) (counts_seen workers)

module _ {G : Type 0} (log : G → Option Log) (faults : G → ℕ) (fault : Option PoolFault) (history : History) (old new : List (Worker G))
    (done : AreDone log faults fault history old new) where
  shares : AreShares done.counts (worker_logs log old) (worker_logs log new)
  shares = shares_of (λ (w : Worker G). log w.gate) done.counts old new done.one_each done.lengths (λ i d within.
      let one = done.each i d within in
      record { texts = one.answered.texts; counted = one.answered.counted; answered = one.answered.answered })

  -- the asks of several workers are as many as the records that aren't kept
  asked_by : length old ≢ 1 → AreAsked (texts_of (asked_records_of history)) (worker_logs log old) (worker_logs log new)
  asked_by several = record {
    shares = shares.shares;
    one_each = shares.one_each;
    total = ap sum shares.counted ∙ done.total ∙ sym (length-map (asked_records_of history) (λ r. r.text));
    alone = λ one. absurd (several (sym (length-map old (λ (w : Worker G). log w.gate)) ∙ one));
    asked = shares.asked;
  }

  pub several_asked : length old ≢ 1
      → AreAsked (texts_of (asked_records_of history)) (logs_of (seen_gates log faults old)) (logs_of (seen_gates log faults new))
  several_asked several =
      subst (λ (ls : List (Option Log)). AreAsked (texts_of (asked_records_of history)) ls (logs_of (seen_gates log faults new)))
      (sym (logs_seen log faults old))
      (subst (λ (ls : List (Option Log)). AreAsked (texts_of (asked_records_of history)) (worker_logs log old) ls) (sym (logs_seen log faults new))
      (asked_by several))

  -- the gate of the worker that is named failed
  pub named_failed : (worker : ℕ) → fault ≡ Some (Script worker) → (d : Worker G) → GateFailed worker (seen_gates log faults old) (seen_gates log faults new)
  named_failed worker is d =
      let range = done.named worker is in
      let least = range.0 in
      let most = range.1 in
      let index : ℕ = worker - 1 in
      let same : worker ≡ suc index = omega (arith, least) in
      let within : index < length old = omega (arith, least, most) in
      let rose : RoseAt worker (worker_faults faults old) (worker_faults faults new) = (
        index,
        same,
        rose_at (λ (w : Worker G). faults w.gate) old new index d within done.lengths
            ((done.each index d within).failed (is ∙ ap (λ (n : ℕ). Some (Script n)) same)),
      ) in
      subst (λ (cs : List ℕ). RoseAt worker cs (fault_counts_of (seen_gates log faults new))) (sym (counts_seen log faults old))
      (subst (λ (cs : List ℕ). RoseAt worker (worker_faults faults old) cs) (sym (counts_seen log faults new)) rose)

  -- and without a fault none did
  pub none_failed : fault ≡ None → AreQuiet (seen_gates log faults old) (seen_gates log faults new)
  none_failed none =
      counts_seen log faults new
      ∙ all_quiet (λ (w : Worker G). faults w.gate) old new done.lengths (λ i d within. (done.each i d within).quiet none)
      ∙ sym (counts_seen log faults old)
