-- A run uses the first of all workers, and the gates of the others are as before.
use Rattle.std.proofs.Common.{◌≡◌, ◌≤◌, ◌<◌, ◌+◌, ◌++◌, ◌∙◌, arith, inl, inr, ⊎_elim, ℕ, zero, suc, List, [], ◌∷◌, None}
use Rattle.std.proofs.Common.{Option, drop, length, map, option_map, take, refl, sym, ap, subst}
use Rattle.std.proofs.lemmas.List.{drop-map, length-append, length-map, length-take-le, map-append, take-append-drop, take-map}
use Rattle.std.proofs.lemmas.List.Elements.{All-append, All-drop, All-take}
use Rattle.std.specs.List.{range_with_len}
use Rattle.script_gate_trait.specs.declared.gate.Verdict.{Verdict}
use Rattle.script_gate_trait.specs.declared.log.Log.{Log}
use Rattle.verdict_table.specs.declared.record.Record.{Record}
use Rattle.verdict_table.specs.TableState.{texts_of}
use Rattle.reduce_journal.specs.History.{History, asked_records_of}
use Rattle.worker_pool.specs.RunHistory.{with_all_asked}
use Rattle.run_gated.specs.Workers.{AreIdle, RoseAtIndex}
use Rattle.worker_pool.specs.declared.worker.Worker.{Worker}
use Rattle.command_words.specs.Commands.{ReduceOptions}
use Rattle.command_ends.specs.World.{AreQuiet, GateFailed, SeenGate, SeenJournal, fault_counts_of, logs_of, seen, seen_gates}
use Rattle.command_reduce_calls.specs.Openings.{opened_from, opened_log}
use Rattle.command_reduce.specs.Reduce.{GatesWereAsked, GatesWereOpened, GatesWereUsed, GateUnopened, RecordsAreSound, used_from}

-- ---- lists that go on with what is as before

opened_more : (options : ReduceOptions) (number opened : ℕ) (logs rest : List (Option Log)) → opened ≤ length logs
    → opened_from options number opened (logs ++ rest) ≡ opened_from options number opened logs ++ rest
opened_more options number zero logs rest within = refl
opened_more options number (suc opened) [] rest within = let no : ⊥ = omega (arith, within) in absurd no
opened_more options number (suc opened) (log ∷ logs) rest within =
    ap (λ (ls : List (Option Log)). opened_log options number log ∷ ls) (opened_more options (suc number) opened logs rest (omega (arith, within)))

used_more : (options : ReduceOptions) (number : ℕ) (shares : List (List (List ℕ))) (logs rest : List (Option Log)) → length shares ≤ length logs
    → used_from options number shares (logs ++ rest) ≡ used_from options number shares logs ++ rest
used_more options number [] logs rest within = refl
used_more options number (texts ∷ shares) [] rest within = let no : ⊥ = omega (arith, within) in absurd no
used_more options number (texts ∷ shares) (log ∷ logs) rest within =
    ap (λ (ls : List (Option Log)). option_map (with_all_asked texts) (opened_log options number log) ∷ ls)
    (used_more options (suc number) shares logs rest (omega (arith, within)))

rose_within : (counts counts' : List ℕ) (index : ℕ) → RoseAtIndex counts counts' index → index < length counts
rose_within [] counts' index rose = absurd rose
rose_within (count ∷ counts) [] index rose = absurd rose
rose_within (count ∷ counts) (count' ∷ counts') zero rose = omega arith
rose_within (count ∷ counts) (count' ∷ counts') (suc index) rose = let within = rose_within counts counts' index rose in omega (arith, within)

rose_more : (counts counts' rest : List ℕ) (index : ℕ) → RoseAtIndex counts counts' index → RoseAtIndex (counts ++ rest) (counts' ++ rest) index
rose_more [] counts' rest index rose = absurd rose
rose_more (count ∷ counts) [] rest index rose = absurd rose
rose_more (count ∷ counts) (count' ∷ counts') rest zero rose = rose
rose_more (count ∷ counts) (count' ∷ counts') rest (suc index) rose = rose_more counts counts' rest index rose

take_range : (a n k : ℕ) → k ≤ n → take k (range_with_len a n) ≡ range_with_len a k
take_range a n zero within = refl
take_range a zero (suc k) within = let no : ⊥ = omega (arith, within) in absurd no
take_range a (suc n) (suc k) within = ap (λ (ns : List ℕ). a ∷ ns) (take_range (a + 1) n k (omega (arith, within)))

-- ---- the gates of a run among all

-- The gates are the first of all, one for each worker; the others are as before.
pub record AreFirst (options : ReduceOptions) (part part' old new : List SeenGate) : Type 0 where
  pub rest : List SeenGate
  pub many : length part ≡ options.jobs
  pub is_old : old ≡ part ++ rest
  pub is_new : new ≡ part' ++ rest
  pub others : drop options.jobs new ≡ drop options.jobs old

logs_apart : (part rest : List SeenGate) → logs_of (part ++ rest) ≡ logs_of part ++ logs_of rest
logs_apart part rest = map-append (λ (gate : SeenGate). gate.shown) part rest

counts_apart : (part rest : List SeenGate) → fault_counts_of (part ++ rest) ≡ fault_counts_of part ++ fault_counts_of rest
counts_apart part rest = map-append (λ (gate : SeenGate). gate.faults) part rest

module _ {options : ReduceOptions} {part part' old new : List SeenGate} (are : AreFirst options part part' old new) where
  logs_many : length (logs_of part) ≡ options.jobs
  logs_many = length-map part (λ (gate : SeenGate). gate.shown) ∙ are.many

  logs_old : logs_of old ≡ logs_of part ++ logs_of are.rest
  logs_old = ap logs_of are.is_old ∙ logs_apart part are.rest

  logs_new : logs_of new ≡ logs_of part' ++ logs_of are.rest
  logs_new = ap logs_of are.is_new ∙ logs_apart part' are.rest

  counts_many : length (fault_counts_of part) ≡ options.jobs
  counts_many = length-map part (λ (gate : SeenGate). gate.faults) ∙ are.many

  counts_old : fault_counts_of old ≡ fault_counts_of part ++ fault_counts_of are.rest
  counts_old = ap fault_counts_of are.is_old ∙ counts_apart part are.rest

  counts_new : fault_counts_of new ≡ fault_counts_of part' ++ fault_counts_of are.rest
  counts_new = ap fault_counts_of are.is_new ∙ counts_apart part' are.rest

  -- none failed
  pub all_quiet : AreQuiet part part' → AreQuiet old new
  all_quiet same = counts_new ∙ ap (λ (cs : List ℕ). cs ++ fault_counts_of are.rest) same ∙ sym counts_old

  -- one failed
  pub one_failed : (worker : ℕ) → GateFailed worker part part' → (worker ≤ options.jobs) × GateFailed worker old new
  one_failed worker rose =
      let within = rose_within (fault_counts_of part) (fault_counts_of part') rose.0 rose.2 in
      let is = rose.1 in
      let many = counts_many in
      let more : RoseAtIndex (fault_counts_of part ++ fault_counts_of are.rest) (fault_counts_of part' ++ fault_counts_of are.rest) rose.0 =
      rose_more (fault_counts_of part) (fault_counts_of part') (fault_counts_of are.rest) rose.0 rose.2 in (
        omega (arith, within, is, many),
        (
          rose.0,
          rose.1,
          subst (λ (cs : List ℕ). RoseAtIndex cs (fault_counts_of new) rose.0) (sym counts_old)
              (subst (λ (cs : List ℕ). RoseAtIndex (fault_counts_of part ++ fault_counts_of are.rest) cs rose.0) (sym counts_new) more),
        ),
      )

  -- so many were opened
  opened_among : (opened : ℕ) → opened ≤ options.jobs → logs_of part' ≡ opened_from options 1 opened (logs_of part)
      → logs_of new ≡ opened_from options 1 opened (logs_of old)
  opened_among opened within is =
      let many = logs_many in
      logs_new ∙ ap (λ (ls : List (Option Log)). ls ++ logs_of are.rest) is
      ∙ sym (opened_more options 1 opened (logs_of part) (logs_of are.rest) (omega (arith, within, many)))
      ∙ ap (opened_from options 1 opened) (sym logs_old)

  -- one wasn't
  pub one_unopened : (history : History) (worker : ℕ) (before after : SeenJournal) → worker ≤ options.jobs
      → GateUnopened options history worker (logs_of part) (logs_of part') before after
      → GateUnopened options history worker (logs_of old) (logs_of new) before after
  one_unopened history worker before after one_of un =
      record {
        opened = un.opened;
        at = un.at;
        before = let is = un.at in
            opened_among un.opened (omega (arith, is, one_of)) un.before;
        untouched = un.untouched;
      }

  used_among : (texts : List (List ℕ)) (before after : SeenJournal) → GatesWereUsed options texts (logs_of part) (logs_of part') before after
      → GatesWereUsed options texts (logs_of old) (logs_of new) before after
  used_among texts before after used =
      ⊎_elim (λ none. inl (none.0, logs_new ∙ ap (λ (ls : List (Option Log)). ls ++ logs_of are.rest) none.1 ∙ sym logs_old, none.2))
      (λ some. ⊎_elim (λ few. inr (inl (opened_part few))) (λ whole. inr (inr (asked_whole whole))) some) used
    where
      opened_part : GatesWereOpened options texts (logs_of part) (logs_of part') before after
          → GatesWereOpened options texts (logs_of old) (logs_of new) before after
      opened_part few =
          record {
            opened = few.opened;
            not_all = few.not_all;
            none = few.none;
            logs = let less = few.not_all in
                opened_among (suc few.opened) (omega (arith, less)) few.logs;
            journal = few.journal;
          }

      asked_whole : GatesWereAsked options texts (logs_of part) (logs_of part') → GatesWereAsked options texts (logs_of old) (logs_of new)
      asked_whole whole = record {
        shares = whole.shares;
        one_each = whole.one_each;
        total = whole.total;
        alone = whole.alone;
        used = let many = logs_many in let each = whole.one_each in
            logs_new ∙ ap (λ (ls : List (Option Log)). ls ++ logs_of are.rest) whole.used
            ∙ sym (used_more options 1 whole.shares (logs_of part) (logs_of are.rest) (omega (arith, many, each)))
            ∙ ap (used_from options 1 whole.shares) (sym logs_old);
      }

  -- the records are sound, as all gates see them
  pub sound_among : (may_say : List ℕ → Verdict → Type 0) (kept : List Record) (history : History) (before after : SeenJournal)
      → RecordsAreSound options may_say kept history (logs_of part) (logs_of part') before after
      → RecordsAreSound options may_say kept history (logs_of old) (logs_of new) before after
  sound_among may_say kept history before after sound = record {
    distinct = sound.distinct;
    resumed = sound.resumed;
    said = sound.said;
    used = used_among (texts_of (asked_records_of history)) before after sound.used;
  }

-- ---- the first of the workers are lent

drop_part : {A : Type 0} (part rest : List A) (n : ℕ) → length part ≡ n → drop n (part ++ rest) ≡ rest
drop_part {A = A} part rest n is = subst (λ (m : ℕ). drop m (part ++ rest) ≡ rest) is (at part)
  where
    at : (part : List A) → drop (length part) (part ++ rest) ≡ rest
    at [] = refl
    at (x ∷ part) = at part

module _ {G : Type 0} (workers : List (Worker G)) (jobs : ℕ) (idle : AreIdle workers) (enough : jobs ≤ length workers) where
  abbrev number : Worker G → ℕ
  number w = w.number

  -- so many
  pub lent_many : length (take jobs workers) ≡ jobs
  lent_many = length-take-le jobs workers enough

  pub lent_idle : 1 ≤ jobs → AreIdle (take jobs workers)
  lent_idle least = record {
    some = let many = lent_many in omega (arith, many, least);
    few = let many = lent_many in let few = idle.few in omega (arith, many, few, enough);
    numbered =
        sym (take-map number jobs workers) ∙ ap (take jobs) idle.numbered ∙ take_range 1 (length workers) jobs enough ∙ ap (range_with_len 1) (sym lent_many);
    unseated = All-take (λ (w : Worker G). w.seat ≡ None) jobs workers idle.unseated;
  }

  module _ (part : List (Worker G)) (as_many : length part ≡ length (take jobs workers)) where
    part_many : length part ≡ jobs
    part_many = as_many ∙ lent_many

    pub back_many : length (part ++ drop jobs workers) ≡ length workers
    back_many =
        length-append part (drop jobs workers) ∙ ap (λ (n : ℕ). n + length (drop jobs workers)) as_many
        ∙ sym (length-append (take jobs workers) (drop jobs workers)) ∙ ap (λ (ws : List (Worker G)). length ws) (take-append-drop jobs workers)

    -- and with them all
    pub back_idle : AreIdle part → AreIdle (part ++ drop jobs workers)
    back_idle part_idle = record {
      some = let many = back_many in let some = idle.some in omega (arith, many, some);
      few = let many = back_many in let few = idle.few in omega (arith, many, few);
      numbered = map-append number part (drop jobs workers)
          ∙ ap (λ (ns : List ℕ). ns ++ map number (drop jobs workers))
          (part_idle.numbered ∙ ap (range_with_len 1) part_many ∙ sym (take_range 1 (length workers) jobs enough))
          ∙ ap (λ (ns : List ℕ). take jobs (range_with_len 1 (length workers)) ++ ns) (sym (drop-map number jobs workers) ∙ ap (drop jobs) idle.numbered)
          ∙ take-append-drop jobs (range_with_len 1 (length workers)) ∙ ap (range_with_len 1) (sym back_many);
      unseated =
          All-append (λ (w : Worker G). w.seat ≡ None) part (drop jobs workers) part_idle.unseated
          (All-drop (λ (w : Worker G). w.seat ≡ None) jobs workers idle.unseated);
    }

    pub lent_first : (options : ReduceOptions) → options.jobs ≡ jobs → (log : G → Option Log) (faults : G → ℕ) →
        AreFirst options (seen_gates log faults (take jobs workers)) (seen_gates log faults part) (seen_gates log faults workers)
        (seen_gates log faults (part ++ drop jobs workers))
    lent_first options same log faults =
        let gate : Worker G → SeenGate = λ w. seen log faults w.gate in
        let beyond : seen_gates log faults (drop jobs workers) ≡ drop options.jobs (seen_gates log faults workers) =
        sym (drop-map gate jobs workers) ∙ ap (λ (n : ℕ). drop n (seen_gates log faults workers)) (sym same) in
        record {
          rest = seen_gates log faults (drop jobs workers);
          many = length-map (take jobs workers) gate ∙ lent_many ∙ sym same;
          is_old = ap (seen_gates log faults) (sym (take-append-drop jobs workers)) ∙ map-append gate (take jobs workers) (drop jobs workers);
          is_new = map-append gate part (drop jobs workers);
          others =
              drop-map gate options.jobs (part ++ drop jobs workers)
              ∙ ap (seen_gates log faults) (drop_part part (drop jobs workers) options.jobs (part_many ∙ sym same)) ∙ beyond;
        }
