-- What a run of all workers is to its caller: of one worker, or of several.
use Rattle.std.proofs.Common.{arith, ◌≡◌, ◌≢◌, ◌≤◌, ◌<◌, ◌++◌, inl, inr, ℕ, suc, List, [], ◌∷◌, Option, Some, None, IfSome}
use Rattle.std.proofs.Common.{true, false, length, map, option_map, slice_index_or, sum, refl, sym, ap, ◌∙◌, subst}
use Rattle.std.specs.List.{range_with_len}
use Rattle.edge_io.specs.Sink.{Put}
use Rattle.script_gate_trait.specs.declared.gate.Verdict.{Verdict}
use Rattle.script_gate_trait.specs.declared.log.Log.{Log}
use Rattle.reduce_step.specs.Plan.{Plan}
use Rattle.verdict_table.specs.declared.record.Record.{Record}
use Rattle.verdict_table.specs.TableState.{verdict_in}
use Rattle.reduce_journal.specs.declared.event.Event.{Event}
use Rattle.reduce_journal.specs.declared.event.Event.TheVariants.{Committed, Recorded}
use Rattle.reduce_journal.specs.History.{History}
use Rattle.reduce_journal.specs.declared.digest.Digest.{Digest}
use Rattle.reduce_journal.specs.Journal.{journal_text}
use Rattle.ordered_commit.specs.Moves.{KeptVerdicts}
use Rattle.ordered_commit.specs.declared.fault.PoolFault.{PoolFault}
use Rattle.ordered_commit.specs.declared.fault.PoolFault.TheVariants.{Script, Journal, Memory}
use Rattle.ordered_commit.specs.declared.fault.BoardFault.{BoardFault}
use Rattle.ordered_commit.specs.declared.fault.BoardFault.TheVariants as board
use Rattle.ordered_commit.specs.declared.outcome.Outcome.{Outcome}
use Rattle.ordered_commit.specs.BoardState.{BoardState}
use Rattle.ordered_commit.specs.Faults.{board_fault}
use Rattle.ordered_commit.specs.Made.{IsRefusedWith}
use Rattle.ordered_commit.specs.Kept.{BrokeWhereDue, IsDue, IsJournal}
use Rattle.worker_pool.specs.RunHistory.{with_all_asked}
use Rattle.worker_pool.specs.RunEnds.{HasSameName, HasWritten}
use Rattle.worker_pool.specs.inner.RunEnds.{JournalEnds}
use Rattle.worker_pool.specs.UnderWay.{AreJournalBytes}
use Rattle.worker_pool.proofs.Lent.{none_asked, none_history, none_sequential}
use Rattle.worker_pool.specs.declared.worker.Worker.{Worker}
use Rattle.worker_pool.specs.Ends.{AreDone, IsOfOne, IsOutcome}
use Rattle.worker_pool.specs.Runs.{members}
use Rattle.run_gated.specs.Records.{AreAsked, all_asked}
use Rattle.run_gated.specs.Seen.{AreQuiet, CallFailed, GateFailed, IsQuiet, Reached, SeenGate, logs_of, reached, seen, seen_gates}
use Rattle.run_gated.specs.Workers.{AreIdle, BrokeBy, IsOfKept}
use Rattle.run_gated.specs.inner.Workers.{IsCausedBy, IsQuietBut, IsRunBy, JournalLeft, WaitsAt}
use Rattle.run_gated.proofs.ShareLemmas.{all_quiet}
use Rattle.run_gated.proofs.PoolLemmas.{named_failed, none_failed, several_asked}
use Rattle.run_gated.proofs.RunLemmas.{caused_by, one_left, one_ran, run_from}

-- where nothing is asked
abbrev pub no_asks : List (Option Log) → List (List (List ℕ))
no_asks [] = []
no_asks (log ∷ logs) = [] ∷ no_asks logs

one_each : (logs : List (Option Log)) → length (no_asks logs) ≡ length logs
one_each [] = refl
one_each (log ∷ logs) = ap (λ (n : ℕ). suc n) (one_each logs)

none_in_all : (logs : List (Option Log)) → sum (map (λ (share : List (List ℕ)). length share) (no_asks logs)) ≡ 0
none_in_all [] = refl
none_in_all (log ∷ logs) = none_in_all logs

none_alone : (logs : List (Option Log)) → length logs ≡ 1 → no_asks logs ≡ [] ∷ []
none_alone [] one = absurd (omega (arith, one))
none_alone (log ∷ []) one = refl
none_alone (log ∷ log' ∷ logs) one = absurd (omega (arith, one))

all_as_before : (logs : List (Option Log)) → logs ≡ all_asked (no_asks logs) logs
all_as_before [] = refl
all_as_before (log ∷ logs) =
    ap (λ (l : Option Log). l ∷ logs) (none_asked log) ∙ ap (λ (ls : List (Option Log)). option_map (with_all_asked []) log ∷ ls) (all_as_before logs)

pub nothing_asked : (logs : List (Option Log)) → AreAsked [] logs logs
nothing_asked logs = record {
  shares = no_asks logs;
  one_each = one_each logs;
  total = none_in_all logs;
  alone = none_alone logs;
  asked = all_as_before logs;
}

waits_at : (fault : BoardFault) (first : Plan) → WaitsAt (Some (board_fault fault)) first []
waits_at board.Journal first = tt
waits_at (board.Memory _) first = tt

quiet_but : (fault : BoardFault) (gates : List SeenGate) → IsQuietBut (Some (board_fault fault)) gates gates
quiet_but board.Journal gates = refl
quiet_but (board.Memory _) gates = refl

nothing_ran : (workers : ℕ) (may_say : List ℕ → Verdict → Type 0) (kept : KeptVerdicts) (first last : Plan) (fault : BoardFault) (gates : List SeenGate)
    → IsRunBy workers may_say kept first last (Some (board_fault fault)) [] gates gates
nothing_ran workers may_say kept first last fault gates = record {
  history_of = none_history may_say kept first [] refl;
  start = λ _. (tt, tt);
  asked = nothing_asked (logs_of gates);
  ended = λ none. absurd (cc none);
  alone =
      λ _. record {
        sequential = none_sequential fault kept first (Some (board_fault fault)) [] refl refl;
        waits = waits_at fault first;
        quiet = quiet_but fault gates;
      };
}

-- a run without a board
pub refused_ran : (workers : ℕ) (may_say : List ℕ → Verdict → Type 0) (kept : KeptVerdicts) (first last : Plan) (refused : BoardFault)
    (fault : Option PoolFault) (history : History) (gates : List SeenGate) → fault ≡ Some (board_fault refused) → history ≡ []
    → IsRunBy workers may_say kept first last fault history gates gates
refused_ran workers may_say kept first last refused fault history gates is none =
    subst (λ (f : Option PoolFault). IsRunBy workers may_say kept first last f history gates gates) (sym is)
    (subst (λ (h : History). IsRunBy workers may_say kept first last (Some (board_fault refused)) h gates gates) (sym none)
    (nothing_ran workers may_say kept first last refused gates))

left_at : {J : Type 0} (put_so_far : J → Option Put) (workers : ℕ) (start : Digest) (kept : KeptVerdicts) (refused : BoardFault) (old new : J)
    → IsRefusedWith put_so_far start refused old new → HasSameName (put_so_far old) (put_so_far new)
    → JournalLeft workers start kept (Some (board_fault refused)) [] (put_so_far old) (put_so_far new)
left_at put_so_far workers start kept board.Journal old new is same = (same, inl (refl, is))
left_at put_so_far workers start kept (board.Memory _) old new is same = inr (refl, ap put_so_far is)

-- the journal of a run without a board
pub refused_left : {J : Type 0} (put_so_far : J → Option Put) (workers : ℕ) (start : Digest) (kept : KeptVerdicts) (refused : BoardFault)
    (fault : Option PoolFault) (history : History) (old new last : J) → fault ≡ Some (board_fault refused) → history ≡ [] → last ≡ new
    → IsRefusedWith put_so_far start refused old new → HasSameName (put_so_far old) (put_so_far new)
    → JournalLeft workers start kept fault history (put_so_far old) (put_so_far last)
refused_left put_so_far workers start kept refused fault history old new last by none same is named =
    subst (λ (f : Option PoolFault). JournalLeft workers start kept f history (put_so_far old) (put_so_far last)) (sym by)
    (subst (λ (h : History). JournalLeft workers start kept (Some (board_fault refused)) h (put_so_far old) (put_so_far last)) (sym none)
    (subst (λ j. JournalLeft workers start kept (Some (board_fault refused)) [] (put_so_far old) (put_so_far j)) (sym same)
    (left_at put_so_far workers start kept refused old new is named)))

-- the journal, which was empty, has the whole history
written : (start : Digest) (history : History) (old new : Option Put) → HasSameName old new → IfSome old (λ put. put.bytes ≡ [])
    → IfSome new (λ put. put.bytes ≡ journal_text start history) → HasWritten start history old new
written start history None None same empty bytes = refl
written start history None (Some put) same empty bytes = absurd (cc same)
written start history (Some put) None same empty bytes = absurd (cc same)
written start history (Some old) (Some new) same empty bytes =
    let names : Some new.name ≡ Some old.name = same in
    let name : new.name ≡ old.name = cc names in
    let put_of : List ℕ → List ℕ → Put = λ bytes name. record { bytes = bytes; name = name } in
    ap (λ (b : List ℕ). Some (put_of b new.name)) (bytes ∙ ap (λ (b : List ℕ). b ++ journal_text start history) (sym empty))
    ∙ ap (λ (n : List ℕ). Some (put_of (old.bytes ++ journal_text start history) n)) name

one_ends : (start : Digest) (kept : KeptVerdicts) (fault : Option PoolFault) (history : History) (old new : Option Put) → HasSameName old new
    → IfSome old (λ put. put.bytes ≡ []) → IfSome new (λ put. AreJournalBytes start kept fault history put.bytes)
    → JournalEnds start kept fault history old new
one_ends start kept None history old new same empty bytes = written start history old new same empty bytes
one_ends start kept (Some (Script worker)) history old new same empty bytes = written start history old new same empty bytes
one_ends start kept (Some Journal) history old new same empty bytes = (same, inr bytes)
one_ends start kept (Some (Memory _)) history old new same empty bytes = inl (written start history old new same empty bytes)

of_kept : (first : Plan) (kept : List Record) (before : History) (failed : Event) → IsDue first kept before failed → IsOfKept (verdict_in kept) failed
of_kept first kept before (Committed number) due = tt
of_kept first kept before (Recorded text verdict true) due = due.1
of_kept first kept before (Recorded text verdict false) due = tt

broke_by : (workers : ℕ) (first : Plan) (start : Digest) (kept : List Record) (history : History) (new : Option Put) → workers ≢ 1
    → IfSome new (λ put. BrokeWhereDue first start kept history put.bytes) → IfSome new (λ put. BrokeBy workers start (verdict_in kept) history put.bytes)
broke_by workers first start kept history None several broke = tt
broke_by workers first start kept history (Some put) several broke =
    (λ one. absurd (several one), λ _. (broke.broke, of_kept first kept broke.broke.before broke.broke.failed broke.due))

several_left : (workers : ℕ) (first : Plan) (start : Digest) (kept : List Record) (fault : Option PoolFault) (history : History) (old new : Option Put)
    → workers ≢ 1 → HasSameName old new → IfSome old (λ put. put.bytes ≡ []) → IfSome new (λ put. IsJournal start fault history put.bytes)
    → (fault ≡ Some Journal → IfSome new (λ put. BrokeWhereDue first start kept history put.bytes))
    → JournalLeft workers start (verdict_in kept) fault history old new
several_left workers first start kept None history old new several same empty bytes due = written start history old new same empty bytes
several_left workers first start kept (Some (Script worker)) history old new several same empty bytes due = written start history old new same empty bytes
several_left workers first start kept (Some Journal) history old new several same empty bytes due =
    (same, inr (broke_by workers first start kept history new several (due refl)))
several_left workers first start kept (Some (Memory _)) history old new several same empty bytes due = inl (written start history old new same empty bytes)

-- why several ended
several_caused : (fault : Option PoolFault) (old new : Reached) → (fault ≡ None → AreQuiet old.gates new.gates)
    → ((worker : ℕ) → fault ≡ Some (Script worker) → GateFailed worker old.gates new.gates)
    → (fault ≡ Some Journal → CallFailed old.journal new.journal) → (fault ≢ Some Journal → IsQuiet old.journal new.journal) → IsCausedBy fault old new
several_caused None old new none named rose quiet = record { gates = none refl; journal = quiet (λ is. cc is) }
several_caused (Some (Script worker)) old new none named rose quiet = (named worker refl, quiet (λ is. cc is))
several_caused (Some Journal) old new none named rose quiet = rose refl
several_caused (Some (Memory _)) old new none named rose quiet = quiet (λ is. cc is)

module _ {S J G : Type 0} (plan first : S → Plan) (may_say : List ℕ → Verdict → Type 0) (put_so_far : J → Option Put) (journal_faults : J → ℕ)
    (log : G → Option Log) (faults : G → ℕ) (made : BoardState S J) (outcome : Outcome S J) where
  -- what one worker comes to, where there is one
  abbrev pub OfOne : List (Worker G) → List (Worker G) → Type 0
  OfOne old new =
      length old ≡ 1 → (d : Worker G) → IsOfOne plan log faults put_so_far journal_faults (members first put_so_far journal_faults 1 made) outcome
      (slice_index_or old 0 d) (slice_index_or new 0 d)

  abbrev pub OfAll : List (Worker G) → Type 0
  OfAll old = IsOutcome plan first may_say put_so_far journal_faults (members first put_so_far journal_faults (length old) made) outcome

  abbrev pub ByEach : List (Worker G) → List (Worker G) → Type 0
  ByEach old new = AreDone log faults outcome.fault outcome.events.items old new

  all_ran : (old new : List (Worker G)) → 1 ≤ length old → OfAll old → ByEach old new → OfOne old new
      → IsRunBy (length old) may_say (verdict_in made.kept) (first made.front) (plan outcome.front) outcome.fault outcome.events.items
      (seen_gates log faults old) (seen_gates log faults new)
  all_ran [] new some is done one = absurd (omega (arith, some))
  all_ran (x ∷ []) [] some is done one = let lengths = done.lengths in absurd (omega (arith, lengths))
  all_ran (x ∷ []) (y ∷ y' ∷ new) some is done one = let lengths = done.lengths in absurd (omega (arith, lengths))
  all_ran (x ∷ []) (y ∷ []) some is done one =
      let alone = one refl x in
      one_ran may_say (verdict_in made.kept) (first made.front) (plan outcome.front) outcome.fault outcome.events.items (seen log faults x.gate)
      (seen log faults y.gate)
      (journal_faults made.journal) (journal_faults outcome.journal) is.history alone.sequential alone.begun alone.one alone.asked alone.ended is.replayed
      alone.caused
  all_ran (x ∷ x' ∷ old) new some is done one = record {
    history_of = is.history;
    start = is.start;
    asked = several_asked log faults outcome.fault outcome.events.items (x ∷ x' ∷ old) new done (λ e. omega (arith, e));
    ended = λ none. let ended = is.ended none in (ended.0, ended.1, is.replayed none);
    alone = λ e. absurd (omega (arith, e));
  }

  all_caused : (shown : Option Put) (old new : List (Worker G)) → 1 ≤ length old → OfAll old → ByEach old new → OfOne old new
      → IsCausedBy outcome.fault (record { gates = seen_gates log faults old; journal = record { shown = shown; faults = journal_faults made.journal } })
      (reached log faults put_so_far journal_faults new outcome.journal)
  all_caused shown [] new some is done one = absurd (omega (arith, some))
  all_caused shown (x ∷ []) [] some is done one = let lengths = done.lengths in absurd (omega (arith, lengths))
  all_caused shown (x ∷ []) (y ∷ y' ∷ new) some is done one = let lengths = done.lengths in absurd (omega (arith, lengths))
  all_caused shown (x ∷ []) (y ∷ []) some is done one =
      let alone = one refl x in
      caused_by outcome.fault (seen log faults x.gate) (seen log faults y.gate) (record { shown = shown; faults = journal_faults made.journal })
      (seen put_so_far journal_faults outcome.journal) alone.caused
  all_caused shown (x ∷ x' ∷ old) new some is done one =
      several_caused outcome.fault
      (record { gates = seen_gates log faults (x ∷ x' ∷ old); journal = record { shown = shown; faults = journal_faults made.journal } })
      (reached log faults put_so_far journal_faults new outcome.journal)
      (none_failed log faults outcome.fault outcome.events.items (x ∷ x' ∷ old) new done)
      (λ worker by. named_failed log faults outcome.fault outcome.events.items (x ∷ x' ∷ old) new done worker by x) is.rose is.quiet

  all_left : (old new : List (Worker G)) → 1 ≤ length old → OfAll old → ByEach old new → OfOne old new → (put : Option Put)
      → HasSameName put (put_so_far made.journal) → IfSome put (λ p. p.bytes ≡ [])
      → JournalLeft (length old) made.start (verdict_in made.kept) outcome.fault outcome.events.items put (put_so_far outcome.journal)
  all_left [] new some is done one put named empty = absurd (omega (arith, some))
  all_left (x ∷ []) new some is done one put named empty =
      let alone =
      one refl x in
      one_left made.start (verdict_in made.kept) outcome.fault outcome.events.items put (put_so_far outcome.journal)
      (one_ends made.start (verdict_in made.kept) outcome.fault outcome.events.items put (put_so_far outcome.journal) (is.same_name ∙ named) empty
      alone.journal)
  all_left (x ∷ x' ∷ old) new some is done one put named empty =
      several_left (length (x ∷ x' ∷ old)) (first made.front) made.start made.kept outcome.fault outcome.events.items put (put_so_far outcome.journal)
      (λ e. omega (arith, e)) (is.same_name ∙ named) empty is.journal is.due

  -- the workers are as they were, but for their gates
  pub idle_again : (old new : List (Worker G)) → AreIdle old → ByEach old new → AreIdle new
  idle_again old new idle done =
      let as_many = done.lengths in
      let some = idle.some in
      let few = idle.few in
      record {
        some = omega (arith, as_many, some);
        few = omega (arith, as_many, few);
        numbered =
            all_quiet (λ (w : Worker G). w.number) old new done.lengths (λ i d within. (done.each i d within).number) ∙ idle.numbered
            ∙ ap (λ (n : ℕ). range_with_len 1 n) (sym done.lengths);
        unseated = λ i d within. (done.each i d (subst (λ (n : ℕ). i < n) done.lengths within)).unseated;
      }

  -- of a reducer that the board was made over, and a journal that it began
  module _ (front : S) (same : made.front ≡ front) (kept : List Record) (same_kept : made.kept ≡ kept) (old new : List (Worker G))
      (idle : AreIdle old) (is : OfAll old) (done : ByEach old new)
      (one : OfOne old new) where
    pub ran : IsRunBy (length old) may_say (verdict_in kept) (first front) (plan outcome.front) outcome.fault outcome.events.items (seen_gates log faults old)
        (seen_gates log faults new)
    ran =
        subst (λ (rs : List Record). IsRunBy (length old) may_say (verdict_in rs) (first front) (plan outcome.front) outcome.fault outcome.events.items
        (seen_gates log faults old) (seen_gates log faults new)) same_kept
        (run_from (length old) may_say (verdict_in made.kept) (first made.front) (first front) (plan outcome.front) outcome.fault outcome.events.items
        (seen_gates log faults old) (seen_gates log faults new) (ap first same) (all_ran old new idle.some is done one))

    pub caused : (shown : Option Put) (count : ℕ) → journal_faults made.journal ≡ count
        → IsCausedBy outcome.fault (record { gates = seen_gates log faults old; journal = record { shown = shown; faults = count } })
        (reached log faults put_so_far journal_faults new outcome.journal)
    caused shown count quiet =
        subst (λ (n : ℕ). IsCausedBy outcome.fault (record { gates = seen_gates log faults old; journal = record { shown = shown; faults = n } })
        (reached log faults put_so_far journal_faults new outcome.journal)) quiet
        (all_caused shown old new idle.some is done one)

    pub left : (start : Digest) → made.start ≡ start → (put : Option Put) → HasSameName put (put_so_far made.journal) → IfSome put (λ p. p.bytes ≡ [])
        → JournalLeft (length old) start (verdict_in kept) outcome.fault outcome.events.items put (put_so_far outcome.journal)
    left start digest put named empty =
        subst (λ (rs : List Record). JournalLeft (length old) start (verdict_in rs) outcome.fault outcome.events.items put (put_so_far outcome.journal))
        same_kept
        (subst (λ (d : Digest). JournalLeft (length old) d (verdict_in made.kept) outcome.fault outcome.events.items put (put_so_far outcome.journal)) digest
        (all_left old new idle.some is done one put named empty))
