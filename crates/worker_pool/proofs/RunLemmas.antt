-- A board of a run stays one, whatever is called.
use Rattle.std.proofs.Common.{◌≡◌, ◌≢◌, inl, inr, ℕ, List, [], ◌∷◌, All, Bool, true, false, cond, Option, Some, None}
use Rattle.std.proofs.Common.{Result, Ok, Err, length, nat_eq, if◌then◌else◌, refl, sym, ap, ◌∙◌, subst}
use Rattle.std.proofs.lemmas.List.{length-map}
use Rattle.std.proofs.lemmas.List.Elements.{All-cons, All-head, All-nil, All-tail}
use Rattle.std.specs.Prelude.{OnErr, OnOk}
use Rattle.faults.specs.Count.{Rose}
use Rattle.faults.specs.Memory.{ran_out}
use Rattle.faults.specs.declared.Memory.{Memory as OutOfMemory}
use Rattle.edge_io.specs.Sink.{Put}
use Rattle.edge_io.specs.declared.sink.SinkFault.{SinkFault}
use Rattle.script_gate_trait.specs.declared.gate.GateFault.{GateFault}
use Rattle.script_gate_trait.specs.declared.gate.GateFault.TheVariants as gate
use Rattle.gate_permits.specs.Permits.{AnsweredText}
use Rattle.script_gate_trait.specs.declared.gate.Verdict.{Verdict}
use Rattle.reduce_step.specs.Plan.{Plan}
use Rattle.verdict_table.specs.TableState.{TableState, text_claimed}
use Rattle.ordered_commit.specs.declared.fault.PoolFault.{PoolFault}
use Rattle.ordered_commit.specs.declared.fault.PoolFault.TheVariants.{Journal, Memory, Script}
use Rattle.ordered_commit.specs.declared.fault.BoardFault.{BoardFault}
use Rattle.ordered_commit.specs.declared.fault.BoardFault.TheVariants as board
use Rattle.ordered_commit.specs.declared.seat.Seat.{Seat}
use Rattle.ordered_commit.specs.declared.take.Take.{Take}
use Rattle.ordered_commit.specs.declared.take.Take.TheVariants.{Work, NotYet, Done, Stopped}
use Rattle.ordered_commit.specs.Seats.{Agrees, with_seat}
use Rattle.ordered_commit.proofs.Lent.{find_passes}
use Rattle.ordered_commit.specs.Faults.{ask_fault, kept_fault}
use Rattle.ordered_commit.specs.BoardState.{BoardState, IsSettled}
use Rattle.ordered_commit.specs.Kept.{IsKept}
use Rattle.ordered_commit.specs.CommitEnds.{CommitEnds}
use Rattle.ordered_commit.specs.RecallEnds.{RecallEnds, with_kept_record}
use Rattle.ordered_commit.specs.TakeEnds.{TakeEnds, with_claimed}
use Rattle.ordered_commit.specs.RecordEnds.{IsRecorded, RecordEnds}
use Rattle.ordered_commit.specs.Writes.{HasSameName}
use Rattle.worker_pool.specs.Runs.{RunMembers}
use Rattle.worker_pool.specs.inner.Runs.{AtStart, IsOfRun}
use Rattle.worker_pool.proofs.StartLemmas.{recalled_alone, record_alone, taken_alone}

-- a fault of an ask that is kept isn't one of the journal, and takes the place of none
kept_is : (o : Option PoolFault) (worker : ℕ) (fault : GateFault) → Some (kept_fault o (ask_fault worker fault)) ≡ Some Journal → o ≡ Some Journal
kept_is None worker gate.Failed is = absurd (cc is)
kept_is None worker (gate.Memory _) is = absurd (cc is)
kept_is (Some Journal) worker gate.Failed is = refl
kept_is (Some Journal) worker (gate.Memory _) is = refl
kept_is (Some (Memory _)) worker gate.Failed is = is
kept_is (Some (Memory _)) worker (gate.Memory _) is = is
kept_is (Some (Script other)) worker gate.Failed is = is
kept_is (Some (Script other)) worker (gate.Memory _) is = is

is_kept : (o : Option PoolFault) (worker : ℕ) (fault : GateFault) → o ≡ Some Journal → Some (kept_fault o (ask_fault worker fault)) ≡ Some Journal
is_kept None worker fault is = absurd (cc is)
is_kept (Some Journal) worker gate.Failed is = refl
is_kept (Some Journal) worker (gate.Memory _) is = refl
is_kept (Some (Memory _)) worker gate.Failed is = is
is_kept (Some (Memory _)) worker (gate.Memory _) is = is
is_kept (Some (Script other)) worker gate.Failed is = is
is_kept (Some (Script other)) worker (gate.Memory _) is = is

-- no ask of these seats failed
abbrev pub Unfailed : List Seat → Type 0
Unfailed seats = All (λ s. s.failed ≡ false) seats

either_unfailed : (b : Bool) (seat s : Seat) → seat.failed ≡ false → s.failed ≡ false → (cond b seat s).failed ≡ false
either_unfailed true seat s one other = one
either_unfailed false seat s one other = other

with_unfailed : (seat : Seat) (seats : List Seat) → seat.failed ≡ false → Unfailed seats → Unfailed (with_seat seat seats)
with_unfailed seat [] one all = All-nil (λ (s : Seat). s.failed ≡ false)
with_unfailed seat (s ∷ seats) one all =
    All-cons (λ (t : Seat). t.failed ≡ false) (cond (nat_eq s.worker seat.worker) seat s) (with_seat seat seats)
    (either_unfailed (nat_eq s.worker seat.worker) seat s one (All-head (λ (t : Seat). t.failed ≡ false) s seats all))
    (with_unfailed seat seats one (All-tail (λ (t : Seat). t.failed ≡ false) s seats all))

pub own_unfailed : (seat : Seat) (seats : List Seat) → Agrees seats seat → Unfailed seats → seat.failed ≡ false
own_unfailed seat seats agrees all = (find_passes (λ (s : Seat). s.failed ≡ false) (λ (s : Seat). nat_eq s.worker seat.worker) seats seat agrees all).0

-- no seat comes or goes
same_length : (seat : Seat) (seats : List Seat) → length (with_seat seat seats) ≡ length seats
same_length seat seats = length-map seats (λ (s : Seat). if nat_eq s.worker seat.worker then seat else s)

module _ {S J : Type 0} (first plan : S → Plan) (put : J → Option Put) (faults : J → ℕ) (run : RunMembers) (old new : BoardState S J)
    (of_run : IsOfRun first put faults run old) where
  -- nothing that it says changes
  still : new.start ≡ old.start → new.kept ≡ old.kept → first new.front ≡ first old.front → HasSameName put old.journal new.journal
      → length new.seats ≡ length old.seats
      → faults new.journal ≡ faults old.journal
      → (new.fault ≡ Some Journal → old.fault ≡ Some Journal) → (old.fault ≡ Some Journal → new.fault ≡ Some Journal) → AtStart run.first new.table
      → (new.fault ≡ None → Unfailed new.seats) → IsOfRun first put faults run new
  still digest verdicts front name seats count only also start unfailed = record {
    same_first = front ∙ of_run.same_first;
    same_digest = digest ∙ of_run.same_digest;
    same_kept = verdicts ∙ of_run.same_kept;
    same_name = name ∙ of_run.same_name;
    all_seats = seats ∙ of_run.all_seats;
    start = start;
    unfailed = unfailed;
    rose = λ is. subst (λ (n : ℕ). Rose run.faults n) (sym count) (of_run.rose (only is));
    quiet = λ no. count ∙ of_run.quiet (λ is. no (also is));
  }

  -- the journal broke
  broke : new.start ≡ old.start → new.kept ≡ old.kept → first new.front ≡ first old.front → HasSameName put old.journal new.journal
      → length new.seats ≡ length old.seats
      → old.fault ≢ Some Journal → new.fault ≡ Some Journal → Rose (faults old.journal) (faults new.journal) → AtStart run.first new.table
      → IsOfRun first put faults run new
  broke digest verdicts front name seats before is rose start = record {
    same_first = front ∙ of_run.same_first;
    same_digest = digest ∙ of_run.same_digest;
    same_kept = verdicts ∙ of_run.same_kept;
    same_name = name ∙ of_run.same_name;
    all_seats = seats ∙ of_run.all_seats;
    start = start;
    unfailed = λ none. absurd (cc (sym is ∙ none));
    rose = λ _. subst (λ (n : ℕ). Rose n (faults new.journal)) (of_run.quiet before) rose;
    quiet = λ no. absurd (no is);
  }

  -- the same is recorded and claimed
  same_start : new.table ≡ old.table → AtStart run.first new.table
  same_start table = subst (AtStart run.first) (sym table) of_run.start

  -- a fault that isn't one of the journal came, or went to nothing, where none was kept
  module _ (none : old.fault ≡ None) where
    not_before : old.fault ≢ Some Journal
    not_before is = absurd (cc (sym none ∙ is))

  pub run_commit : (result : Result Bool BoardFault) → CommitEnds plan put result old new → new.seats ≡ old.seats → new.start ≡ old.start
      → new.kept ≡ old.kept → first new.front ≡ first old.front
      → HasSameName put old.journal new.journal → new.table ≡ old.table
      → (result ≡ Err board.Journal → Rose (faults old.journal) (faults new.journal)) → (result ≢ Err board.Journal → faults new.journal ≡ faults old.journal)
      → IsOfRun first put faults run new
  run_commit (Ok true) ends seats digest verdicts front name table failed quiet =
      still digest verdicts front name (ap length seats) (quiet (λ is. cc is)) (λ is. absurd (cc (sym ends.fault ∙ is)))
      (λ is. absurd (not_before ends.could.0 is)) (same_start table) (λ _. subst Unfailed (sym seats) (of_run.unfailed ends.could.0))
  run_commit (Ok false) ends seats digest verdicts front name table failed quiet = subst (IsOfRun first put faults run) (sym ends.1) of_run
  run_commit (Err board.Journal) ends seats digest verdicts front name table failed quiet =
      broke digest verdicts front name (ap length seats) (not_before ends.could.0) (ap (λ (state : BoardState S J). state.fault) ends.else_same) (failed refl)
      (same_start table)
  run_commit (Err (board.Memory _)) (inl ends) seats digest verdicts front name table failed quiet =
      let is : new.fault ≡ Some (Memory ran_out) = ap (λ (state : BoardState S J). state.fault) ends.else_same in
      still digest verdicts front name (ap length seats) (quiet (λ is. cc is)) (λ j. absurd (cc (sym is ∙ j))) (λ j. absurd (not_before ends.could.0 j))
      (same_start table)
      (λ none. absurd (cc (sym is ∙ none)))
  run_commit (Err (board.Memory _)) (inr ends) seats digest verdicts front name table failed quiet =
      still digest verdicts front name (ap length seats) (quiet (λ is. cc is)) (λ j. absurd (cc (sym ends.fault ∙ j))) (λ j. absurd (not_before ends.could.0 j))
      (same_start table) (λ none. absurd (cc (sym ends.fault ∙ none)))

  -- a recall
  pub run_recall : (may_say : List ℕ → Verdict → Type 0) → IsKept plan first may_say put faults old → (result : Result Bool BoardFault)
      → RecallEnds plan put result old new → HasSameName put old.journal new.journal
      → (result ≡ Err board.Journal → Rose (faults old.journal) (faults new.journal)) → (result ≢ Err board.Journal → faults new.journal ≡ faults old.journal)
      → IsOfRun first put faults run new
  run_recall may_say kept (Ok true) ends name failed quiet =
      let same = ends.else_same in
      let no_fault : new.fault ≡ None = ap (λ (state : BoardState S J). state.fault) same ∙ ends.could.0 in
      let start : AtStart run.first new.table =
      subst (λ (table : TableState). AtStart run.first table) (sym (ap (λ (state : BoardState S J). state.table) same))
      (subst (λ (p : Plan). AtStart p (with_kept_record ends.kept old.table)) of_run.same_first
      (λ ended. recalled_alone plan first may_say put faults old kept ends.kept ends.could ends.found ended)) in
      still (ap (λ (state : BoardState S J). state.start) same) (ap (λ (state : BoardState S J). state.kept) same)
      (ap (λ (state : BoardState S J). first state.front) same) name (ap (λ (state : BoardState S J). length state.seats) same) (quiet (λ is. cc is))
      (λ is. absurd (cc (sym no_fault ∙ is))) (λ is. absurd (not_before ends.could.0 is)) start
      (λ _. subst Unfailed (sym (ap (λ (state : BoardState S J). state.seats) same)) (of_run.unfailed ends.could.0))
  run_recall may_say kept (Ok false) ends name failed quiet = subst (IsOfRun first put faults run) (sym ends.1) of_run
  run_recall may_say kept (Err board.Journal) ends name failed quiet =
      let same = ends.else_same in
      broke (ap (λ (state : BoardState S J). state.start) same) (ap (λ (state : BoardState S J). state.kept) same)
      (ap (λ (state : BoardState S J). first state.front) same) name (ap (λ (state : BoardState S J). length state.seats) same) (not_before ends.could.0)
      (ap (λ (state : BoardState S J). state.fault) same) (failed refl) (same_start (ap (λ (state : BoardState S J). state.table) same))
  run_recall may_say kept (Err (board.Memory _)) ends name failed quiet =
      let same = ends.1 in
      let is : new.fault ≡ Some (Memory ran_out) = ap (λ (state : BoardState S J). state.fault) same in
      still (ap (λ (state : BoardState S J). state.start) same) (ap (λ (state : BoardState S J). state.kept) same)
      (ap (λ (state : BoardState S J). first state.front) same) name (ap (λ (state : BoardState S J). length state.seats) same) (quiet (λ j. cc j))
      (λ j. absurd (cc (sym is ∙ j))) (λ j. absurd (not_before ends.0.0 j)) (same_start (ap (λ (state : BoardState S J). state.table) same))
      (λ none. absurd (cc (sym is ∙ none)))

  pub run_take : (may_say : List ℕ → Verdict → Type 0) → IsKept plan first may_say put faults old → IsSettled plan old → (seat seat' : Seat)
      → Agrees old.seats seat → (result : Result Take OutOfMemory) → TakeEnds plan result seat seat' old new → IsOfRun first put faults run new
  run_take may_say kept settled seat seat' agrees (Ok Stopped) ends = subst (IsOfRun first put faults run) (sym ends.2) of_run
  run_take may_say kept settled seat seat' agrees (Ok Done) ends = subst (IsOfRun first put faults run) (sym ends.3) of_run
  run_take may_say kept settled seat seat' agrees (Ok NotYet) ends = subst (IsOfRun first put faults run) (sym ends.2) of_run
  run_take may_say kept settled seat seat' agrees (Ok (Work permit)) ends = subst (IsOfRun first put faults run) (sym ends.else_same) (record {
    same_first = of_run.same_first;
    same_digest = of_run.same_digest;
    same_kept = of_run.same_kept;
    same_name = of_run.same_name;
    all_seats = same_length seat' old.seats ∙ of_run.all_seats;
    start =
        subst (λ (p : Plan). AtStart p (with_claimed permit old.table)) of_run.same_first
        (taken_alone plan first may_say put faults old kept settled permit seat seat' new ends);
    unfailed =
        λ none. with_unfailed seat' old.seats (ap (λ (s : Seat). s.failed) ends.of_worker ∙ own_unfailed seat old.seats agrees (of_run.unfailed none))
        (of_run.unfailed none);
    rose = of_run.rose;
    quiet = of_run.quiet;
  })
  run_take may_say kept settled seat seat' agrees (Err memory) ends = subst (IsOfRun first put faults run) (sym ends.3) (record {
    same_first = of_run.same_first;
    same_digest = of_run.same_digest;
    same_kept = of_run.same_kept;
    same_name = of_run.same_name;
    all_seats = of_run.all_seats;
    start = of_run.start;
    unfailed = λ none. absurd (cc none);
    rose = λ is. absurd (cc is);
    quiet = λ _. of_run.quiet (not_before ends.0);
  })

  more_start : (answer : AnsweredText) (seat seat' : Seat) → text_claimed answer.claim old.table.claims ≡ Some answer.text
      → IsRecorded plan answer seat seat' old new → AtStart run.first new.table
  more_start answer seat seat' opened recorded =
      subst (AtStart run.first) (sym (ap (λ (state : BoardState S J). state.table) recorded.else_same))
      (record_alone run.first answer old.table opened of_run.start)

  pub run_record : (answer : AnsweredText) (seat seat' : Seat) → Agrees old.seats seat → (result : Result ℕ SinkFault)
      → text_claimed answer.claim old.table.claims ≡ Some answer.text → IsRecorded plan answer seat seat' old new → RecordEnds put result answer old new
      → HasSameName put old.journal new.journal
      → OnErr result (Rose (faults old.journal) (faults new.journal)) → OnOk result (faults new.journal ≡ faults old.journal) → IsOfRun first put faults run new
  run_record answer seat seat' agrees (Ok number) opened recorded ends name failed quiet =
      let digest = ap (λ (state : BoardState S J). state.start) recorded.else_same in
      let verdicts = ap (λ (state : BoardState S J). state.kept) recorded.else_same in
      let front = ap (λ (state : BoardState S J). first state.front) recorded.else_same in
      let seats = ap (λ (state : BoardState S J). length state.seats) recorded.else_same ∙ same_length seat' old.seats in
      still digest verdicts front name seats quiet (λ is. sym ends.1 ∙ is) (λ is. ends.1 ∙ is) (more_start answer seat seat' opened recorded)
      (λ none. let before = of_run.unfailed (sym ends.1 ∙ none) in
      subst Unfailed (sym (ap (λ (state : BoardState S J). state.seats) recorded.else_same))
      (with_unfailed seat' old.seats (ap (λ (s : Seat). s.failed) recorded.of_worker ∙ own_unfailed seat old.seats agrees before) before))
  run_record answer seat seat' agrees (Err fault) opened recorded ends name failed quiet =
      let digest = ap (λ (state : BoardState S J). state.start) recorded.else_same in
      let verdicts = ap (λ (state : BoardState S J). state.kept) recorded.else_same in
      let front = ap (λ (state : BoardState S J). first state.front) recorded.else_same in
      let seats = ap (λ (state : BoardState S J). length state.seats) recorded.else_same ∙ same_length seat' old.seats in
      broke digest verdicts front name seats ends.0 ends.1 failed (more_start answer seat seat' opened recorded)

  pub run_give_up : (seat' : Seat) (worker : ℕ) (fault : GateFault)
      → new ≡ record old { seats = with_seat seat' old.seats; fault = Some (kept_fault old.fault (ask_fault worker fault)) } → IsOfRun first put faults run new
  run_give_up seat' worker fault is = subst (IsOfRun first put faults run) (sym is) (record {
    same_first = of_run.same_first;
    same_digest = of_run.same_digest;
    same_kept = of_run.same_kept;
    same_name = of_run.same_name;
    all_seats = same_length seat' old.seats ∙ of_run.all_seats;
    start = of_run.start;
    unfailed = λ none. absurd (cc none);
    rose = λ j. of_run.rose (kept_is old.fault worker fault j);
    quiet = λ no. of_run.quiet (λ j. no (is_kept old.fault worker fault j));
  })
