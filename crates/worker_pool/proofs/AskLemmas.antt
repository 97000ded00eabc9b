-- What holds after a text was claimed, and after it was asked about.
use Rattle.std.proofs.Common.{◌≡◌, ◌++◌, ◌||◌, ℕ, List, [], ◌∷◌, Bool, true, false, cond, not, find, length, map}
use Rattle.std.proofs.Common.{take, nat_eq, Option, Some, None, is_some, option_map, refl, sym, ap, ◌∙◌, subst}
use Rattle.std.proofs.lemmas.Cmp.{nat_eq_equiv}
use Rattle.std.specs.List.{list_any}
use Rattle.std.specs.Str.{bytes_eq}
use Rattle.edge_io.specs.Sink.{Put}
use Rattle.script_gate_trait.specs.declared.gate.Verdict.{Verdict}
use Rattle.script_gate_trait.specs.declared.log.Log.{Log}
use Rattle.gate_permits.specs.Permits.{ClaimedText}
use Rattle.verdict_table.specs.declared.record.Record.{Record}
use Rattle.verdict_table.specs.declared.table.Claim.{Claim}
use Rattle.reduce_step.specs.Ahead.{ahead, asked_at_no}
use Rattle.reduce_step.specs.Plan.{Ask, End, Plan, asked}
use Rattle.verdict_table.specs.TableState.{texts_of, verdict_in}
use Rattle.verdict_table.proofs.Lent.{not_among}
use Rattle.reduce_journal.specs.History.{History, records_of}
use Rattle.ordered_commit.specs.Moves.{OpenClaim, is_taken, kept_of, kept_record, next_text}
use Rattle.ordered_commit.specs.Replay.{record_at}
use Rattle.ordered_commit.proofs.Lent.{numbered}
use Rattle.ordered_commit.specs.declared.seat.Seat.{Seat}
use Rattle.ordered_commit.specs.Seats.{with_seat}
use Rattle.ordered_commit.specs.BoardState.{BoardState, IsSettled, core_of, held_claims}
use Rattle.ordered_commit.specs.TakeEnds.{IsClaimed}
use Rattle.worker_pool.specs.inner.UnderWay.{IsAsking, IsFree, IsUnderWay, Moment, moment}

-- ---- a single seat

-- a board with one seat has the new one in its place
pub replaced : (seats : List Seat) (seat seat' : Seat) → seats ≡ seat ∷ [] → seat'.worker ≡ seat.worker → with_seat seat' seats ≡ seat' ∷ []
replaced seats seat seat' only same =
    let equal : nat_eq seat.worker seat'.worker ≡ true = ap (nat_eq seat.worker) same ∙ nat_eq_equiv.refl seat.worker in
    subst (λ (ss : List Seat). with_seat seat' ss ≡ seat' ∷ []) (sym only) (rw equal refl)

-- ---- what is ahead

-- of two texts ahead the first is the one that is asked
first_ahead : (p : Plan) (taken : List ℕ → Bool) (text asks : List ℕ) → asked p ≡ Some asks → taken asks ≡ false
    → find (λ t. not (taken t)) (ahead 2 p) ≡ Some text → text ≡ asks
first_ahead (End result) taken text asks is free found = absurd (cc is)
first_ahead (Ask t a b) taken text asks is free found =
    let same : t ≡ asks = cc is in
    let open_here : taken t ≡ false = ap taken same ∙ free in
    let here : Some t ≡ Some text =
    subst (λ (c : Bool). cond (not c) (Some t) (find (λ u. not (taken u)) (take 1 (asked_at_no b))) ≡ Some text) open_here found in
    let texts : t ≡ text = cc here in
    sym texts ∙ same

-- where something is ahead, something is asked
asks_ahead : (p : Plan) (taken : List ℕ → Bool) (text : List ℕ) → find (λ t. not (taken t)) (ahead 2 p) ≡ Some text → (asks : List ℕ) × (asked p ≡ Some asks)
asks_ahead (End result) taken text found = absurd (cc found)
asks_ahead (Ask t a b) taken text found = (t, refl)

module _ {S J : Type 0} (plan : S → Plan) where
  -- nothing that is asked of a settled board has a record
  unrecorded_by : (state : BoardState S J) (text : List ℕ) → state.fault ≡ None → asked (plan state.front) ≡ Some text → IsSettled plan state
      → (o : Option Verdict) → verdict_in (records_of state.history) text ≡ o → verdict_in (records_of state.history) text ≡ None
  unrecorded_by state text none is settled None known = known
  unrecorded_by state text none is settled (Some v) known =
      let at : (n : ℕ) × (r : Record) × (record_at n (records_of state.history) ≡ Some r) × (r.text ≡ text) =
      numbered (records_of state.history) text v known in
      absurd (settled.0 at.0 (none, (at.1, at.2, is ∙ ap (λ (t : List ℕ). Some t) (sym at.3))))

  pub unrecorded : (state : BoardState S J) (text : List ℕ) → state.fault ≡ None → asked (plan state.front) ≡ Some text → IsSettled plan state
      → verdict_in (records_of state.history) text ≡ None
  unrecorded state text none is settled = unrecorded_by state text none is settled (verdict_in (records_of state.history) text) refl

  -- nor a kept verdict, where it has no record: it would be recalled
  unkept_by : (state : BoardState S J) (text : List ℕ) → state.fault ≡ None → asked (plan state.front) ≡ Some text → IsSettled plan state
      → verdict_in (records_of state.history) text ≡ None → (o : Option Verdict) → verdict_in state.kept text ≡ o → verdict_in state.kept text ≡ None
  unkept_by state text none is settled absent None known = known
  unkept_by state text none is settled absent (Some v) known =
      absurd (settled.1 (
        none,
        (
          kept_record text v,
          ap (kept_of (verdict_in state.kept)) is ∙ ap (option_map (kept_record text)) known,
          not_among (records_of state.history) text absent,
        ),
      ))

  pub unkept_asked : (state : BoardState S J) (text : List ℕ) → state.fault ≡ None → asked (plan state.front) ≡ Some text → IsSettled plan state
      → verdict_in state.kept text ≡ None
  unkept_asked state text none is settled =
      unkept_by state text none is settled (unrecorded state text none is settled) (verdict_in state.kept text) refl

  -- a text that has neither is free where no claim is open
  free_text : (state : BoardState S J) (text : List ℕ) → state.table.claims ≡ [] → verdict_in (records_of state.history) text ≡ None
      → verdict_in state.kept text ≡ None → is_taken (core_of plan state) text ≡ false
  free_text state text no_claims absent unkept =
      let apart : list_any (bytes_eq text) (texts_of (records_of state.history)) ≡ false = not_among (records_of state.history) text absent in
      let no_verdict : is_some (verdict_in state.kept text) ≡ false = ap (λ (o : Option Verdict). is_some o) unkept in
      subst
      (λ (cs : List Claim). ((list_any (bytes_eq text) (texts_of (records_of state.history)) || list_any (bytes_eq text)
      (map (λ (c : OpenClaim). c.text) (held_claims state.seats cs))) || is_some (verdict_in state.kept text)) ≡ false) (sym no_claims)
      (rw (apart, no_verdict) refl)

  -- the text that is claimed is the one that is asked
  pub is_asking : (permit : ClaimedText) (seat seat' : Seat) (old new : BoardState S J) → IsFree seat old → IsSettled plan old
      → IsClaimed plan permit seat seat' old new → IsAsking plan permit seat' new
  is_asking permit seat seat' old new free settled claimed =
      let found : next_text 1 (core_of plan old) ≡ Some permit.text =
      subst (λ (ss : List Seat). next_text (length ss) (core_of plan old) ≡ Some permit.text) free.only_seat claimed.moved.0.3 in
      let some = asks_ahead (plan old.front) (is_taken (core_of plan old)) permit.text found in
      let absent = unrecorded old some.0 claimed.unstopped some.1 settled in
      let unkept = unkept_asked old some.0 claimed.unstopped some.1 settled in
      let no_claims = free.none_open claimed.unstopped in
      let same : permit.text ≡ some.0 =
      first_ahead (plan old.front) (is_taken (core_of plan old)) permit.text some.0 some.1 (free_text old some.0 no_claims absent unkept) found in
      let front : new.front ≡ old.front = ap (λ (state : BoardState S J). state.front) claimed.else_same in
      let history : new.history ≡ old.history = ap (λ (state : BoardState S J). state.history) claimed.else_same in
      let workers : seat'.worker ≡ seat.worker = ap (λ (s : Seat). s.worker) claimed.of_worker in
      record {
        unstopped = ap (λ (state : BoardState S J). state.fault) claimed.else_same ∙ claimed.unstopped;
        only_seat = ap (λ (state : BoardState S J). state.seats) claimed.else_same ∙ replaced old.seats seat seat' free.only_seat workers;
        claimed = ap (λ (s : Seat). s.claim) claimed.of_worker;
        only_claim =
            ap (λ (state : BoardState S J). state.table.claims) claimed.else_same
            ∙ ap (λ (cs : List Claim). cs ++ record { number = permit.claim; text = permit.text } ∷ []) no_claims;
        asks = ap (λ (s : S). asked (plan s)) front ∙ some.1 ∙ ap (λ (t : List ℕ). Some t) (sym same);
        absent = ap (λ (h : History). verdict_in (records_of h) permit.text) history ∙ ap (verdict_in (records_of old.history)) same ∙ absent;
        unkept =
            ap (λ (state : BoardState S J). verdict_in state.kept permit.text) claimed.else_same ∙ ap (verdict_in old.kept) same ∙ unkept;
        holds = claimed.holds;
      }

module _ {S J : Type 0} (first plan : S → Plan) (put : J → Option Put) (faults : J → ℕ) (log : Option Log) (gate_faults : ℕ) (start : Moment) where
  -- a claim keeps what holds
  pub claim_way : (permit : ClaimedText) (seat seat' : Seat) (old new : BoardState S J) → IsClaimed plan permit seat seat' old new
      → IsUnderWay start (moment first plan put faults old log gate_faults) seat → IsUnderWay start (moment first plan put faults new log gate_faults) seat'
  claim_way permit seat seat' old new claimed way =
      let workers : seat'.worker ≡ seat.worker = ap (λ (s : Seat). s.worker) claimed.of_worker in
      subst (λ (state : BoardState S J). IsUnderWay start (moment first plan put faults state log gate_faults) seat') (sym claimed.else_same) (record {
        same_first = way.same_first;
        same_start = way.same_start;
        same_kept = way.same_kept;
        only_seat = replaced old.seats seat seat' way.only_seat workers;
        is_first = workers ∙ way.is_first;
        recorded = way.recorded;
        distinct = way.distinct;
        goes_on = way.goes_on;
        leads_on = way.leads_on;
        replayed = way.replayed;
        waits = way.waits;
        asked = way.asked;
        caused = way.caused;
        written = way.written;
        same_name = way.same_name;
      })
