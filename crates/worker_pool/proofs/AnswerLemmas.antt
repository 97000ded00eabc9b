-- What holds after an answer was recorded, or a claim given up.
use Rattle.std.proofs.Common.{◌≡◌, ◌++◌, ℕ, List, [], ◌∷◌, false, Option, Some, None, is_some, option_map}
use Rattle.std.proofs.Common.{OnErr, OnOk, Result, Ok, Err, refl, sym, ap, ◌∙◌, subst, append_assoc}
use Rattle.std.proofs.lemmas.Cmp.{nat_list_eq_equiv}
use Rattle.std.proofs.lemmas.List.{map-append}
use Rattle.std.proofs.lemmas.Map.Keys.{IsDistinct-push}
use Rattle.std.specs.List.{IsDistinct}
use Rattle.std.specs.Str.{bytes_eq}
use Rattle.faults.specs.Count.{Rose}
use Rattle.edge_io.specs.Sink.{Put}
use Rattle.edge_io.specs.declared.sink.SinkFault.{SinkFault}
use Rattle.script_gate_trait.specs.declared.gate.Verdict.{Verdict}
use Rattle.script_gate_trait.specs.declared.log.Log.{Log}
use Rattle.script_gate_trait.specs.Log.{with_asked}
use Rattle.gate_permits.specs.Permits.{AnsweredText, ClaimedText, IsAnswerTo}
use Rattle.verdict_table.specs.declared.record.Record.{Record}
use Rattle.reduce_step.specs.Plan.{Plan, asked}
use Rattle.verdict_table.specs.TableState.{texts_of, verdict_in}
use Rattle.verdict_table.proofs.Lent.{not_among}
use Rattle.reduce_journal.specs.declared.event.Event.TheVariants.{Recorded}
use Rattle.reduce_journal.specs.History.{History, asked_records_of, records_of}
use Rattle.ordered_commit.specs.Moves.{KeptVerdicts}
use Rattle.ordered_commit.specs.Replay.{replay}
use Rattle.ordered_commit.proofs.Lent.{asked_more, records_more, replay_record, has_more}
use Rattle.ordered_commit.specs.declared.fault.PoolFault.{PoolFault}
use Rattle.ordered_commit.specs.declared.fault.PoolFault.TheVariants.{Journal}
use Rattle.ordered_commit.specs.declared.seat.Seat.{Seat}
use Rattle.ordered_commit.specs.BoardState.{BoardState}
use Rattle.ordered_commit.specs.RecordEnds.{IsRecorded, RecordEnds, event_of}
use Rattle.ordered_commit.specs.Writes.{HasSameName, IsWrittenUnlessBroken}
use Rattle.worker_pool.specs.RunHistory.{with_all_asked}
use Rattle.worker_pool.specs.RunEnds.{IsCaused}
use Rattle.worker_pool.specs.inner.UnderWay.{GoesOn, IsAsking, IsUnansweredAt, IsUnderWay, LeadsOn, Moment, moment}
use Rattle.worker_pool.proofs.SequentialLemmas.{goes_record, leads_record}
use Rattle.worker_pool.proofs.WrittenLemmas.{Has, all_written, record_broke}
use Rattle.worker_pool.proofs.AskLemmas.{replaced}
use Rattle.worker_pool.proofs.LeftLemmas.{Fewer, fewer_by_record, verdict_last}

one_more : (o : Option Log) (texts : List (List ℕ)) (text : List ℕ)
    → option_map (with_asked text) (option_map (with_all_asked texts) o) ≡ option_map (with_all_asked (texts ++ text ∷ [])) o
one_more None texts text = refl
one_more (Some log) texts text = rw append_assoc refl

texts_more : (rs : List Record) (r : Record) → texts_of (rs ++ r ∷ []) ≡ texts_of rs ++ r.text ∷ []
texts_more rs r = map-append (λ (q : Record). q.text) rs (r ∷ [])

-- the records with one more of a new text have it once
pub distinct_more : (rs : List Record) (r : Record) → IsDistinct bytes_eq (texts_of rs) → verdict_in rs r.text ≡ None
    → IsDistinct bytes_eq (texts_of (rs ++ r ∷ []))
distinct_more rs r distinct absent = rw (texts_more rs r) (IsDistinct-push nat_list_eq_equiv (texts_of rs) r.text distinct (not_among rs r.text absent))

-- what a recorded answer changes
module _ {S J : Type 0} (plan : S → Plan) (permit : ClaimedText) (answer : AnsweredText) (seat seat' : Seat) (old new : BoardState S J)
    (asking : IsAsking plan permit seat old) (to : IsAnswerTo permit answer) (recorded : IsRecorded plan answer seat seat' old new) where
  abbrev r : Record
  r = record { text = permit.text; verdict = answer.verdict }

  history_more : new.history ≡ old.history ++ event_of answer ∷ []
  history_more = ap (λ (state : BoardState S J). state.history) recorded.else_same

  history : new.history ≡ old.history ++ Recorded permit.text answer.verdict false ∷ []
  history = history_more ∙ ap (λ (t : List ℕ). old.history ++ Recorded t answer.verdict false ∷ []) to.1

  records : records_of new.history ≡ records_of old.history ++ r ∷ []
  records = ap records_of history ∙ records_more old.history permit.text answer.verdict false

  asked_records : asked_records_of new.history ≡ asked_records_of old.history ++ r ∷ []
  asked_records = ap asked_records_of history ∙ asked_more old.history permit.text answer.verdict

  front : new.front ≡ old.front
  front = ap (λ (state : BoardState S J). state.front) recorded.else_same

  workers : seat'.worker ≡ seat.worker
  workers = ap (λ (s : Seat). s.worker) recorded.of_worker

  only : new.seats ≡ seat' ∷ []
  only = ap (λ (state : BoardState S J). state.seats) recorded.else_same ∙ replaced old.seats seat seat' asking.only_seat workers

  -- the front's text has a record then, so fewer moves are left
  pub fewer_by_answer : Fewer plan old new
  fewer_by_answer =
      fewer_by_record plan old new permit.text asking.unstopped (ap plan front) asking.asks asking.absent
      (ap (λ (o : Option Verdict). is_some o) (ap (λ (rs : List Record). verdict_in rs permit.text) records
      ∙ verdict_last (records_of old.history) permit.text answer.verdict asking.absent))

  -- what holds of the run goes on to hold
  module _ (first : S → Plan) (put : J → Option Put) (faults : J → ℕ) (start : Moment) (log log' : Option Log) (gate_faults gate_faults' : ℕ)
      (asks : log' ≡ option_map (with_asked permit.text) log) (way : IsUnderWay start (moment first plan put faults old log gate_faults) seat)
      (name : HasSameName put old.journal new.journal) where
    there : asked (replay start.first old.history) ≡ Some permit.text
    there = ap asked (sym (way.replayed asking.unstopped)) ∙ asking.asks

    counts : IsCaused None start.gate_faults gate_faults start.journal_faults (faults old.journal)
    counts = subst (λ (f : Option PoolFault). IsCaused f start.gate_faults gate_faults start.journal_faults (faults old.journal)) asking.unstopped way.caused

    abbrev HasNow : Option PoolFault → History → J → Type 0
    HasNow fault history journal = Has start.start start.kept fault history (put journal)

    all_before : HasNow None old.history old.journal
    all_before = all_written start.start start.kept old.fault old.history (put old.journal) asking.unstopped way.written

    -- no verdict is kept for it
    not_kept : is_some (start.kept permit.text) ≡ false
    not_kept = ap (λ (o : Option Verdict). is_some o) (ap (λ (k : KeptVerdicts). k permit.text) (sym way.same_kept) ∙ asking.unkept)

    recorded_by : (fault : Option PoolFault) → new.fault ≡ fault → HasNow fault new.history new.journal
        → IsUnansweredAt fault (replay start.first new.history) (records_of new.history)
        → IsCaused fault start.gate_faults gate_faults' start.journal_faults (faults new.journal)
        → IsUnderWay start (moment first plan put faults new log' gate_faults') seat'
    recorded_by fault is has waits caused = record {
      same_first = ap first front ∙ way.same_first;
      same_start = ap (λ (state : BoardState S J). state.start) recorded.else_same ∙ way.same_start;
      same_kept = ap (λ (state : BoardState S J). verdict_in state.kept) recorded.else_same ∙ way.same_kept;
      only_seat = only;
      is_first = workers ∙ way.is_first;
      recorded = ap (λ (state : BoardState S J). state.table.records) recorded.else_same
          ∙ ap (λ (t : List ℕ). old.table.records ++ record { text = t; verdict = answer.verdict } ∷ []) to.1
          ∙ ap (λ (rs : List Record). rs ++ r ∷ []) way.recorded ∙ sym records;
      distinct =
          subst (λ (rs : List Record). IsDistinct bytes_eq (texts_of rs)) (sym records) (distinct_more (records_of old.history) r way.distinct asking.absent);
      goes_on =
          subst (GoesOn start.kept start.first) (sym history)
          (goes_record start.kept start.first old.history permit.text answer.verdict false not_kept way.goes_on there
          (not_among (records_of old.history) permit.text asking.absent));
      leads_on =
          subst (LeadsOn start.first) (sym history) (leads_record start.kept start.first old.history permit.text answer.verdict false way.leads_on);
      replayed =
          λ none. ap plan front ∙ way.replayed asking.unstopped ∙ sym (replay_record [] start.first old.history permit.text answer.verdict false)
          ∙ ap (replay start.first) (sym history);
      waits = subst (λ (f : Option PoolFault). IsUnansweredAt f (replay start.first new.history) (records_of new.history)) (sym is) waits;
      asked = asks ∙ ap (option_map (with_asked permit.text)) way.asked ∙ one_more start.log (texts_of (asked_records_of old.history)) permit.text
          ∙ ap (λ (ts : List (List ℕ)). option_map (with_all_asked ts) start.log) (sym (texts_more (asked_records_of old.history) r))
          ∙ ap (λ (rs : List Record). option_map (with_all_asked (texts_of rs)) start.log) (sym asked_records);
      caused = subst (λ (f : Option PoolFault). IsCaused f start.gate_faults gate_faults' start.journal_faults (faults new.journal)) (sym is) caused;
      written = subst (λ (f : Option PoolFault). HasNow f new.history new.journal) (sym is) has;
      same_name = name ∙ way.same_name;
    }

    pub record_way : gate_faults' ≡ gate_faults → (result : Result ℕ SinkFault) → RecordEnds put result answer old new
        → OnErr result (Rose (faults old.journal) (faults new.journal)) → OnOk result (faults new.journal ≡ faults old.journal)
        → IsUnderWay start (moment first plan put faults new log' gate_faults') seat'
    record_way same (Ok number) ends failed quiet =
        let written : IsWrittenUnlessBroken put None (event_of answer) old.journal new.journal =
        subst (λ (f : Option PoolFault). IsWrittenUnlessBroken put f (event_of answer) old.journal new.journal) asking.unstopped ends.2 in
        let has : HasNow None new.history new.journal =
        subst (λ (h : History). HasNow None h new.journal) (sym history_more)
        (has_more start.start old.kept old.history (event_of answer) (put old.journal) (put new.journal) written all_before) in
        recorded_by None (ends.1 ∙ asking.unstopped) has tt (same ∙ counts.0, quiet ∙ counts.1)
    record_way same (Err fault) ends failed quiet =
        let has : HasNow (Some Journal) new.history new.journal =
        record_broke start.start start.kept old.history new.history answer.text answer.verdict (put old.journal) (put new.journal) history_more ends.2
        all_before in
        recorded_by (Some Journal) ends.1 has tt (same ∙ counts.0, subst (λ (n : ℕ). Rose n (faults new.journal)) counts.1 failed)
