-- What holds between two calls of a run holds after each call of the board.
use Rattle.std.proofs.Common.{◌≡◌, ◌≢◌, inl, inr, ◌++◌, ℕ, List, [], ◌∷◌, Bool, true, false, Option, Some, None}
use Rattle.std.proofs.Common.{is_some, option_map, Result, Ok, Err, refl, sym, ap, ◌∙◌, subst}
use Rattle.std.proofs.lemmas.Cmp.{nat_list_eq_equiv}
use Rattle.std.proofs.lemmas.List.{map-append}
use Rattle.std.proofs.lemmas.Map.Keys.{IsDistinct-push}
use Rattle.std.specs.List.{IsDistinct, list_any}
use Rattle.std.specs.Str.{bytes_eq}
use Rattle.faults.specs.Count.{Rose}
use Rattle.faults.specs.Memory.{ran_out}
use Rattle.edge_io.specs.Sink.{Put}
use Rattle.script_gate_trait.specs.declared.log.Log.{Log}
use Rattle.verdict_table.specs.declared.record.Record.{Record}
use Rattle.reduce_step.specs.Plan.{Plan, asked}
use Rattle.verdict_table.specs.TableState.{texts_of, verdict_in}
use Rattle.reduce_journal.specs.declared.event.Event.TheVariants.{Committed}
use Rattle.reduce_journal.specs.History.{History, asked_records_of, records_of}
use Rattle.ordered_commit.specs.Moves.{CoreState, KeptVerdicts}
use Rattle.ordered_commit.specs.Replay.{answered, record_at, replay}
use Rattle.ordered_commit.proofs.Lent.{asked_recalled, asked_same, kept_found, records_more, records_same, replay_commit, replay_record, has_more}
use Rattle.ordered_commit.specs.declared.fault.PoolFault.{PoolFault}
use Rattle.ordered_commit.specs.declared.fault.PoolFault.TheVariants.{Journal, Memory}
use Rattle.ordered_commit.specs.declared.fault.BoardFault.{BoardFault}
use Rattle.ordered_commit.specs.declared.fault.BoardFault.TheVariants as board
use Rattle.ordered_commit.specs.declared.seat.Seat.{Seat}
use Rattle.ordered_commit.specs.BoardState.{BoardState, CanCommit, CanRecall}
use Rattle.ordered_commit.specs.CommitEnds.{CommitEnds}
use Rattle.ordered_commit.specs.RecallEnds.{RecallEnds, kept_event}
use Rattle.ordered_commit.specs.Writes.{HasSameName, IsWritten}
use Rattle.worker_pool.specs.RunHistory.{with_all_asked}
use Rattle.worker_pool.specs.RunEnds.{IsCaused}
use Rattle.worker_pool.specs.inner.UnderWay.{GoesOn, IsUnansweredAt, IsUnderWay, LeadsOn, Moment, moment}
use Rattle.worker_pool.proofs.SequentialLemmas.{goes_commit, goes_record, leads_commit, leads_record}
use Rattle.worker_pool.proofs.WrittenLemmas.{Has, all_written, commit_broke, recall_broke}

module _ {S J : Type 0} (first plan : S → Plan) (put : J → Option Put) (faults : J → ℕ) (log : Option Log) (gate_faults : ℕ) (start : Moment) (seat : Seat)
    (old new : BoardState S J) where
  abbrev Now : BoardState S J → Moment
  Now state = moment first plan put faults state log gate_faults

  -- what the journal has, by a fault
  abbrev HasNow : Option PoolFault → History → J → Type 0
  HasNow fault history journal = Has start.start start.kept fault history (put journal)

  -- what a commit and a recall that fails leave, whatever they answer
  pub record CommitKeeps : Type 0 where
    pub table : new.table ≡ old.table
    pub seats : new.seats ≡ old.seats
    pub same_first : first new.front ≡ first old.front
    pub same_start : new.start ≡ old.start
    pub same_kept : new.kept ≡ old.kept
    pub name : HasSameName put old.journal new.journal

  module _ (way : IsUnderWay start (Now old) seat) where
    -- all was written before
    all_before : old.fault ≡ None → HasNow None old.history old.journal
    all_before none = all_written start.start start.kept old.fault old.history (put old.journal) none way.written

    -- the counts were as at the start
    quiet_before : old.fault ≡ None → IsCaused None start.gate_faults gate_faults start.journal_faults (faults old.journal)
    quiet_before none = subst (λ (f : Option PoolFault). IsCaused f start.gate_faults gate_faults start.journal_faults (faults old.journal)) none way.caused

    module _ (keeps : CommitKeeps) where
      -- and after a commit that was put
      more_written : (number : ℕ) → old.fault ≡ None → new.history ≡ old.history ++ Committed number ∷ []
          → IsWritten put (Committed number) old.journal new.journal → HasNow None new.history new.journal
      more_written number none history written =
          subst (λ (h : History). HasNow None h new.journal) (sym history)
          (has_more start.start old.kept old.history (Committed number) (put old.journal) (put new.journal) written (all_before none))

      -- a commit that was made
      module _ (number : ℕ) (could : CanCommit plan old number) (history : new.history ≡ old.history ++ Committed number ∷ []) where
        abbrev r : Record
        r = could.1.0

        at : record_at number (records_of old.history) ≡ Some r
        at = could.1.1

        there : asked (replay start.first old.history) ≡ Some r.text
        there = ap asked (sym (way.replayed could.0)) ∙ could.1.2

        records : records_of new.history ≡ records_of old.history
        records = ap records_of history ∙ records_same old.history number

        asked_records : asked_records_of new.history ≡ asked_records_of old.history
        asked_records = ap asked_records_of history ∙ asked_same old.history number

        committed : (fault : Option PoolFault) → new.fault ≡ fault
            → (new.fault ≡ None → plan new.front ≡ answered (record_at number (records_of old.history)) (plan old.front))
            → HasNow fault new.history new.journal → IsUnansweredAt fault (replay start.first new.history) (records_of new.history)
            → IsCaused fault start.gate_faults gate_faults start.journal_faults (faults new.journal) → IsUnderWay start (Now new) seat
        committed fault is answers has waits caused =
            record {
              same_first = keeps.same_first ∙ way.same_first;
              same_start = keeps.same_start ∙ way.same_start;
              same_kept = ap verdict_in keeps.same_kept ∙ way.same_kept;
              only_seat = keeps.seats ∙ way.only_seat;
              is_first = way.is_first;
              recorded = ap (λ t. t.records) keeps.table ∙ way.recorded ∙ sym records;
              distinct = subst (λ (rs : List Record). IsDistinct bytes_eq (texts_of rs)) (sym records) way.distinct;
              goes_on =
                  subst (GoesOn start.kept start.first) (sym history)
                  (goes_commit start.kept start.first old.history number r at there way.goes_on way.distinct);
              leads_on = subst (LeadsOn start.first) (sym history) (leads_commit start.kept start.first old.history number r at there way.leads_on);
              replayed =
                  λ none. answers none ∙ ap (answered (record_at number (records_of old.history))) (way.replayed could.0)
                  ∙ sym (replay_commit [] start.first old.history number) ∙ ap (replay start.first) (sym history);
              waits = subst (λ (f : Option PoolFault). IsUnansweredAt f (replay start.first new.history) (records_of new.history)) (sym is) waits;
              asked = way.asked ∙ ap (λ (rs : List Record). option_map (with_all_asked (texts_of rs)) start.log) (sym asked_records);
              caused = subst (λ (f : Option PoolFault). IsCaused f start.gate_faults gate_faults start.journal_faults (faults new.journal)) (sym is) caused;
              written = subst (λ (f : Option PoolFault). HasNow f new.history new.journal) (sym is) has;
              same_name = keeps.name ∙ way.same_name;
            }

      -- nothing but the journal and the fault changed
      stopped : old.fault ≡ None → new.history ≡ old.history → (fault : PoolFault) → new.fault ≡ Some fault → HasNow (Some fault) new.history new.journal
          → IsUnansweredAt (Some fault) (replay start.first new.history) (records_of new.history)
          → IsCaused (Some fault) start.gate_faults gate_faults start.journal_faults (faults new.journal)
          → IsUnderWay start (Now new) seat
      stopped none history fault is has waits caused =
          record {
            same_first = keeps.same_first ∙ way.same_first;
            same_start = keeps.same_start ∙ way.same_start;
            same_kept = ap verdict_in keeps.same_kept ∙ way.same_kept;
            only_seat = keeps.seats ∙ way.only_seat;
            is_first = way.is_first;
            recorded = ap (λ t. t.records) keeps.table ∙ way.recorded ∙ ap records_of (sym history);
            distinct = subst (λ (h : History). IsDistinct bytes_eq (texts_of (records_of h))) (sym history) way.distinct;
            goes_on = subst (GoesOn start.kept start.first) (sym history) way.goes_on;
            leads_on = subst (LeadsOn start.first) (sym history) way.leads_on;
            replayed = λ never. absurd (cc (sym is ∙ never));
            waits = subst (λ (f : Option PoolFault). IsUnansweredAt f (replay start.first new.history) (records_of new.history)) (sym is) waits;
            asked = way.asked ∙ ap (λ (h : History). option_map (with_all_asked (texts_of (asked_records_of h))) start.log) (sym history);
            caused = subst (λ (f : Option PoolFault). IsCaused f start.gate_faults gate_faults start.journal_faults (faults new.journal)) (sym is) caused;
            written = subst (λ (f : Option PoolFault). HasNow f new.history new.journal) (sym is) has;
            same_name = keeps.name ∙ way.same_name;
          }

      -- so a commit keeps what holds, whatever it answers
      pub commit_way : (result : Result Bool BoardFault) → CommitEnds plan put result old new
          → (result ≡ Err board.Journal → Rose (faults old.journal) (faults new.journal))
          → (result ≢ Err board.Journal → faults new.journal ≡ faults old.journal)
          → IsUnderWay start (Now new) seat
      commit_way (Ok true) ends failed quiet =
          let counts = quiet_before ends.could.0 in
          let history : new.history ≡ old.history ++ Committed ends.number ∷ [] = ap (λ (c : CoreState). c.history) ends.moved.1 in
          committed ends.number ends.could history None ends.fault (λ none. ap (λ (c : CoreState). c.front) ends.moved.1)
          (more_written ends.number ends.could.0 history ends.written) tt (counts.0, quiet (λ is. cc is) ∙ counts.1)
      commit_way (Ok false) ends failed quiet = subst (λ (state : BoardState S J). IsUnderWay start (Now state) seat) (sym ends.1) way
      commit_way (Err board.Journal) ends failed quiet =
          let counts = quiet_before ends.could.0 in
          let history : new.history ≡ old.history = ap (λ (state : BoardState S J). state.history) ends.else_same in
          let has : HasNow (Some Journal) new.history new.journal =
          commit_broke start.start start.kept old.history new.history ends.number ends.could.1.0 (put old.journal) (put new.journal) ends.could.1.1 history
          ends.part (all_before ends.could.0) in
          stopped ends.could.0 history Journal (ap (λ (state : BoardState S J). state.fault) ends.else_same) has tt
          (counts.0, subst (λ (n : ℕ). Rose n (faults new.journal)) counts.1 (failed refl))
      commit_way (Err (board.Memory _)) (inl ends) failed quiet =
          let counts = quiet_before ends.could.0 in
          let has : HasNow None new.history new.journal =
          subst (λ (state : BoardState S J). HasNow None state.history state.journal) (sym ends.else_same) (all_before ends.could.0) in
          stopped ends.could.0 (ap (λ (state : BoardState S J). state.history) ends.else_same) (Memory ran_out)
          (ap (λ (state : BoardState S J). state.fault) ends.else_same) has tt (counts.0, quiet (λ is. cc is) ∙ counts.1)
      commit_way (Err (board.Memory _)) (inr ends) failed quiet =
          let counts = quiet_before ends.could.0 in
          committed ends.number ends.could ends.history (Some (Memory ran_out)) ends.fault (λ none. absurd (cc (sym ends.fault ∙ none)))
          (more_written ends.number ends.could.0 ends.history ends.written) tt (counts.0, quiet (λ is. cc is) ∙ counts.1)

    -- ---- a recall

    -- the record that is recalled, its text, and its verdict
    module _ (r : Record) (could : CanRecall plan old) (found : could.1.0 ≡ r) where
      asks : asked (plan old.front) ≡ Some r.text
      asks =
          subst (λ (q : Record). asked (plan old.front) ≡ Some q.text) found
          (kept_found (verdict_in old.kept) (asked (plan old.front)) could.1.0 could.1.1).0

      is_kept : start.kept r.text ≡ Some r.verdict
      is_kept =
          ap (λ (k : KeptVerdicts). k r.text) (sym way.same_kept)
          ∙ subst (λ (q : Record). verdict_in old.kept q.text ≡ Some q.verdict) found
          (kept_found (verdict_in old.kept) (asked (plan old.front)) could.1.0 could.1.1).1

      unrecorded : list_any (bytes_eq r.text) (texts_of (records_of old.history)) ≡ false
      unrecorded = subst (λ (q : Record). list_any (bytes_eq q.text) (texts_of (records_of old.history)) ≡ false) found could.1.2

      recalled : new.fault ≡ None → new.front ≡ old.front → new.seats ≡ old.seats → new.start ≡ old.start → new.kept ≡ old.kept
          → new.history ≡ old.history ++ kept_event r ∷ [] → new.table.records ≡ old.table.records ++ r ∷ []
          → IsWritten put (kept_event r) old.journal new.journal → faults new.journal ≡ faults old.journal → HasSameName put old.journal new.journal
          → IsUnderWay start (Now new) seat
      recalled none front seats same_start same_kept history table written quiet name =
          let counts = quiet_before could.0 in
          let records : records_of new.history ≡ records_of old.history ++ r ∷ [] =
          ap records_of history ∙ records_more old.history r.text r.verdict true in
          let texts : texts_of (records_of old.history ++ r ∷ []) ≡ texts_of (records_of old.history) ++ r.text ∷ [] =
          map-append (λ (q : Record). q.text) (records_of old.history) (r ∷ []) in
          let has : HasNow None new.history new.journal =
          subst (λ (h : History). HasNow None h new.journal) (sym history)
          (has_more start.start old.kept old.history (kept_event r) (put old.journal) (put new.journal) written (all_before could.0)) in
          record {
            same_first = ap first front ∙ way.same_first;
            same_start = same_start ∙ way.same_start;
            same_kept = ap verdict_in same_kept ∙ way.same_kept;
            only_seat = seats ∙ way.only_seat;
            is_first = way.is_first;
            recorded = table ∙ ap (λ (rs : List Record). rs ++ r ∷ []) way.recorded ∙ sym records;
            distinct = subst (λ (rs : List Record). IsDistinct bytes_eq (texts_of rs)) (sym records)
                (rw texts (IsDistinct-push nat_list_eq_equiv (texts_of (records_of old.history)) r.text way.distinct unrecorded));
            goes_on = subst (GoesOn start.kept start.first) (sym history)
                (goes_record start.kept start.first old.history r.text r.verdict true (ap is_some is_kept) way.goes_on
                (ap asked (sym (way.replayed could.0)) ∙ asks) unrecorded);
            leads_on = subst (LeadsOn start.first) (sym history) (leads_record start.kept start.first old.history r.text r.verdict true way.leads_on);
            replayed =
                λ _. ap plan front ∙ way.replayed could.0 ∙ sym (replay_record [] start.first old.history r.text r.verdict true)
                ∙ ap (replay start.first) (sym history);
            waits = subst (λ (f : Option PoolFault). IsUnansweredAt f (replay start.first new.history) (records_of new.history)) (sym none) tt;
            asked =
                way.asked
                ∙ ap (λ (rs : List Record). option_map (with_all_asked (texts_of rs)) start.log)
                (sym (ap asked_records_of history ∙ asked_recalled old.history r.text r.verdict));
            caused = subst (λ (f : Option PoolFault). IsCaused f start.gate_faults gate_faults start.journal_faults (faults new.journal)) (sym none)
                (counts.0, quiet ∙ counts.1);
            written = subst (λ (f : Option PoolFault). HasNow f new.history new.journal) (sym none) has;
            same_name = name ∙ way.same_name;
          }

    -- the record is the one that could be recalled
    one_recalled : (o : Option Record) (q r : Record) → o ≡ Some r → o ≡ Some q → q ≡ r
    one_recalled o q r is could = cc (sym could ∙ is)

    -- a recall keeps what holds, whatever it answers
    pub recall_way : (result : Result Bool BoardFault) → RecallEnds plan put result old new → HasSameName put old.journal new.journal
        → (result ≡ Err board.Journal → Rose (faults old.journal) (faults new.journal)) → (result ≢ Err board.Journal → faults new.journal ≡ faults old.journal)
        → IsUnderWay start (Now new) seat
    recall_way (Ok true) ends name failed quiet =
        let same = ends.else_same in
        recalled ends.kept ends.could (one_recalled _ ends.could.1.0 ends.kept ends.found ends.could.1.1)
        (ap (λ (s : BoardState S J). s.fault) same ∙ ends.could.0) (ap (λ (s : BoardState S J). s.front) same) (ap (λ (s : BoardState S J). s.seats) same)
        (ap (λ (s : BoardState S J). s.start) same) (ap (λ (s : BoardState S J). s.kept) same) (ap (λ (s : BoardState S J). s.history) same)
        (ap (λ (s : BoardState S J). s.table.records) same) ends.written (quiet (λ is. cc is)) name
    recall_way (Ok false) ends name failed quiet = subst (λ (state : BoardState S J). IsUnderWay start (Now state) seat) (sym ends.1) way
    recall_way (Err board.Journal) ends name failed quiet =
        let counts = quiet_before ends.could.0 in
        let same = ends.else_same in
        let history : new.history ≡ old.history = ap (λ (s : BoardState S J). s.history) same in
        let r : Record = ends.kept in
        let is : start.kept r.text ≡ Some r.verdict = is_kept r ends.could (one_recalled _ ends.could.1.0 r ends.found ends.could.1.1) in
        let has : HasNow (Some Journal) new.history new.journal =
        recall_broke start.start start.kept old.history new.history r.text r.verdict (put old.journal) (put new.journal) is history ends.part
        (all_before ends.could.0) in
        stopped
        (record {
          table = ap (λ (s : BoardState S J). s.table) same;
          seats = ap (λ (s : BoardState S J). s.seats) same;
          same_first = ap (λ (s : BoardState S J). first s.front) same;
          same_start = ap (λ (s : BoardState S J). s.start) same;
          same_kept = ap (λ (s : BoardState S J). s.kept) same;
          name = name;
        })
        ends.could.0 history Journal (ap (λ (s : BoardState S J). s.fault) same) has tt
        (counts.0, subst (λ (n : ℕ). Rose n (faults new.journal)) counts.1 (failed refl))
    recall_way (Err (board.Memory _)) ends name failed quiet =
        let counts = quiet_before ends.0.0 in
        let same = ends.1 in
        let has : HasNow None new.history new.journal =
        subst (λ (s : BoardState S J). HasNow None s.history s.journal) (sym same) (all_before ends.0.0) in
        stopped
        (record {
          table = ap (λ (s : BoardState S J). s.table) same;
          seats = ap (λ (s : BoardState S J). s.seats) same;
          same_first = ap (λ (s : BoardState S J). first s.front) same;
          same_start = ap (λ (s : BoardState S J). s.start) same;
          same_kept = ap (λ (s : BoardState S J). s.kept) same;
          name = name;
        })
        ends.0.0 (ap (λ (s : BoardState S J). s.history) same) (Memory ran_out) (ap (λ (s : BoardState S J). s.fault) same) has tt
        (counts.0, quiet (λ is. cc is) ∙ counts.1)
