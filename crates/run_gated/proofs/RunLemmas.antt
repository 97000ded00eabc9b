-- What a run says of the reduction of a mode over its records.
use Rattle.std.proofs.Common.{◌≡◌, ℕ, List, [], ◌∷◌, length, option_map, arith, Option, Some, None, IfSome, IsSome, true}
use Rattle.std.proofs.Common.{false, Result, Ok, Err, refl, sym, ap, ◌∙◌, subst, ◌⊎◌, inl, inr, ⊎_elim}
use Rattle.std.proofs.lemmas.Bool.{false≢true}
use Rattle.std.proofs.lemmas.Cmp.{nat_list_eq_equiv}
use Rattle.std.proofs.lemmas.List.Elements.{All-weaker}
use Rattle.edge_io.specs.Sink.{Put}
use Rattle.script_gate_trait.specs.declared.gate.Verdict.{Verdict}
use Rattle.script_gate_trait.specs.declared.gate.Verdict.TheVariants.{Yes, No}
use Rattle.verdict_table.specs.declared.record.Record.{Record}
use Rattle.reduce_step.specs.Plan.{Plan, StepResult, End, HasEnded, MayAsk, after, asked, follow}
use Rattle.verdict_table.specs.TableState.{verdict_in, texts_of}
use Rattle.reduce_rounds.specs.Trials.{IsTriedAtNo}
use Rattle.reduce_rounds.specs.Mode.{Keeps, RoundMode}
use Rattle.reduce_rounds.specs.Reduction.{reduction}
use Rattle.reduce_rounds.specs.ByTrials.{recursion_of, reduction_of}
use Rattle.reduce_rounds.specs.RoundsPlan.{plan_first}
use Rattle.reduce_rounds.specs.Laws.{AsksCandidates, EndsMinimal, IsTextOf, IsTheReduction, RefusesAtNo, result_of}
use Rattle.reduce_rounds.specs.Verdicts.{HasVerdicts, says_yes}
use Rattle.reduce_journal.specs.declared.digest.Digest.{Digest}
use Rattle.reduce_journal.specs.History.{History, asked_records_of, records_of}
use Rattle.ordered_commit.specs.Moves.{KeptVerdicts}
use Rattle.ordered_commit.specs.Replay.{replay}
use Rattle.ordered_commit.specs.declared.fault.PoolFault.{PoolFault}
use Rattle.ordered_commit.specs.declared.fault.PoolFault.TheVariants as pool
use Rattle.script_gate_trait.specs.declared.log.Log.{Log}
use Rattle.worker_pool.specs.RunHistory.{BeginsWith, EndsAtFirst, IsHistoryOf, IsSequential, own_history, with_all_asked}
use Rattle.worker_pool.specs.RunEnds.{BrokeAtEnd, IsCaused, ReducerEnds}
use Rattle.worker_pool.specs.inner.RunEnds.{HasPart, JournalEnds}
use Rattle.worker_pool.proofs.Lent.{has_beginning}
use Rattle.run_gated.specs.Faults.{fault_kept}
use Rattle.run_gated.specs.Records.{AreAsked, AreOfMode, BeginsAt, FirstIs, FirstIsNo, OnlyNo}
use Rattle.run_gated.specs.Seen.{NoneFailed, SeenGate, SeenJournal}
use Rattle.run_gated.specs.Run.{Run}
use Rattle.run_gated.specs.Workers.{BrokeBy, HasPartBy}
use Rattle.run_gated.specs.inner.Workers.{IsCausedBy, IsQuietBut, IsRunBy, JournalLeft, WaitsAt}
use Rattle.run_gated.specs.RunEnds.{IsDefinedOver, IsUnfinishedIn, JournalHas, ReducesIn, RunEndsIn, reduction_over}
use Rattle.run_gated.specs.inner.RunEnds.{AnswersFor}
use Rattle.run_gated.specs.declared.fault.RunFault.{RunFault}
use Rattle.run_gated.specs.declared.fault.RunFault.TheVariants as run_fault
use Rattle.run_gated.specs.declared.ran.Reduced.{Reduced}

first_known : (start : List ℕ) (r : Record) (records : List Record) → r.text ≡ start → verdict_in (r ∷ records) start ≡ Some r.verdict
first_known start r records same = rw (same, nat_list_eq_equiv.refl start) refl

-- the start's verdict is that of the first record
start_is : (start : List ℕ) (records : List Record) (verdict : Verdict) → BeginsAt start records → verdict_in records start ≡ Some verdict
    → FirstIs start verdict records
start_is start [] verdict begins is = absurd (cc is)
start_is start (r ∷ records) verdict begins is =
    let both : Some r.verdict ≡ Some verdict = sym (first_known start r records begins) ∙ is in
    (begins, cc)

first_no_is : (start : List ℕ) (records : List Record) → BeginsAt start records → FirstIsNo records → verdict_in records start ≡ Some No
first_no_is start [] begins no_first = absurd no_first
first_no_is start (r ∷ records) begins no_first = first_known start r records begins ∙ ap (λ verdict. Some verdict) no_first

no_is_first : (start : List ℕ) (records : List Record) → FirstIs start No records → FirstIsNo records
no_is_first start [] first = absurd first
no_is_first start (r ∷ records) first = first.1

by_verdict : (o : Option Verdict) → IsSome o → (o ≡ Some Yes) ⊎ (o ≡ Some No)
by_verdict None some = absurd (false≢true some)
by_verdict (Some Yes) some = inl refl
by_verdict (Some No) some = inr refl

-- what asks hasn't ended
not_ended : (p : Plan) → IsSome (asked p) → HasEnded p → ⊥
not_ended p waits ended = let none : IsSome {T = List ℕ} None = subst (λ (o : Option (List ℕ)). IsSome o) ended waits in absurd (cc none)

module _ {T : Type 0} (mode : RoundMode T) where
  begins_at : (records : List Record) → BeginsWith (plan_first mode) records → BeginsAt (mode.text mode.start) records
  begins_at [] begun = tt
  begins_at (r ∷ records) begun = let same : Some (mode.text mode.start) ≡ Some r.text = begun in (cc)

  -- a start that is refused ends the run at once
  refused_ends : HasEnded (after (plan_first mode) No)
  refused_ends = refl

  only_no : (records : List Record) → EndsAtFirst (plan_first mode) records → FirstIsNo records → OnlyNo records
  only_no [] one no_first = absurd no_first
  only_no (r ∷ records) one no_first = (no_first, one (subst (λ verdict. HasEnded (after (plan_first mode) verdict)) (sym no_first) refused_ends))

  -- the start is asked first
  start_known : (V : List ℕ → Option Verdict) → HasVerdicts V (reduction_of mode (says_yes V)).questions → IsSome (V (mode.text mode.start))
  unfolding reduction
  start_known V has = has.0

  module _ (run : Run) (may_say : List ℕ → Verdict → Type 0) (last : Plan) (fault : Option PoolFault)
      (ran : IsRunBy run.workers may_say (verdict_in run.kept) (plan_first mode) last fault run.history run.before.gates run.after.gates) where
    abbrev records : List Record
    records = records_of run.history

    begins : BeginsAt (mode.text mode.start) records
    begins = begins_at records (ran.start refused_ends).0

    one : EndsAtFirst (plan_first mode) records
    one = (ran.start refused_ends).1

    -- what may be asked of a listed start is the text of a state that is kept
    pub are_of_mode : (Kept : T → Type 0) → AsksCandidates mode Kept → Keeps mode Kept → mode.is_listed mode.start ≡ true
        → AreOfMode run.workers (verdict_in run.kept) mode Kept run.history
    are_of_mode Kept law keeps listed =
        record {
          legal = ran.history_of.legal;
          readable = ran.history_of.readable;
          candidates =
              All-weaker (λ (r : Record). MayAsk (plan_first mode) r.text) (λ (r : Record). IsTextOf mode Kept r.text)
              (λ r may_ask. law keeps listed r.text may_ask) records ran.history_of.may_ask;
          first = begins;
          ends_at_no = only_no records one;
          sequential = λ alone. has_beginning (verdict_in run.kept) fault (plan_first mode) run.history (ran.alone alone).sequential;
        }

    module _ (follows : (V : List ℕ → Option Verdict) → IsTheReduction (plan_first mode) (recursion_of mode) V)
        (refuses : RefusesAtNo (plan_first mode) (recursion_of mode)) where
      module _ (result : StepResult) (ended : HasEnded last) (followed : last ≡ follow (verdict_in records) (plan_first mode))
          (replayed : last ≡ replay (plan_first mode) run.history) (found : last ≡ End result)
          (whole : run.workers ≡ 1 → run.history ≡ own_history (verdict_in run.kept) (plan_first mode) run.history) where
        has : IsDefinedOver mode records
        has = (follows (verdict_in records)).defined (subst HasEnded followed ended)

        committed : HasEnded (replay (plan_first mode) run.history)
        committed = subst HasEnded replayed ended

        found_is : result ≡ result_of (recursion_of mode) (reduction_over mode records)
        found_is =
            let same : End result ≡ End (result_of (recursion_of mode) (reduction_over mode records)) =
            sym found ∙ followed ∙ (follows (verdict_in records)).ends has in
            (cc)

        refused_is : result.refused ≡ (reduction_over mode records).refused
        refused_is = ap (λ (x : StepResult). x.refused) found_is

        first_yes : result.refused ≡ false → FirstIs (mode.text mode.start) Yes records
        first_yes stays =
            ⊎_elim (λ yes_there. start_is (mode.text mode.start) records Yes begins yes_there)
            (λ no_there. absurd (false≢true (sym stays ∙ refused_is ∙ ((refuses (verdict_in records)).1 no_there).1)))
            (by_verdict (verdict_in records (mode.text mode.start)) (start_known (verdict_in records) has))

        first_no : result.refused ≡ true → FirstIs (mode.text mode.start) No records
        first_no refused =
            ⊎_elim (λ yes_there. absurd (false≢true (sym ((refuses (verdict_in records)).0 yes_there) ∙ sym refused_is ∙ refused)))
            (λ no_there. start_is (mode.text mode.start) records No begins no_there)
            (by_verdict (verdict_in records (mode.text mode.start)) (start_known (verdict_in records) has))

        -- the reducer's result is that of the reduction, unless it refused the start
        reduces_in : (Kept : T → Type 0) → EndsMinimal mode Kept (λ state other. IsTriedAtNo (mode.round state) other) → result.refused ≡ false
            → ReducesIn run.workers (verdict_in run.kept) mode Kept run.history result
        reduces_in Kept minimal stays =
            let interesting : (reduction_over mode records).refused ≡ false = sym refused_is ∙ stays in
            record {
              whole = whole;
              committed = committed;
              first = first_yes stays;
              defined = has;
              interesting = interesting;
              is_result = found_is;
              ends_well = λ lawful listed. minimal lawful (λ state other kept tried. tried) listed (verdict_in records) interesting has;
            }

        -- how it ends without a fault
        without_fault : (Kept : T → Type 0) → EndsMinimal mode Kept (λ state other. IsTriedAtNo (mode.round state) other) → NoneFailed run.before run.after
            → (answer : Result Reduced RunFault) → AnswersFor None result (mode.size mode.start) (length (mode.text mode.start)) (length records) answer
            → RunEndsIn mode Kept run answer
        without_fault Kept minimal quiet (Ok reduced) is = ((result, is.1, is.2, reduces_in Kept minimal is.0), quiet)
        without_fault Kept minimal quiet (Err run_fault.NotInteresting) is =
            let first = first_no is in
            (first, only_no records one (no_is_first (mode.text mode.start) records first), quiet, whole, committed)
        without_fault Kept minimal quiet (Err (run_fault.Memory _)) is = (quiet.journal, λ alone. quiet.gates)
        without_fault Kept minimal quiet (Err (run_fault.Script worker)) is = absurd is
        without_fault Kept minimal quiet (Err run_fault.Journal) is = absurd is

      -- a text that is asked has no record, where the gate failed
      unanswered : IsSome (asked (follow (verdict_in records) (plan_first mode))) → (¬ FirstIsNo records) × (¬ IsDefinedOver mode records)
      unanswered waiting = (
        λ no_first. not_ended (follow (verdict_in records) (plan_first mode)) waiting
            ((refuses (verdict_in records)).1 (first_no_is (mode.text mode.start) records begins no_first)).0,
        λ has. not_ended (follow (verdict_in records) (plan_first mode)) waiting (ap asked ((follows (verdict_in records)).ends has)),
      )

      unfinished : WaitsAt (Some (pool.Script 1)) (plan_first mode) run.history
          → run.history ≡ own_history (verdict_in run.kept) (plan_first mode) run.history → IsUnfinishedIn (verdict_in run.kept) mode run.history
      unfinished waits whole = let both = unanswered waits in (both.0, both.1, whole)

-- how a run ends with a fault
with_fault : {T : Type 0} (mode : RoundMode T) → ((V : List ℕ → Option Verdict) → IsTheReduction (plan_first mode) (recursion_of mode) V)
    → RefusesAtNo (plan_first mode) (recursion_of mode)
    → (Kept : T → Type 0) (run : Run) (may_say : List ℕ → Verdict → Type 0) (last : Plan) (fault : PoolFault)
    → IsRunBy run.workers may_say (verdict_in run.kept) (plan_first mode) last (Some fault) run.history run.before.gates run.after.gates
    → IsCausedBy (Some fault) run.before run.after → RunEndsIn mode Kept run (Err (fault_kept fault))
with_fault mode follows refuses Kept run may_say last (pool.Script worker) ran caused = (
  caused.0,
  caused.1,
  λ alone. unfinished mode run may_say last (Some (pool.Script worker)) ran follows refuses (ran.alone alone).waits
      (ran.alone alone).sequential,
)
with_fault mode follows refuses Kept run may_say last pool.Journal ran caused = (caused, λ alone. (ran.alone alone).quiet)
with_fault mode follows refuses Kept run may_say last (pool.Memory _) ran caused = (caused, λ alone. (ran.alone alone).quiet)

-- how a run ends
pub run_ends : {T : Type 0} (mode : RoundMode T) → ((V : List ℕ → Option Verdict) → IsTheReduction (plan_first mode) (recursion_of mode) V)
    → RefusesAtNo (plan_first mode) (recursion_of mode) → (Kept : T → Type 0) → EndsMinimal mode Kept (λ state other. IsTriedAtNo (mode.round state) other)
    → (run : Run) (may_say : List ℕ → Verdict → Type 0) (last : Plan) (fault : Option PoolFault) (result : StepResult) (answer : Result Reduced RunFault)
    → IsRunBy run.workers may_say (verdict_in run.kept) (plan_first mode) last fault run.history run.before.gates run.after.gates
    → (fault ≡ None → HasEnded last → last ≡ End result)
    → IsCausedBy fault run.before run.after
    → AnswersFor fault result (mode.size mode.start) (length (mode.text mode.start)) (length (records_of run.history)) answer → RunEndsIn mode Kept run answer
run_ends mode follows refuses Kept minimal run may_say last (Some fault) result answer ran found caused is =
    subst (RunEndsIn mode Kept run) (sym is) (with_fault mode follows refuses Kept run may_say last fault ran caused)
run_ends mode follows refuses Kept minimal run may_say last None result answer ran found caused is =
    let ended = ran.ended refl in
    without_fault mode run may_say last None ran follows refuses result ended.0 ended.1 ended.2 (found refl ended.0)
    (λ alone. (ran.alone alone).sequential) Kept minimal caused answer is

-- the same run by another name of what was done first
pub run_from : (workers : ℕ) (may_say : List ℕ → Verdict → Type 0) (kept : KeptVerdicts) (first first' last : Plan) (fault : Option PoolFault)
    (history : History) (old new : List SeenGate) → first ≡ first' → IsRunBy workers may_say kept first last fault history old new
    → IsRunBy workers may_say kept first' last fault history old new
run_from workers may_say kept first first' last fault history old new same ran =
    subst (λ (p : Plan). IsRunBy workers may_say kept p last fault history old new) same ran

-- what the journal has, by the fault, by what is answered
pub journal_has : (run : Run) (fault : Option PoolFault) (result : StepResult) (units bytes record_count : ℕ) (answer : Result Reduced RunFault)
    → AnswersFor fault result units bytes record_count answer
    → JournalLeft run.workers run.start (verdict_in run.kept) fault run.history run.before.journal.shown run.after.journal.shown
    → IsCausedBy fault run.before run.after
    → JournalHas run answer
journal_has run None result units bytes record_count (Ok reduced) is ends caused = (ends, caused.journal)
journal_has run None result units bytes record_count (Err run_fault.NotInteresting) is ends caused = (ends, caused.journal)
journal_has run None result units bytes record_count (Err (run_fault.Memory _)) is ends caused = (inl ends, caused.journal)
journal_has run None result units bytes record_count (Err (run_fault.Script worker)) is ends caused = absurd is
journal_has run None result units bytes record_count (Err run_fault.Journal) is ends caused = absurd is
journal_has run (Some (pool.Script worker)) result units bytes record_count answer is ends caused = subst (JournalHas run) (sym is) (ends, caused.1)
journal_has run (Some pool.Journal) result units bytes record_count answer is ends caused = subst (JournalHas run) (sym is) (ends, caused)
journal_has run (Some (pool.Memory _)) result units bytes record_count answer is ends caused = subst (JournalHas run) (sym is) (ends, caused)

-- a run of one worker is one by so many workers
one_asked : (texts : List (List ℕ)) (log log' : Option Log) → log' ≡ option_map (with_all_asked texts) log → AreAsked texts (log ∷ []) (log' ∷ [])
one_asked texts log log' is =
    record { shares = texts ∷ []; one_each = refl; total = omega arith; alone = λ _. refl; asked = ap (λ (l : Option Log). l ∷ []) is }

pub caused_by : (fault : Option PoolFault) (gate gate' : SeenGate) (journal journal' : SeenJournal)
    → IsCaused fault gate.faults gate'.faults journal.faults journal'.faults
    → IsCausedBy fault (record { gates = gate ∷ []; journal = journal }) (record { gates = gate' ∷ []; journal = journal' })
caused_by None gate gate' journal journal' caused = record { gates = ap (λ (n : ℕ). n ∷ []) caused.0; journal = caused.1 }
caused_by (Some (pool.Script worker)) gate gate' journal journal' caused = ((0, caused.0, caused.1), caused.2)
caused_by (Some pool.Journal) gate gate' journal journal' caused = caused.1
caused_by (Some (pool.Memory _)) gate gate' journal journal' caused = caused.1

quiet_but : (fault : Option PoolFault) (gate gate' : SeenGate) (journal journal' : ℕ) → IsCaused fault gate.faults gate'.faults journal journal'
    → IsQuietBut fault (gate ∷ []) (gate' ∷ [])
quiet_but None gate gate' journal journal' caused = ap (λ (n : ℕ). n ∷ []) caused.0
quiet_but (Some (pool.Script worker)) gate gate' journal journal' caused = tt
quiet_but (Some pool.Journal) gate gate' journal journal' caused = ap (λ (n : ℕ). n ∷ []) caused.0
quiet_but (Some (pool.Memory _)) gate gate' journal journal' caused = ap (λ (n : ℕ). n ∷ []) caused.0

waits_at : (fault : Option PoolFault) (first last : Plan) (history : History) → ReducerEnds fault first last (records_of history) → WaitsAt fault first history
waits_at None first last history ends = tt
waits_at (Some (pool.Script worker)) first last history ends = ends
waits_at (Some pool.Journal) first last history ends = tt
waits_at (Some (pool.Memory _)) first last history ends = tt

has_ended : (fault : Option PoolFault) (first last : Plan) (history : History) → ReducerEnds fault first last (records_of history)
    → (fault ≡ None → last ≡ replay first history) → fault ≡ None → HasEnded last × (last ≡ follow (verdict_in (records_of history)) first)
    × (last ≡ replay first history)
has_ended None first last history ends replayed none = (ends.0, ends.1, replayed none)
has_ended (Some fault) first last history ends replayed none = absurd (cc none)

pub one_ran : (may_say : List ℕ → Verdict → Type 0) (kept : KeptVerdicts) (first last : Plan) (fault : Option PoolFault) (history : History)
    (gate gate' : SeenGate) (journal journal' : ℕ) → IsHistoryOf may_say kept first history → IsSequential kept fault first history
    → BeginsWith first (records_of history) → EndsAtFirst first (records_of history)
    → gate'.shown ≡ option_map (with_all_asked (texts_of (asked_records_of history))) gate.shown → ReducerEnds fault first last (records_of history)
    → (fault ≡ None → last ≡ replay first history) → IsCaused fault gate.faults gate'.faults journal journal'
    → IsRunBy 1 may_say kept first last fault history (gate ∷ []) (gate' ∷ [])
one_ran may_say kept first last fault history gate gate' journal journal' of sequential begun one asked ends replayed caused =
    record {
      history_of = of;
      start = λ _. (begun, one);
      asked = one_asked (texts_of (asked_records_of history)) gate.shown gate'.shown asked;
      ended = has_ended fault first last history ends replayed;
      alone =
          λ _. record { sequential = sequential; waits = waits_at fault first last history ends; quiet = quiet_but fault gate gate' journal journal' caused };
    }

broke_by : (start : Digest) (kept : KeptVerdicts) (history : History) (bytes : List ℕ) → BrokeAtEnd start kept history bytes
    → BrokeBy 1 start kept history bytes
broke_by start kept history bytes broke = (λ _. broke, λ other. absurd (other refl))

part_by : (start : Digest) (kept : KeptVerdicts) (history : History) (old new : Option Put) → HasPart start kept history old new
    → HasPartBy 1 start kept history old new
part_by start kept history old new part = (part.0, ⊎_elim inl (λ broke. inr (put_broke history new broke)) part.1)
  where
    put_broke : (history : History) (new : Option Put) → IfSome new (λ put. BrokeAtEnd start kept history put.bytes)
        → IfSome new (λ put. BrokeBy 1 start kept history put.bytes)
    put_broke history None broke = tt
    put_broke history (Some put) broke = broke_by start kept history put.bytes broke

pub one_left : (start : Digest) (kept : KeptVerdicts) (fault : Option PoolFault) (history : History) (old new : Option Put)
    → JournalEnds start kept fault history old new → JournalLeft 1 start kept fault history old new
one_left start kept None history old new ends = ends
one_left start kept (Some (pool.Script worker)) history old new ends = ends
one_left start kept (Some pool.Journal) history old new ends = part_by start kept history old new ends
one_left start kept (Some (pool.Memory _)) history old new ends = ends

-- the same answer by other names of the numbers
pub answers_at : (fault : Option PoolFault) (result : StepResult) (units units' bytes bytes' record_count record_count' : ℕ) (answer : Result Reduced RunFault)
    → units ≡ units' → bytes ≡ bytes' → record_count ≡ record_count' → AnswersFor fault result units bytes record_count answer
    → AnswersFor fault result units' bytes' record_count' answer
answers_at fault result units units' bytes bytes' record_count record_count' answer u b r is =
    subst (λ (n : ℕ). AnswersFor fault result n bytes' record_count' answer) u
    (subst (λ (n : ℕ). AnswersFor fault result units n record_count' answer) b
    (subst (λ (n : ℕ). AnswersFor fault result units bytes n answer) r is))
