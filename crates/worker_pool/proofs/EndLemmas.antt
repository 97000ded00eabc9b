-- How a run ends.
use Rattle.std.proofs.Common.{◌≡◌, ◌++◌, ℕ, List, [], ◌∷◌, All, true, false, Option, Some, None, IfSome, option_map, arith, refl, sym, ap, ◌∙◌, subst}
use Rattle.std.proofs.lemmas.Grind.{common_steps}
use Rattle.std.proofs.lemmas.List.Elements.{All-cons, All-head, All-nil, All-tail}
use Rattle.std.specs.List.{IsDistinct}
use Rattle.edge_io.specs.Sink.{Put}
use Rattle.script_gate_trait.specs.declared.gate.Verdict.{Verdict}
use Rattle.script_gate_trait.specs.declared.log.Log.{Log}
use Rattle.verdict_table.specs.declared.record.Record.{Record}
use Rattle.reduce_step.specs.Plan.{HasEnded, MayAsk, Plan}
use Rattle.verdict_table.specs.TableState.{claimed_texts, texts_of, verdict_in}
use Rattle.reduce_journal.specs.declared.digest.Digest.{Digest}
use Rattle.reduce_journal.specs.declared.event.Event.{Event}
use Rattle.reduce_journal.specs.declared.event.Event.TheVariants.{Recorded, Committed}
use Rattle.reduce_journal.specs.History.{History, records_of}
use Rattle.ordered_commit.specs.Moves.{KeptVerdicts}
use Rattle.ordered_commit.specs.Replay.{replay}
use Rattle.ordered_commit.specs.declared.fault.PoolFault.{PoolFault}
use Rattle.ordered_commit.specs.declared.fault.BoardFault.{BoardFault}
use Rattle.ordered_commit.specs.declared.fault.BoardFault.TheVariants as board
use Rattle.ordered_commit.specs.declared.seat.Seat.{Seat}
use Rattle.ordered_commit.specs.BoardState.{BoardState}
use Rattle.ordered_commit.specs.Faults.{board_fault}
use Rattle.ordered_commit.specs.Kept.{BrokeWhereDue, IsDue, IsKept}
use Rattle.worker_pool.specs.RunHistory.{IsHistoryOf, IsSequential, own_history, with_all_asked}
use Rattle.worker_pool.specs.RunEnds.{ReducerEnds}
use Rattle.worker_pool.specs.inner.UnderWay.{IsUnderWay, Moment}
use Rattle.worker_pool.proofs.BeginLemmas.{is_sequential, reducer_ends}

pub none_asked : (o : Option Log) → o ≡ option_map (with_all_asked []) o
none_asked None = refl
none_asked (Some log) = grind (arith, common_steps)

-- of the texts that a table has, those of its records
records_may : (first : Plan) (rs : List Record) (others : List (List ℕ)) → All (MayAsk first) (texts_of rs ++ others)
    → All (λ (r : Record). MayAsk first r.text) rs
records_may first [] others all = All-nil (λ (r : Record). MayAsk first r.text)
records_may first (r ∷ rs) others all =
    All-cons (λ (q : Record). MayAsk first q.text) r rs (All-head (MayAsk first) r.text (texts_of rs ++ others) all)
    (records_may first rs others (All-tail (MayAsk first) r.text (texts_of rs ++ others) all))

-- what a board keeps is what a run's history is
pub kept_history : {S J : Type 0} (plan first : S → Plan) (may_say : List ℕ → Verdict → Type 0) (put : J → Option Put) (faults : J → ℕ) (state : BoardState S J)
    (start : Plan) (K : KeptVerdicts) → IsKept plan first may_say put faults state → first state.front ≡ start → verdict_in state.kept ≡ K
    → IsHistoryOf may_say K start state.history
kept_history plan first may_say put faults state start K kept same same_kept =
    let recorded = kept.recorded in
    subst (λ (k : KeptVerdicts). IsHistoryOf may_say k start state.history) same_kept
    (subst (λ (p : Plan). IsHistoryOf may_say (verdict_in state.kept) p state.history) same (record {
      legal = recorded.legal;
      readable = recorded.readable;
      go_with = recorded.go_with;
      said = recorded.said;
      may_ask =
          subst (λ (rs : List Record). All (λ (r : Record). MayAsk (first state.front) r.text) rs) recorded.recorded
          (records_may (first state.front) state.table.records (claimed_texts state.table.claims) recorded.may_ask);
    }))

-- where it stops, the history is what one thread does, and the reducer has ended or waits
pub came : (start now : Moment) (seat : Seat) → IsUnderWay start now seat → (now.fault ≡ None → HasEnded now.plan)
    → IsSequential start.kept now.fault start.first now.history × ReducerEnds now.fault start.first now.plan (records_of now.history)
came start now seat way over =
    let ended : now.fault ≡ None → HasEnded (replay start.first now.history) = λ none. subst HasEnded (way.replayed none) (over none) in (
      is_sequential start.kept start.first now.history way.distinct now.fault way.goes_on ended way.waits,
      reducer_ends start.kept start.first now.history way.distinct now.fault now.plan way.leads_on way.replayed ended way.waits,
    )

-- without a board there is no history
pub none_history : (may_say : List ℕ → Verdict → Type 0) (K : KeptVerdicts) (first : Plan) (history : History) → history ≡ []
    → IsHistoryOf may_say K first history
unfolding IsDistinct
none_history may_say K first history none = subst (IsHistoryOf may_say K first) (sym none) (record {
  legal = record { distinct = tt; commits = tt };
  readable = tt;
  go_with = tt;
  said = All-nil (λ (r : Record). may_say r.text r.verdict);
  may_ask = All-nil (λ (r : Record). MayAsk first r.text);
})

begins_whole : (fault : BoardFault) (K : KeptVerdicts) (first : Plan) → IsSequential K (Some (board_fault fault)) first []
begins_whole board.Journal K first = (own_history K first [], refl)
begins_whole (board.Memory _) K first = (own_history K first [], refl)

pub none_sequential : (fault : BoardFault) (K : KeptVerdicts) (first : Plan) (ended : Option PoolFault) (history : History) → ended ≡ Some (board_fault fault)
    → history ≡ [] → IsSequential K ended first history
none_sequential fault K first ended history is none =
    subst (λ (f : Option PoolFault). IsSequential K f first history) (sym is)
    (subst (IsSequential K (Some (board_fault fault)) first) (sym none) (begins_whole fault K first))

-- what was due by these kept verdicts was due by others that are the same
is_due_with : (first : Plan) (before : History) (kept kept' : List Record) → verdict_in kept ≡ verdict_in kept' → (event : Event)
    → IsDue first kept before event → IsDue first kept' before event
is_due_with first before kept kept' same (Committed number) due = due
is_due_with first before kept kept' same (Recorded text verdict true) due = (due.0, ap (λ (k : KeptVerdicts). k text) (sym same) ∙ due.1)
is_due_with first before kept kept' same (Recorded text verdict false) due = tt

pub due_with : (first : Plan) (start : Digest) (history : History) (put : Option Put) (kept kept' : List Record) → verdict_in kept ≡ verdict_in kept'
    → IfSome put (λ p. BrokeWhereDue first start kept history p.bytes) → IfSome put (λ p. BrokeWhereDue first start kept' history p.bytes)
due_with first start history None kept kept' same broke = tt
due_with first start history (Some put) kept kept' same broke =
    record { broke = broke.broke; due = is_due_with first broke.broke.before kept kept' same broke.broke.failed broke.due }
