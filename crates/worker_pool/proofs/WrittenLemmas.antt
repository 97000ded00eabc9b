-- What the journal has after a put, whole or in part.
use Rattle.std.proofs.Common.{◌≡◌, ◌++◌, ℕ, List, [], ◌∷◌, inl, inr, true, false, Option, Some, None, IfSome, IsSome, refl, sym, ap, subst, take}
use Rattle.edge_io.specs.Sink.{GrewByPrefix, Put}
use Rattle.script_gate_trait.specs.declared.gate.Verdict.{Verdict}
use Rattle.verdict_table.specs.declared.record.Record.{Record}
use Rattle.reduce_journal.specs.declared.event.Event.TheVariants.{Recorded, Committed}
use Rattle.reduce_journal.specs.History.{History, records_of}
use Rattle.reduce_journal.specs.Journal.{event_text}
use Rattle.reduce_journal.specs.declared.digest.Digest.{Digest}
use Rattle.ordered_commit.specs.Moves.{KeptVerdicts}
use Rattle.ordered_commit.specs.Replay.{record_at}
use Rattle.ordered_commit.specs.declared.fault.PoolFault.{PoolFault}
use Rattle.ordered_commit.specs.declared.fault.PoolFault.TheVariants.{Journal}
use Rattle.worker_pool.specs.UnderWay.{AreJournalBytes}

-- over a start with this digest, where these verdicts are kept
module _ (start : Digest) (kept : KeptVerdicts) where
  -- the journal has the events of this history, by this fault, where its bytes are visible
  abbrev pub Has : Option PoolFault → History → Option Put → Type 0
  Has fault history put = IfSome put (λ p. AreJournalBytes start kept fault history p.bytes)

  -- a record broke off
  pub record_broke : (before history : History) (text : List ℕ) (verdict : Verdict) (old new : Option Put)
      → history ≡ before ++ Recorded text verdict false ∷ [] → GrewByPrefix (event_text (Recorded text verdict false)) old new → Has None before old
      → Has (Some Journal) history new
  record_broke before history text verdict None new last grew has = subst (Has (Some Journal) history) (sym grew.1) tt
  record_broke before history text verdict (Some put) new last grew has = subst (Has (Some Journal) history) (sym grew.1) (inl (record {
    before = before;
    text = text;
    verdict = verdict;
    last = last;
    part = grew.0;
    written = ap (λ (bytes : List ℕ). bytes ++ take grew.0 (event_text (Recorded text verdict false))) has;
  }))

  -- a commit did, of a history that is as it was
  commit_broke_at : (history : History) (number : ℕ) (old new : Option Put) → IsSome (record_at number (records_of history))
      → GrewByPrefix (event_text (Committed number)) old new → Has None history old → Has (Some Journal) history new
  commit_broke_at history number None new some grew has = subst (Has (Some Journal) history) (sym grew.1) tt
  commit_broke_at history number (Some put) new some grew has = subst (Has (Some Journal) history) (sym grew.1) (inr (inl (record {
    number = number;
    of_record = some;
    part = grew.0;
    written = ap (λ (bytes : List ℕ). bytes ++ take grew.0 (event_text (Committed number))) has;
  })))

  pub commit_broke : (before history : History) (number : ℕ) (r : Record) (old new : Option Put) → record_at number (records_of before) ≡ Some r
      → history ≡ before → GrewByPrefix (event_text (Committed number)) old new → Has None before old → Has (Some Journal) history new
  commit_broke before history number r old new at same grew has =
      subst (λ (h : History). Has (Some Journal) h new) (sym same)
      (commit_broke_at before number old new (subst (λ (o : Option Record). IsSome o) (sym at) refl) grew has)

  -- a kept record did, of a history that is as it was
  recall_broke_at : (history : History) (text : List ℕ) (verdict : Verdict) (old new : Option Put) → kept text ≡ Some verdict
      → GrewByPrefix (event_text (Recorded text verdict true)) old new → Has None history old → Has (Some Journal) history new
  recall_broke_at history text verdict None new is grew has = subst (Has (Some Journal) history) (sym grew.1) tt
  recall_broke_at history text verdict (Some put) new is grew has = subst (Has (Some Journal) history) (sym grew.1) (inr (inr (record {
    text = text;
    verdict = verdict;
    is_kept = is;
    part = grew.0;
    written = ap (λ (bytes : List ℕ). bytes ++ take grew.0 (event_text (Recorded text verdict true))) has;
  })))

  pub recall_broke : (before history : History) (text : List ℕ) (verdict : Verdict) (old new : Option Put) → kept text ≡ Some verdict
      → history ≡ before → GrewByPrefix (event_text (Recorded text verdict true)) old new → Has None before old → Has (Some Journal) history new
  recall_broke before history text verdict old new is same grew has =
      subst (λ (h : History). Has (Some Journal) h new) (sym same) (recall_broke_at before text verdict old new is grew has)

  -- while no fault is kept, all is written
  pub all_written : (fault : Option PoolFault) (history : History) (put : Option Put) → fault ≡ None → Has fault history put → Has None history put
  all_written fault history put none has = subst (λ (f : Option PoolFault). Has f history put) none has
