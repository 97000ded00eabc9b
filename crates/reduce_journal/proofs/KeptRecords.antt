-- The verdicts of a journal's records, event by event.
use Rattle.std.proofs.Common.{◌≡◌, ◌<◌, ◌+◌, ◌++◌, ℕ, List, [], ◌∷◌, Bool, get_or, length, take, refl, sym, ap, ◌∙◌, subst}
use Rattle.std.proofs.lemmas.List.{take_more}
use Rattle.script_gate_trait.specs.declared.gate.Verdict.{Verdict}
use Rattle.verdict_table.specs.declared.record.Record.{Record}
use Rattle.verdict_table.specs.Kept.{SameVerdicts, with_first}
use Rattle.verdict_table.proofs.Lent.{first_more}
use Rattle.reduce_journal.specs.declared.event.Event.{Event}
use Rattle.reduce_journal.specs.declared.event.Event.TheVariants.{Recorded, Committed}
use Rattle.reduce_journal.specs.History.{History, records_of}

record_more : (events : History) (text : List ℕ) (verdict : Verdict) (kept : Bool)
    → records_of (events ++ Recorded text verdict kept ∷ []) ≡ records_of events ++ record { text = text; verdict = verdict } ∷ []
record_more [] text verdict kept = refl
record_more (Recorded u w k ∷ events) text verdict kept =
    ap (λ (rs : List Record). record { text = u; verdict = w } ∷ rs) (record_more events text verdict kept)
record_more (Committed n ∷ events) text verdict kept = record_more events text verdict kept

commit_more : (events : History) (number : ℕ) → records_of (events ++ Committed number ∷ []) ≡ records_of events
commit_more [] number = refl
commit_more (Recorded u w k ∷ events) number = ap (λ (rs : List Record). record { text = u; verdict = w } ∷ rs) (commit_more events number)
commit_more (Committed n ∷ events) number = commit_more events number

-- the events up to the next one
next : (events : History) (i : ℕ) (event is : Event) → i < length events → event ≡ get_or events i event → event ≡ is
    → take (i + 1) events ≡ take i events ++ is ∷ []
next events i event is within at same =
    take_more events i event within ∙ ap (λ (e : Event). take i events ++ e ∷ []) (sym at ∙ same)

pub recorded_next : (events : History) (i : ℕ) (event : Event) (text : List ℕ) (verdict : Verdict) (k : Bool) (kept new : List Record)
    → i < length events → event ≡ get_or events i event → event ≡ Recorded text verdict k
    → new ≡ with_first (record { text = text; verdict = verdict }) kept
    → SameVerdicts kept (records_of (take i events)) → SameVerdicts new (records_of (take (i + 1) events))
recorded_next events i event text verdict k kept new within at is added same =
    let r : Record = record { text = text; verdict = verdict } in
    let more : records_of (take (i + 1) events) ≡ records_of (take i events) ++ r ∷ [] =
    ap records_of (next events i event (Recorded text verdict k) within at is) ∙ record_more (take i events) text verdict k in
    subst (λ (rs : List Record). SameVerdicts new rs) (sym more)
    (subst (λ (ks : List Record). SameVerdicts ks (records_of (take i events) ++ r ∷ [])) (sym added) (first_more kept (records_of (take i events)) r same))

pub committed_next : (events : History) (i : ℕ) (event : Event) (number : ℕ) (kept : List Record)
    → i < length events → event ≡ get_or events i event → event ≡ Committed number
    → SameVerdicts kept (records_of (take i events)) → SameVerdicts kept (records_of (take (i + 1) events))
committed_next events i event number kept within at is same =
    subst (λ (rs : List Record). SameVerdicts kept rs)
    (sym (ap records_of (next events i event (Committed number) within at is) ∙ commit_more (take i events) number)) same
