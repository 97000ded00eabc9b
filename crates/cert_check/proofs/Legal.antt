-- Histories that a reducer can have: their beginnings, and where they lead.
use Rattle.std.proofs.Common.{◌≡◌, ◌++◌, ℕ, zero, suc, List, [], ◌∷◌, Option, refl, sym, ap, ◌∙◌, subst, append_assoc, take, drop}
use Rattle.std.specs.List.{IsDistinct}
use Rattle.std.specs.Str.{bytes_eq}
use Rattle.std.proofs.lemmas.List.{map-append}
use Rattle.script_gate_trait.specs.declared.gate.Verdict.{Verdict}
use Rattle.verdict_table.specs.declared.record.Record.{Record}
use Rattle.verdict_table.specs.TableState.{Extends, texts_of}
use Rattle.verdict_table.proofs.Lent.{extends_front, distinct_front}
use Rattle.reduce_step.specs.Plan.{Plan, after, follow}
use Rattle.reduce_step.proofs.Lent.{follow_after}
use Rattle.reduce_journal.specs.declared.event.Event.TheVariants.{Recorded, Committed}
use Rattle.reduce_journal.specs.History.{History, records_of}
use Rattle.ordered_commit.specs.Replay.{CommitsWhatIsAsked, IsLegal, answered, record_at, replay_from}
use Rattle.ordered_commit.proofs.Lent.{extends_at}
use Rattle.cert_check.specs.Laws.{LegalHistoriesFollow}

-- to go on from where commits of what is asked lead comes to the same as from before them
follow_from : (V : List ℕ → Option Verdict) (es : List Record) (p : Plan) (h : History) → Extends V (es ++ records_of h) → CommitsWhatIsAsked es p h
    → follow V p ≡ follow V (replay_from es p h)
follow_from V es p [] extends c = refl
follow_from V es p (Recorded t v k ∷ h) extends c =
    let r : Record = record { text = t; verdict = v } in
    follow_from V (es ++ r ∷ []) p h (subst (Extends V) (sym (append_assoc es (r ∷ []) (records_of h))) extends) c
follow_from V es p (Committed n ∷ h) extends c =
    let r : Record = c.0 in
    let known = extends_at V es n r c.1 (extends_front V es (records_of h) extends) in
    let same : answered (record_at n es) p ≡ after p r.verdict = ap (λ (o : Option Record). answered o p) c.1 in
    follow_after V p r.verdict r.text c.2 known
    ∙ follow_from V es (after p r.verdict) h extends c.3
    ∙ ap (λ (s : Plan). follow V (replay_from es s h)) (sym same)

pub legal_histories_follow : LegalHistoriesFollow
legal_histories_follow first history legal V extends = follow_from V [] first history extends legal.commits

-- the commits of a beginning are commits of what is asked
commits_take : (es : List Record) (p : Plan) (h : History) (n : ℕ) → CommitsWhatIsAsked es p h → CommitsWhatIsAsked es p (take n h)
commits_take es p h zero c = tt
commits_take es p [] (suc n) c = tt
commits_take es p (Recorded t v k ∷ h) (suc n) c = commits_take (es ++ record { text = t; verdict = v } ∷ []) p h n c
commits_take es p (Committed m ∷ h) (suc n) c = (c.0, c.1, c.2, commits_take es (after p (c.0).verdict) h n c.3)

-- the records of a history are those of a beginning and then those of what comes after it
pub records_take : (h : History) (n : ℕ) → records_of h ≡ records_of (take n h) ++ records_of (drop n h)
records_take h zero = refl
records_take [] (suc n) = refl
records_take (Recorded t v k ∷ h) (suc n) = ap (λ (rs : List Record). record { text = t; verdict = v } ∷ rs) (records_take h n)
records_take (Committed m ∷ h) (suc n) = records_take h n

-- A beginning of a history that a reducer can have is one too.
pub legal_take : (first : Plan) (h : History) (n : ℕ) → IsLegal first h → IsLegal first (take n h)
legal_take first h n legal =
    let texts : texts_of (records_of h) ≡ texts_of (records_of (take n h)) ++ texts_of (records_of (drop n h)) =
    ap texts_of (records_take h n) ∙ map-append (λ (r : Record). r.text) (records_of (take n h)) (records_of (drop n h)) in
    record {
      distinct =
          distinct_front bytes_eq (texts_of (records_of (take n h))) (texts_of (records_of (drop n h))) (subst (IsDistinct bytes_eq) texts legal.distinct);
      commits = commits_take [] first h n legal.commits;
    }
