-- Histories of one thread: how they go on after a record and after a commit.
use Rattle.std.proofs.Common.{◌≡◌, ◌++◌, ℕ, zero, suc, List, [], ◌∷◌, Bool, true, false, cond, ◌||◌, Option, Some}
use Rattle.std.proofs.Common.{None, is_some, refl, sym, ap, ◌∙◌, subst, append_assoc, append-nil}
use Rattle.std.proofs.lemmas.Cmp.{nat_list_eq_equiv}
use Rattle.std.proofs.lemmas.Map.Keys.{IsDistinct-head, IsDistinct-tail}
use Rattle.std.specs.List.{AllByRecursion, IsDistinct, list_any}
use Rattle.std.specs.Str.{bytes_eq}
use Rattle.script_gate_trait.specs.declared.gate.Verdict.{Verdict}
use Rattle.script_gate_trait.specs.declared.gate.Verdict.TheVariants.{Yes, No}
use Rattle.verdict_table.specs.declared.record.Record.{Record}
use Rattle.reduce_step.specs.Plan.{Ask, End, HasEnded, Plan, after, asked, follow}
use Rattle.verdict_table.specs.TableState.{Extends, texts_of}
use Rattle.reduce_step.proofs.Lent.{follow_after}
use Rattle.verdict_table.proofs.Lent.{extends_front, extends_back}
use Rattle.reduce_journal.specs.declared.event.Event.TheVariants.{Recorded, Committed}
use Rattle.reduce_journal.specs.History.{History, records_of}
use Rattle.ordered_commit.specs.Moves.{KeptVerdicts}
use Rattle.ordered_commit.specs.Replay.{answered, record_at, replay}
use Rattle.ordered_commit.proofs.Lent.{extends_at, records_more, records_same, replay_commit, replay_record}
use Rattle.worker_pool.specs.Sequential.{answer_events, by_verdict, number_for, records_after, sequential_from}
use Rattle.worker_pool.specs.inner.UnderWay.{GoesOn, LeadsOn}

-- ---- records by their texts

-- a record's text is none of those that differ from this text
differs_at : (text : List ℕ) (rs : List Record) (n : ℕ) (r : Record) → record_at n rs ≡ Some r → AllByRecursion (λ y. bytes_eq text y ≡ false) (texts_of rs)
    → bytes_eq text r.text ≡ false
differs_at text rs zero r at apart = absurd (cc at)
differs_at text [] (suc n) r at apart = absurd (cc at)
differs_at text (q ∷ rs) (suc zero) r at apart = let same : q ≡ r = cc at in subst (λ (s : Record). bytes_eq text s.text ≡ false) same apart.0
differs_at text (q ∷ rs) (suc (suc n)) r at apart = differs_at text rs (suc n) r at apart.1

-- the number of a record is that of its text
pub number_at : (rs : List Record) (n : ℕ) (r : Record) → record_at n rs ≡ Some r → IsDistinct bytes_eq (texts_of rs) → number_for rs r.text ≡ n
number_at rs zero r at distinct = absurd (cc at)
number_at [] (suc n) r at distinct = absurd (cc at)
number_at (q ∷ rs) (suc zero) r at distinct =
    let same : q ≡ r = cc at in
    let equal : bytes_eq r.text q.text ≡ true = subst (λ (s : Record). bytes_eq r.text s.text ≡ true) (sym same) (nat_list_eq_equiv.refl r.text) in
    rw equal refl
number_at (q ∷ rs) (suc (suc n)) r at distinct =
    let apart : bytes_eq r.text q.text ≡ false =
    nat_list_eq_equiv.symm r.text q.text ∙ differs_at q.text rs (suc n) r at (IsDistinct-head bytes_eq q.text (texts_of rs) distinct) in
    rw apart (ap (λ (k : ℕ). suc k) (number_at rs (suc n) r at (IsDistinct-tail bytes_eq q.text (texts_of rs) distinct)))

or_true : (b : Bool) → b || true ≡ true
or_true true = refl
or_true false = refl

-- a record's text is among the texts
pub is_among : (rs : List Record) (n : ℕ) (r : Record) → record_at n rs ≡ Some r → list_any (bytes_eq r.text) (texts_of rs) ≡ true
is_among rs zero r at = absurd (cc at)
is_among [] (suc n) r at = absurd (cc at)
is_among (q ∷ rs) (suc zero) r at =
    let same : q ≡ r = cc at in
    let equal : bytes_eq r.text q.text ≡ true = subst (λ (s : Record). bytes_eq r.text s.text ≡ true) (sym same) (nat_list_eq_equiv.refl r.text) in
    rw equal refl
is_among (q ∷ rs) (suc (suc n)) r at = rw (is_among rs (suc n) r at) (or_true (bytes_eq r.text q.text))

-- the record of a text has the number that it would have
pub number_same : (rs : List Record) (text : List ℕ) (verdict : Verdict)
    → number_for (rs ++ record { text = text; verdict = verdict } ∷ []) text ≡ number_for rs text
number_same [] text verdict = rw (nat_list_eq_equiv.refl text) refl
number_same (q ∷ rs) text verdict = ap (λ (k : ℕ). cond (bytes_eq text q.text) 1 (suc k)) (number_same rs text verdict)

pub among_last : (rs : List Record) (text : List ℕ) (verdict : Verdict)
    → list_any (bytes_eq text) (texts_of (rs ++ record { text = text; verdict = verdict } ∷ [])) ≡ true
among_last [] text verdict = rw (nat_list_eq_equiv.refl text) refl
among_last (q ∷ rs) text verdict = rw (among_last rs text verdict) (or_true (bytes_eq text q.text))

-- ---- one answer

-- these verdicts are kept
module _ (K : KeptVerdicts) where
  -- what follows an answer
  abbrev Later : (List ℕ → Option Verdict) → List Record → List ℕ → Verdict → Plan → History
  Later V rs text verdict plan = answer_events K rs text verdict ++ sequential_from V K (records_after K rs text verdict) plan

  -- a text that has a verdict is answered
  answers : (V : List ℕ → Option Verdict) (rs : List Record) (plan : Plan) (text : List ℕ) (verdict : Verdict) → asked plan ≡ Some text
      → V text ≡ Some verdict → sequential_from V K rs plan ≡ Later V rs text verdict (after plan verdict)
  answers V rs (End result) text verdict is known = absurd (cc is)
  answers V rs (Ask t a b) text Yes is known =
      let same : t ≡ text = cc is in
      subst (λ (x : List ℕ). V x ≡ Some Yes → by_verdict (V x) (Later V rs x Yes a) (Later V rs x No b) ≡ Later V rs text Yes a) (sym same)
      (λ here. rw here refl) (ap V same ∙ known)
  answers V rs (Ask t a b) text No is known =
      let same : t ≡ text = cc is in
      subst (λ (x : List ℕ). V x ≡ Some No → by_verdict (V x) (Later V rs x Yes a) (Later V rs x No b) ≡ Later V rs text No b) (sym same)
      (λ here. rw here refl) (ap V same ∙ known)

  -- that of a text with a record is its commit
  later_known : (V : List ℕ → Option Verdict) (rs : List Record) (text : List ℕ) (verdict : Verdict) (plan : Plan) (n : ℕ)
      → list_any (bytes_eq text) (texts_of rs) ≡ true → number_for rs text ≡ n
      → Later V rs text verdict plan ≡ Committed n ∷ sequential_from V K rs plan
  later_known V rs text verdict plan n known number = rw (known, number, append-nil) refl

  -- a record of the text that is asked comes first, where it has none: a kept one exactly where a verdict is kept for it
  pub after_record : (V : List ℕ → Option Verdict) (rs : List Record) (plan : Plan) (text : List ℕ) (verdict : Verdict) (k : Bool)
      → is_some (K text) ≡ k → asked plan ≡ Some text → V text ≡ Some verdict → list_any (bytes_eq text) (texts_of rs) ≡ false
      → sequential_from V K rs plan ≡ Recorded text verdict k ∷ sequential_from V K (rs ++ record { text = text; verdict = verdict } ∷ []) plan
  after_record V rs plan text verdict k is_kept is known absent =
      let r : Record = record { text = text; verdict = verdict } in
      let new : Later V rs text verdict (after plan verdict) ≡ Recorded text verdict k ∷ Committed (number_for rs text)
      ∷ sequential_from V K (rs ++ r ∷ []) (after plan verdict) = rw (absent, is_kept) refl in
      let old : sequential_from V K (rs ++ r ∷ []) plan ≡ Committed (number_for rs text) ∷ sequential_from V K (rs ++ r ∷ []) (after plan verdict) =
      answers V (rs ++ r ∷ []) plan text verdict is known
      ∙ later_known V (rs ++ r ∷ []) text verdict (after plan verdict) (number_for rs text) (among_last rs text verdict) (number_same rs text verdict) in
      answers V rs plan text verdict is known ∙ new ∙ ap (λ (h : History). Recorded text verdict k ∷ h) (sym old)

  -- a commit of the text that is asked comes first, where it has a record
  pub after_commit : (V : List ℕ → Option Verdict) (rs : List Record) (plan : Plan) (n : ℕ) (r : Record) → asked plan ≡ Some r.text
      → V r.text ≡ Some r.verdict → record_at n rs ≡ Some r → IsDistinct bytes_eq (texts_of rs)
      → sequential_from V K rs plan ≡ Committed n ∷ sequential_from V K rs (after plan r.verdict)
  after_commit V rs plan n r is known at distinct =
      answers V rs plan r.text r.verdict is known
      ∙ later_known V rs r.text r.verdict (after plan r.verdict) n (is_among rs n r at) (number_at rs n r at distinct)

  -- nothing follows an end
  pub after_end : (V : List ℕ → Option Verdict) (rs : List Record) (plan : Plan) → HasEnded plan → sequential_from V K rs plan ≡ []
  after_end V rs (End result) ended = refl
  after_end V rs (Ask t a b) ended = absurd (cc ended)

  -- nor a text without a verdict
  pub after_unanswered : (V : List ℕ → Option Verdict) (rs : List Record) (plan : Plan) (text : List ℕ) → asked plan ≡ Some text → V text ≡ None
      → sequential_from V K rs plan ≡ []
  after_unanswered V rs (End result) text is none = refl
  after_unanswered V rs (Ask t a b) text is none =
      let same : t ≡ text = cc is in
      let here : V t ≡ None = ap V same ∙ none in
      rw here refl

-- ---- histories that grow

module _ (K : KeptVerdicts) (first : Plan) (h : History) where
  module _ (text : List ℕ) (verdict : Verdict) (k : Bool) where
    abbrev Rec : Record
    Rec = record { text = text; verdict = verdict }

    -- verdicts that have the records with one more have that one's
    split : (V : List ℕ → Option Verdict) → Extends V (records_of (h ++ Recorded text verdict k ∷ [])) → Extends V (records_of h) × (V text ≡ Some verdict)
    split V extends =
        let all : Extends V (records_of h ++ Rec ∷ []) = subst (Extends V) (records_more h text verdict k) extends in
        (extends_front V (records_of h) (Rec ∷ []) all, (extends_back V (records_of h) (Rec ∷ []) all).0)

    pub goes_record : is_some (K text) ≡ k → GoesOn K first h → asked (replay first h) ≡ Some text
        → list_any (bytes_eq text) (texts_of (records_of h)) ≡ false → GoesOn K first (h ++ Recorded text verdict k ∷ [])
    goes_record is_kept goes is absent V extends =
        let parts = split V extends in
        let there : Plan = replay first h in
        let tail : List Record → Plan → History = λ rs p. (h ++ Recorded text verdict k ∷ []) ++ sequential_from V K rs p in
        goes V parts.0 ∙ ap (λ (l : History). h ++ l) (after_record K V (records_of h) there text verdict k is_kept is parts.1 absent)
        ∙ sym (append_assoc h (Recorded text verdict k ∷ []) (sequential_from V K (records_of h ++ Rec ∷ []) there))
        ∙ ap (λ (rs : List Record). tail rs there) (sym (records_more h text verdict k))
        ∙ ap (λ (p : Plan). tail (records_of (h ++ Recorded text verdict k ∷ [])) p) (sym (replay_record [] first h text verdict k))

    pub leads_record : LeadsOn first h → LeadsOn first (h ++ Recorded text verdict k ∷ [])
    leads_record leads V extends = leads V (split V extends).0 ∙ ap (follow V) (sym (replay_record [] first h text verdict k))

  module _ (n : ℕ) (r : Record) (at : record_at n (records_of h) ≡ Some r) (is : asked (replay first h) ≡ Some r.text) where
    next : replay first (h ++ Committed n ∷ []) ≡ after (replay first h) r.verdict
    next = replay_commit [] first h n ∙ ap (λ (o : Option Record). answered o (replay first h)) at

    same_verdicts : (V : List ℕ → Option Verdict) → Extends V (records_of (h ++ Committed n ∷ [])) → Extends V (records_of h)
    same_verdicts V extends = subst (Extends V) (records_same h n) extends

    pub goes_commit : GoesOn K first h → IsDistinct bytes_eq (texts_of (records_of h)) → GoesOn K first (h ++ Committed n ∷ [])
    goes_commit goes distinct V extends =
        let before = same_verdicts V extends in
        let there : Plan = replay first h in
        let tail : List Record → Plan → History = λ rs p. (h ++ Committed n ∷ []) ++ sequential_from V K rs p in
        goes V before ∙ ap (λ (l : History). h ++ l) (after_commit K V (records_of h) there n r is (extends_at V (records_of h) n r at before) at distinct)
        ∙ sym (append_assoc h (Committed n ∷ []) (sequential_from V K (records_of h) (after there r.verdict)))
        ∙ ap (λ (rs : List Record). tail rs (after there r.verdict)) (sym (records_same h n))
        ∙ ap (λ (p : Plan). tail (records_of (h ++ Committed n ∷ [])) p) (sym next)

    pub leads_commit : LeadsOn first h → LeadsOn first (h ++ Committed n ∷ [])
    leads_commit leads V extends =
        let before = same_verdicts V extends in
        leads V before ∙ follow_after V (replay first h) r.verdict r.text is (extends_at V (records_of h) n r at before) ∙ ap (follow V) (sym next)
