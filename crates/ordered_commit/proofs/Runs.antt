-- Moves of several workers: what each of them keeps.
use Rattle.std.proofs.Common.{◌≡◌, ◌*◌, ◌++◌, ◌||◌, inl, inr, ℕ, zero, suc, List, [], ◌∷◌, All, Bool, true, false, cond, not, ◌==◌, Option, Some, None, IsSome}
use Rattle.std.proofs.Common.{is_some, option_map, find, map, nat_eq, eqb-true, refl, sym, ap, ◌∙◌, subst, append_assoc, append-nil}
use Rattle.std.proofs.lemmas.Bool.{cases_Bool, or_parts}
use Rattle.std.proofs.lemmas.Cmp.{nat_eq_equiv, nat_list_eq_equiv}
use Rattle.std.proofs.lemmas.Slice.Eq.{bytes_eq-Decides}
use Rattle.std.proofs.lemmas.List.{map-append}
use Rattle.std.proofs.lemmas.List.Elements.{All-head, All-nil, All-push, All-tail}
use Rattle.std.proofs.lemmas.List.Folds.{list_any-append}
use Rattle.std.proofs.lemmas.List.Sorted.{All-permutation, IsPermutation-append_right, IsPermutation-cons, IsPermutation-map}
use Rattle.std.proofs.lemmas.List.Sorted.{IsPermutation-middle, IsPermutation-refl, IsPermutation-trans}
use Rattle.std.proofs.lemmas.Map.Keys.{IsDistinct-IsPermutation, IsDistinct-head, IsDistinct-push, IsDistinct-tail}
use Rattle.std.specs.List.{AllByRecursion, IsDistinct, list_any}
use Rattle.std.specs.List.Sorted.{IsPermutation}
use Rattle.std.specs.Str.{bytes_eq}
use Rattle.script_gate_trait.specs.declared.gate.Verdict.{Verdict}
use Rattle.verdict_table.specs.declared.record.Record.{Record}
use Rattle.reduce_step.specs.Plan.{MayAsk, Plan, after, asked, follow}
use Rattle.reduce_step.specs.Ahead.{ahead}
use Rattle.verdict_table.specs.TableState.{Extends, texts_of, verdict_in}
use Rattle.reduce_step.proofs.Lent.{ahead_may, after_may, asked_may, follow_after, follow_ended, stays}
use Rattle.verdict_table.proofs.Lent.{extends_front, extends_itself, distinct_front}
use Rattle.reduce_journal.specs.declared.event.Event.{Event}
use Rattle.reduce_journal.specs.declared.event.Event.TheVariants.{Recorded, Committed}
use Rattle.reduce_journal.specs.History.{History, asked_records_of, records_of}
use Rattle.ordered_commit.specs.Replay.{AllGoWith, CommitsWhatIsAsked, GoesWith, answered, record_at, replay, replay_from}
use Rattle.ordered_commit.specs.Moves.{AreMoves, Claims, Commits, CoreState, KeptVerdicts, MayMake, Move, OpenClaim, Recalls, Records, after_move}
use Rattle.ordered_commit.specs.Moves.{after_moves, begun, claims_of_others, is_recorded, is_taken, kept_of, kept_record, recalled_as, recorded_as}
use Rattle.ordered_commit.specs.Moves.{text_of_worker}
use Rattle.ordered_commit.specs.Laws.{AnyOrderHolds, HoldsOf, all_texts}

-- ---- histories that grow

pub records_more : (h : History) (t : List ℕ) (v : Verdict) (k : Bool)
    → records_of (h ++ Recorded t v k ∷ []) ≡ records_of h ++ record { text = t; verdict = v } ∷ []
records_more [] t v k = refl
records_more (Recorded a b j ∷ h) t v k = ap (λ (rs : List Record). record { text = a; verdict = b } ∷ rs) (records_more h t v k)
records_more (Committed n ∷ h) t v k = records_more h t v k

pub records_same : (h : History) (n : ℕ) → records_of (h ++ Committed n ∷ []) ≡ records_of h
records_same [] n = refl
records_same (Recorded a b j ∷ h) n = ap (λ (rs : List Record). record { text = a; verdict = b } ∷ rs) (records_same h n)
records_same (Committed m ∷ h) n = records_same h n

-- the records that aren't kept
pub asked_more : (h : History) (t : List ℕ) (v : Verdict)
    → asked_records_of (h ++ Recorded t v false ∷ []) ≡ asked_records_of h ++ record { text = t; verdict = v } ∷ []
asked_more [] t v = refl
asked_more (Recorded a b false ∷ h) t v = ap (λ (rs : List Record). record { text = a; verdict = b } ∷ rs) (asked_more h t v)
asked_more (Recorded a b true ∷ h) t v = asked_more h t v
asked_more (Committed n ∷ h) t v = asked_more h t v

pub asked_same : (h : History) (n : ℕ) → asked_records_of (h ++ Committed n ∷ []) ≡ asked_records_of h
asked_same [] n = refl
asked_same (Recorded a b false ∷ h) n = ap (λ (rs : List Record). record { text = a; verdict = b } ∷ rs) (asked_same h n)
asked_same (Recorded a b true ∷ h) n = asked_same h n
asked_same (Committed m ∷ h) n = asked_same h n

pub asked_recalled : (h : History) (t : List ℕ) (v : Verdict) → asked_records_of (h ++ Recorded t v true ∷ []) ≡ asked_records_of h
asked_recalled [] t v = refl
asked_recalled (Recorded a b false ∷ h) t v = ap (λ (rs : List Record). record { text = a; verdict = b } ∷ rs) (asked_recalled h t v)
asked_recalled (Recorded a b true ∷ h) t v = asked_recalled h t v
asked_recalled (Committed n ∷ h) t v = asked_recalled h t v

-- a record leads the reducer nowhere
pub replay_record : (es : List Record) (p : Plan) (h : History) (t : List ℕ) (v : Verdict) (k : Bool)
    → replay_from es p (h ++ Recorded t v k ∷ []) ≡ replay_from es p h
replay_record es p [] t v k = refl
replay_record es p (Recorded a b j ∷ h) t v k = replay_record (es ++ record { text = a; verdict = b } ∷ []) p h t v k
replay_record es p (Committed n ∷ h) t v k = replay_record es (answered (record_at n es) p) h t v k

-- a commit answers it with the record that it names
pub replay_commit : (es : List Record) (p : Plan) (h : History) (n : ℕ)
    → replay_from es p (h ++ Committed n ∷ []) ≡ answered (record_at n (es ++ records_of h)) (replay_from es p h)
replay_commit es p [] n = ap (λ (rs : List Record). answered (record_at n rs) p) (sym (append-nil es))
replay_commit es p (Recorded a b j ∷ h) n =
    let r : Record = record { text = a; verdict = b } in
    replay_commit (es ++ r ∷ []) p h n ∙ ap (λ (rs : List Record). answered (record_at n rs) (replay_from (es ++ r ∷ []) p h))
    (append_assoc es (r ∷ []) (records_of h))
replay_commit es p (Committed m ∷ h) n = replay_commit es (answered (record_at m es) p) h n

pub commits_record : (es : List Record) (p : Plan) (h : History) (t : List ℕ) (v : Verdict) (k : Bool) → CommitsWhatIsAsked es p h
    → CommitsWhatIsAsked es p (h ++ Recorded t v k ∷ [])
commits_record es p [] t v k c = tt
commits_record es p (Recorded a b j ∷ h) t v k c = commits_record (es ++ record { text = a; verdict = b } ∷ []) p h t v k c
commits_record es p (Committed n ∷ h) t v k c = (c.0, c.1, c.2, commits_record es (after p (c.0).verdict) h t v k c.3)

pub commits_commit : (es : List Record) (p : Plan) (h : History) (n : ℕ) (r : Record) → CommitsWhatIsAsked es p h → record_at n (es ++ records_of h) ≡ Some r
    → asked (replay_from es p h) ≡ Some r.text → CommitsWhatIsAsked es p (h ++ Committed n ∷ [])
commits_commit es p [] n r c at is = (r, ap (record_at n) (sym (append-nil es)) ∙ at, is, tt)
commits_commit es p (Recorded a b j ∷ h) n r c at is =
    let q : Record = record { text = a; verdict = b } in
    commits_commit (es ++ q ∷ []) p h n r c (ap (record_at n) (append_assoc es (q ∷ []) (records_of h)) ∙ at) is
commits_commit es p (Committed m ∷ h) n r c at is =
    let same : answered (record_at m es) p ≡ after p (c.0).verdict = ap (λ (o : Option Record). answered o p) c.1 in
    (c.0, c.1, c.2, commits_commit es (after p (c.0).verdict) h n r c.3 at (ap (λ (s : Plan). asked (replay_from es s h)) (sym same) ∙ is))

-- one event more goes with the kept verdicts
pub go_with_more : (K : KeptVerdicts) (h : History) (e : Event) → AllGoWith K h → GoesWith K e → AllGoWith K (h ++ e ∷ [])
go_with_more K [] e all goes = (goes, tt)
go_with_more K (x ∷ h) e all goes = (all.0, go_with_more K h e all.1 goes)

-- where none is kept, each record is asked
pub none_recalled : (h : History) → AllGoWith (verdict_in []) h → asked_records_of h ≡ records_of h
none_recalled [] all = refl
none_recalled (Recorded t v false ∷ h) all = ap (λ (rs : List Record). record { text = t; verdict = v } ∷ rs) (none_recalled h all.1)
none_recalled (Recorded t v true ∷ h) all = absurd (cc all.0)
none_recalled (Committed n ∷ h) all = none_recalled h all.1

-- ---- records by number

pub extends_at : (V : List ℕ → Option Verdict) (rs : List Record) (n : ℕ) (r : Record) → record_at n rs ≡ Some r → Extends V rs → V r.text ≡ Some r.verdict
extends_at V rs zero r at e = absurd (cc at)
extends_at V [] (suc n) r at e = absurd (cc at)
extends_at V (q ∷ rs) (suc zero) r at e = let same : q ≡ r = cc at in subst (λ (s : Record). V s.text ≡ Some s.verdict) same e.0
extends_at V (q ∷ rs) (suc (suc n)) r at e = extends_at V rs (suc n) r at e.1

-- a record of later ones, among all
next_number : (q : Record) (rs : List Record) (t : List ℕ) → ((n : ℕ) × (r : Record) × (record_at n rs ≡ Some r) × (r.text ≡ t)) → (n : ℕ) × (r : Record)
    × (record_at n (q ∷ rs) ≡ Some r) × (r.text ≡ t)
next_number q rs t (zero, r, at, is) = absurd (cc at)
next_number q rs t (suc n, r, at, is) = (suc (suc n), r, at, is)

-- a text with a verdict has a record with a number
numbered_at : (q : Record) (rs : List Record) (t : List ℕ) (v : Verdict) (b : Bool) → b ≡ bytes_eq t q.text → cond b (Some q.verdict) (verdict_in rs t) ≡ Some v
    → (verdict_in rs t ≡ Some v → (n : ℕ) × (r : Record) × (record_at n rs ≡ Some r) × (r.text ≡ t))
    → (n : ℕ) × (r : Record) × (record_at n (q ∷ rs) ≡ Some r) × (r.text ≡ t)
numbered_at q rs t v true e k later = (1, q, refl, sym ((bytes_eq-Decides t q.text).0 (sym e)))
numbered_at q rs t v false e k later = next_number q rs t (later k)

pub numbered : (rs : List Record) (t : List ℕ) (v : Verdict) → verdict_in rs t ≡ Some v → (n : ℕ) × (r : Record) × (record_at n rs ≡ Some r) × (r.text ≡ t)
numbered [] t v k = absurd (cc k)
numbered (q ∷ rs) t v k = numbered_at q rs t v (bytes_eq t q.text) refl k (λ k. numbered rs t v k)

-- ---- claims

others_same : (w : ℕ) (cs : List OpenClaim) → AllByRecursion (λ y. nat_eq w y ≡ false) (map (λ (c : OpenClaim). c.worker) cs) → claims_of_others w cs ≡ cs
others_same w [] apart = refl
others_same w (c ∷ cs) apart =
    let other : nat_eq c.worker w ≡ false = nat_eq_equiv.symm c.worker w ∙ apart.0 in
    rw other (ap (λ (ds : List OpenClaim). c ∷ ds) (others_same w cs apart.1))

-- the claims of a run, with that of this worker first
taken_at : (w : ℕ) (c : OpenClaim) (cs : List OpenClaim) (t : List ℕ) (b : Bool) → b ≡ nat_eq c.worker w
    → AllByRecursion (λ y. nat_eq c.worker y ≡ false) (map (λ (d : OpenClaim). d.worker) cs)
    → option_map (λ (d : OpenClaim). d.text) (cond b (Some c) (find (λ d. d.worker == w) cs)) ≡ Some t
    → (text_of_worker w cs ≡ Some t → IsPermutation cs (record { worker = w; text = t } ∷ claims_of_others w cs))
    → IsPermutation (c ∷ cs) (record { worker = w; text = t } ∷ cond (not b) (c ∷ claims_of_others w cs) (claims_of_others w cs))
taken_at w c cs t true e apart is later =
    let number : c.worker ≡ w = eqb-true _ _ (sym e) in
    let text : c.text ≡ t = cc is in
    let others : claims_of_others w cs ≡ cs =
    others_same w cs (subst (λ (n : ℕ). AllByRecursion (λ y. nat_eq n y ≡ false) (map (λ (d : OpenClaim). d.worker) cs)) number apart) in
    let first : c ≡ record { worker = w; text = t } = λ i. record { worker = number i; text = text i } in
    subst (λ (ds : List OpenClaim). IsPermutation (c ∷ cs) ds) (λ i. first i ∷ sym others i) (IsPermutation-refl (c ∷ cs))
taken_at w c cs t false e apart is later =
    let x : OpenClaim = record { worker = w; text = t } in
    let others : List OpenClaim = claims_of_others w cs in
    IsPermutation-trans (c ∷ cs) (c ∷ x ∷ others) (x ∷ c ∷ others) (IsPermutation-cons c cs (x ∷ others) (later is)) (IsPermutation-middle (c ∷ []) x others)

taken : (w : ℕ) (cs : List OpenClaim) (t : List ℕ) → IsDistinct nat_eq (map (λ (c : OpenClaim). c.worker) cs) → text_of_worker w cs ≡ Some t
    → IsPermutation cs (record { worker = w; text = t } ∷ claims_of_others w cs)
taken w [] t distinct is = absurd (cc is)
taken w (c ∷ cs) t distinct is =
    taken_at w c cs t (nat_eq c.worker w) refl (IsDistinct-head nat_eq c.worker (map (λ (d : OpenClaim). d.worker) cs) distinct) is
    (taken w cs t (IsDistinct-tail nat_eq c.worker (map (λ (d : OpenClaim). d.worker) cs) distinct))

-- a worker without a claim is none of those that have one
unclaimed_at : (w : ℕ) (c : OpenClaim) (found : Option OpenClaim) (b : Bool) → option_map (λ (d : OpenClaim). d.text) (cond b (Some c) found) ≡ None
    → (b ≡ false) × (option_map (λ (d : OpenClaim). d.text) found ≡ None)
unclaimed_at w c found true none = absurd (cc none)
unclaimed_at w c found false none = (refl, none)

unclaimed : (w : ℕ) (cs : List OpenClaim) → text_of_worker w cs ≡ None → list_any (nat_eq w) (map (λ (c : OpenClaim). c.worker) cs) ≡ false
unclaimed w [] none = refl
unclaimed w (c ∷ cs) none =
    let split : (nat_eq c.worker w ≡ false) × (text_of_worker w cs ≡ None) = unclaimed_at w c (find (λ d. d.worker == w) cs) (nat_eq c.worker w) none in
    let apart : nat_eq w c.worker ≡ false = nat_eq_equiv.symm w c.worker ∙ split.0 in
    rw apart (unclaimed w cs split.1)

-- what is found first is among the list, and passes
first_at : {X : Type 0} (P : X → Type 0) (p : X → Bool) (x : X) (xs : List X) (y : X) (b : Bool) → b ≡ p x → cond b (Some x) (find p xs) ≡ Some y
    → All P (x ∷ xs) → (find p xs ≡ Some y → All P xs → P y × (p y ≡ true)) → P y × (p y ≡ true)
first_at P p x xs y true e is all later = let same : x ≡ y = cc is in (subst P same (All-head P x xs all), ap p (sym same) ∙ sym e)
first_at P p x xs y false e is all later = later is (All-tail P x xs all)

first_is : {X : Type 0} (P : X → Type 0) (p : X → Bool) (xs : List X) (y : X) → find p xs ≡ Some y → All P xs → P y × (p y ≡ true)
first_is P p [] y is all = absurd (cc is)
first_is P p (x ∷ xs) y is all = first_at P p x xs y (p x) refl is all (first_is P p xs y)

pub not_true : (b : Bool) → not b ≡ true → b ≡ false
not_true true is = absurd (cc is)
not_true false is = refl

some_text : (o : Option (List ℕ)) → IsSome o → (t : List ℕ) × (o ≡ Some t)
some_text None some = absurd (cc some)
some_text (Some t) some = (t, refl)

-- ---- kept verdicts

pub no_verdict : (o : Option Verdict) → is_some o ≡ false → o ≡ None
no_verdict None none = refl
no_verdict (Some v) none = absurd (cc none)

kept_at : (K : KeptVerdicts) (t : List ℕ) (r : Record) (o : Option Verdict) → K t ≡ o → option_map (kept_record t) o ≡ Some r
    → (◌≡◌ {A = Option (List ℕ)} (Some t) (Some r.text)) × (K r.text ≡ Some r.verdict)
kept_at K t r None k e = absurd (cc e)
kept_at K t r (Some v) k e =
    let same : kept_record t v ≡ r = cc e in
    (ap (λ (s : Record). Some s.text) same, subst (λ (s : Record). K s.text ≡ Some s.verdict) same k)

-- what can be recalled is what is asked, with its kept verdict
pub kept_found : (K : KeptVerdicts) (asks : Option (List ℕ)) (r : Record) → kept_of K asks ≡ Some r → (asks ≡ Some r.text) × (K r.text ≡ Some r.verdict)
kept_found K None r e = absurd (cc e)
kept_found K (Some t) r e = kept_at K t r (K t) refl e

-- the claims are of texts without a kept verdict
abbrev AreNotKept : KeptVerdicts → List OpenClaim → Type 0
AreNotKept K cs = All (λ (c : OpenClaim). K c.text ≡ None) cs

-- so none is of a text that has one
not_claimed : (K : KeptVerdicts) (cs : List OpenClaim) (t : List ℕ) (v : Verdict) → K t ≡ Some v → AreNotKept K cs
    → list_any (bytes_eq t) (map (λ (c : OpenClaim). c.text) cs) ≡ false
not_claimed K [] t v is none = refl
not_claimed K (c ∷ cs) t v is none = elim (cases_Bool (bytes_eq t c.text)) [
  | inl same ↦
      let text : t ≡ c.text = (bytes_eq-Decides t c.text).0 same in
      let no : ◌≡◌ {A = Option Verdict} (Some v) None = sym is ∙ (ap K text ∙ All-head (λ (d : OpenClaim). K d.text ≡ None) c cs none) in
      absurd (cc no)
  | inr other ↦ rw other (not_claimed K cs t v is (All-tail (λ (d : OpenClaim). K d.text ≡ None) c cs none))
]

-- ---- a run

-- What each move keeps.
record IsRun (first : Plan) (kept : KeptVerdicts) (state : CoreState) : Type 0 where
  distinct : IsDistinct bytes_eq (all_texts state)
  one_each : IsDistinct nat_eq (map (λ (c : OpenClaim). c.worker) state.claims)
  may_ask : All (MayAsk first) (all_texts state)
  commits : CommitsWhatIsAsked [] first state.history
  replayed : state.front ≡ replay first state.history
  follows : (V : List ℕ → Option Verdict) → Extends V (records_of state.history) → follow V first ≡ follow V state.front
  still_may : (text : List ℕ) → MayAsk state.front text → MayAsk first text
  same_kept : state.kept ≡ kept
  go_with : AllGoWith kept state.history
  not_kept : AreNotKept kept state.claims

module _ (first : Plan) (kept : KeptVerdicts) (state : CoreState) (run : IsRun first kept state) where
  abbrev IsNotKept : OpenClaim → Type 0
  IsNotKept c = kept c.text ≡ None

  -- a text is claimed
  claimed : (workers worker : ℕ) (text : List ℕ) → MayMake workers state (Claims worker text) → IsRun first kept (after_move state (Claims worker text))
  claimed workers worker text may =
      let found : MayAsk state.front text × (not (is_taken state text) ≡ true) =
      first_is (MayAsk state.front) (λ t. not (is_taken state t)) (ahead (2 * workers) state.front) text may.3 (ahead_may state.front [] (2 * workers)) in
      let texts : List (List ℕ) = texts_of (records_of state.history) in
      let c : OpenClaim = record { worker = worker; text = text } in
      let free : ((is_recorded state text || list_any (bytes_eq text) (map (λ (d : OpenClaim). d.text) state.claims)) ≡ false)
      × (is_some (state.kept text) ≡ false) =
      or_parts (is_recorded state text || list_any (bytes_eq text) (map (λ (d : OpenClaim). d.text) state.claims)) (is_some (state.kept text))
      (not_true (is_taken state text) found.1) in
      let absent : list_any (bytes_eq text) (all_texts state) ≡ false =
      list_any-append (bytes_eq text) texts (map (λ (d : OpenClaim). d.text) state.claims) ∙ free.0 in
      let none : kept text ≡ None = ap (λ (K : KeptVerdicts). K text) (sym run.same_kept) ∙ no_verdict (state.kept text) free.1 in
      let more : all_texts (after_move state (Claims worker text)) ≡ all_texts state ++ text ∷ [] =
      ap (λ (ts : List (List ℕ)). texts ++ ts) (map-append (λ (d : OpenClaim). d.text) state.claims (c ∷ []))
      ∙ sym (append_assoc texts (map (λ (d : OpenClaim). d.text) state.claims) (text ∷ [])) in
      let workers_more : map (λ (d : OpenClaim). d.worker) (state.claims ++ c ∷ []) ≡ map (λ (d : OpenClaim). d.worker) state.claims ++ worker ∷ [] =
      map-append (λ (d : OpenClaim). d.worker) state.claims (c ∷ []) in
      record {
        distinct = rw more (IsDistinct-push nat_list_eq_equiv (all_texts state) text run.distinct absent);
        one_each =
            rw workers_more (IsDistinct-push nat_eq_equiv (map (λ (d : OpenClaim). d.worker) state.claims) worker run.one_each
            (unclaimed worker state.claims may.2));
        may_ask = rw more (All-push (MayAsk first) (all_texts state) text run.may_ask (run.still_may text found.0));
        commits = run.commits;
        replayed = run.replayed;
        follows = run.follows;
        still_may = run.still_may;
        same_kept = run.same_kept;
        go_with = run.go_with;
        not_kept = All-push IsNotKept state.claims c run.not_kept none;
      }

  -- a claimed text gets its verdict
  recorded : (worker : ℕ) (verdict : Verdict) (text : List ℕ) → text_of_worker worker state.claims ≡ Some text
      → IsRun first kept (after_move state (Records worker verdict))
  recorded worker verdict text is =
      let r : Record = record { text = text; verdict = verdict } in
      let c : OpenClaim = record { worker = worker; text = text } in
      let others : List OpenClaim = claims_of_others worker state.claims in
      let texts : List (List ℕ) = texts_of (records_of state.history) in
      let shuffled : IsPermutation state.claims (c ∷ others) = taken worker state.claims text run.one_each is in
      let history : (after_move state (Records worker verdict)).history ≡ state.history ++ Recorded text verdict false ∷ [] =
      ap (λ (o : Option (List ℕ)). state.history ++ recorded_as o verdict) is in
      let records : records_of (after_move state (Records worker verdict)).history ≡ records_of state.history ++ r ∷ [] =
      ap records_of history ∙ records_more state.history text verdict false in
      let apart : AreNotKept kept (c ∷ others) = All-permutation IsNotKept state.claims (c ∷ others) shuffled run.not_kept in
      let all : all_texts (after_move state (Records worker verdict)) ≡ texts ++ text ∷ map (λ (d : OpenClaim). d.text) others =
      ap (λ (rs : List Record). texts_of rs ++ map (λ (d : OpenClaim). d.text) others) records
      ∙ ap (λ (ts : List (List ℕ)). ts ++ map (λ (d : OpenClaim). d.text) others) (map-append (λ (q : Record). q.text) (records_of state.history) (r ∷ []))
      ∙ append_assoc texts (text ∷ []) (map (λ (d : OpenClaim). d.text) others) in
      let same_texts : IsPermutation (all_texts state) (texts ++ text ∷ map (λ (d : OpenClaim). d.text) others) =
      IsPermutation-append_right texts (map (λ (d : OpenClaim). d.text) state.claims) (text ∷ map (λ (d : OpenClaim). d.text) others)
      (IsPermutation-map (λ (d : OpenClaim). d.text) state.claims (c ∷ others) shuffled) in
      let same_workers : IsPermutation (map (λ (d : OpenClaim). d.worker) state.claims) (worker ∷ map (λ (d : OpenClaim). d.worker) others) =
      IsPermutation-map (λ (d : OpenClaim). d.worker) state.claims (c ∷ others) shuffled in
      record {
        distinct =
            rw all (IsDistinct-IsPermutation bytes_eq nat_list_eq_equiv.symm (all_texts state)
            (texts ++ text ∷ map (λ (d : OpenClaim). d.text) others) same_texts run.distinct);
        one_each =
            IsDistinct-tail nat_eq worker (map (λ (d : OpenClaim). d.worker) others)
            (IsDistinct-IsPermutation nat_eq nat_eq_equiv.symm (map (λ (d : OpenClaim). d.worker) state.claims)
            (worker ∷ map (λ (d : OpenClaim). d.worker) others) same_workers run.one_each);
        may_ask = rw all (All-permutation (MayAsk first) (all_texts state) (texts ++ text ∷ map (λ (d : OpenClaim). d.text) others) same_texts run.may_ask);
        commits = rw history (commits_record [] first state.history text verdict false run.commits);
        replayed = run.replayed ∙ sym (ap (replay first) history ∙ replay_record [] first state.history text verdict false);
        follows = λ V extends. run.follows V (extends_front V (records_of state.history) (r ∷ []) (subst (Extends V) records extends));
        still_may = run.still_may;
        same_kept = run.same_kept;
        go_with = rw history (go_with_more kept state.history (Recorded text verdict false) run.go_with (All-head IsNotKept c others apart));
        not_kept = All-tail IsNotKept c others apart;
      }

  -- the text that the front asks gets the verdict that is kept for it
  recalled : (r : Record) → kept_of state.kept (asked state.front) ≡ Some r → is_recorded state r.text ≡ false → IsRun first kept (after_move state Recalls)
  recalled r is new =
      let found : (asked state.front ≡ Some r.text) × (state.kept r.text ≡ Some r.verdict) = kept_found state.kept (asked state.front) r is in
      let verdict : kept r.text ≡ Some r.verdict = ap (λ (K : KeptVerdicts). K r.text) (sym run.same_kept) ∙ found.1 in
      let q : Record = kept_record r.text r.verdict in
      let texts : List (List ℕ) = texts_of (records_of state.history) in
      let claimed : List (List ℕ) = map (λ (c : OpenClaim). c.text) state.claims in
      let history : (after_move state Recalls).history ≡ state.history ++ Recorded r.text r.verdict true ∷ [] =
      ap (λ (o : Option Record). state.history ++ recalled_as o) is in
      let records : records_of (after_move state Recalls).history ≡ records_of state.history ++ q ∷ [] =
      ap records_of history ∙ records_more state.history r.text r.verdict true in
      let absent : list_any (bytes_eq r.text) (all_texts state) ≡ false =
      list_any-append (bytes_eq r.text) texts claimed
      ∙ (ap (λ (b : Bool). b || list_any (bytes_eq r.text) claimed) new ∙ not_claimed kept state.claims r.text r.verdict verdict run.not_kept) in
      let all : all_texts (after_move state Recalls) ≡ texts ++ r.text ∷ claimed =
      ap (λ (rs : List Record). texts_of rs ++ claimed) records
      ∙ ap (λ (ts : List (List ℕ)). ts ++ claimed) (map-append (λ (s : Record). s.text) (records_of state.history) (q ∷ []))
      ∙ append_assoc texts (r.text ∷ []) claimed in
      let last_first : IsPermutation (claimed ++ r.text ∷ []) (r.text ∷ claimed) =
      subst (λ (ts : List (List ℕ)). IsPermutation (claimed ++ r.text ∷ []) (r.text ∷ ts)) (append-nil claimed) (IsPermutation-middle claimed r.text []) in
      let shuffled : IsPermutation (all_texts state ++ r.text ∷ []) (texts ++ r.text ∷ claimed) =
      subst (λ (ts : List (List ℕ)). IsPermutation ts (texts ++ r.text ∷ claimed)) (sym (append_assoc texts claimed (r.text ∷ [])))
      (IsPermutation-append_right texts (claimed ++ r.text ∷ []) (r.text ∷ claimed) last_first) in
      record {
        distinct = rw all (IsDistinct-IsPermutation bytes_eq nat_list_eq_equiv.symm (all_texts state ++ r.text ∷ []) (texts ++ r.text ∷ claimed) shuffled
            (IsDistinct-push nat_list_eq_equiv (all_texts state) r.text run.distinct absent));
        one_each = run.one_each;
        may_ask = rw all (All-permutation (MayAsk first) (all_texts state ++ r.text ∷ []) (texts ++ r.text ∷ claimed) shuffled
            (All-push (MayAsk first) (all_texts state) r.text run.may_ask (run.still_may r.text (asked_may state.front r.text found.0))));
        commits = rw history (commits_record [] first state.history r.text r.verdict true run.commits);
        replayed = run.replayed ∙ sym (ap (replay first) history ∙ replay_record [] first state.history r.text r.verdict true);
        follows = λ V extends. run.follows V (extends_front V (records_of state.history) (q ∷ []) (subst (Extends V) records extends));
        still_may = run.still_may;
        same_kept = run.same_kept;
        go_with = rw history (go_with_more kept state.history (Recorded r.text r.verdict true) run.go_with verdict);
        not_kept = run.not_kept;
      }

  -- the front is answered with a record
  committed : (number : ℕ) (r : Record) → record_at number (records_of state.history) ≡ Some r → asked state.front ≡ Some r.text
      → IsRun first kept (after_move state (Commits number))
  committed number r at is =
      let same : records_of (state.history ++ Committed number ∷ []) ≡ records_of state.history = records_same state.history number in
      let texts : all_texts (after_move state (Commits number)) ≡ all_texts state =
      ap (λ (rs : List Record). texts_of rs ++ map (λ (d : OpenClaim). d.text) state.claims) same in
      let front : answered (record_at number (records_of state.history)) state.front ≡ after state.front r.verdict =
      ap (λ (o : Option Record). answered o state.front) at in
      record {
        distinct = rw texts run.distinct;
        one_each = run.one_each;
        may_ask = rw texts run.may_ask;
        commits = commits_commit [] first state.history number r run.commits at (ap asked (sym run.replayed) ∙ is);
        replayed = ap (λ (p : Plan). answered (record_at number (records_of state.history)) p) run.replayed ∙ sym (replay_commit [] first state.history number);
        follows = λ V extends.
            let before : Extends V (records_of state.history) = subst (Extends V) same extends in
            run.follows V before ∙ follow_after V state.front r.verdict r.text is (extends_at V (records_of state.history) number r at before)
            ∙ ap (follow V) (sym front);
        still_may = λ text may. run.still_may text (after_may state.front r.verdict r.text text is (subst (λ (p : Plan). MayAsk p text) front may));
        same_kept = run.same_kept;
        go_with = go_with_more kept state.history (Committed number) run.go_with tt;
        not_kept = run.not_kept;
      }

  moved : (workers : ℕ) (move : Move) → MayMake workers state move → IsRun first kept (after_move state move)
  moved workers (Claims worker text) may = claimed workers worker text may
  moved workers (Records worker verdict) may = let some : (t : List ℕ) × (text_of_worker worker state.claims ≡ Some t) =
      some_text (text_of_worker worker state.claims) may in recorded worker verdict some.0 some.1
  moved workers Recalls may = recalled may.0 may.1 may.2
  moved workers (Commits number) may = committed number may.0 may.1 may.2

runs : (workers : ℕ) (first : Plan) (kept : KeptVerdicts) (state : CoreState) (moves : List Move) → IsRun first kept state → AreMoves workers state moves
    → IsRun first kept (after_moves state moves)
runs workers first kept state [] run are = run
runs workers first kept state (move ∷ moves) run are =
    runs workers first kept (after_move state move) moves (moved first kept state run workers move are.0) are.1

begins : (first : Plan) (kept : KeptVerdicts) → IsRun first kept (begun first kept)
unfolding IsDistinct
begins first kept = record {
  distinct = tt;
  one_each = tt;
  may_ask = All-nil (MayAsk first);
  commits = tt;
  replayed = refl;
  follows = λ V extends. refl;
  still_may = λ text may. may;
  same_kept = refl;
  go_with = tt;
  not_kept = All-nil (λ (c : OpenClaim). kept c.text ≡ None);
}

-- ---- what holds of a run

unrecorded : (workers : ℕ) (state : CoreState) (text : List ℕ) → asked state.front ≡ Some text → ((number : ℕ) → ¬ (MayMake workers state (Commits number)))
    → (o : Option Verdict) → verdict_in (records_of state.history) text ≡ o → verdict_in (records_of state.history) text ≡ None
unrecorded workers state text is never None known = known
unrecorded workers state text is never (Some v) known =
    let at : (n : ℕ) × (r : Record) × (record_at n (records_of state.history) ≡ Some r) × (r.text ≡ text) = numbered (records_of state.history) text v known in
    absurd (never at.0 (at.1, at.2, is ∙ ap (λ (t : List ℕ). Some t) (sym at.3)))

stops : (workers : ℕ) (state : CoreState) → ((number : ℕ) → ¬ (MayMake workers state (Commits number))) → (o : Option (List ℕ)) → asked state.front ≡ o
    → follow (verdict_in (records_of state.history)) state.front ≡ state.front
stops workers state never None is = follow_ended (verdict_in (records_of state.history)) state.front is
stops workers state never (Some text) is =
    stays (verdict_in (records_of state.history)) state.front text is (unrecorded workers state text is never (verdict_in (records_of state.history) text) refl)

holds : (workers : ℕ) (first : Plan) (kept : KeptVerdicts) (state : CoreState) → IsRun first kept state → HoldsOf workers first kept state
holds workers first kept state run =
    let recorded : IsDistinct bytes_eq (texts_of (records_of state.history)) =
    distinct_front bytes_eq (texts_of (records_of state.history)) (map (λ (c : OpenClaim). c.text) state.claims) run.distinct in
    record {
      distinct = run.distinct;
      one_each = run.one_each;
      may_ask = run.may_ask;
      same_kept = run.same_kept;
      go_with = run.go_with;
      not_kept = run.not_kept;
      legal = record { distinct = recorded; commits = run.commits };
      replayed = run.replayed;
      follows = run.follows;
      settled =
          λ never. sym (run.follows (verdict_in (records_of state.history)) (extends_itself (records_of state.history) recorded)
          ∙ stops workers state never (asked state.front) refl);
      ended = λ V ended extends. sym (run.follows V extends ∙ follow_ended V state.front ended);
    }

pub any_order : AnyOrderHolds
any_order workers first kept moves are =
    holds workers first kept (after_moves (begun first kept) moves) (runs workers first kept (begun first kept) moves (begins first kept) are)
