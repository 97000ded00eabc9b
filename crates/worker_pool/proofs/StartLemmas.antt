-- A reducer that ends where the first text's verdict is no: no other text is claimed before that verdict, and none after one that ends it.
use Rattle.std.proofs.Common.{arith, ◌≡◌, ◌<◌, ◌≤◌, ◌*◌, ◌++◌, ℕ, zero, suc, List, [], ◌∷◌, All, Contains, Bool, true, false, Option}
use Rattle.std.proofs.Common.{Some, None, find, length, nat_eq, slice_index_or, take, refl, sym, ap, ◌∙◌, subst}
use Rattle.std.proofs.lemmas.Cmp.{nat_list_eq_equiv}
use Rattle.std.proofs.lemmas.List.Elements.{All-contains_itself, All-head}
use Rattle.std.specs.List.{list_any}
use Rattle.std.specs.Str.{bytes_eq}
use Rattle.edge_io.specs.Sink.{Put}
use Rattle.script_gate_trait.specs.declared.gate.Verdict.{Verdict}
use Rattle.script_gate_trait.specs.declared.gate.Verdict.TheVariants.{No}
use Rattle.gate_permits.specs.Permits.{AnsweredText, ClaimedText}
use Rattle.reduce_step.specs.Ahead.{ahead}
use Rattle.reduce_step.specs.Plan.{Ask, End, HasEnded, Plan, after, asked, follow}
use Rattle.reduce_step.proofs.Lent.{follow_after, follow_ended, stays}
use Rattle.verdict_table.specs.declared.record.Record.{Record}
use Rattle.verdict_table.specs.declared.table.Claim.{Claim}
use Rattle.verdict_table.specs.TableState.{TableState, all_texts, claimed_texts, other_claims, text_claimed, texts_of, verdict_in}
use Rattle.verdict_table.proofs.Lent.{extends_itself, absent_everywhere}
use Rattle.reduce_journal.specs.History.{records_of}
use Rattle.ordered_commit.specs.Moves.{kept_of}
use Rattle.ordered_commit.specs.Replay.{replay}
use Rattle.ordered_commit.proofs.Lent.{kept_found, leads_on, find_passes, first_absent, next_free, nothing_committed}
use Rattle.ordered_commit.specs.declared.seat.Seat.{Seat}
use Rattle.ordered_commit.specs.BoardState.{BoardState, CanRecall, IsSettled}
use Rattle.ordered_commit.specs.inner.Claiming.{is_free}
use Rattle.ordered_commit.specs.Kept.{BeginsWithin, IsKept}
use Rattle.ordered_commit.specs.RecallEnds.{with_kept_record}
use Rattle.ordered_commit.specs.RecordEnds.{with_filled}
use Rattle.ordered_commit.specs.TakeEnds.{IsClaimed, with_claimed}
use Rattle.worker_pool.specs.RunHistory.{BeginsWith, EndsAtFirst}
use Rattle.worker_pool.proofs.LeftLemmas.{no_verdict_of}
use Rattle.worker_pool.proofs.AskLemmas.{unrecorded}
use Rattle.worker_pool.specs.inner.Runs.{AtStart, StartsAlone}

-- ---- what is ahead of such a reducer

take_nil : (n : ℕ) → ◌≡◌ {A = List (List ℕ)} (take n []) []
take_nil zero = refl
take_nil (suc n) = refl

only_at : (t text : List ℕ) (xs : List (List ℕ)) (k : ℕ) → xs ≡ [] → k < length (t ∷ xs) → slice_index_or (t ∷ xs) k text ≡ text → text ≡ t
only_at t text xs zero none less at = sym at
only_at t text xs (suc k) none less at =
    let n : length xs ≡ 0 = ap length none in
    let no : ⊥ = omega (arith, n, less) in absurd no

nothing_at : (text : List ℕ) (xs : List (List ℕ)) → xs ≡ [] → Contains xs text → ⊥
nothing_at text xs none has =
    let n : length xs ≡ 0 = ap length none in
    let less : has.0 < length xs = has.1 in
    let no : ⊥ = omega (arith, n, less) in no

-- it asks something where something is ahead
pub ahead_asks : (m : ℕ) (p : Plan) (text : List ℕ) → Contains (ahead m p) text → (asks : List ℕ) × (asked p ≡ Some asks)
ahead_asks m (End result) text has = absurd (nothing_at text (take m []) (take_nil m) has)
ahead_asks m (Ask t a b) text has = (t, refl)

-- and that alone
contains_only : (m : ℕ) (p : Plan) (text asks : List ℕ) → HasEnded (after p No) → asked p ≡ Some asks → Contains (ahead m p) text → text ≡ asks
contains_only m (End result) text asks ended is has = absurd (cc is)
contains_only m (Ask t a (Ask u d e)) text asks ended is has = absurd (cc ended)
contains_only zero (Ask t a (End result)) text asks ended is has = absurd (nothing_at text [] refl has)
contains_only (suc m) (Ask t a (End result)) text asks ended is has =
    let same : t ≡ asks = cc is in
    only_at t text (take m []) has.0 (take_nil m) has.1 has.2 ∙ same

-- so the first record is of it
first_is : (m : ℕ) (p : Plan) (text : List ℕ) → HasEnded (after p No) → Contains (ahead m p) text → asked p ≡ Some text
first_is m p text ended has =
    let asks = ahead_asks m p text has in
    asks.1 ∙ ap (λ (t : List ℕ). Some t) (sym (contains_only m p text asks.0 ended asks.1 has))

pub begins_with : (m : ℕ) (p : Plan) (rs : List Record) → HasEnded (after p No) → BeginsWithin (ahead m p) rs [] → BeginsWith p rs
begins_with m p [] ended begins = tt
begins_with m p (r ∷ rs) ended begins = first_is m p r.text ended begins

-- ---- a text that is asked later

-- after a first record that ends the reducer no text is asked that has no record
module _ {S J : Type 0} (plan first : S → Plan) (may_say : List ℕ → Verdict → Type 0) (put : J → Option Put) (faults : J → ℕ) (state : BoardState S J)
    (kept : IsKept plan first may_say put faults state) (ended : HasEnded (after (first state.front) No)) (unstopped : state.fault ≡ None)
    (text : List ℕ) (is_asked : asked (plan state.front) ≡ Some text) (unknown : verdict_in (records_of state.history) text ≡ None) where
  over_before : (r : Record) (rs : List Record) → state.table.records ≡ r ∷ rs → HasEnded (after (first state.front) r.verdict) → ⊥
  over_before r rs is over =
      let start : Plan = first state.front in
      let many : ℕ = 2 * length state.seats in
      let records : records_of state.history ≡ r ∷ rs = sym kept.recorded.recorded ∙ is in
      let V : List ℕ → Option Verdict = verdict_in (records_of state.history) in
      let waits : follow V (plan state.front) ≡ plan state.front = stays V (plan state.front) text is_asked unknown in
      let leads : follow V start ≡ follow V (replay start state.history) =
      leads_on V [] start state.history kept.recorded.legal.commits (extends_itself (records_of state.history) kept.recorded.legal.distinct) in
      let there : follow V start ≡ plan state.front = leads ∙ ap (follow V) (sym (kept.replayed unstopped)) ∙ waits in
      let begins : Contains (ahead many start) r.text = subst (λ (qs : List Record). BeginsWithin (ahead many start) qs state.table.claims) is kept.begins in
      let first_text : asked start ≡ Some r.text = first_is many start r.text ended begins in
      let at_text : verdict_in (r ∷ rs) r.text ≡ Some r.verdict = rw (nat_list_eq_equiv.refl r.text) refl in
      let known : V r.text ≡ Some r.verdict = ap (λ (qs : List Record). verdict_in qs r.text) records ∙ at_text in
      let ends : follow V start ≡ after start r.verdict =
      follow_after V start r.verdict r.text first_text known ∙ follow_ended V (after start r.verdict) over in
      let nothing : Some text ≡ None = sym is_asked ∙ ap asked (sym there ∙ ends) ∙ over in
      cc nothing

-- ---- a claim

-- no text that is ahead is free while another has a claim
none_before : (m : ℕ) (p : Plan) (text : List ℕ) (claims : List Claim) → HasEnded (after p No) → asked p ≡ Some text
    → All (λ (c : Claim). Contains (ahead m p) c.text) claims → list_any (bytes_eq text) (claimed_texts claims) ≡ false → claims ≡ []
none_before m p text [] ended is begins free = refl
none_before m p text (c ∷ claims) ended is begins free =
    let same : c.text ≡ text = contains_only m p c.text text ended is (All-head (λ (d : Claim). Contains (ahead m p) d.text) c claims begins) in
    let equal : bytes_eq text c.text ≡ true = ap (bytes_eq text) same ∙ nat_list_eq_equiv.refl text in
    let taken : list_any (bytes_eq text) (claimed_texts (c ∷ claims)) ≡ true = rw equal refl in
    absurd (cc (sym taken ∙ free))

module _ {S J : Type 0} (plan first : S → Plan) (may_say : List ℕ → Verdict → Type 0) (put : J → Option Put) (faults : J → ℕ) (state : BoardState S J)
    (kept : IsKept plan first may_say put faults state) (settled : IsSettled plan state)
    (permit : ClaimedText) (seat seat' : Seat) (new : BoardState S J) (claimed : IsClaimed plan permit seat seat' state new)
    (ended : HasEnded (after (first state.front) No)) where
  abbrev start : Plan
  start = first state.front

  abbrev many : ℕ
  many = 2 * length state.seats

  abbrev texts : List (List ℕ)
  texts = ahead many (plan state.front)

  found : find (is_free state.kept state.table) texts ≡ Some permit.text
  found = sym (next_free plan first may_say put faults state kept claimed.unstopped) ∙ claimed.moved.0.3

  passes : Contains texts permit.text × (is_free state.kept state.table permit.text ≡ true)
  passes = find_passes (Contains texts) (is_free state.kept state.table) texts permit.text found (All-contains_itself texts)

  -- before the first record
  at_first : state.table.records ≡ [] → state.table.claims ≡ []
  at_first none =
      let same : plan state.front ≡ start =
      kept.replayed claimed.unstopped ∙ nothing_committed start state.history kept.recorded.legal.commits (sym kept.recorded.recorded ∙ none) in
      let here : Contains (ahead many start) permit.text = subst (λ (p : Plan). Contains (ahead many p) permit.text) same passes.0 in
      let begins : All (λ (c : Claim). Contains (ahead many start) c.text) state.table.claims =
      subst (λ (rs : List Record). BeginsWithin (ahead many start) rs state.table.claims) none kept.begins in
      let free : list_any (bytes_eq permit.text) (all_texts state.table) ≡ false =
      absent_everywhere state.table permit.text kept.recorded.sound (first_absent state.kept state.table texts permit.text found) in
      let among : list_any (bytes_eq permit.text) (claimed_texts state.table.claims) ≡ false =
      subst (λ (rs : List Record). list_any (bytes_eq permit.text) (texts_of rs ++ claimed_texts state.table.claims) ≡ false) none free in
      none_before many start permit.text state.table.claims ended (first_is many start permit.text ended here) begins among

  -- after one that ends the reducer there is no claim
  none_after : (r : Record) (rs : List Record) → state.table.records ≡ r ∷ rs → HasEnded (after start r.verdict) → ⊥
  none_after r rs is over =
      let asks = ahead_asks many (plan state.front) permit.text passes.0 in
      let unknown : verdict_in (records_of state.history) asks.0 ≡ None = unrecorded plan state asks.0 claimed.unstopped asks.1 settled in
      over_before plan first may_say put faults state kept ended claimed.unstopped asks.0 asks.1 unknown r rs is over

  by_records : (rs : List Record) → state.table.records ≡ rs
      → StartsAlone start rs (state.table.claims ++ record { number = permit.claim; text = permit.text } ∷ [])
  by_records [] is = subst (λ (cs : List Claim). length (cs ++ record { number = permit.claim; text = permit.text } ∷ []) ≤ 1) (sym (at_first is)) (omega arith)
  by_records (r ∷ rs) is = λ over. absurd (none_after r rs is over)

  pub taken_alone : StartsAlone start (with_claimed permit state.table).records (with_claimed permit state.table).claims
  taken_alone = by_records state.table.records refl

-- ---- a recall

module _ {S J : Type 0} (plan first : S → Plan) (may_say : List ℕ → Verdict → Type 0) (put : J → Option Put) (faults : J → ℕ) (state : BoardState S J)
    (kept : IsKept plan first may_say put faults state) (r : Record) (could : CanRecall plan state)
    (found : kept_of (verdict_in state.kept) (asked (plan state.front)) ≡ Some r) (ended : HasEnded (after (first state.front) No)) where
  abbrev first_plan : Plan
  first_plan = first state.front

  abbrev texts_ahead : List (List ℕ)
  texts_ahead = ahead (2 * length state.seats) first_plan

  asks : asked (plan state.front) ≡ Some r.text
  asks = (kept_found (verdict_in state.kept) (asked (plan state.front)) r found).0

  is_kept : verdict_in state.kept r.text ≡ Some r.verdict
  is_kept = (kept_found (verdict_in state.kept) (asked (plan state.front)) r found).1

  unknown : verdict_in (records_of state.history) r.text ≡ None
  unknown =
      let same : could.1.0 ≡ r = cc (sym could.1.1 ∙ found) in
      no_verdict_of (records_of state.history) r.text
      (subst (λ (q : Record). list_any (bytes_eq q.text) (texts_of (records_of state.history)) ≡ false) same could.1.2)

  -- a claim before the first record would be of this text, which has a kept verdict
  none_claimed : (claims : List Claim) → asked first_plan ≡ Some r.text → All (λ (c : Claim). Contains texts_ahead c.text) claims
      → All (λ (c : Claim). verdict_in state.kept c.text ≡ None) claims → claims ≡ []
  none_claimed [] first_asks begins unkept = refl
  none_claimed (c ∷ claims) first_asks begins unkept =
      let same : c.text ≡ r.text =
      contains_only (2 * length state.seats) first_plan c.text r.text ended first_asks
      (All-head (λ (d : Claim). Contains texts_ahead d.text) c claims begins) in
      let none : verdict_in state.kept c.text ≡ None = All-head (λ (d : Claim). verdict_in state.kept d.text ≡ None) c claims unkept in
      let no : ◌≡◌ {A = Option Verdict} (Some r.verdict) None = sym is_kept ∙ ap (verdict_in state.kept) (sym same) ∙ none in
      absurd (cc no)

  first_recalled : state.table.records ≡ [] → state.table.claims ≡ []
  first_recalled none =
      let same : plan state.front ≡ first_plan =
      kept.replayed could.0 ∙ nothing_committed first_plan state.history kept.recorded.legal.commits (sym kept.recorded.recorded ∙ none) in
      none_claimed state.table.claims (ap asked (sym same) ∙ asks)
      (subst (λ (rs : List Record). BeginsWithin texts_ahead rs state.table.claims) none kept.begins) kept.recorded.not_kept

  alone_by : (rs : List Record) → state.table.records ≡ rs → StartsAlone first_plan (rs ++ r ∷ []) state.table.claims
  alone_by [] is = λ over. (refl, first_recalled is)
  alone_by (q ∷ rs) is = λ over. absurd (over_before plan first may_say put faults state kept ended could.0 r.text asks unknown q rs is over)

  pub recalled_alone : StartsAlone first_plan (with_kept_record r state.table).records (with_kept_record r state.table).claims
  recalled_alone = alone_by state.table.records refl

-- ---- a record

only_gone : (n : ℕ) (text : List ℕ) (c : Claim) → text_claimed n (c ∷ []) ≡ Some text → other_claims n (c ∷ []) ≡ []
only_gone n text c opened = by_test (nat_eq c.number n) refl
  where
    by_test : (b : Bool) → nat_eq c.number n ≡ b → other_claims n (c ∷ []) ≡ []
    by_test true is = rw is refl
    by_test false is =
        let none : text_claimed n (c ∷ []) ≡ None = rw is refl in
        absurd (cc (sym opened ∙ none))

filled_alone : (first : Plan) (n : ℕ) (text : List ℕ) (x : Record) (rs : List Record) (cs : List Claim) → text_claimed n cs ≡ Some text
    → StartsAlone first rs cs → StartsAlone first (rs ++ x ∷ []) (other_claims n cs)
filled_alone first n text x [] [] opened alone = absurd (cc opened)
filled_alone first n text x [] (c ∷ []) opened alone = λ over. (refl, only_gone n text c opened)
filled_alone first n text x [] (c ∷ d ∷ cs) opened alone = let no : ⊥ = omega (arith, alone) in absurd no
filled_alone first n text x (r ∷ rs) cs opened alone = λ over.
    let none : text_claimed n [] ≡ Some text = subst (λ (ds : List Claim). text_claimed n ds ≡ Some text) (alone over).1 opened in
    absurd (cc none)

pub record_alone : (first : Plan) (answer : AnsweredText) (table : TableState) → text_claimed answer.claim table.claims ≡ Some answer.text → AtStart first table
    → AtStart first (with_filled answer table)
record_alone first answer table opened start ended =
    filled_alone first answer.claim answer.text (record { text = answer.text; verdict = answer.verdict }) table.records table.claims opened (start ended)

-- ---- the end

pub ends_alone : (first : Plan) (rs : List Record) (cs : List Claim) → StartsAlone first rs cs → EndsAtFirst first rs
ends_alone first [] cs alone = tt
ends_alone first (r ∷ rs) cs alone = λ over. (alone over).0
