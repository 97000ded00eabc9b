-- How many moves are left, and what else a call of the board keeps.
use Rattle.std.proofs.Common.{◌≡◌, ◌<◌, ◌≤◌, ◌+◌, ◌*◌, ◌++◌, ◌||◌, inl, inr, ℕ, List, [], ◌∷◌, Bool, true, false, cond, Option}
use Rattle.std.proofs.Common.{Some, None, Result, Ok, Err, is_some, arith, refl, sym, ap, ◌∙◌, subst}
use Rattle.std.proofs.lemmas.Cmp.{nat_list_eq_equiv}
use Rattle.std.specs.Prelude.{if◌then◌else◌}
use Rattle.std.specs.List.{list_any}
use Rattle.std.specs.Result.{result_unwrap_or}
use Rattle.std.specs.Str.{bytes_eq}
use Rattle.faults.specs.Memory.{ran_out}
use Rattle.edge_io.specs.Sink.{Put}
use Rattle.gate_permits.specs.Permits.{ClaimedText}
use Rattle.script_gate_trait.specs.declared.gate.Verdict.{Verdict}
use Rattle.script_gate_trait.specs.declared.gate.Verdict.TheVariants.{Yes, No}
use Rattle.verdict_table.specs.declared.record.Record.{Record}
use Rattle.reduce_step.specs.Plan.{Ask, End, Plan, after, asked, height}
use Rattle.verdict_table.specs.TableState.{TableState, texts_of, verdict_in}
use Rattle.reduce_journal.specs.History.{records_of}
use Rattle.ordered_commit.specs.Moves.{CoreState}
use Rattle.ordered_commit.specs.Replay.{answered, record_at}
use Rattle.ordered_commit.proofs.Lent.{kept_found, records_more}
use Rattle.ordered_commit.specs.declared.fault.PoolFault.{PoolFault}
use Rattle.ordered_commit.specs.declared.fault.PoolFault.TheVariants.{Journal, Memory}
use Rattle.ordered_commit.specs.declared.fault.BoardFault.{BoardFault}
use Rattle.ordered_commit.specs.declared.fault.BoardFault.TheVariants as board
use Rattle.ordered_commit.specs.declared.seat.Seat.{Seat}
use Rattle.ordered_commit.specs.BoardState.{BoardState, CanCommit, CanRecall, HasNoCommit, IsSettled}
use Rattle.ordered_commit.specs.CommitEnds.{CommitEnds}
use Rattle.ordered_commit.specs.RecallEnds.{RecallEnds}
use Rattle.ordered_commit.specs.TakeEnds.{IsClaimed}
use Rattle.worker_pool.specs.inner.UnderWay.{IsFree, has_record, moves_after, moves_left}

-- ---- a record that is new

no_verdict_at : (b : Bool) (v : Verdict) (rest : Option Verdict) → cond b (Some v) rest ≡ None → (b ≡ false) × (rest ≡ None)
no_verdict_at true v rest none = absurd (cc none)
no_verdict_at false v rest none = (refl, none)

-- it has its verdict
pub verdict_last : (rs : List Record) (text : List ℕ) (verdict : Verdict) → verdict_in rs text ≡ None
    → verdict_in (rs ++ record { text = text; verdict = verdict } ∷ []) text ≡ Some verdict
verdict_last [] text verdict none = rw (nat_list_eq_equiv.refl text) refl
verdict_last (q ∷ rs) text verdict none =
    let apart = no_verdict_at (bytes_eq text q.text) q.verdict (verdict_in rs text) none in
    rw apart.0 (verdict_last rs text verdict apart.1)

-- a text that none of the records has has no verdict
pub no_verdict_of : (rs : List Record) (text : List ℕ) → list_any (bytes_eq text) (texts_of rs) ≡ false → verdict_in rs text ≡ None
no_verdict_of [] text none = refl
no_verdict_of (q ∷ rs) text none = at (bytes_eq text q.text) none (no_verdict_of rs text)
  where
    at : (b : Bool) → (b || list_any (bytes_eq text) (texts_of rs)) ≡ false
        → (list_any (bytes_eq text) (texts_of rs) ≡ false → verdict_in rs text ≡ None) → cond b (Some q.verdict) (verdict_in rs text) ≡ None
    at true none later = absurd (cc none)
    at false none later = later none

-- ---- how many moves are left

-- an answer leaves fewer to come
lower : (p : Plan) (v : Verdict) (text : List ℕ) → asked p ≡ Some text → height (after p v) < height p
lower (End result) v text is = absurd (cc is)
lower (Ask t a b) Yes text is = omega arith
lower (Ask t a b) No text is = omega arith

-- with a fault no move is left
no_move : (fault : Option PoolFault) (kept : PoolFault) (plan : Plan) (records : List Record) → fault ≡ Some kept → moves_after fault plan records ≡ 0
no_move fault kept plan records is = subst (λ (f : Option PoolFault). moves_after f plan records ≡ 0) (sym is) refl

-- without one, those of its height, and one or two
abbrev moves_of : ℕ → Bool → ℕ
moves_of height recorded = 2 * height + (if recorded then 1 else 2)

some_moves : (fault : Option PoolFault) (plan : Plan) (records : List Record) → fault ≡ None
    → moves_after fault plan records ≡ moves_of (height plan) (has_record records (asked plan))
some_moves fault plan records is =
    subst (λ (f : Option PoolFault). moves_after f plan records ≡ moves_of (height plan) (has_record records (asked plan))) (sym is) refl

one_or_two : (n : ℕ) (b : Bool) → (2 * n + 1 ≤ moves_of n b) × (moves_of n b ≤ 2 * n + 2)
one_or_two n true = (omega arith, omega arith)
one_or_two n false = (omega arith, omega arith)

abbrev pub Fewer : {S J : Type 0} → (S → Plan) → BoardState S J → BoardState S J → Type 0
Fewer plan old new = moves_left plan new < moves_left plan old

abbrev pub NotMore : {S J : Type 0} → (S → Plan) → BoardState S J → BoardState S J → Type 0
NotMore plan old new = moves_left plan new ≤ moves_left plan old

module _ {S J : Type 0} (plan : S → Plan) (old new : BoardState S J) where
  -- a fault that comes ends the moves
  pub fewer_by_fault : (kept : PoolFault) → old.fault ≡ None → new.fault ≡ Some kept → Fewer plan old new
  fewer_by_fault kept none is =
      let after_it = no_move new.fault kept (plan new.front) (records_of new.history) is in
      let before = some_moves old.fault (plan old.front) (records_of old.history) none in
      let some = one_or_two (height (plan old.front)) (has_record (records_of old.history) (asked (plan old.front))) in
      omega (arith, after_it, before, some.0)

  -- so does one that came before
  pub none_by_fault : (kept : PoolFault) → new.fault ≡ Some kept → NotMore plan old new
  none_by_fault kept is = let after_it = no_move new.fault kept (plan new.front) (records_of new.history) is in omega (arith, after_it)

  -- an answer that is committed
  fewer_by_commit_of : (number : ℕ) → CanCommit plan old number → new.fault ≡ None
      → plan new.front ≡ answered (record_at number (records_of old.history)) (plan old.front) → Fewer plan old new
  fewer_by_commit_of number could none is =
      let r : Record = could.1.0 in
      let next : plan new.front ≡ after (plan old.front) r.verdict = is ∙ ap (λ (o : Option Record). answered o (plan old.front)) could.1.1 in
      let less : height (plan new.front) < height (plan old.front) =
      subst (λ (p : Plan). height p < height (plan old.front)) (sym next) (lower (plan old.front) r.verdict r.text could.1.2) in
      let here = some_moves new.fault (plan new.front) (records_of new.history) none in
      let before = some_moves old.fault (plan old.front) (records_of old.history) could.0 in
      let most = one_or_two (height (plan new.front)) (has_record (records_of new.history) (asked (plan new.front))) in
      let least = one_or_two (height (plan old.front)) (has_record (records_of old.history) (asked (plan old.front))) in
      omega (arith, less, here, before, most.1, least.0)

  -- the text that is asked has a record then, and had none
  recorded_at : (text : List ℕ) → old.fault ≡ None → (fault : Option PoolFault) → new.fault ≡ fault → plan new.front ≡ plan old.front
      → asked (plan old.front) ≡ Some text → verdict_in (records_of old.history) text ≡ None → is_some (verdict_in (records_of new.history) text) ≡ true
      → Fewer plan old new
  recorded_at text none None now same is absent there =
      let before : moves_left plan old ≡ moves_of (height (plan old.front)) false =
      some_moves old.fault (plan old.front) (records_of old.history) none
      ∙ ap (moves_of (height (plan old.front)))
      (ap (has_record (records_of old.history)) is ∙ ap (λ (o : Option Verdict). is_some o) absent) in
      let here : moves_left plan new ≡ moves_of (height (plan old.front)) true =
      some_moves new.fault (plan new.front) (records_of new.history) now
      ∙ ap (λ (p : Plan). moves_of (height p) (has_record (records_of new.history) (asked p))) same
      ∙ ap (moves_of (height (plan old.front))) (ap (has_record (records_of new.history)) is ∙ there) in
      omega (arith, before, here)
  recorded_at text none (Some kept) now same is absent there = fewer_by_fault kept none now

  pub fewer_by_record : (text : List ℕ) → old.fault ≡ None → plan new.front ≡ plan old.front → asked (plan old.front) ≡ Some text
      → verdict_in (records_of old.history) text ≡ None → is_some (verdict_in (records_of new.history) text) ≡ true → Fewer plan old new
  fewer_by_record text none same is absent there = recorded_at text none new.fault refl same is absent there

  -- nothing changed
  same_moves : new ≡ old → NotMore plan old new
  same_moves same = subst (λ (state : BoardState S J). moves_left plan state ≤ moves_left plan old) (sym same) (omega arith)

  not_more : Fewer plan old new → NotMore plan old new
  not_more fewer = omega (arith, fewer)

module _ {S J : Type 0} (plan : S → Plan) (put : J → Option Put) (old new : BoardState S J) where
  -- ---- a commit

  -- where something was committed, fewer moves are left
  pub fewer_by_commit : CommitEnds plan put (Ok true) old new → Fewer plan old new
  fewer_by_commit ends = fewer_by_commit_of plan old new ends.number ends.could ends.fault (ap (λ (c : CoreState). c.front) ends.moved.1)

  -- whatever it answers, no more are
  pub most_by_commit : (result : Result Bool BoardFault) → CommitEnds plan put result old new → NotMore plan old new
  most_by_commit (Ok true) ends = not_more plan old new (fewer_by_commit ends)
  most_by_commit (Ok false) ends = same_moves plan old new ends.1
  most_by_commit (Err board.Journal) ends = none_by_fault plan old new Journal (ap (λ (state : BoardState S J). state.fault) ends.else_same)
  most_by_commit (Err (board.Memory _)) (inl ends) = none_by_fault plan old new (Memory ran_out) (ap (λ (state : BoardState S J). state.fault) ends.else_same)
  most_by_commit (Err (board.Memory _)) (inr ends) = none_by_fault plan old new (Memory ran_out) ends.fault

  -- nothing more can be committed where it answers false
  pub settled_by_false : (committed : Bool) → committed ≡ false → CommitEnds plan put (Ok committed) old new → HasNoCommit plan new
  settled_by_false true is ends = absurd (cc is)
  settled_by_false false is ends = subst (HasNoCommit plan) (sym ends.1) ends.0

  -- where no fault is kept after a commit, none was before
  none_before : (result : Result Bool BoardFault) → CommitEnds plan put result old new → new.fault ≡ None → old.fault ≡ None
  none_before (Ok true) ends none = ends.could.0
  none_before (Ok false) ends none = subst (λ (state : BoardState S J). state.fault ≡ None) ends.1 none
  none_before (Err board.Journal) ends none = ends.could.0
  none_before (Err (board.Memory _)) (inl ends) none = ends.could.0
  none_before (Err (board.Memory _)) (inr ends) none = ends.could.0

  pub free_by_commit : (result : Result Bool BoardFault) → CommitEnds plan put result old new → new.table ≡ old.table → new.seats ≡ old.seats → (seat : Seat)
      → IsFree seat old → IsFree seat new
  free_by_commit result ends table seats seat free = record {
    only_seat = seats ∙ free.only_seat;
    unclaimed = free.unclaimed;
    none_open = λ none. ap (λ (t : TableState). t.claims) table ∙ free.none_open (none_before result ends none);
  }

  -- ---- a recall

  -- where something was recalled, fewer moves are left
  pub fewer_by_recall : RecallEnds plan put (Ok true) old new → Fewer plan old new
  fewer_by_recall ends =
      let q : Record = ends.could.1.0 in
      let same : q ≡ ends.kept = cc (sym ends.could.1.1 ∙ ends.found) in
      let asks : asked (plan old.front) ≡ Some ends.kept.text =
      (kept_found (verdict_in old.kept) (asked (plan old.front)) ends.kept ends.found).0 in
      let absent : verdict_in (records_of old.history) ends.kept.text ≡ None =
      no_verdict_of (records_of old.history) ends.kept.text
      (subst (λ (r : Record). list_any (bytes_eq r.text) (texts_of (records_of old.history)) ≡ false) same ends.could.1.2) in
      let records : records_of new.history ≡ records_of old.history ++ ends.kept ∷ [] =
      ap (λ (state : BoardState S J). records_of state.history) ends.else_same
      ∙ records_more old.history ends.kept.text ends.kept.verdict true in
      fewer_by_record plan old new ends.kept.text ends.could.0 (ap (λ (state : BoardState S J). plan state.front) ends.else_same) asks absent
      (ap (λ (o : Option Verdict). is_some o) (ap (λ (rs : List Record). verdict_in rs ends.kept.text) records
      ∙ verdict_last (records_of old.history) ends.kept.text ends.kept.verdict absent))

  pub most_by_recall : (result : Result Bool BoardFault) → RecallEnds plan put result old new → NotMore plan old new
  most_by_recall (Ok true) ends = not_more plan old new (fewer_by_recall ends)
  most_by_recall (Ok false) ends = same_moves plan old new ends.1
  most_by_recall (Err board.Journal) ends = none_by_fault plan old new Journal (ap (λ (state : BoardState S J). state.fault) ends.else_same)
  most_by_recall (Err (board.Memory _)) ends = none_by_fault plan old new (Memory ran_out) (ap (λ (state : BoardState S J). state.fault) ends.1)

  -- where no fault is kept after a recall, none was before, and no claim was opened
  pub free_by_recall : (result : Result Bool BoardFault) → RecallEnds plan put result old new → new.seats ≡ old.seats → (seat : Seat)
      → IsFree seat old → IsFree seat new
  free_by_recall result ends seats seat free = record {
    only_seat = seats ∙ free.only_seat;
    unclaimed = free.unclaimed;
    none_open = λ none. let before = claims_before result ends none in before.1 ∙ free.none_open before.0;
  }
    where
      claims_before : (result : Result Bool BoardFault) → RecallEnds plan put result old new → new.fault ≡ None
          → (old.fault ≡ None) × (new.table.claims ≡ old.table.claims)
      claims_before (Ok true) ends none = (ends.could.0, ap (λ (state : BoardState S J). state.table.claims) ends.else_same)
      claims_before (Ok false) ends none =
          (subst (λ (state : BoardState S J). state.fault ≡ None) ends.1 none, ap (λ (state : BoardState S J). state.table.claims) ends.1)
      claims_before (Err board.Journal) ends none = (ends.could.0, ap (λ (state : BoardState S J). state.table.claims) ends.else_same)
      claims_before (Err (board.Memory _)) ends none = (ends.0.0, ap (λ (state : BoardState S J). state.table.claims) ends.1)

-- ---- neither

module _ {S J : Type 0} (plan : S → Plan) (put : J → Option Put) (old mid new : BoardState S J) where
  -- with a fault nothing is done
  stopped : (state : BoardState S J) (fault : PoolFault) → state.fault ≡ Some fault → IsSettled plan state
  stopped state fault is = (λ number can. cc (sym is ∙ can.0), λ can. cc (sym is ∙ can.0))

  not_recalled : (result : Result Bool BoardFault) → result_unwrap_or result false ≡ false → RecallEnds plan put result old mid → ¬ (CanRecall plan mid)
  not_recalled (Ok true) not ends = absurd (cc not)
  not_recalled (Ok false) not ends = subst (λ (state : BoardState S J). CanRecall plan state → ⊥) (sym ends.1) ends.0
  not_recalled (Err board.Journal) not ends = (stopped mid Journal (ap (λ (state : BoardState S J). state.fault) ends.else_same)).1
  not_recalled (Err (board.Memory _)) not ends = (stopped mid (Memory ran_out) (ap (λ (state : BoardState S J). state.fault) ends.1)).1

  -- where nothing was recalled, and then nothing committed, nothing can be
  pub settled_by : (recalled committed : Result Bool BoardFault) → result_unwrap_or recalled false ≡ false → RecallEnds plan put recalled old mid
      → result_unwrap_or committed false ≡ false → CommitEnds plan put committed mid new → IsSettled plan new
  settled_by recalled (Ok true) not first never ends = absurd (cc never)
  settled_by recalled (Ok false) not first never ends = (
    settled_by_false plan put mid new false refl ends,
    subst (λ (state : BoardState S J). CanRecall plan state → ⊥) (sym ends.1) (not_recalled recalled not first),
  )
  settled_by recalled (Err board.Journal) not first never ends = stopped new Journal (ap (λ (state : BoardState S J). state.fault) ends.else_same)
  settled_by recalled (Err (board.Memory _)) not first never (inl ends) =
      stopped new (Memory ran_out) (ap (λ (state : BoardState S J). state.fault) ends.else_same)
  settled_by recalled (Err (board.Memory _)) not first never (inr ends) = stopped new (Memory ran_out) ends.fault

-- a call that answers true has done something
pub made : {S J : Type 0} (plan : S → Plan) (put : J → Option Put) (old new : BoardState S J) (result : Result Bool BoardFault)
    → result_unwrap_or result false ≡ true → (CommitEnds plan put result old new → CommitEnds plan put (Ok true) old new)
    × (RecallEnds plan put result old new → RecallEnds plan put (Ok true) old new)
made plan put old new (Ok true) is = (λ ends. ends, λ ends. ends)
made plan put old new (Ok false) is = absurd (cc is)
made plan put old new (Err fault) is = absurd (cc is)

-- a claim leaves as many
pub same_left : {S J : Type 0} (plan : S → Plan) (permit : ClaimedText) (seat seat' : Seat) (old new : BoardState S J)
    → IsClaimed plan permit seat seat' old new → moves_left plan new ≡ moves_left plan old
same_left {S} {J} plan permit seat seat' old new taken = ap (λ (state : BoardState S J). moves_left plan state) taken.else_same
