-- The table: what its loops find, and what keeps it sound.
use Rattle.std.proofs.Common.{◌≡◌, ◌<◌, ◌≤◌, ◌+◌, ◌-◌, ℕ, zero, suc, List, [], ◌∷◌, ◌++◌, Option, Some, None, All, arith, refl, sym, ◌∙◌, ap}
use Rattle.std.proofs.Common.{get_or, length, drop}
use Rattle.std.proofs.Common.{nat_eq, ◌==◌, eqb-true, Bool, true, false, cond, IsSome, unwrap_or, append_assoc, length-append, add-one, option_map}
use Rattle.std.proofs.lemmas.List.Elements.{All-cons, All-head, All-nil, All-push, All-tail, All-weaker}
use Rattle.std.proofs.lemmas.List.Sorted.{All-permutation, IsPermutation-append_right, IsPermutation-map, IsPermutation-middle, IsPermutation-remove}
use Rattle.std.proofs.lemmas.List.Sorted.{IsPermutation-trans, length_permutation}
use Rattle.std.proofs.lemmas.Bool.{eqb-false, ne_eqb}
use Rattle.std.proofs.lemmas.List.{map-append}
use Rattle.std.proofs.lemmas.List.Folds.{list_any-append}
use Rattle.std.proofs.lemmas.Cmp.{nat_eq_equiv, nat_list_eq_equiv}
use Rattle.std.proofs.lemmas.Map.Keys.{IsDistinct-IsPermutation, IsDistinct-head, IsDistinct-push, IsDistinct-tail}
use Rattle.std.proofs.lemmas.Iterator.Adapters.{position_from-zero}
use Rattle.std.proofs.lemmas.List.Quantifiers.{position-Some}
use Rattle.std.proofs.lemmas.Slice.Eq.{bytes_eq-Decides}
use Rattle.std.specs.Prelude.{slice_get}
use Rattle.std.specs.List.{AllByRecursion, IsDistinct, find, list_any, position, position_from, remove}
use Rattle.std.specs.List.Sorted.{IsPermutation}
use Rattle.std.specs.Str.{bytes_eq}
use Rattle.script_gate_trait.specs.declared.gate.Verdict.{Verdict}
use Rattle.verdict_table.specs.TableState.{IsSound, IsThere, TableState, all_numbers, all_texts, claim_count, claim_in, claimed_texts, found_in, numbers_of}
use Rattle.verdict_table.specs.TableState.{other_claims, record_from, text_claimed, texts_of, verdict_found, verdict_in}
use Rattle.verdict_table.specs.declared.found.Found.{Found}
use Rattle.verdict_table.specs.declared.found.Found.TheVariants.{Absent, Claimed, Filled}
use Rattle.verdict_table.specs.declared.record.Record.{Record}
use Rattle.verdict_table.specs.declared.table.Claim.{Claim}

-- the record at an index hasn't the text, so it is one after it
record_later : (n : ℕ) (text : List ℕ) (rs : List Record) (filled : List ℕ) (i : ℕ) (d : Record) → i < length rs → length filled ≡ length rs
    → bytes_eq text (get_or rs i d).text ≡ false
    → record_from n text (drop i rs) (drop i filled) ≡ record_from (n + 1) text (drop (suc i) rs) (drop (suc i) filled)
record_later n text [] filled i d within same other = absurd (omega (arith, within))
record_later n text (r ∷ rs) [] i d within same other = absurd (omega (arith, same))
record_later n text (r ∷ rs) (c ∷ cs) zero d within same other = rw other refl
record_later n text (r ∷ rs) (c ∷ cs) (suc i) d within same other =
    record_later n text rs cs i d (omega (arith, within)) (omega (arith, same)) other

pub record_after : (n : ℕ) (text : List ℕ) (rs : List Record) (filled : List ℕ) (i : ℕ) (d : Record) → i < length rs → length filled ≡ length rs
    → bytes_eq text (get_or rs i d).text ≡ false
    → record_from n text (drop i rs) (drop i filled) ≡ record_from (n + 1) text (drop (i + 1) rs) (drop (i + 1) filled)
record_after n text rs filled i d within same other =
    rw (add-one i) (record_later n text rs filled i d within same other)

-- a number that is apart from those of some claims
number_apart : (m n : ℕ) (cs : List Claim) (i : ℕ) (d : Claim) → i < length cs → (get_or cs i d).number ≡ n
    → AllByRecursion (λ y. nat_eq m y ≡ false) (numbers_of cs) → nat_eq m n ≡ false
number_apart m n [] i d within is apart = absurd (omega (arith, within))
number_apart m n (c ∷ cs) zero d within is apart = rw (← is) apart.0
number_apart m n (c ∷ cs) (suc i) d within is apart = number_apart m n cs i d (omega (arith, within)) is apart.1

others_same : (n : ℕ) (cs : List Claim) → AllByRecursion (λ y. nat_eq n y ≡ false) (numbers_of cs) → other_claims n cs ≡ cs
others_same n [] apart = refl
others_same n (c ∷ cs) apart =
    let other : nat_eq c.number n ≡ false = nat_eq_equiv.symm c.number n ∙ apart.0 in
    rw other (ap (λ ds. c ∷ ds) (others_same n cs apart.1))

same_number : (c : Claim) (n : ℕ) → c.number ≡ n → nat_eq c.number n ≡ true
same_number c n is = rw is (nat_eq_equiv.refl n)

-- without the claim at its index, those with other numbers remain
others_left : (n : ℕ) (cs : List Claim) (i : ℕ) (d : Claim) → i < length cs → (get_or cs i d).number ≡ n → IsDistinct nat_eq (numbers_of cs)
    → remove cs i ≡ other_claims n cs
others_left n [] i d within is distinct = absurd (omega (arith, within))
others_left n (c ∷ cs) zero d within is distinct =
    rw (same_number c n is) (sym (others_same n cs (rw (← is) (IsDistinct-head nat_eq c.number (numbers_of cs) distinct))))
others_left n (c ∷ cs) (suc i) d within is distinct =
    let other : nat_eq c.number n ≡ false =
    number_apart c.number n cs i d (omega (arith, within)) is (IsDistinct-head nat_eq c.number (numbers_of cs) distinct) in
    rw other (ap (λ ds. c ∷ ds) (others_left n cs i d (omega (arith, within)) is (IsDistinct-tail nat_eq c.number (numbers_of cs) distinct)))

-- the claim at its index has the text that was claimed
text_taken : (n : ℕ) (cs : List Claim) (i : ℕ) (d : Claim) → i < length cs → (get_or cs i d).number ≡ n → IsDistinct nat_eq (numbers_of cs)
    → text_claimed n cs ≡ Some (get_or cs i d).text
text_taken n [] i d within is distinct = absurd (omega (arith, within))
text_taken n (c ∷ cs) zero d within is distinct = rw (same_number c n is) refl
text_taken n (c ∷ cs) (suc i) d within is distinct =
    let other : nat_eq c.number n ≡ false = number_apart c.number n cs i d (omega (arith, within)) is
    (IsDistinct-head nat_eq c.number (numbers_of cs) distinct) in
    rw other (text_taken n cs i d (omega (arith, within)) is (IsDistinct-tail nat_eq c.number (numbers_of cs) distinct))

none_at : (b : Bool) (c : Claim) (i : ℕ) (index : Option ℕ) (found : Option Claim) → cond b (Some i) index ≡ None → (index ≡ None → found ≡ None)
    → cond b (Some c) found ≡ None
none_at true c i index found none later = absurd (cc none)
none_at false c i index found none later = later none

none_from : (n i : ℕ) (cs : List Claim) → position_from (λ c. c.number == n) i cs ≡ None → find (λ c. c.number == n) cs ≡ None
none_from n i [] none = refl
none_from n i (c ∷ cs) none = none_at (nat_eq c.number n) c i _ _ none (none_from n (i + 1) cs)

-- no claim has the number, so it isn't open
pub not_open : (n : ℕ) (cs : List Claim) → None ≡ position (λ c. c.number == n) cs → IsSome (text_claimed n cs) → ⊥
not_open n cs none claimed =
    let nothing : find (λ c. c.number == n) cs ≡ None = none_from n 0 cs (sym (none ∙ position_from-zero (λ (c : Claim). c.number == n) cs)) in
    cc (rw nothing at claimed)

-- the claim at the index where its number is: its text, and the claims that remain without it
pub text_at_index : (n : ℕ) (cs : List Claim) (i : ℕ) (c : Claim) → Some i ≡ position (λ c. c.number == n) cs → IsDistinct nat_eq (numbers_of cs)
    → c ≡ get_or cs i c → text_claimed n cs ≡ Some c.text
text_at_index n cs i c index distinct is =
    let found : (i < length cs) × (nat_eq (get_or cs i c).number n ≡ true) × ((k : ℕ) → k < i → nat_eq (get_or cs k c).number n ≡ false) =
    position-Some (λ c. c.number == n) cs i c (sym index) in
    text_taken n cs i c found.0 (eqb-true _ _ found.1) distinct ∙ ap (λ (d : Claim). Some d.text) (sym is)

pub others_at_index : (n : ℕ) (cs : List Claim) (i : ℕ) (c : Claim) → Some i ≡ position (λ c. c.number == n) cs → IsDistinct nat_eq (numbers_of cs)
    → remove cs i ≡ other_claims n cs
others_at_index n cs i c index distinct =
    let found : (i < length cs) × (nat_eq (get_or cs i c).number n ≡ true)
    × ((k : ℕ) → k < i → nat_eq (get_or cs k c).number n ≡ false) = position-Some (λ c. c.number == n) cs i c (sym index) in
    others_left n cs i c found.0 (eqb-true _ _ found.1) distinct

pub number_at_index : (n : ℕ) (cs : List Claim) (i : ℕ) (c : Claim) → Some i ≡ position (λ c. c.number == n) cs → c ≡ get_or cs i c → c.number ≡ n
number_at_index n cs i c index is =
    let found : (i < length cs) × (nat_eq (get_or cs i c).number n ≡ true) × ((k : ℕ) → k < i → nat_eq (get_or cs k c).number n ≡ false) = position-Some
    (λ c. c.number == n) cs i c (sym index) in
    ap (λ (d : Claim). d.number) is ∙ eqb-true _ _ found.1

pub moved_from_index : (n : ℕ) (cs : List Claim) (i : ℕ) (c : Claim) → Some i ≡ position (λ c. c.number == n) cs → c ≡ get_or cs i c
    → IsPermutation cs (c ∷ remove cs i)
moved_from_index n cs i c index is =
    let found : (i < length cs) × (nat_eq (get_or cs i c).number n ≡ true) × ((k : ℕ) → k < i
    → nat_eq (get_or cs k c).number n ≡ false) = position-Some (λ c. c.number == n) cs i c (sym index) in
    IsPermutation-remove cs i c found.0 is

-- ---- the verdict that is found

verdict_at : (b : Bool) (claim n : ℕ) (v : Verdict) (rest : Option Found) (other : Found) (later : Option Verdict)
    → verdict_found (unwrap_or rest other) ≡ later → verdict_found (unwrap_or (cond b (Some (Filled claim n v)) rest) other) ≡ cond b (Some v) later
verdict_at true claim n v rest other later is = refl
verdict_at false claim n v rest other later is = is

recorded : (n : ℕ) (text : List ℕ) (rs : List Record) (filled : List ℕ) (other : Found) → length filled ≡ length rs → verdict_found other ≡ None
    → verdict_found (unwrap_or (record_from n text rs filled) other) ≡ verdict_in rs text
recorded n text [] filled other same none = none
recorded n text (r ∷ rs) [] other same none = absurd (omega (arith, same))
recorded n text (r ∷ rs) (c ∷ cs) other same none =
    verdict_at (bytes_eq text r.text) c n r.verdict (record_from (n + 1) text rs cs) other (verdict_in rs text)
    (recorded (n + 1) text rs cs other (omega (arith, same)) none)

claim_without : (found : Option Claim) → verdict_found (unwrap_or (option_map (λ c. Claimed c.number) found) Absent) ≡ None
claim_without None = refl
claim_without (Some c) = refl

-- what is found for a text has the verdict of the text's record
pub verdict_found_in : (table : TableState) (text : List ℕ) → IsSound table → verdict_found (found_in table text) ≡ verdict_in table.records text
verdict_found_in table text sound =
    recorded 1 text table.records table.filled (unwrap_or (claim_in text table.claims) Absent) sound.filled
    (claim_without (find (λ c. bytes_eq text c.text) table.claims))

-- ---- a table whose claims are all filled

not_claimed_at : (b : Bool) (c n : ℕ) (v : Verdict) (rest : Option Found) (claim : ℕ) → unwrap_or (cond b (Some (Filled c n v)) rest) Absent ≡ Claimed claim
    → (unwrap_or rest Absent ≡ Claimed claim → ⊥) → ⊥
not_claimed_at true c n v rest claim is later = absurd (cc is)
not_claimed_at false c n v rest claim is later = later is

filled_from : (n : ℕ) (text : List ℕ) (rs : List Record) (filled : List ℕ) (claim : ℕ) → unwrap_or (record_from n text rs filled) Absent ≡ Claimed claim → ⊥
filled_from n text [] filled claim is = absurd (cc is)
filled_from n text (r ∷ rs) [] claim is = absurd (cc is)
filled_from n text (r ∷ rs) (c ∷ cs) claim is =
    not_claimed_at (bytes_eq text r.text) c n r.verdict (record_from (n + 1) text rs cs) claim is (filled_from (n + 1) text rs cs claim)

-- it has no open claim, so none is found
pub none_claimed : (table : TableState) (text : List ℕ) (claim : ℕ) → table.claims ≡ [] → found_in table text ≡ Claimed claim → ⊥
none_claimed table text claim none is =
    let there : unwrap_or (record_from 1 text table.records table.filled) Absent ≡ Claimed claim = rw none at is in
    filled_from 1 text table.records table.filled claim there

-- ---- what keeps a table sound

distinct_back : {K : Type 0} (e : K → K → Bool) (xs ys : List K) → IsDistinct e (xs ++ ys) → IsDistinct e ys
distinct_back e [] ys distinct = distinct
distinct_back e (x ∷ xs) ys distinct = distinct_back e xs ys (IsDistinct-tail e x (xs ++ ys) distinct)

apart_front : {K : Type 0} (e : K → K → Bool) (x : K) (xs ys : List K) → AllByRecursion (λ y. e x y ≡ false) (xs ++ ys) → AllByRecursion (λ y. e x y ≡ false) xs
apart_front e x [] ys apart = tt
apart_front e x (y ∷ xs) ys apart = (apart.0, apart_front e x xs ys apart.1)

pub distinct_front : {K : Type 0} (e : K → K → Bool) (xs ys : List K) → IsDistinct e (xs ++ ys) → IsDistinct e xs
unfolding IsDistinct
distinct_front e [] ys distinct = tt
distinct_front e (x ∷ xs) ys distinct = (apart_front e x xs ys distinct.0, distinct_front e xs ys distinct.1)

pub distinct_claims : (table : TableState) → IsSound table → IsDistinct nat_eq (numbers_of table.claims)
distinct_claims table sound = distinct_back nat_eq table.filled (numbers_of table.claims) sound.numbered

-- a table without claims and records
pub sound_empty : IsSound (record { claims = []; records = []; filled = [] })
unfolding IsDistinct
sound_empty = record { once = tt; numbered = tt; below = All-nil _; filled = refl }

-- ---- a text that the table doesn't hold

absent_at : (b : Bool) (claim n : ℕ) (v : Verdict) (rest : Option Found) (other : Found) → unwrap_or (cond b (Some (Filled claim n v)) rest) other ≡ Absent
    → (b ≡ false) × (unwrap_or rest other ≡ Absent)
absent_at true claim n v rest other absent = absurd (cc absent)
absent_at false claim n v rest other absent = (refl, absent)

not_recorded : (n : ℕ) (text : List ℕ) (rs : List Record) (filled : List ℕ) (other : Found) → length filled ≡ length rs
    → unwrap_or (record_from n text rs filled) other ≡ Absent → (list_any (bytes_eq text) (texts_of rs) ≡ false) × (other ≡ Absent)
not_recorded n text [] filled other same absent = (refl, absent)
not_recorded n text (r ∷ rs) [] other same absent = absurd (omega (arith, same))
not_recorded n text (r ∷ rs) (c ∷ cs) other same absent =
    let current : (bytes_eq text r.text ≡ false) × (unwrap_or (record_from (n + 1) text rs cs) other ≡ Absent) =
    absent_at (bytes_eq text r.text) c n r.verdict (record_from (n + 1) text rs cs) other absent in
    let later : (list_any (bytes_eq text) (texts_of rs) ≡ false) × (other ≡ Absent) = not_recorded (n + 1) text rs cs other (omega (arith, same)) current.1 in
    (rw current.0 later.0, later.1)

unclaimed_at : (b : Bool) (c : Claim) (found : Option Claim) → unwrap_or (option_map (λ d. Claimed d.number) (cond b (Some c) found)) Absent ≡ Absent
    → (b ≡ false) × (unwrap_or (option_map (λ d. Claimed d.number) found) Absent ≡ Absent)
unclaimed_at true c found absent = absurd (cc absent)
unclaimed_at false c found absent = (refl, absent)

not_claimed : (text : List ℕ) (cs : List Claim) → unwrap_or (claim_in text cs) Absent ≡ Absent → list_any (bytes_eq text) (claimed_texts cs) ≡ false
not_claimed text [] absent = refl
not_claimed text (c ∷ cs) absent =
    let current : (bytes_eq text c.text ≡ false) × (unwrap_or (claim_in text cs) Absent ≡ Absent) =
    unclaimed_at (bytes_eq text c.text) c (find (λ d. bytes_eq text d.text) cs) absent in
    rw current.0 (not_claimed text cs current.1)

pub absent_everywhere : (table : TableState) (text : List ℕ) → IsSound table → found_in table text ≡ Absent → list_any (bytes_eq text) (all_texts table) ≡ false
absent_everywhere table text sound absent =
    let none : (list_any (bytes_eq text) (texts_of table.records) ≡ false) × (unwrap_or (claim_in text table.claims) Absent ≡ Absent) =
    not_recorded 1 text table.records table.filled (unwrap_or (claim_in text table.claims) Absent) sound.filled absent in
    rw (list_any-append (bytes_eq text) (texts_of table.records) (claimed_texts table.claims), none.0) (not_claimed text table.claims none.1)

-- ---- one claim more

number_above : (n : ℕ) (numbers : List ℕ) → All (λ m. m < n) numbers → list_any (nat_eq n) numbers ≡ false
number_above n [] below = refl
number_above n (m ∷ numbers) below =
    let less : m < n = All-head (λ k. k < n) m numbers below in
    rw (ne_eqb n m (λ same. omega (arith, less, same))) (number_above n numbers (All-tail (λ k. k < n) m numbers below))

pub sound_claimed : (table : TableState) (text : List ℕ) → IsSound table → found_in table text ≡ Absent
    → IsSound (record { claims = table.claims ++ record { number = claim_count table; text = text } ∷ []; records = table.records; filled = table.filled })
sound_claimed table text sound absent =
    let c : Claim = record { number = claim_count table; text = text } in
    let texts : texts_of table.records ++ claimed_texts (table.claims ++ c ∷ []) ≡ all_texts table ++ text ∷ [] =
    rw (map-append (λ (d : Claim). d.text) table.claims (c ∷ [])) (sym (append_assoc (texts_of table.records) (claimed_texts table.claims) (text ∷ []))) in
    let numbers : table.filled ++ numbers_of (table.claims ++ c ∷ []) ≡ all_numbers table ++ claim_count table ∷ [] =
    rw (map-append (λ (d : Claim). d.number) table.claims (c ∷ [])) (sym (append_assoc table.filled (numbers_of table.claims) (claim_count table ∷ []))) in
    let count : length (table.claims ++ c ∷ []) + length table.records ≡ claim_count table + 1 = simp length-append (omega arith) in
    record {
      once = rw texts (IsDistinct-push nat_list_eq_equiv (all_texts table) text sound.once (absent_everywhere table text sound absent));
      numbered =
          rw numbers (IsDistinct-push nat_eq_equiv (all_numbers table) (claim_count table) sound.numbered
          (number_above (claim_count table) (all_numbers table) sound.below));
      below = rw (numbers, count) (All-push (λ n. n < claim_count table + 1) (all_numbers table) (claim_count table)
          (All-weaker (λ n. n < claim_count table) (λ n. n < claim_count table + 1) (λ n less. omega (arith, less)) (all_numbers table) sound.below)
          (omega arith));
      filled = sound.filled;
    }

all_back : (n : ℕ) (xs ys : List ℕ) → All (λ m. m < n) (xs ++ ys) → All (λ m. m < n) ys
all_back n [] ys below = below
all_back n (x ∷ xs) ys below = all_back n xs ys (All-tail (λ m. m < n) x (xs ++ ys) below)

last_opened : (n : ℕ) (text : List ℕ) (cs : List Claim) → All (λ m. m < n) (numbers_of cs)
    → text_claimed n (cs ++ record { number = n; text = text } ∷ []) ≡ Some text
last_opened n text [] below = rw (nat_eq_equiv.refl n) refl
last_opened n text (c ∷ cs) below =
    let less : c.number < n = All-head (λ m. m < n) c.number (numbers_of cs) below in
    rw (ne_eqb c.number n (λ same. omega (arith, less, same))) (last_opened n text cs (All-tail (λ m. m < n) c.number (numbers_of cs) below))

-- the new claim is open
pub claim_opened : (table : TableState) (text : List ℕ) → IsSound table
    → text_claimed (claim_count table) (table.claims ++ record { number = claim_count table; text = text } ∷ []) ≡ Some text
claim_opened table text sound =
    last_opened (claim_count table) text table.claims (all_back (claim_count table) table.filled (numbers_of table.claims) sound.below)

-- ---- a claim filled

pub texts_pushed : (rs : List Record) (text : List ℕ) (verdict : Verdict)
    → texts_of (rs ++ record { text = text; verdict = verdict } ∷ []) ≡ texts_of rs ++ text ∷ []
texts_pushed rs text verdict = map-append (λ (r : Record). r.text) rs (record { text = text; verdict = verdict } ∷ [])

pub sound_filled : (table : TableState) (c : Claim) (claims : List Claim) (verdict : Verdict) → IsSound table → IsPermutation table.claims (c ∷ claims)
    → IsSound (record { claims = claims; records = table.records ++ record { text = c.text; verdict = verdict } ∷ []; filled = table.filled ++ c.number ∷ [] })
sound_filled table c claims verdict sound moved =
    let r : Record = record { text = c.text; verdict = verdict } in
    let texts : IsPermutation (all_texts table) (texts_of table.records ++ claimed_texts (c ∷ claims)) =
    IsPermutation-append_right (texts_of table.records) (claimed_texts table.claims) (claimed_texts (c ∷ claims))
    (IsPermutation-map (λ (d : Claim). d.text) table.claims (c ∷ claims) moved) in
    let numbers : IsPermutation (all_numbers table) (table.filled ++ numbers_of (c ∷ claims)) =
    IsPermutation-append_right table.filled (numbers_of table.claims) (numbers_of (c ∷ claims))
    (IsPermutation-map (λ (d : Claim). d.number) table.claims (c ∷ claims) moved) in
    let texts_now : texts_of (table.records ++ r ∷ []) ++ claimed_texts claims ≡ texts_of table.records ++ claimed_texts (c ∷ claims) =
    rw (map-append (λ (q : Record). q.text) table.records (r ∷ [])) (append_assoc (texts_of table.records) (c.text ∷ []) (claimed_texts claims)) in
    let numbers_now : (table.filled ++ c.number ∷ []) ++ numbers_of claims ≡ table.filled ++ numbers_of (c ∷ claims) =
    append_assoc table.filled (c.number ∷ []) (numbers_of claims) in
    let fewer : length (c ∷ claims) ≡ length table.claims = length_permutation table.claims (c ∷ claims) moved in
    let count : length claims + length (table.records ++ r ∷ []) ≡ claim_count table = simp length-append (omega (arith, fewer)) in
    record {
      once =
          rw texts_now (IsDistinct-IsPermutation bytes_eq nat_list_eq_equiv.symm (all_texts table)
          (texts_of table.records ++ claimed_texts (c ∷ claims)) texts sound.once);
      numbered =
          rw numbers_now (IsDistinct-IsPermutation nat_eq nat_eq_equiv.symm (all_numbers table)
          (table.filled ++ numbers_of (c ∷ claims)) numbers sound.numbered);
      below =
          rw (numbers_now, count) (All-permutation (λ n. n < claim_count table) (all_numbers table)
          (table.filled ++ numbers_of (c ∷ claims)) numbers sound.below);
      filled = simp length-append (omega (arith, sound.filled));
    }

-- ---- the last claim withdrawn

-- numbers below the next one that aren't the last are below the last
below_last : (last : ℕ) (numbers : List ℕ) → AllByRecursion (λ y. nat_eq last y ≡ false) numbers → All (λ n. n < last + 1) numbers → All (λ n. n < last) numbers
below_last last [] apart below = All-nil _
below_last last (n ∷ numbers) apart below =
    let less : n < last + 1 = All-head (λ m. m < last + 1) n numbers below in
    let other : last ≡ n → ⊥ = eqb-false last n apart.0 in
    All-cons (λ m. m < last) n numbers (omega (arith, less, other)) (below_last last numbers apart.1 (All-tail (λ m. m < last + 1) n numbers below))

pub sound_withdrawn : (table : TableState) (c : Claim) (claims : List Claim) → IsSound table → IsPermutation table.claims (c ∷ claims)
    → c.number + 1 ≡ claim_count table → IsSound (record { claims = claims; records = table.records; filled = table.filled })
sound_withdrawn table c claims sound moved last =
    let texts : List (List ℕ) = texts_of table.records ++ claimed_texts claims in
    let numbers : List ℕ = table.filled ++ numbers_of claims in
    let texts_first : IsPermutation (all_texts table) (c.text ∷ texts) =
    IsPermutation-trans (all_texts table) (texts_of table.records ++ claimed_texts (c ∷ claims)) (c.text ∷ texts)
    (IsPermutation-append_right (texts_of table.records) (claimed_texts table.claims) (claimed_texts (c ∷ claims))
    (IsPermutation-map (λ (d : Claim). d.text) table.claims (c ∷ claims) moved))
    (IsPermutation-middle (texts_of table.records) c.text (claimed_texts claims)) in
    let number_first : IsPermutation (all_numbers table) (c.number ∷ numbers) =
    IsPermutation-trans (all_numbers table) (table.filled ++ numbers_of (c ∷ claims)) (c.number ∷ numbers)
    (IsPermutation-append_right table.filled (numbers_of table.claims) (numbers_of (c ∷ claims))
    (IsPermutation-map (λ (d : Claim). d.number) table.claims (c ∷ claims) moved))
    (IsPermutation-middle table.filled c.number (numbers_of claims)) in
    let distinct : IsDistinct nat_eq (c.number ∷ numbers) =
    IsDistinct-IsPermutation nat_eq nat_eq_equiv.symm (all_numbers table) (c.number ∷ numbers) number_first sound.numbered in
    let below : All (λ n. n < claim_count table) (c.number ∷ numbers) =
    All-permutation (λ n. n < claim_count table) (all_numbers table) (c.number ∷ numbers) number_first sound.below in
    let fewer : length (c ∷ claims) ≡ length table.claims = length_permutation table.claims (c ∷ claims) moved in
    let count : length claims + length table.records ≡ c.number = omega (arith, fewer, last) in
    let under : All (λ n. n < c.number + 1) numbers = rw last (All-tail (λ n. n < claim_count table) c.number numbers below) in
    record {
      once =
          IsDistinct-tail bytes_eq c.text texts
          (IsDistinct-IsPermutation bytes_eq nat_list_eq_equiv.symm (all_texts table) (c.text ∷ texts) texts_first sound.once);
      numbered = IsDistinct-tail nat_eq c.number numbers distinct;
      below = rw count (below_last c.number numbers (IsDistinct-head nat_eq c.number numbers distinct) under);
      filled = sound.filled;
    }

-- ---- a record that is found

there_at : (b : Bool) (r : Record) (rs : List Record) (c n : ℕ) (text : List ℕ) (rest : Option Found) (other : Found) (claim number : ℕ) (v : Verdict)
    → (b ≡ true → text ≡ r.text) → unwrap_or (cond b (Some (Filled c n r.verdict)) rest) other ≡ Filled claim number v
    → (unwrap_or rest other ≡ Filled claim number v
    → (n + 1 ≤ number) × (number < n + 1 + length rs) × (slice_get rs (number - (n + 1)) ≡ Some (record { text = text; verdict = v })))
    → (n ≤ number) × (number < n + suc (length rs)) × (slice_get (r ∷ rs) (number - n) ≡ Some (record { text = text; verdict = v }))
there_at true r rs c n text rest other claim number v same is later =
    let first : n ≡ number = cc is in
    let verdict : r.verdict ≡ v = cc is in
    let none : number - n ≡ 0 = omega (arith, first) in (
      omega (arith, first),
      omega (arith, first),
      ap (slice_get (r ∷ rs)) none ∙ (λ i. Some (record { text = sym (same refl) i; verdict = verdict i })),
    )
there_at false r rs c n text rest other claim number v same is later =
    let found = later is in
    let next : number - n ≡ suc (number - (n + 1)) = omega (arith, found.0) in
    (omega (arith, found.0), omega (arith, found.1), ap (slice_get (r ∷ rs)) next ∙ found.2)

found_there : (n : ℕ) (text : List ℕ) (rs : List Record) (filled : List ℕ) (other : Found) (claim number : ℕ) (v : Verdict) → length filled ≡ length rs
    → verdict_found other ≡ None → unwrap_or (record_from n text rs filled) other ≡ Filled claim number v
    → (n ≤ number) × (number < n + length rs) × (slice_get rs (number - n) ≡ Some (record { text = text; verdict = v }))
found_there n text [] filled other claim number v same none is =
    let no : ◌≡◌ {A = Option Verdict} None (Some v) = sym none ∙ ap verdict_found is in
    absurd (cc no)
found_there n text (r ∷ rs) [] other claim number v same none is = absurd (omega (arith, same))
found_there n text (r ∷ rs) (c ∷ cs) other claim number v same none is =
    there_at (bytes_eq text r.text) r rs c n text (record_from (n + 1) text rs cs) other claim number v (bytes_eq-Decides text r.text).0 is
    (found_there (n + 1) text rs cs other claim number v (omega (arith, same)) none)

pub there_in : (table : TableState) (text : List ℕ) → IsSound table → IsThere table text (found_in table text)
there_in table text sound = by (found_in table text) refl
  where
    by : (found : Found) → found_in table text ≡ found → IsThere table text found
    by Absent is = tt
    by (Claimed claim) is = tt
    by (Filled claim number v) is =
        let there = found_there 1 text table.records table.filled (unwrap_or (claim_in text table.claims) Absent) claim number v sound.filled
        (claim_without (find (λ c. bytes_eq text c.text) table.claims)) is in
        (there.0, omega (arith, there.1), there.2)
