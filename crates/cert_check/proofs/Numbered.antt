-- Records by their numbers.
use Rattle.std.proofs.Common.{◌≡◌, ◌<◌, ◌≤◌, ◌+◌, ◌||◌, ℕ, zero, suc, List, [], ◌∷◌, All, Bool, true, false, cond, Option, Some}
use Rattle.std.proofs.Common.{None, find, option_map, length, get_or, slice_get, take, unwrap_or, arith, refl, sym, ap, ◌∙◌, subst}
use Rattle.std.specs.List.{AllByRecursion, IsDistinct, list_any}
use Rattle.std.specs.Str.{bytes_eq}
use Rattle.std.proofs.lemmas.List.Elements.{All-head, All-tail}
use Rattle.std.proofs.lemmas.Map.Keys.{IsDistinct-head, IsDistinct-tail}
use Rattle.std.proofs.lemmas.Option.{slice_get_read}
use Rattle.std.proofs.lemmas.Slice.Eq.{bytes_eq-Decides}
use Rattle.script_gate_trait.specs.declared.gate.Verdict.{Verdict}
use Rattle.verdict_table.specs.declared.found.Found.{Found}
use Rattle.verdict_table.specs.declared.found.Found.TheVariants.{Absent, Claimed, Filled}
use Rattle.verdict_table.specs.declared.record.Record.{Record}
use Rattle.verdict_table.specs.declared.table.Claim.{Claim}
use Rattle.verdict_table.specs.TableState.{TableState, found_in, record_from, texts_of}
use Rattle.ordered_commit.specs.Replay.{record_at}
use Rattle.cert_check.specs.Findings.{IsFirstOther}
use Rattle.cert_check.specs.inner.Replayed.{is_absent}

-- the record with a number is that at its index
record_is : (rs : List Record) (k : ℕ) → record_at (suc k) rs ≡ slice_get rs k
record_is [] k = refl
record_is (r ∷ rs) zero = refl
record_is (r ∷ rs) (suc k) = record_is rs k

pub record_read : (rs : List Record) (k : ℕ) (r : Record) → k < length rs → r ≡ get_or rs k r → record_at (suc k) rs ≡ Some r
record_read rs k r within at = record_is rs k ∙ slice_get_read rs (length rs) k r refl within at

-- what holds of the first records holds of each with a number among them
at_front : (P : Record → Type 0) (rs : List Record) (n number : ℕ) (r : Record) → All P (take n rs) → number ≤ n → record_at number rs ≡ Some r → P r
at_front P rs n zero r all among at = absurd (cc at)
at_front P [] n (suc k) r all among at = absurd (cc at)
at_front P (q ∷ rs) zero (suc k) r all among at = absurd (omega (arith, among))
at_front P (q ∷ rs) (suc n) (suc zero) r all among at = let same : q ≡ r = cc at in subst P same (All-head P q (take n rs) all)
at_front P (q ∷ rs) (suc n) (suc (suc k)) r all among at = at_front P rs n (suc k) r (All-tail P q (take n rs) all) (omega (arith, among)) at

pub other_found : (Is : List ℕ → Type 0) (rs : List Record) (k : ℕ) (r : Record) → All (λ (q : Record). Is q.text) (take k rs) → record_at (suc k) rs ≡ Some r
    → ¬ Is r.text → (number : ℕ) → number ≡ suc k → IsFirstOther Is rs number
other_found Is rs k r all at other number is = record {
  found = r;
  there = ap (λ (n : ℕ). record_at n rs) is ∙ at;
  other = other;
  earlier = λ before q sooner there. at_front (λ (s : Record). Is s.text) rs k before q all (omega (arith, sooner, is)) there;
}

-- ---- what a table holds

record_at_first : (b : Bool) (claim n k : ℕ) (text : List ℕ) (r : Record) (rs : List Record) (later : Option Found) (c : ℕ) (v : Verdict)
    → b ≡ bytes_eq text r.text
    → cond b (Some (Filled claim k r.verdict)) later ≡ Some (Filled c n v)
    → (later ≡ Some (Filled c n v) → (i : ℕ) × (n ≡ k + 1 + i) × (record_at (suc i) rs ≡ Some (record { text = text; verdict = v })))
    → (i : ℕ) × (n ≡ k + i) × (record_at (suc i) (r ∷ rs) ≡ Some (record { text = text; verdict = v }))
record_at_first true claim n k text r rs later c v e is go =
    let number : k ≡ n = cc is in
    let verdict : r.verdict ≡ v = cc is in
    let same : text ≡ r.text = (bytes_eq-Decides text r.text).0 (sym e) in
    (0, omega (arith, number), λ i. Some (record { text = sym same i; verdict = verdict i }))
record_at_first false claim n k text r rs later c v e is go = let found = go is in (suc found.0, omega (arith, found.1), found.2)

filled_from : (k : ℕ) (text : List ℕ) (rs : List Record) (filled : List ℕ) (c n : ℕ) (v : Verdict) → record_from k text rs filled ≡ Some (Filled c n v)
    → (i : ℕ) × (n ≡ k + i) × (record_at (suc i) rs ≡ Some (record { text = text; verdict = v }))
filled_from k text [] filled c n v is = absurd (cc is)
filled_from k text (r ∷ rs) [] c n v is = absurd (cc is)
filled_from k text (r ∷ rs) (claim ∷ claims) c n v is =
    record_at_first (bytes_eq text r.text) claim n k text r rs (record_from (k + 1) text rs claims) c v refl is (filled_from (k + 1) text rs claims c n v)

filled_where : (found : Option Found) (claim : Option Claim) (c n : ℕ) (v : Verdict)
    → unwrap_or found (unwrap_or (option_map (λ (d : Claim). Claimed d.number) claim) Absent) ≡ Filled c n v → found ≡ Some (Filled c n v)
filled_where (Some found) claim c n v is = ap (λ (f : Found). Some f) is
filled_where None None c n v is = absurd (cc is)
filled_where None (Some claim) c n v is = absurd (cc is)

-- a record that is found is that of the text, and has the number
pub filled_found : (table : TableState) (text : List ℕ) (c n : ℕ) (v : Verdict) → found_in table text ≡ Filled c n v
    → record_at n table.records ≡ Some (record { text = text; verdict = v })
filled_found table text c n v is =
    let found =
    filled_from 1 text table.records table.filled c n v
    (filled_where (record_from 1 text table.records table.filled) (find (λ (d : Claim). bytes_eq text d.text) table.claims) c n v is) in
    let number : n ≡ suc found.0 = omega (arith, found.1) in
    ap (λ (k : ℕ). record_at k table.records) number ∙ found.2

-- a text that no record has is that of none
pub not_of : (text : List ℕ) (rs : List Record) (n : ℕ) (r : Record) → list_any (bytes_eq text) (texts_of rs) ≡ false → record_at n rs ≡ Some r
    → text ≡ r.text → ⊥
not_of text rs zero r none at same = absurd (cc at)
not_of text [] (suc n) r none at same = absurd (cc at)
not_of text (q ∷ rs) (suc zero) r none at same =
    let one : q ≡ r = cc at in
    let is : bytes_eq text q.text ≡ true = (bytes_eq-Decides text q.text).1 (same ∙ ap (λ (s : Record). s.text) (sym one)) in
    let some : true ≡ false = sym (ap (λ (b : Bool). b || list_any (bytes_eq text) (texts_of rs)) is) ∙ none in
    cc some
not_of text (q ∷ rs) (suc (suc n)) r none at same = not_of text rs (suc n) r (later (bytes_eq text q.text) none) at same
  where
    later : (b : Bool) → (b || list_any (bytes_eq text) (texts_of rs)) ≡ false → list_any (bytes_eq text) (texts_of rs) ≡ false
    later true none = absurd (cc none)
    later false none = none

-- ---- distinct texts

apart_at : (text : List ℕ) (rs : List Record) (n : ℕ) (r : Record) → AllByRecursion (λ y. bytes_eq text y ≡ false) (texts_of rs) → record_at n rs ≡ Some r
    → text ≡ r.text → ⊥
apart_at text rs zero r apart at same = absurd (cc at)
apart_at text [] (suc n) r apart at same = absurd (cc at)
apart_at text (q ∷ rs) (suc zero) r apart at same =
    let one : q ≡ r = cc at in
    let is : bytes_eq text q.text ≡ true = (bytes_eq-Decides text q.text).1 (same ∙ ap (λ (s : Record). s.text) (sym one)) in
    let no : true ≡ false = sym is ∙ apart.0 in
    cc no
apart_at text (q ∷ rs) (suc (suc n)) r apart at same = apart_at text rs (suc n) r apart.1 at same

-- two numbers of records with one text are one
pub one_number : (rs : List Record) (n m : ℕ) (r q : Record) → IsDistinct bytes_eq (texts_of rs) → record_at n rs ≡ Some r → record_at m rs ≡ Some q
    → r.text ≡ q.text → n ≡ m
one_number rs zero m r q distinct at there same = absurd (cc at)
one_number rs (suc n) zero r q distinct at there same = absurd (cc there)
one_number [] (suc n) (suc m) r q distinct at there same = absurd (cc at)
one_number (s ∷ rs) (suc zero) (suc zero) r q distinct at there same = refl
one_number (s ∷ rs) (suc zero) (suc (suc m)) r q distinct at there same =
    let one : s ≡ r =
    cc at in absurd (apart_at s.text rs (suc m) q (IsDistinct-head bytes_eq s.text (texts_of rs) distinct) there (ap (λ (t : Record). t.text) one ∙ same))
one_number (s ∷ rs) (suc (suc n)) (suc zero) r q distinct at there same =
    let one : s ≡ q =
    cc there in absurd (apart_at s.text rs (suc n) r (IsDistinct-head bytes_eq s.text (texts_of rs) distinct) at (ap (λ (t : Record). t.text) one ∙ sym same))
one_number (s ∷ rs) (suc (suc n)) (suc (suc m)) r q distinct at there same =
    ap (λ (k : ℕ). suc k) (one_number rs (suc n) (suc m) r q (IsDistinct-tail bytes_eq s.text (texts_of rs) distinct) at there same)

-- ---- nothing is found

pub absent_is : (f : Found) → is_absent f ≡ true → f ≡ Absent
absent_is Absent is = refl
absent_is (Claimed claim) is = absurd (cc is)
absent_is (Filled claim number verdict) is = absurd (cc is)

-- no record has the number 0
pub not_zero : (records : List Record) (n : ℕ) (r : Record) → record_at n records ≡ Some r → n ≡ 0 → ⊥
not_zero records n r at zero_is = none_is (sym (ap (λ (k : ℕ). record_at k records) zero_is) ∙ at)
  where
    none_is : None ≡ Some r → ⊥
    none_is e = absurd (cc e)
