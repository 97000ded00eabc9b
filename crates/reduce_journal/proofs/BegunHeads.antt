-- Beginnings of heads: which bytes they are.
use Rattle.std.proofs.Common.{◌≡◌, ◌≢◌, ◌⊎◌, inl, inr, ℕ, zero, suc, ◌+◌, ◌*◌, ◌/◌, ◌%◌, ◌<◌, ◌≤◌, ◌==◌, Bool, true, List, [], ◌∷◌, ◌++◌}
use Rattle.std.proofs.Common.{length, length-append, get_or, slice_index, refl, sym, ap, ◌∙◌, arith, append_assoc}
use Rattle.std.specs.List.{list_all, list_any}
use Rattle.std.proofs.lemmas.Bool.{and_from, and_parts, cases_Bool, eqb-true}
use Rattle.std.proofs.lemmas.Bool.Decides.{Decides-eqb}
use Rattle.std.proofs.lemmas.List.{append_cancel_left}
use Rattle.hex.specs.Hex.{IsBytes, encode_lower, encode_with, lower_digits}
use Rattle.reduce_journal.specs.declared.digest.Digest.{Digest}
use Rattle.reduce_journal.specs.declared.head.Head.TheVariants.{Version1, Version2}
use Rattle.reduce_journal.specs.Journal.{IsHeadBegun, head_text}
use Rattle.reduce_journal.specs.inner.Digits.{is_lower_digit}
use Rattle.reduce_journal.proofs.Heads.{digits_length, second}

-- ---- digits

-- where a digit is
place : (xs : List ℕ) (c : ℕ) → list_any (λ d. d == c) xs ≡ true → (v : ℕ) × (v < length xs) × (slice_index xs v ≡ c)
place [] c is = cc is
place (x ∷ xs) c is =
    elim (cases_Bool (x == c)) [
      | inl same ↦ (0, omega arith, eqb-true x c same)
      | inr other ↦
          let later : list_any (λ d. d == c) xs ≡ true = rw other at is in
          let r = place xs c later in
          (suc r.0, omega (arith, r.1), r.2)
    ]

-- each place has a digit
has_place : (xs : List ℕ) (v c : ℕ) → v < length xs → slice_index xs v ≡ c → list_any (λ d. d == c) xs ≡ true
has_place [] v c within at = absurd (omega (arith, within))
has_place (x ∷ xs) zero c within at = let same : (x == c) ≡ true = (Decides-eqb x c).1 at in rw same refl
has_place (x ∷ xs) (suc v) c within at =
    elim (cases_Bool (x == c)) [
      | inl same ↦ rw same refl
      | inr other ↦ rw other (has_place xs v c (omega (arith, within)) at)
    ]

-- what is encoded is digits
encoded_digits : (bytes : List ℕ) → IsBytes bytes → list_all is_lower_digit (encode_lower bytes) ≡ true
unfolding encode_with
encoded_digits [] are = refl
encoded_digits (b ∷ rest) are =
    let fits : b < 256 = are 0 in
    and_from (is_lower_digit (slice_index lower_digits (b / 16))) _
    (has_place lower_digits (b / 16) (slice_index lower_digits (b / 16)) (omega arith) refl)
    (and_from (is_lower_digit (slice_index lower_digits (b % 16))) _
    (has_place lower_digits (b % 16) (slice_index lower_digits (b % 16)) (omega arith) refl)
    (encoded_digits rest (λ k. are (suc k))))

-- so many bytes whose digits begin with these
abbrev Filled : ℕ → List ℕ → Type 0
Filled n digits = (bytes : List ℕ) × (rest : List ℕ) × (length bytes ≡ n) × IsBytes bytes × (encode_lower bytes ≡ digits ++ rest)

one_more : (h l : ℕ) (bytes : List ℕ) → h < 16 → l < 16 → IsBytes bytes → IsBytes ((h * 16 + l) ∷ bytes)
one_more h l bytes high low are zero = omega arith
one_more h l bytes high low are (suc k) = are k

pair : (h l : ℕ) (bytes : List ℕ) → h < 16 → l < 16
    → encode_lower ((h * 16 + l) ∷ bytes) ≡ slice_index lower_digits h ∷ slice_index lower_digits l ∷ encode_lower bytes
unfolding encode_with
pair h l bytes high low =
    let first : (h * 16 + l) / 16 ≡ h = omega arith in
    let second : (h * 16 + l) % 16 ≡ l = omega arith in
    rw (first, second) refl

fill : (n : ℕ) (digits : List ℕ) → list_all is_lower_digit digits ≡ true → length digits ≤ 2 * n → Filled n digits
fill zero [] are short = ([], encode_lower [], refl, λ k. omega arith, refl)
fill zero (a ∷ digits) are short = absurd (omega (arith, short))
fill (suc n) [] are short =
    let r = fill n [] refl (omega arith) in
    ((0 * 16 + 0) ∷ r.0, encode_lower ((0 * 16 + 0) ∷ r.0), ap suc r.2, one_more 0 0 r.0 (omega arith) (omega arith) r.3, refl)
fill (suc n) (a ∷ []) are short =
    let r = fill n [] refl (omega arith) in
    let h = place lower_digits a (and_parts (is_lower_digit a) true are).0 in (
      (h.0 * 16 + 0) ∷ r.0,
      48 ∷ encode_lower r.0,
      ap suc r.2,
      one_more h.0 0 r.0 h.1 (omega arith) r.3,
      pair h.0 0 r.0 h.1 (omega arith) ∙ ap (λ (c : ℕ). c ∷ 48 ∷ encode_lower r.0) h.2,
    )
fill (suc n) (a ∷ b ∷ digits) are short =
    let all = and_parts (is_lower_digit a) _ are in
    let later = and_parts (is_lower_digit b) _ all.1 in
    let r = fill n digits later.1 (omega (arith, short)) in
    let h = place lower_digits a all.0 in
    let l = place lower_digits b later.0 in (
      (h.0 * 16 + l.0) ∷ r.0,
      r.1,
      ap suc r.2,
      one_more h.0 l.0 r.0 h.1 l.1 r.3,
      pair h.0 l.0 r.0 h.1 l.1 ∙ (λ i. h.2 i ∷ l.2 i ∷ r.4 i),
    )

-- ---- beginnings

-- one of two beginnings goes on to the other
two_fronts : (a b c d : List ℕ) → a ++ b ≡ c ++ d → ((x : List ℕ) × (a ≡ c ++ x)) ⊎ ((x : List ℕ) × (c ≡ a ++ x))
two_fronts [] b c d is = inr (c, refl)
two_fronts (x ∷ a) b [] d is = inl (x ∷ a, refl)
two_fronts (x ∷ a) b (y ∷ c) d is =
    let first : x ≡ y = cc is in
    let rest : a ++ b ≡ c ++ d = cc is in
    elim (two_fronts a b c d rest) [
      | inl longer ↦ inl (longer.0, λ i. first i ∷ longer.1 i)
      | inr shorter ↦ inr (shorter.0, λ i. sym first i ∷ shorter.1 i)
    ]

-- the beginning of what passes passes
front_passes : (p : ℕ → Bool) (a b c d : List ℕ) → a ++ b ≡ c ++ d → length a ≤ length c → list_all p c ≡ true → list_all p a ≡ true
front_passes p [] b c d is short all = refl
front_passes p (x ∷ a) b [] d is short all = absurd (omega (arith, short))
front_passes p (x ∷ a) b (y ∷ c) d is short all =
    let first : x ≡ y = cc is in
    let rest : a ++ b ≡ c ++ d = cc is in
    let parts = and_parts (p y) _ all in
    and_from (p x) _ (ap p first ∙ parts.0) (front_passes p a b c d rest (omega (arith, short)) parts.1)

not_nothing : (a b : List ℕ) (c : ℕ) → a ++ (b ++ c ∷ []) ≢ []
not_nothing a b c is =
    omega (arith, ap length is, length-append a (b ++ c ∷ []), length-append b (c ∷ []))

some_rest : (rest : List ℕ) → rest ≢ [] → 0 < length rest
some_rest [] some = absurd (some refl)
some_rest (x ∷ rest) some = omega arith

-- some digits, and what comes before them
pub digits_begun : (bytes digits : List ℕ) → bytes ≡ second ++ digits → length bytes ≤ 83 → list_all is_lower_digit digits ≡ true → IsHeadBegun bytes
digits_begun bytes digits are short all =
    let f = fill 32 digits all (omega (arith, ap length are, length-append second digits, short)) in
    let d : Digest = record { bytes = f.0 } in (
      Version2 d,
      f.1 ++ 10 ∷ [],
      (f.2, f.3),
      not_nothing [] f.1 10,
      ap (λ (t : List ℕ). second ++ (t ++ 10 ∷ [])) f.4
          ∙ (ap (λ (t : List ℕ). second ++ t) (append_assoc digits f.1 (10 ∷ []))
          ∙ (sym (append_assoc second digits (f.1 ++ 10 ∷ [])) ∙ ap (λ (t : List ℕ). t ++ (f.1 ++ 10 ∷ [])) (sym are))),
    )

-- heads of version 1 don't go on as those of version 2
not_first : (x : List ℕ) → head_text Version1 ≡ second ++ x → ⊥
not_first x is =
    let differ : 49 ≡ 50 = ap (λ (bs : List ℕ). get_or bs 15 0) is in
    omega (arith, differ)

pub begun_digits : (bytes digits : List ℕ) → bytes ≡ second ++ digits → IsHeadBegun bytes → (length bytes ≤ 83) × (list_all is_lower_digit digits ≡ true)
begun_digits bytes digits are (Version1, rest, is, some, begins) =
    absurd (not_first (digits ++ rest) (begins ∙ (ap (λ (t : List ℕ). t ++ rest) are ∙ append_assoc second digits rest)))
begun_digits bytes digits are (Version2 d, rest, is, some, begins) =
    let after : digits ++ rest ≡ encode_lower d.bytes ++ 10 ∷ [] =
    append_cancel_left second (digits ++ rest) (encode_lower d.bytes ++ 10 ∷ [])
    (sym (begins ∙ (ap (λ (t : List ℕ). t ++ rest) are ∙ append_assoc second digits rest))) in
    let few : length digits ≤ 64 =
    omega (arith, ap length after, length-append digits rest, length-append (encode_lower d.bytes) (10 ∷ []), digits_length d is, some_rest rest some) in (
      omega (arith, ap length are, length-append second digits, few),
      front_passes is_lower_digit digits rest (encode_lower d.bytes) (10 ∷ []) after (omega (arith, few, digits_length d is)) (encoded_digits d.bytes is.1),
    )

-- the beginning of what comes before the digits
pub second_begun : (bytes x : List ℕ) → second ≡ bytes ++ x → IsHeadBegun bytes
second_begun bytes x is =
    let f = fill 32 [] refl (omega arith) in
    let d : Digest = record { bytes = f.0 } in (
      Version2 d,
      x ++ (encode_lower f.0 ++ 10 ∷ []),
      (f.2, f.3),
      not_nothing x (encode_lower f.0) 10,
      ap (λ (t : List ℕ). t ++ (encode_lower f.0 ++ 10 ∷ [])) is ∙ append_assoc bytes x (encode_lower f.0 ++ 10 ∷ []),
    )

pub first_begun : (bytes x : List ℕ) → length bytes < 17 → head_text Version1 ≡ bytes ++ x → IsHeadBegun bytes
first_begun bytes x short is =
    (Version1, x, tt, λ none. omega (arith, ap length is, length-append bytes x, ap length none, short), is)

-- and nothing else, where they don't come before the digits whole
pub begun_short : (bytes : List ℕ) → ((digits : List ℕ) → bytes ≢ second ++ digits) → IsHeadBegun bytes
    → ((x : List ℕ) × (second ≡ bytes ++ x)) ⊎ ((length bytes < 17) × (x : List ℕ) × (head_text Version1 ≡ bytes ++ x))
begun_short bytes lacks (Version1, rest, is, some, begins) =
    inr (omega (arith, ap length begins, length-append bytes rest, some_rest rest some), rest, begins)
begun_short bytes lacks (Version2 d, rest, is, some, begins) =
    elim (two_fronts second (encode_lower d.bytes ++ 10 ∷ []) bytes rest begins) [
      | inl there ↦ inl there
      | inr over ↦ absurd (lacks over.0 over.1)
    ]
