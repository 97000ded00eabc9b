-- The numbers of a journal are read exactly.
use Rattle.std.proofs.Common.{◌≡◌, ◌≢◌, inl, inr, ℕ, ◌+◌, ◌-◌, ◌*◌, ◌/◌, ◌%◌, ◌^◌, ◌<◌, ◌≤◌, List, [], ◌∷◌, ◌++◌, Ok, Err, refl, sym, ap}
use Rattle.std.proofs.Common.{◌∙◌, subst, arith, append_assoc, append-nil, length, get_or, drop, eqb, leb, true, ◌&&◌}
use Rattle.std.proofs.lemmas.List.{drop_all, drop_more}
use Rattle.std.specs.Fmt.{decimal}
use Rattle.std.specs.Char.{is_ascii_digit}
use Rattle.std.proofs.lemmas.Bool.{cases_Bool, cases_eq, eqb-true, eqb-false, ne_eqb, and_parts, leb-true, le-leb}
use Rattle.std.proofs.lemmas.Bool.Decides.{nat_tests}
use Rattle.std.proofs.lemmas.Fmt.{decimal_by_steps, decimal_digit, decimal_step}
use Rattle.reduce_journal.specs.declared.numbers.Mismatch.{Mismatch}
use Rattle.reduce_journal.specs.declared.numbers.Mismatch.TheVariants.{Torn, Bad}
use Rattle.reduce_journal.specs.inner.Reading.{Parse, after, with_digit, digits_from, positive_at, number_at}
use Rattle.reduce_journal.proofs.Lists.{cut_apart, one_cut, same_found, some_after, step_ok, step_err}
use Rattle.reduce_journal.proofs.Decides.{Begins, Decides, after_ok, after_torn}

-- a number from 1 to the greatest
abbrev pub IsPositive : ℕ → ℕ → Type 0
IsPositive greatest n = (0 < n) × (n ≤ greatest)

-- a number and its newline
abbrev pub ended : ℕ → List ℕ
ended n = decimal n ++ 10 ∷ []

digit_range : (byte : ℕ) → is_ascii_digit byte ≡ true → (48 ≤ byte) × (byte ≤ 57)
digit_range byte digit = grind (arith, nat_tests)

in_range : (d : ℕ) → d < 10 → is_ascii_digit (48 + d) ≡ true
in_range d small = grind (arith, nat_tests)

-- one more digit
digit_there : (greatest number d : ℕ) → d < 10 → number * 10 + d ≤ greatest → with_digit greatest number (48 + d) ≡ Ok (number * 10 + d)
unfolding with_digit
digit_there greatest number d small fits =
    let digit = in_range d small in
    let worth : (48 + d) - 48 ≡ d = omega arith in
    rw (worth, digit, le-leb (number * 10 + d) greatest fits) refl

pub digit_found : (greatest number byte next : ℕ) → with_digit greatest number byte ≡ Ok next
    → (d : ℕ) × (d < 10) × (byte ≡ 48 + d) × (next ≡ number * 10 + d) × (next ≤ greatest)
unfolding with_digit
digit_found greatest number byte next e =
    elim (cases_Bool (is_ascii_digit byte && leb (number * 10 + (byte - 48)) greatest)) [
      | inl holds ↦
          let parts = and_parts _ _ holds in
          let range = digit_range byte parts.0 in
          let is : number * 10 + (byte - 48) ≡ next = let r = rw holds at e in cc in
          let fits = leb-true _ _ parts.1 in
          (byte - 48, omega (arith, range), omega (arith, range), sym is, omega (arith, is, fits))
      | inr fails ↦ cc (rw fails at e)
    ]

digit_not_torn : (greatest number byte : ℕ) → with_digit greatest number byte ≡ Err Torn → ⊥
unfolding with_digit
digit_not_torn greatest number byte e =
    elim (cases_Bool (is_ascii_digit byte && leb (number * 10 + (byte - 48)) greatest)) [
      | inl holds ↦ cc (rw holds at e)
      | inr fails ↦ cc (rw fails at e)
    ]

-- the digits of a number with one more
one_more : (n d : ℕ) → 0 < n → d < 10 → n * 10 + d < 2 ^ 64 → decimal (n * 10 + d) ≡ decimal n ++ (48 + d) ∷ []
one_more n d some small fits =
    let top : (n * 10 + d) / 10 ≡ n = omega arith in
    let low : (n * 10 + d) % 10 ≡ d = omega arith in
    let step = decimal_step (n * 10 + d) (omega arith) fits in
    rw (top, low) at step

module _ (greatest : ℕ) (fits : greatest < 2 ^ 64) where
  -- digits that are read one after another give the number, and before their end they are torn
  record Reads (n : ℕ) (digits : List ℕ) : Type 0 where
    whole : (rest : List ℕ) → positive_at greatest (digits ++ rest) ≡ digits_from greatest n rest
    part : (front more : List ℕ) → digits ≡ front ++ more → more ≢ [] → positive_at greatest front ≡ Err Torn

  abbrev ReadsIf : ℕ → List ℕ → Type 0
  ReadsIf n digits = IsPositive greatest n → Reads n digits

  first_digit : (n : ℕ) → n < 10 → ReadsIf n ((48 + n) ∷ [])
  unfolding positive_at
  first_digit n low p = record {
    whole = λ rest.
        let not_zero = ne_eqb (48 + n) 48 (λ e. omega (arith, e, p)) in
        let digit : with_digit greatest 0 (48 + n) ≡ Ok (0 * 10 + n) = digit_there greatest 0 n low (omega (arith, p)) in
        let is : 0 * 10 + n ≡ n = omega arith in
        rw (not_zero, digit, is) refl;
    part = λ front more e some. ap (positive_at greatest) (one_cut (48 + n) front more e some).0;
  }

  next_digit : (n : ℕ) (digits : List ℕ) → 10 ≤ n → ReadsIf (n / 10) digits → ReadsIf n (digits ++ (48 + n % 10) ∷ [])
  unfolding digits_from
  next_digit n digits big before p =
      let front : Reads (n / 10) digits = before (omega (arith, p), omega (arith, p)) in
      let d = n % 10 in
      let is : (n / 10) * 10 + n % 10 ≡ n = omega arith in
      record {
        whole = λ rest.
            let not_end = ne_eqb (48 + n % 10) 10 (λ e. omega (arith, e)) in
            let digit : with_digit greatest (n / 10) (48 + n % 10) ≡ Ok ((n / 10) * 10 + n % 10) =
            digit_there greatest (n / 10) (n % 10) (omega arith) (omega (arith, p, is)) in
            ap (positive_at greatest) (append_assoc digits ((48 + n % 10) ∷ []) rest)
            ∙ (front.whole ((48 + n % 10) ∷ rest) ∙ rw (not_end, digit, is) refl);
        part = λ cut more e some. elim (cut_apart digits ((48 + n % 10) ∷ []) cut more e) [
          | inl r ↦ front.part cut r.0 r.2 r.1
          | inr r ↦
              ap (positive_at greatest) (r.1 ∙ ap (λ m. digits ++ m) (one_cut (48 + n % 10) r.0 more r.2 some).0)
              ∙ front.whole []
        ];
      }

  reads : (n : ℕ) → IsPositive greatest n → Reads n (decimal n)
  reads n p = decimal_by_steps ReadsIf first_digit next_digit n (omega (arith, fits, p)) p

  -- what is read with one more digit is the same
  with_next : (n b next d : ℕ) → IsPositive greatest n → d < 10 → b ≡ 48 + d → next ≡ n * 10 + d → next ≤ greatest → (bytes : List ℕ)
      → decimal n ++ b ∷ bytes ≡ decimal next ++ bytes
  with_next n b next d p small byte is most bytes =
      ap (λ c. decimal n ++ c ∷ bytes) byte
      ∙ (sym (append_assoc (decimal n) ((48 + d) ∷ []) bytes)
      ∙ (ap (λ t. t ++ bytes) (sym (one_more n d p.0 small (omega (arith, is, most, fits)))) ∙ ap (λ m. decimal m ++ bytes) (sym is)))

  -- what is read after the digits of a number
  digits_sound : (n : ℕ) (bytes : List ℕ) (found : ℕ × List ℕ) → IsPositive greatest n → digits_from greatest n bytes ≡ Ok found
      → IsPositive greatest found.0 × (decimal n ++ bytes ≡ decimal found.0 ++ 10 ∷ found.1)
  unfolding digits_from
  digits_sound n [] found p e = cc e
  digits_sound n (b ∷ bytes) found p e = elim (cases_Bool (eqb b 10)) [
    | inl ends ↦
        let is = same_found _ _ (rw ends at e) in
        let number : n ≡ found.0 = ap (λ (r : ℕ × List ℕ). r.0) is in
        let rest : bytes ≡ found.1 = ap (λ (r : ℕ × List ℕ). r.1) is in (
          subst (IsPositive greatest) number p,
          ap (λ c. decimal n ++ c ∷ bytes) (eqb-true b 10 ends) ∙ (ap (λ m. decimal m ++ 10 ∷ bytes) number ∙ ap (λ r. decimal found.0 ++ 10 ∷ r) rest),
        )
    | inr goes_on ↦
        let s = step_ok (with_digit greatest n b) (λ next. digits_from greatest next bytes) found (rw goes_on at e) in
        let d = digit_found greatest n b s.0 s.1 in
        let later = digits_sound s.0 bytes found (omega (arith, p, d.3), d.4) s.2 in
        (later.0, with_next n b s.0 d.0 p d.1 d.2 d.3 d.4 bytes ∙ later.1)
  ]

  digits_torn : (n : ℕ) (bytes : List ℕ) → IsPositive greatest n → digits_from greatest n bytes ≡ Err Torn
      → (v : ℕ) × (more : List ℕ) × IsPositive greatest v × (more ≢ []) × (ended v ≡ (decimal n ++ bytes) ++ more)
  unfolding digits_from
  digits_torn n [] p e = (n, 10 ∷ [], p, (λ h. cc h), ap (λ t. t ++ 10 ∷ []) (sym (append-nil (decimal n))))
  digits_torn n (b ∷ bytes) p e = elim (cases_Bool (eqb b 10)) [
    | inl ends ↦ cc (rw ends at e)
    | inr goes_on ↦ elim (step_err (with_digit greatest n b) (λ next. digits_from greatest next bytes) Torn (rw goes_on at e)) [
      | inl h ↦ absurd (digit_not_torn greatest n b h)
      | inr s ↦
          let d = digit_found greatest n b s.0 s.1 in
          let later = digits_torn s.0 bytes (omega (arith, p, d.3), d.4) s.2 in
          (later.0, later.1, later.2, later.3, later.4 ∙ ap (λ t. t ++ later.1) (sym (with_next n b s.0 d.0 p d.1 d.2 d.3 d.4 bytes)))
    ]
  ]

  -- the first digit of a number
  first_found : (b next : ℕ) → (b ≡ 48 → ⊥) → with_digit greatest 0 b ≡ Ok next → IsPositive greatest next × (b ∷ [] ≡ decimal next)
  first_found b next other e =
      let d = digit_found greatest 0 b next e in
      let is : next ≡ d.0 = omega (arith, d.3) in
      let some : 0 < d.0 = omega (arith, d.2, other) in
      ((omega (arith, is, some), d.4), ap (λ c. c ∷ []) d.2 ∙ (sym (decimal_digit d.0 d.1) ∙ ap decimal (sym is)))

  positive_sound : (bytes : List ℕ) (found : ℕ × List ℕ) → positive_at greatest bytes ≡ Ok found
      → IsPositive greatest found.0 × (bytes ≡ ended found.0 ++ found.1)
  unfolding positive_at
  positive_sound [] found e = cc e
  positive_sound (b ∷ bytes) found e = elim (cases_Bool (eqb b 48)) [
    | inl is_zero ↦ cc (rw is_zero at e)
    | inr other ↦
        let s = step_ok (with_digit greatest 0 b) (λ next. digits_from greatest next bytes) found (rw other at e) in
        let f = first_found b s.0 (eqb-false b 48 other) s.1 in
        let later = digits_sound s.0 bytes found f.0 s.2 in
        (later.0, ap (λ t. t ++ bytes) f.1 ∙ (later.1 ∙ sym (append_assoc (decimal found.0) (10 ∷ []) found.1)))
  ]

  positive_torn : 0 < greatest → (bytes : List ℕ) → positive_at greatest bytes ≡ Err Torn → Begins (IsPositive greatest) ended bytes
  unfolding positive_at
  positive_torn some [] e = (1, ended 1, (omega arith, some), some_after (decimal 1) (10 ∷ []) (λ h. cc h), refl)
  positive_torn some (b ∷ bytes) e = elim (cases_Bool (eqb b 48)) [
    | inl is_zero ↦ cc (rw is_zero at e)
    | inr other ↦ elim (step_err (with_digit greatest 0 b) (λ next. digits_from greatest next bytes) Torn (rw other at e)) [
      | inl h ↦ absurd (digit_not_torn greatest 0 b h)
      | inr s ↦
          let f = first_found b s.0 (eqb-false b 48 other) s.1 in
          let later = digits_torn s.0 bytes f.0 s.2 in
          (later.0, later.1, later.2, later.3, later.4 ∙ ap (λ t. (t ++ bytes) ++ later.1) (sym f.1))
    ]
  ]

  positive_cut : (bytes : List ℕ) → Begins (IsPositive greatest) ended bytes → positive_at greatest bytes ≡ Err Torn
  unfolding digits_from
  positive_cut bytes b = elim (cut_apart (decimal b.0) (10 ∷ []) bytes b.1 b.4) [
    | inl r ↦ (reads b.0 b.2).part bytes r.0 r.2 r.1
    | inr r ↦
        ap (positive_at greatest) (r.1 ∙ ap (λ m. decimal b.0 ++ m) (one_cut 10 r.0 b.1 r.2 b.3).0) ∙ (reads b.0 b.2).whole []
  ]

  positive_back : (n : ℕ) (rest : List ℕ) → IsPositive greatest n → positive_at greatest (ended n ++ rest) ≡ Ok (n, rest)
  unfolding digits_from
  positive_back n rest p = ap (positive_at greatest) (append_assoc (decimal n) (10 ∷ []) rest) ∙ (reads n p).whole (10 ∷ rest)

  -- numbers from 1
  pub positive_decides : 0 < greatest → Decides (IsPositive greatest) ended (positive_at greatest)
  positive_decides some = record {
    back = positive_back;
    sound = positive_sound;
    torn = positive_torn some;
    cut = positive_cut;
  }

  -- what doesn't begin with a zero is read alike from 0 on
  from_positive : (bytes : List ℕ) (r : Parse ℕ) → positive_at greatest bytes ≡ r → r ≢ Err Bad → number_at greatest bytes ≡ r
  unfolding number_at positive_at
  from_positive [] r e other = e
  from_positive (b ∷ bytes) r e other = elim (cases_Bool (eqb b 48)) [
    | inl is_zero ↦ absurd (other (sym (rw is_zero at e)))
    | inr positive ↦ rw positive (rw positive at e)
  ]

  -- zero is read as it is written
  zero_ended : ended 0 ≡ 48 ∷ 10 ∷ []
  zero_ended = ap (λ t. t ++ 10 ∷ []) (decimal_digit 0 (omega arith))

  number_back : (n : ℕ) (rest : List ℕ) → n ≤ greatest → number_at greatest (ended n ++ rest) ≡ Ok (n, rest)
  unfolding number_at
  number_back n rest most = elim (cases_eq n 0) [
    | inl is_zero ↦
        ap (λ m. number_at greatest (ended m ++ rest)) is_zero
        ∙ (ap (λ t. number_at greatest (t ++ rest)) zero_ended ∙ ap (λ m. Ok (m, rest)) (sym is_zero))
    | inr some ↦ from_positive (ended n ++ rest) (Ok (n, rest)) (positive_back n rest (omega (arith, some), most)) (λ e. cc e)
  ]

  number_sound : (bytes : List ℕ) (found : ℕ × List ℕ) → number_at greatest bytes ≡ Ok found → (found.0 ≤ greatest) × (bytes ≡ ended found.0 ++ found.1)
  unfolding number_at
  number_sound [] found e = cc e
  number_sound (b ∷ bytes) found e = elim (cases_Bool (eqb b 48)) [
    | inl is_zero ↦
        let s = step_ok (after 10 bytes) (λ more. Ok (0, more)) found (rw is_zero at e) in
        let is = same_found _ _ s.2 in
        let number : 0 ≡ found.0 = ap (λ (r : ℕ × List ℕ). r.0) is in
        let rest : s.0 ≡ found.1 = ap (λ (r : ℕ × List ℕ). r.1) is in (
          omega (arith, number),
          ap (λ c. c ∷ bytes) (eqb-true b 48 is_zero) ∙ (ap (λ r. 48 ∷ r) (after_ok 10 bytes s.0 s.1)
              ∙ (ap (λ t. t ++ s.0) (sym zero_ended) ∙ (ap (λ m. ended m ++ s.0) number ∙ ap (λ r. ended found.0 ++ r) rest))),
        )
    | inr other ↦
        let s = positive_sound (b ∷ bytes) found (rw other at e) in
        (s.0.1, s.1)
  ]

  -- what is torn after a digit has a greatest number of at least 1
  first_is_some : (b : ℕ) (bytes : List ℕ) → positive_at greatest (b ∷ bytes) ≡ Err Torn → 0 < greatest
  unfolding positive_at
  first_is_some b bytes e = elim (cases_Bool (eqb b 48)) [
    | inl is_zero ↦ cc (rw is_zero at e)
    | inr other ↦ elim (step_err (with_digit greatest 0 b) (λ next. digits_from greatest next bytes) Torn (rw other at e)) [
      | inl h ↦ absurd (digit_not_torn greatest 0 b h)
      | inr s ↦ let f = first_found b s.0 (eqb-false b 48 other) s.1 in omega (arith, f.0)
    ]
  ]

  number_torn : (bytes : List ℕ) → number_at greatest bytes ≡ Err Torn → Begins (λ n. n ≤ greatest) ended bytes
  unfolding number_at
  number_torn [] e = (0, ended 0, omega arith, some_after (decimal 0) (10 ∷ []) (λ h. cc h), refl)
  number_torn (b ∷ bytes) e = elim (cases_Bool (eqb b 48)) [
    | inl is_zero ↦ elim (step_err (after 10 bytes) (λ more. Ok (0, more)) Torn (rw is_zero at e)) [
      | inl h ↦ (
        0,
        10 ∷ [],
        omega arith,
        (λ n. cc n),
        zero_ended ∙ (ap (λ c. c ∷ 10 ∷ []) (sym (eqb-true b 48 is_zero)) ∙ ap (λ r. b ∷ (r ++ 10 ∷ [])) (sym (after_torn 10 bytes h))),
      )
      | inr s ↦ cc (s.2)
    ]
    | inr other ↦
        let some : 0 < greatest = first_is_some b bytes (rw other at e) in
        let t = positive_torn some (b ∷ bytes) (rw other at e) in
        (t.0, t.1, t.2.1, t.3, t.4)
  ]

  zero_cut : (bytes more : List ℕ) → more ≢ [] → 48 ∷ 10 ∷ [] ≡ bytes ++ more → number_at greatest bytes ≡ Err Torn
  unfolding number_at
  zero_cut [] more some e = refl
  zero_cut (b ∷ bytes) more some e =
      let first : 48 ≡ b = cc in
      let rest : 10 ∷ [] ≡ bytes ++ more = cc in
      ap (λ c. number_at greatest (c ∷ bytes)) (sym first) ∙ ap (λ r. number_at greatest (48 ∷ r)) (one_cut 10 bytes more rest some).0

  number_cut : (bytes : List ℕ) → Begins (λ n. n ≤ greatest) ended bytes → number_at greatest bytes ≡ Err Torn
  number_cut bytes b = elim (cases_eq b.0 0) [
    | inl is_zero ↦ zero_cut bytes b.1 b.3 (sym zero_ended ∙ (ap ended (sym is_zero) ∙ b.4))
    | inr some ↦ from_positive bytes (Err Torn) (positive_cut bytes (b.0, b.1, (omega (arith, some), b.2), b.3, b.4)) (λ e. cc e)
  ]

  -- numbers from 0
  pub number_decides : Decides (λ n. n ≤ greatest) ended (number_at greatest)
  number_decides = record { back = number_back; sound = number_sound; torn = number_torn; cut = number_cut }

-- the loop over digits, at its end and one digit further
pub digits_end : (greatest number : ℕ) (bytes : List ℕ) (i : ℕ) → i < length bytes → get_or bytes i 0 ≡ 10
    → digits_from greatest number (drop i bytes) ≡ Ok (number, drop (i + 1) bytes)
unfolding digits_from
digits_end greatest number bytes i within ends = ap (digits_from greatest number) (drop_more bytes i 0 within) ∙ rw ends refl

pub digits_next : (greatest number next : ℕ) (bytes : List ℕ) (i : ℕ) → i < length bytes → (get_or bytes i 0 ≡ 10 → ⊥)
    → with_digit greatest number (get_or bytes i 0) ≡ Ok next
    → digits_from greatest number (drop i bytes) ≡ digits_from greatest next (drop (i + 1) bytes)
unfolding digits_from
digits_next greatest number next bytes i within other is =
    ap (digits_from greatest number) (drop_more bytes i 0 within) ∙ rw (ne_eqb (get_or bytes i 0) 10 other, is) refl

pub digits_stop : (greatest number : ℕ) (mismatch : Mismatch) (bytes : List ℕ) (i : ℕ) → i < length bytes → (get_or bytes i 0 ≡ 10 → ⊥)
    → with_digit greatest number (get_or bytes i 0) ≡ Err mismatch
    → digits_from greatest number (drop i bytes) ≡ Err mismatch
unfolding digits_from
digits_stop greatest number mismatch bytes i within other is =
    ap (digits_from greatest number) (drop_more bytes i 0 within) ∙ rw (ne_eqb (get_or bytes i 0) 10 other, is) refl

pub digits_out : (greatest number : ℕ) (bytes : List ℕ) (i : ℕ) → length bytes ≤ i → digits_from greatest number (drop i bytes) ≡ Err Torn
unfolding digits_from
digits_out greatest number bytes i all = ap (digits_from greatest number) (drop_all i bytes all)
