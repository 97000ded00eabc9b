-- An event of a journal is read exactly.
use Rattle.std.proofs.Common.{◌≡◌, ◌≢◌, inl, inr, ℕ, ◌+◌, ◌-◌, ◌^◌, ◌<◌, ◌≤◌, List, [], ◌∷◌, ◌++◌, Ok, Err, length, take, drop, replicate}
use Rattle.std.proofs.Common.{Bool, true, false, refl, sym, ap, ◌∙◌, subst, arith, append_assoc, length-append, eqb, ltb}
use Rattle.std.specs.Prelude.{if◌then◌else◌}
use Rattle.std.proofs.lemmas.Bool.{cases_Bool, cases_lt, eq-eqb, eqb-true, ltb-true, ltb-false, le-ltb, ne_eqb}
use Rattle.std.proofs.lemmas.List.{take_at, drop_at, take-append-drop, length-take-le, length-replicate, length-drop, drop_all}
use Rattle.script_gate_trait.specs.declared.gate.Verdict.{Verdict}
use Rattle.script_gate_trait.specs.declared.gate.Verdict.TheVariants.{Yes, No}
use Rattle.reduce_step.specs.Limits.{text_limit}
use Rattle.reduce_journal.specs.declared.event.Event.{Event}
use Rattle.reduce_journal.specs.declared.event.Event.TheVariants.{Recorded, Committed}
use Rattle.reduce_journal.specs.declared.numbers.Mismatch.TheVariants.{Torn, Bad}
use Rattle.reduce_journal.specs.History.{MayFollow}
use Rattle.reduce_journal.specs.Journal.{event_text}
use Rattle.reduce_journal.specs.inner.Reading.{Parse, ◌>>=◌, after, verdict_at, text_at, number_at, positive_at, record_at, commit_at, kept_at, event_at}
use Rattle.reduce_journal.proofs.Lists.{one_cut, same_found, some_after, step_ok, step_err}
use Rattle.reduce_journal.proofs.Decides.{Begins, Decides, after_byte, after_ok, after_torn, in_order, renamed}
use Rattle.reduce_journal.proofs.DecimalNumbers.{IsPositive, ended, number_decides, positive_decides}

-- the letter of a verdict
abbrev letter : Verdict → ℕ
letter Yes = 121
letter No = 110

abbrev any_verdict : Verdict → Type 0
any_verdict verdict = Unit {0}

abbrev spelled_verdict : Verdict → List ℕ
spelled_verdict verdict = letter verdict ∷ []

verdict_found : (b : ℕ) (rest : List ℕ) (found : Verdict × List ℕ) → verdict_at (b ∷ rest) ≡ Ok found → b ∷ rest ≡ spelled_verdict found.0 ++ found.1
verdict_found b rest found e = elim (cases_Bool (eqb b 121)) [
  | inl holds ↦
      let is = same_found _ _ (rw holds at e) in
      ap (λ c. c ∷ rest) (eqb-true b 121 holds) ∙ ap (λ (f : Verdict × List ℕ). spelled_verdict f.0 ++ f.1) is
  | inr other ↦ elim (cases_Bool (eqb b 110)) [
    | inl holds ↦
        let is = same_found _ _ (rw (other, holds) at e) in
        ap (λ c. c ∷ rest) (eqb-true b 110 holds) ∙ ap (λ (f : Verdict × List ℕ). spelled_verdict f.0 ++ f.1) is
    | inr neither ↦ cc (rw (other, neither) at e)
  ]
]

verdict_torn : (bytes : List ℕ) → verdict_at bytes ≡ Err Torn → bytes ≡ []
verdict_torn [] e = refl
verdict_torn (b ∷ rest) e = elim (cases_Bool (eqb b 121)) [
  | inl holds ↦ cc (rw holds at e)
  | inr other ↦ elim (cases_Bool (eqb b 110)) [
    | inl holds ↦ cc (rw (other, holds) at e)
    | inr neither ↦ cc (rw (other, neither) at e)
  ]
]

verdict_decides : Decides any_verdict spelled_verdict verdict_at
verdict_decides = record {
  back = back;
  sound = sound;
  torn = λ bytes e. (Yes, 121 ∷ [], tt, (λ n. cc n), ap (λ bs. bs ++ 121 ∷ []) (sym (verdict_torn bytes e)));
  cut = λ bytes b. ap verdict_at (one_cut (letter b.0) bytes b.1 b.4 b.3).0;
}
  where
    back : (v : Verdict) (rest : List ℕ) → any_verdict v → verdict_at (spelled_verdict v ++ rest) ≡ Ok (v, rest)
    back Yes rest p = refl
    back No rest p = refl

    sound : (bytes : List ℕ) (found : Verdict × List ℕ) → verdict_at bytes ≡ Ok found → any_verdict found.0 × (bytes ≡ spelled_verdict found.0 ++ found.1)
    sound [] found e = cc e
    sound (b ∷ rest) found e = (tt, verdict_found b rest found e)

-- a text and its newline
abbrev with_newline : List ℕ → List ℕ
with_newline text = text ++ 10 ∷ []

-- some elements are no more than their length less one
some_length : {A : Type 0} (xs : List A) → xs ≢ [] → 0 < length xs
some_length [] some = absurd (some refl)
some_length (x ∷ xs) some = omega arith

module _ (count : ℕ) where
  abbrev HasLength : List ℕ → Type 0
  HasLength text = length text ≡ count

  text_back : (text rest : List ℕ) → HasLength text → text_at count (with_newline text ++ rest) ≡ Ok (text, rest)
  unfolding text_at
  text_back text rest has =
      let whole = append_assoc text (10 ∷ []) rest in
      let long = le-ltb (length (text ++ 10 ∷ rest)) count (omega (arith, length-append text (10 ∷ rest), has)) in
      ap (text_at count) whole ∙ rw (long, drop_at text (10 ∷ rest) count has, take_at text (10 ∷ rest) count has) refl

  text_sound : (bytes : List ℕ) (found : List ℕ × List ℕ) → text_at count bytes ≡ Ok found → HasLength found.0 × (bytes ≡ with_newline found.0 ++ found.1)
  unfolding text_at
  text_sound bytes found e = elim (cases_Bool (ltb (length bytes) count)) [
    | inl short ↦ cc (rw short at e)
    | inr long ↦
        let s = step_ok (after 10 (drop count bytes)) (λ rest. Ok (take count bytes, rest)) found (rw long at e) in
        let is = same_found _ _ s.2 in
        let text : take count bytes ≡ found.0 = ap (λ (f : List ℕ × List ℕ). f.0) is in
        let rest : s.0 ≡ found.1 = ap (λ (f : List ℕ × List ℕ). f.1) is in (
          ap length (sym text) ∙ length-take-le count bytes (ltb-false _ _ long),
          sym (take-append-drop count bytes) ∙ (ap (λ r. take count bytes ++ r) (after_ok 10 (drop count bytes) s.0 s.1)
              ∙ (ap (λ t. t ++ 10 ∷ s.0) text ∙ (ap (λ r. found.0 ++ 10 ∷ r) rest ∙ sym (append_assoc found.0 (10 ∷ []) found.1)))),
        )
  ]

  text_torn : (bytes : List ℕ) → text_at count bytes ≡ Err Torn → Begins HasLength with_newline bytes
  unfolding text_at
  text_torn bytes e = elim (cases_Bool (ltb (length bytes) count)) [
    | inl short ↦
        let missing : List ℕ = replicate (count - length bytes) 0 in (
          bytes ++ missing,
          missing ++ 10 ∷ [],
          omega (arith, length-append bytes missing, length-replicate {A = ℕ} (count - length bytes) 0, ltb-true _ _ short),
          some_after missing (10 ∷ []) (λ n. cc n),
          append_assoc bytes missing (10 ∷ []),
        )
    | inr long ↦ elim (step_err (after 10 (drop count bytes)) (λ rest. Ok (take count bytes, rest)) Torn (rw long at e)) [
      | inl h ↦
          let all : length (drop count bytes) ≡ 0 = ap length (after_torn 10 (drop count bytes) h) in
          (bytes, 10 ∷ [], omega (arith, all, length-drop count bytes, ltb-false _ _ long), (λ n. cc n), refl)
      | inr s ↦ cc (s.2)
    ]
  ]

  text_cut : (bytes : List ℕ) → Begins HasLength with_newline bytes → text_at count bytes ≡ Err Torn
  unfolding text_at
  text_cut bytes b =
      let lengths : length b.0 + 1 ≡ length bytes + length b.1 = sym (length-append b.0 (10 ∷ [])) ∙ (ap length b.4 ∙ length-append bytes b.1) in
      let some = some_length b.1 b.3 in
      elim (cases_Bool (ltb (length bytes) count)) [
        | inl short ↦ rw short refl
        | inr long ↦
            let none = drop_all count bytes (omega (arith, lengths, some, b.2)) in
            rw (long, none) refl
      ]

  text_decides : Decides HasLength with_newline (text_at count)
  text_decides = record { back = text_back; sound = text_sound; torn = text_torn; cut = text_cut }

-- the parts of a record
abbrev text_of : Event → List ℕ
text_of (Recorded text verdict kept) = text
text_of (Committed number) = []

abbrev verdict_of : Event → Verdict
verdict_of (Recorded text verdict kept) = verdict
verdict_of (Committed number) = No

abbrev number_of : Event → ℕ
number_of (Recorded text verdict kept) = 0
number_of (Committed number) = number

abbrev IsShortRecord : Bool → Event → Type 0
IsShortRecord kept (Recorded text verdict is_kept) = (is_kept ≡ kept) × (length text ≤ text_limit)
IsShortRecord kept (Committed number) = ⊥

abbrev IsCommitTo : ℕ → Event → Type 0
IsCommitTo records (Recorded text verdict kept) = ⊥
IsCommitTo records (Committed number) = IsPositive records number

-- what comes after a record's first letter
abbrev record_text : Event → List ℕ
record_text e = 32 ∷ (spelled_verdict (verdict_of e) ++ (32 ∷ (ended (length (text_of e)) ++ with_newline (text_of e))))

-- the records with this verdict, asked or kept
abbrev HasVerdict : Bool → Verdict → Event → Type 0
HasVerdict kept verdict e = (verdict_of e ≡ verdict) × IsShortRecord kept e

of_length : (kept : Bool) (verdict : Verdict) (count : ℕ) → count ≤ text_limit
    → Decides (λ e. (length (text_of e) ≡ count) × HasVerdict kept verdict e) (λ e. with_newline (text_of e))
    (λ bytes. text_at count bytes >>= λ found. Ok (Recorded found.0 verdict kept, found.1))
of_length kept verdict count short =
    renamed (HasLength count) with_newline (text_at count) (λ e. (length (text_of e) ≡ count) × HasVerdict kept verdict e) text_of
    (λ text. Recorded text verdict kept)
    has (λ text is. ((is, (refl, (refl, omega (arith, is, short)))), refl)) (text_decides count)
  where
    has : (e : Event) → (length (text_of e) ≡ count) × HasVerdict kept verdict e → HasLength count (text_of e) × (Recorded (text_of e) verdict kept ≡ e)
    has (Recorded text v k) p = (p.0, ap (λ w. Recorded text w kept) (sym p.1.0) ∙ ap (λ j. Recorded text v j) (sym p.1.1.0))
    has (Committed number) p = absurd p.1.1

with_verdict : (kept : Bool) (verdict : Verdict) → Decides (HasVerdict kept verdict) (λ e. ended (length (text_of e)) ++ with_newline (text_of e))
    (λ bytes. number_at text_limit bytes >>= λ count. text_at count.0 count.1 >>= λ found. Ok (Recorded found.0 verdict kept, found.1))
with_verdict kept verdict =
    in_order (λ n. n ≤ text_limit) ended (number_at text_limit) (HasVerdict kept verdict) (λ e. length (text_of e)) (λ e. with_newline (text_of e))
    (λ count bytes. text_at count bytes >>= λ found. Ok (Recorded found.0 verdict kept, found.1))
    (number_decides text_limit (omega arith)) has (of_length kept verdict)
    (λ count short. (
      Recorded (replicate count 0) verdict kept,
      length-replicate {A = ℕ} count 0,
      (refl, (refl, omega (arith, short, length-replicate {A = ℕ} count 0))),
    ))
  where
    has : (e : Event) → HasVerdict kept verdict e → length (text_of e) ≤ text_limit
    has (Recorded text v k) p = p.1.1
    has (Committed number) p = absurd p.1

record_decides : (kept : Bool) → Decides (IsShortRecord kept) record_text (record_at kept)
unfolding record_at
record_decides kept =
    after_byte 32 (IsShortRecord kept) (λ e. spelled_verdict (verdict_of e) ++ (32 ∷ (ended (length (text_of e)) ++ with_newline (text_of e))))
    (λ bytes. verdict_at bytes >>= λ verdict. after 32 verdict.1 >>= λ number. number_at text_limit number >>= λ count. text_at count.0 count.1 >>= λ found. Ok
    (Recorded found.0 verdict.0 kept, found.1))
    (Recorded [] Yes kept, (refl, omega arith))
    (in_order any_verdict spelled_verdict verdict_at (IsShortRecord kept) verdict_of (λ e. 32 ∷ (ended (length (text_of e)) ++ with_newline (text_of e)))
    (λ verdict bytes. after 32 bytes >>= λ number. number_at text_limit number >>= λ count. text_at count.0 count.1 >>= λ found. Ok
    (Recorded found.0 verdict kept, found.1))
    verdict_decides (λ e p. tt)
    (λ verdict _. after_byte 32 (HasVerdict kept verdict) (λ e. ended (length (text_of e)) ++ with_newline (text_of e))
    (λ bytes. number_at text_limit bytes >>= λ count. text_at count.0 count.1 >>= λ found. Ok (Recorded found.0 verdict kept, found.1))
    (Recorded [] verdict kept, (refl, (refl, omega arith))) (with_verdict kept verdict))
    (λ verdict _. (Recorded [] verdict kept, refl, (refl, omega arith))))

-- what comes after a commit's first letter
abbrev commit_text : Event → List ℕ
commit_text e = 32 ∷ ended (number_of e)

commit_rest : (records : ℕ) → records < 2 ^ 64 → 0 < records
    → Decides (IsCommitTo records) commit_text (λ bytes. after 32 bytes >>= λ rest. positive_at records rest >>= λ number. Ok (Committed number.0, number.1))
commit_rest records fits some =
    after_byte 32 (IsCommitTo records) (λ e. ended (number_of e)) (λ rest. positive_at records rest >>= λ number. Ok (Committed number.0, number.1))
    (Committed 1, (omega arith, some))
    (renamed (IsPositive records) ended (positive_at records) (IsCommitTo records) number_of (λ n. Committed n)
    has (λ n p. (p, refl)) (positive_decides records fits some))
  where
    has : (e : Event) → IsCommitTo records e → IsPositive records (number_of e) × (Committed (number_of e) ≡ e)
    has (Recorded text v k) p = absurd p
    has (Committed number) p = (p, refl)

commit_decides : (records : ℕ) → records < 2 ^ 64 → 0 < records → Decides (IsCommitTo records) commit_text (commit_at records)
unfolding commit_at
commit_decides records fits some =
    let there = ne_eqb records 0 (λ e. omega (arith, e, some)) in
    let read : Bool → List ℕ → Parse Event = λ none bytes.
    if none then Err Bad else (after 32 bytes >>= λ rest. positive_at records rest >>= λ number. Ok (Committed number.0, number.1)) in
    subst (λ none. Decides (IsCommitTo records) commit_text (read none)) (sym there) (commit_rest records fits some)

-- the texts of the events, by their first letter
asked_spelled : (version records : ℕ) (e : Event) → IsShortRecord false e → MayFollow version records e × (event_text e ≡ 82 ∷ record_text e)
asked_spelled version records (Recorded text Yes false) p = (record { of_version = tt; text = p.1; names = tt }, refl)
asked_spelled version records (Recorded text No false) p = (record { of_version = tt; text = p.1; names = tt }, refl)
asked_spelled version records (Recorded text verdict true) p = absurd (cc (p.0))
asked_spelled version records (Committed number) p = absurd p

kept_spelled : (version records : ℕ) (e : Event) → version ≡ 2 → IsShortRecord true e → MayFollow version records e × (event_text e ≡ 75 ∷ record_text e)
kept_spelled version records (Recorded text Yes true) is p = (record { of_version = is; text = p.1; names = tt }, refl)
kept_spelled version records (Recorded text No true) is p = (record { of_version = is; text = p.1; names = tt }, refl)
kept_spelled version records (Recorded text verdict false) is p = absurd (cc (p.0))
kept_spelled version records (Committed number) is p = absurd p

commit_spelled : (version records : ℕ) (e : Event) → records < 2 ^ 64 → IsCommitTo records e → MayFollow version records e × (event_text e ≡ 67 ∷ commit_text e)
commit_spelled version records (Recorded text verdict kept) fits p = absurd p
commit_spelled version records (Committed number) fits p = (record { of_version = tt; text = tt; names = (p.0, p.1, omega (arith, p, fits)) }, refl)

-- without a record there is no commit
no_commit : (bytes : List ℕ) → commit_at 0 bytes ≡ Err Bad
unfolding commit_at
no_commit bytes = refl

-- a kept record is read in version 2 alone
kept_there : (version : ℕ) (bytes : List ℕ) → version ≡ 2 → kept_at version bytes ≡ record_at true bytes
unfolding kept_at
kept_there version bytes is = rw (eq-eqb version 2 is) refl

kept_is : (version : ℕ) (bytes : List ℕ) (r : Parse Event) → kept_at version bytes ≡ r → r ≢ Err Bad → (version ≡ 2) × (record_at true bytes ≡ r)
unfolding kept_at
kept_is version bytes r e other = elim (cases_Bool (eqb version 2)) [
  | inl is ↦ (eqb-true version 2 is, rw is at e)
  | inr differs ↦ absurd (other (sym (rw differs at e)))
]

module _ (version records : ℕ) (fits : records < 2 ^ 64) where
  event_back : (e : Event) (rest : List ℕ) → MayFollow version records e → event_at version records (event_text e ++ rest) ≡ Ok (e, rest)
  unfolding event_at
  event_back (Recorded text Yes false) rest p = (record_decides false).back (Recorded text Yes false) rest (refl, p.text)
  event_back (Recorded text No false) rest p = (record_decides false).back (Recorded text No false) rest (refl, p.text)
  event_back (Recorded text Yes true) rest p =
      kept_there version (record_text (Recorded text Yes true) ++ rest) p.of_version ∙ (record_decides true).back (Recorded text Yes true) rest (refl, p.text)
  event_back (Recorded text No true) rest p =
      kept_there version (record_text (Recorded text No true) ++ rest) p.of_version ∙ (record_decides true).back (Recorded text No true) rest (refl, p.text)
  event_back (Committed number) rest p =
      (commit_decides records fits (omega (arith, p.names))).back (Committed number) rest (p.names.0, p.names.1)

  event_sound : (bytes : List ℕ) (found : Event × List ℕ) → event_at version records bytes ≡ Ok found → MayFollow version records found.0
      × (bytes ≡ event_text found.0 ++ found.1)
  unfolding event_at
  event_sound [] found e = cc e
  event_sound (b ∷ bytes) found e = elim (cases_Bool (eqb b 82)) [
    | inl is ↦
        let s = (record_decides false).sound bytes found (rw is at e) in
        let t = asked_spelled version records found.0 s.0 in
        (t.0, ap (λ c. c ∷ bytes) (eqb-true b 82 is) ∙ (ap (λ r. 82 ∷ r) s.1 ∙ ap (λ r. r ++ found.1) (sym t.1)))
    | inr other ↦ elim (cases_Bool (eqb b 67)) [
      | inl is ↦
          let at_rest : commit_at records bytes ≡ Ok found = rw (other, is) at e in
          let some : 0 < records = some_record bytes found at_rest in
          let s = (commit_decides records fits some).sound bytes found at_rest in
          let t = commit_spelled version records found.0 fits s.0 in
          (t.0, ap (λ c. c ∷ bytes) (eqb-true b 67 is) ∙ (ap (λ r. 67 ∷ r) s.1 ∙ ap (λ r. r ++ found.1) (sym t.1)))
      | inr neither ↦ elim (cases_Bool (eqb b 75)) [
        | inl is ↦
            let at_rest : kept_at version bytes ≡ Ok found = rw (other, neither, is) at e in
            let k = kept_is version bytes (Ok found) at_rest (λ h. cc h) in
            let s = (record_decides true).sound bytes found k.1 in
            let t = kept_spelled version records found.0 k.0 s.0 in
            (t.0, ap (λ c. c ∷ bytes) (eqb-true b 75 is) ∙ (ap (λ r. 75 ∷ r) s.1 ∙ ap (λ r. r ++ found.1) (sym t.1)))
        | inr none ↦ cc (rw (other, neither, none) at e)
      ]
    ]
  ]
    where
      some_record : (bytes : List ℕ) (found : Event × List ℕ) → commit_at records bytes ≡ Ok found → 0 < records
      some_record bytes found e = elim (cases_lt 0 records) [
        | inl some ↦ some
        | inr none ↦ let is_zero : records ≡ 0 = omega (arith, none) in cc (sym (no_commit bytes) ∙ (ap (λ k. commit_at k bytes) (sym is_zero) ∙ e))
      ]

  event_torn : (bytes : List ℕ) → event_at version records bytes ≡ Err Torn → Begins (MayFollow version records) event_text bytes
  unfolding event_at
  event_torn [] e = (Recorded [] Yes false, event_text (Recorded [] Yes false), record { of_version = tt; text = omega arith; names = tt }, (λ n. cc n), refl)
  event_torn (b ∷ bytes) e = elim (cases_Bool (eqb b 82)) [
    | inl is ↦
        let s = (record_decides false).torn bytes (rw is at e) in
        let t = asked_spelled version records s.0 s.2 in
        (s.0, s.1, t.0, s.3, t.1 ∙ (ap (λ r. 82 ∷ r) s.4 ∙ ap (λ c. c ∷ (bytes ++ s.1)) (sym (eqb-true b 82 is))))
    | inr other ↦ elim (cases_Bool (eqb b 67)) [
      | inl is ↦
          let at_rest : commit_at records bytes ≡ Err Torn = rw (other, is) at e in
          let some : 0 < records = some_record bytes at_rest in
          let s = (commit_decides records fits some).torn bytes at_rest in
          let t = commit_spelled version records s.0 fits s.2 in
          (s.0, s.1, t.0, s.3, t.1 ∙ (ap (λ r. 67 ∷ r) s.4 ∙ ap (λ c. c ∷ (bytes ++ s.1)) (sym (eqb-true b 67 is))))
      | inr neither ↦ elim (cases_Bool (eqb b 75)) [
        | inl is ↦
            let at_rest : kept_at version bytes ≡ Err Torn = rw (other, neither, is) at e in
            let k = kept_is version bytes (Err Torn) at_rest (λ h. cc h) in
            let s = (record_decides true).torn bytes k.1 in
            let t = kept_spelled version records s.0 k.0 s.2 in
            (s.0, s.1, t.0, s.3, t.1 ∙ (ap (λ r. 75 ∷ r) s.4 ∙ ap (λ c. c ∷ (bytes ++ s.1)) (sym (eqb-true b 75 is))))
        | inr none ↦ cc (rw (other, neither, none) at e)
      ]
    ]
  ]
    where
      some_record : (bytes : List ℕ) → commit_at records bytes ≡ Err Torn → 0 < records
      some_record bytes e = elim (cases_lt 0 records) [
        | inl some ↦ some
        | inr none ↦ let is_zero : records ≡ 0 = omega (arith, none) in cc (sym (no_commit bytes) ∙ (ap (λ k. commit_at k bytes) (sym is_zero) ∙ e))
      ]

  asked_cut : (b : ℕ) (bytes : List ℕ) (text : List ℕ) (verdict : Verdict) (more : List ℕ) → length text ≤ text_limit → more ≢ []
      → 82 ∷ record_text (Recorded text verdict false) ≡ b ∷ (bytes ++ more) → event_at version records (b ∷ bytes) ≡ Err Torn
  unfolding event_at
  asked_cut b bytes text verdict more short some e =
      let first : 82 ≡ b = cc in
      let rest : record_text (Recorded text verdict false) ≡ bytes ++ more = cc in
      ap (λ c. event_at version records (c ∷ bytes)) (sym first)
      ∙ (record_decides false).cut bytes (Recorded text verdict false, more, (refl, short), some, rest)

  kept_cut : (b : ℕ) (bytes : List ℕ) (text : List ℕ) (verdict : Verdict) (more : List ℕ) → version ≡ 2 → length text ≤ text_limit → more ≢ []
      → 75 ∷ record_text (Recorded text verdict true) ≡ b ∷ (bytes ++ more) → event_at version records (b ∷ bytes) ≡ Err Torn
  unfolding event_at
  kept_cut b bytes text verdict more is short some e =
      let first : 75 ≡ b = cc in
      let rest : record_text (Recorded text verdict true) ≡ bytes ++ more = cc in
      ap (λ c. event_at version records (c ∷ bytes)) (sym first)
      ∙ (kept_there version bytes is ∙ (record_decides true).cut bytes (Recorded text verdict true, more, (refl, short), some, rest))

  commit_cut : (b : ℕ) (bytes : List ℕ) (number : ℕ) (more : List ℕ) → IsPositive records number → more ≢ []
      → 67 ∷ commit_text (Committed number) ≡ b ∷ (bytes ++ more) → event_at version records (b ∷ bytes) ≡ Err Torn
  unfolding event_at
  commit_cut b bytes number more p some e =
      let first : 67 ≡ b = cc in
      let rest : commit_text (Committed number) ≡ bytes ++ more = cc in
      ap (λ c. event_at version records (c ∷ bytes)) (sym first)
      ∙ (commit_decides records fits (omega (arith, p))).cut bytes (Committed number, more, p, some, rest)

  event_cut : (bytes : List ℕ) → Begins (MayFollow version records) event_text bytes → event_at version records bytes ≡ Err Torn
  unfolding event_at
  event_cut [] b = refl
  event_cut (c ∷ bytes) b = by_event b.0 b.1 b.2 b.3 b.4
    where
      by_event : (e : Event) (more : List ℕ) → MayFollow version records e → more ≢ [] → event_text e ≡ c ∷ (bytes ++ more)
          → event_at version records (c ∷ bytes) ≡ Err Torn
      by_event (Recorded text Yes false) more p some e = asked_cut c bytes text Yes more p.text some e
      by_event (Recorded text No false) more p some e = asked_cut c bytes text No more p.text some e
      by_event (Recorded text Yes true) more p some e = kept_cut c bytes text Yes more p.of_version p.text some e
      by_event (Recorded text No true) more p some e = kept_cut c bytes text No more p.of_version p.text some e
      by_event (Committed number) more p some e = commit_cut c bytes number more (p.names.0, p.names.1) some e

  -- events after so many records
  pub event_decides : Decides (MayFollow version records) event_text (event_at version records)
  event_decides = record { back = event_back; sound = event_sound; torn = event_torn; cut = event_cut }
