-- Heads: bytes begin with one head at most, and a digest is where its digits are.
use Rattle.std.proofs.Common.{◌≡◌, ◌≢◌, ◌⊎◌, inl, inr, ℕ, ◌*◌, ◌≤◌, List, [], ◌∷◌, ◌++◌, Option, Some, Result, Ok, Err, eqb, length, length-append}
use Rattle.std.proofs.Common.{take, drop, get_or, refl, sym, ap, ◌∙◌, arith, append_assoc, codes}
use Rattle.std.specs.Cmp.Lexicographic.{pointwise}
use Rattle.std.proofs.lemmas.Bool.{both_ways, cases_Bool}
use Rattle.std.proofs.lemmas.Bool.Decides.{Decides-eqb}
use Rattle.std.proofs.lemmas.Slice.Eq.{starts_is}
use Rattle.std.proofs.lemmas.List.{append_cancel_left, drop_at, take_at}
use Rattle.hex.specs.Hex.{encode_lower, decode_of, decode_sized, lower_digits}
use Rattle.hex.specs.declared.error.FromHexError.{FromHexError}
use Rattle.hex.proofs.HexLemmas.{decode_of-encode_lower, decode_of-ok, decode_sized-encode_lower, decode_sized-ok, decode_sized-twice, length-encode_with}
use Rattle.reduce_journal.specs.declared.digest.Digest.{Digest}
use Rattle.reduce_journal.specs.declared.head.Head.{Head}
use Rattle.reduce_journal.specs.declared.head.Head.TheVariants.{Version1, Version2}
use Rattle.reduce_journal.specs.Journal.{IsDigest, IsHead, LacksHead, head, head_text}

-- what a head of version 2 has before its digits
abbrev pub second : List ℕ
second = codes "perses-journal 2\nS "

-- the digits of a digest
pub digits_length : (d : Digest) → IsDigest d → length (encode_lower d.bytes) ≡ 64
digits_length d is = length-encode_with lower_digits d.bytes ∙ ap (λ (n : ℕ). 2 * n) is.0

-- the head, its digits and what follows, in this order
pub in_parts : (d : Digest) (rest : List ℕ) → head d ++ rest ≡ second ++ (encode_lower d.bytes ++ 10 ∷ rest)
in_parts d rest =
    append_assoc second (encode_lower d.bytes ++ 10 ∷ []) rest ∙ ap (λ (t : List ℕ). second ++ t) (append_assoc (encode_lower d.bytes) (10 ∷ []) rest)

-- digits determine the digest
same_digest : (d e : Digest) → IsDigest d → IsDigest e → encode_lower d.bytes ≡ encode_lower e.bytes → d ≡ e
same_digest d e p q same =
    let decoded : ◌≡◌ {A = Result (List ℕ) FromHexError} (Ok d.bytes) (Ok e.bytes) =
    sym (decode_of-encode_lower d.bytes p.1) ∙ (ap decode_of same ∙ decode_of-encode_lower e.bytes q.1) in
    let bytes : d.bytes ≡ e.bytes = cc decoded in
    λ i. record { bytes = bytes i }

two_seconds : (d e : Digest) (x y : List ℕ) → IsDigest d → IsDigest e → head d ++ x ≡ head e ++ y → (d ≡ e) × (x ≡ y)
two_seconds d e x y p q is =
    let after : encode_lower d.bytes ++ 10 ∷ x ≡ encode_lower e.bytes ++ 10 ∷ y =
    append_cancel_left second (encode_lower d.bytes ++ 10 ∷ x) (encode_lower e.bytes ++ 10 ∷ y) (sym (in_parts d x) ∙ (is ∙ in_parts e y)) in
    let digits : encode_lower d.bytes ≡ encode_lower e.bytes =
    sym (take_at (encode_lower d.bytes) (10 ∷ x) 64 (digits_length d p))
    ∙ (ap (take 64) after ∙ take_at (encode_lower e.bytes) (10 ∷ y) 64 (digits_length e q)) in
    let rest : 10 ∷ x ≡ 10 ∷ y =
    sym (drop_at (encode_lower d.bytes) (10 ∷ x) 64 (digits_length d p))
    ∙ (ap (drop 64) after ∙ drop_at (encode_lower e.bytes) (10 ∷ y) 64 (digits_length e q)) in
    (same_digest d e p q digits, cc rest)

-- the heads of the two versions differ in their sixteenth byte
not_both_versions : (d : Digest) (x y : List ℕ) → head_text Version1 ++ x ≡ head d ++ y → ⊥
not_both_versions d x y is =
    let differ : 49 ≡ 50 = ap (λ (bs : List ℕ). get_or bs 15 0) is in
    omega (arith, differ)

-- bytes begin with one head at most
pub one_head : (first other : Head) (x y : List ℕ) → IsHead first → IsHead other → head_text first ++ x ≡ head_text other ++ y → (first ≡ other) × (x ≡ y)
one_head Version1 Version1 x y p q is = (refl, append_cancel_left (head_text Version1) x y is)
one_head Version1 (Version2 e) x y p q is = absurd (not_both_versions e x y is)
one_head (Version2 d) Version1 x y p q is = absurd (not_both_versions d y x (sym is))
one_head (Version2 d) (Version2 e) x y p q is =
    let same : (d ≡ e) × (x ≡ y) = two_seconds d e x y p q is in
    (ap (λ (s : Digest). Version2 s) same.0, same.1)

-- where the digits of a head are
pub digits_at : (d : Digest) (rest bytes : List ℕ) → IsDigest d → bytes ≡ head d ++ rest → take 64 (drop 19 bytes) ≡ encode_lower d.bytes
digits_at d rest bytes is begins =
    ap (λ (bs : List ℕ). take 64 (drop 19 bs)) (begins ∙ in_parts d rest)
    ∙ (ap (take 64) (drop_at second (encode_lower d.bytes ++ 10 ∷ rest) 19 refl) ∙ take_at (encode_lower d.bytes) (10 ∷ rest) 64 (digits_length d is))

-- and there are as many bytes
pub digits_there : (d : Digest) (rest bytes : List ℕ) → IsDigest d → bytes ≡ head d ++ rest → 83 ≤ length bytes
digits_there d rest bytes is begins =
    omega (arith, ap length (begins ∙ in_parts d rest), length-append (encode_lower d.bytes) (10 ∷ rest), digits_length d is)

-- ---- each list of bytes begins with a head or lacks one

-- what decodes where the digits of a head are
pub decoded : (d : Digest) (rest bytes : List ℕ) → IsDigest d → bytes ≡ head d ++ rest → decode_sized (take 64 (drop 19 bytes)) 32 ≡ Ok d.bytes
decoded d rest bytes p begins =
    ap (λ (t : List ℕ). decode_sized t 32) (digits_at d rest bytes p begins) ∙ decode_sized-encode_lower d.bytes 32 p.0 p.1

pub lacks_both : (bytes : List ℕ) → ((rest : List ℕ) → bytes ≡ head_text Version1 ++ rest → ⊥)
    → ((d : Digest) (rest : List ℕ) → IsDigest d → bytes ≡ head d ++ rest → ⊥)
    → (first : Head) (rest : List ℕ) → IsHead first → bytes ≢ head_text first ++ rest
lacks_both bytes no_first no_second Version1 rest p begins = no_first rest begins
lacks_both bytes no_first no_second (Version2 d) rest p begins = no_second d rest p begins

-- what a digest is that was found where the digits of a head are
pub found_digest : (bytes : List ℕ) (d : Digest) → Some bytes ≡ Some d.bytes → ◌≡◌ {A = Option Digest} (Some (record { bytes = bytes })) (Some d)
found_digest bytes d found = let same : bytes ≡ d.bytes = cc found in λ i. Some (record { bytes = same i })

-- no head of another digest is there
pub lacks_other : (bytes : List ℕ) (one : Digest) → ((rest : List ℕ) → bytes ≡ head_text Version1 ++ rest → ⊥)
    → ((d : Digest) (rest : List ℕ) → IsDigest d → bytes ≡ head d ++ rest → ◌≡◌ {A = Option Digest} (Some one) (Some d))
    → ((rest : List ℕ) → bytes ≡ head one ++ rest → ⊥) → LacksHead bytes
lacks_other bytes one no_first all no_one =
    lacks_both bytes no_first
    (λ d rest p begins. let found = all d rest p begins in
    let same : one ≡ d = cc found in
    no_one rest (begins ∙ ap (λ (e : Digest). head e ++ rest) (sym same)))

abbrev HasHead : List ℕ → Type 0
HasHead bytes = (first : Head) × (rest : List ℕ) × IsHead first × (bytes ≡ head_text first ++ rest)

second_head : (bytes : List ℕ) → ((rest : List ℕ) → bytes ≡ head_text Version1 ++ rest → ⊥) → (r : Result (List ℕ) FromHexError)
    → decode_sized (take 64 (drop 19 bytes)) 32 ≡ r → HasHead bytes ⊎ LacksHead bytes
second_head bytes no_first (Err f) e =
    inr (lacks_both bytes no_first (λ d rest p begins. let no = sym e ∙ decoded d rest bytes p begins in cc no))
second_head bytes no_first (Ok found) e =
    let digits : List ℕ = take 64 (drop 19 bytes) in
    let two : length digits ≡ 2 * 32 = decode_sized-ok digits 32 found e in
    let ok = decode_of-ok digits found (sym (decode_sized-twice digits 32 two) ∙ e) in
    let d : Digest = record { bytes = found } in
    let digest : IsDigest d = (omega (arith, ok.2, two), ok.3) in
    let test = pointwise eqb (head d) (take (length (head d)) bytes) in
    let is = starts_is Decides-eqb bytes (head d) test refl in
    elim (cases_Bool test) [
      | inl there ↦ inl (Version2 d, drop (length (head d)) bytes, digest, is.0 there)
      | inr missing ↦ inr (lacks_both bytes no_first (λ other rest p begins.
          let answers : ◌≡◌ {A = Result (List ℕ) FromHexError} (Ok found) (Ok other.bytes) = sym e ∙ decoded other rest bytes p begins in
          let same : found ≡ other.bytes = cc answers in
          both_ways test missing (is.1 rest (begins ∙ ap (λ (bs : List ℕ). head (record { bytes = bs }) ++ rest) (sym same)))))
    ]

pub each_head : (bytes : List ℕ) → HasHead bytes ⊎ LacksHead bytes
each_head bytes =
    let test = pointwise eqb (head_text Version1) (take 17 bytes) in
    let is = starts_is Decides-eqb bytes (head_text Version1) test refl in
    elim (cases_Bool test) [
      | inl there ↦ inl (Version1, drop 17 bytes, tt, is.0 there)
      | inr missing ↦ second_head bytes (λ rest e. both_ways test missing (is.1 rest e)) (decode_sized (take 64 (drop 19 bytes)) 32) refl
    ]
