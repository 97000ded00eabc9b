-- Readers that decide of any bytes whether they begin with a text of some values, and whether they are torn.
use Rattle.std.proofs.Common.{◌≡◌, ◌≢◌, inl, inr, ℕ, List, [], ◌∷◌, ◌++◌, Ok, Err, refl, sym, ap, ◌∙◌, append_assoc, eqb, subst}
use Rattle.std.proofs.lemmas.Bool.{cases_Bool, eq-eqb, eqb-true}
use Rattle.reduce_journal.specs.declared.numbers.Mismatch.TheVariants.{Torn}
use Rattle.reduce_journal.specs.inner.Reading.{Parse, ◌>>=◌, after}
use Rattle.reduce_journal.proofs.Lists.{cut_apart, same_found, some_before, step_ok, step_err}

-- the bytes are the beginning of the text of such a value, and not all of it
abbrev pub Begins : {V : Type 0} → (V → Type 0) → (V → List ℕ) → List ℕ → Type 0
Begins {V} P text bytes = (v : V) × (more : List ℕ) × P v × (more ≢ []) × (text v ≡ bytes ++ more)

-- a reader of the values with P, whose texts these are
pub record Decides {V : Type 0} (P : V → Type 0) (text : V → List ℕ) (read : List ℕ → Parse V) : Type 0 where
  pub back : (v : V) (rest : List ℕ) → P v → read (text v ++ rest) ≡ Ok (v, rest)
  pub sound : (bytes : List ℕ) (found : V × List ℕ) → read bytes ≡ Ok found → P found.0 × (bytes ≡ text found.0 ++ found.1)
  pub torn : (bytes : List ℕ) → read bytes ≡ Err Torn → Begins P text bytes
  pub cut : (bytes : List ℕ) → Begins P text bytes → read bytes ≡ Err Torn

-- one reader after another: the value has a part, whose text comes first
module _ {A V : Type 0} (PA : A → Type 0) (text_a : A → List ℕ) (read_a : List ℕ → Parse A)
    (P : V → Type 0) (part : V → A) (tail : V → List ℕ) (read : A → List ℕ → Parse V)
    (first : Decides PA text_a read_a) (has : (v : V) → P v → PA (part v))
    (later : (a : A) → PA a → Decides (λ v. (part v ≡ a) × P v) tail (read a))
    (some : (a : A) → PA a → (v : V) × (part v ≡ a) × P v) where
  pub in_order : Decides P (λ v. text_a (part v) ++ tail v) (λ bytes. read_a bytes >>= λ found. read found.0 found.1)
  in_order = record {
    back = λ v rest p.
        ap (λ bytes. read_a bytes >>= λ found. read found.0 found.1) (append_assoc (text_a (part v)) (tail v) rest)
        ∙ (ap (λ r. r >>= λ found. read found.0 found.1) (first.back (part v) (tail v ++ rest) (has v p))
        ∙ (later (part v) (has v p)).back v rest (refl, p));
    sound = λ bytes found e.
        let b = step_ok _ _ _ e in
        let s = first.sound bytes b.0 b.1 in
        let t = (later b.0.0 s.0).sound b.0.1 found b.2 in (
          t.0.1,
          s.1 ∙ (ap (λ a. text_a a ++ b.0.1) (sym t.0.0)
              ∙ (ap (λ r. text_a (part found.0) ++ r) t.1 ∙ sym (append_assoc (text_a (part found.0)) (tail found.0) found.1))),
        );
    torn = λ bytes e. elim (step_err _ _ _ e) [
      | inl h ↦
          let b = first.torn bytes h in
          let v = some b.0 b.2 in (
            v.0,
            b.1 ++ tail v.0,
            v.2,
            some_before b.1 (tail v.0) b.3,
            ap (λ a. text_a a ++ tail v.0) v.1 ∙ (ap (λ t. t ++ tail v.0) b.4 ∙ append_assoc bytes b.1 (tail v.0)),
          )
      | inr h ↦
          let s = first.sound bytes h.0 h.1 in
          let b = (later h.0.0 s.0).torn h.0.1 h.2 in (
            b.0,
            b.1,
            b.2.1,
            b.3,
            ap (λ a. text_a a ++ tail b.0) b.2.0 ∙ (ap (λ t. text_a h.0.0 ++ t) b.4
                ∙ (sym (append_assoc (text_a h.0.0) h.0.1 b.1) ∙ ap (λ bs. bs ++ b.1) (sym s.1))),
          )
    ];
    cut = λ bytes b. elim (cut_apart (text_a (part b.0)) (tail b.0) bytes b.1 b.4) [
      | inl r ↦ ap (λ x. x >>= λ found. read found.0 found.1) (first.cut bytes (part b.0, r.0, has b.0 b.2, r.1, r.2))
      | inr r ↦
          ap (λ bs. read_a bs >>= λ found. read found.0 found.1) r.1
          ∙ (ap (λ x. x >>= λ found. read found.0 found.1) (first.back (part b.0) r.0 (has b.0 b.2))
          ∙ (later (part b.0) (has b.0 b.2)).cut r.0 (b.0, b.1, (refl, b.2), b.3, r.2))
    ];
  }

-- the bytes after a byte that is there
pub after_there : (byte : ℕ) (rest : List ℕ) → after byte (byte ∷ rest) ≡ Ok rest
after_there byte rest = rw (eq-eqb byte byte refl) refl

pub after_ok : (byte : ℕ) (bytes rest : List ℕ) → after byte bytes ≡ Ok rest → bytes ≡ byte ∷ rest
after_ok byte [] rest e = cc e
after_ok byte (b ∷ bytes) rest e = elim (cases_Bool (eqb b byte)) [
  | inl same ↦ let is : b ≡ byte = eqb-true b byte same in let r = rw same at e in cc
  | inr other ↦ cc (rw other at e)
]

pub after_torn : (byte : ℕ) (bytes : List ℕ) → after byte bytes ≡ Err Torn → bytes ≡ []
after_torn byte [] e = refl
after_torn byte (b ∷ bytes) e = elim (cases_Bool (eqb b byte)) [
  | inl same ↦ cc (rw same at e)
  | inr other ↦ cc (rw other at e)
]

-- a byte before the texts
module _ {V : Type 0} (byte : ℕ) (P : V → Type 0) (text : V → List ℕ) (read : List ℕ → Parse V) (some : (v : V) × P v) (later : Decides P text read) where
  pub after_byte : Decides P (λ v. byte ∷ text v) (λ bytes. after byte bytes >>= read)
  after_byte = record {
    back = λ v rest p. ap (λ r. r >>= read) (after_there byte (text v ++ rest)) ∙ later.back v rest p;
    sound = λ bytes found e.
        let b = step_ok _ _ _ e in
        let s = later.sound b.0 found b.2 in
        (s.0, after_ok byte bytes b.0 b.1 ∙ ap (λ r. byte ∷ r) s.1);
    torn = λ bytes e. elim (step_err _ _ _ e) [
      | inl h ↦ (some.0, byte ∷ text some.0, some.1, (λ n. cc n), ap (λ bs. bs ++ byte ∷ text some.0) (sym (after_torn byte bytes h)))
      | inr h ↦
          let b = later.torn h.0 h.2 in
          (b.0, b.1, b.2, b.3, ap (λ t. byte ∷ t) b.4 ∙ ap (λ bs. bs ++ b.1) (sym (after_ok byte bytes h.0 h.1)))
    ];
    cut = cut_after;
  }
    where
      cut_after : (bytes : List ℕ) → Begins P (λ v. byte ∷ text v) bytes → (after byte bytes >>= read) ≡ Err Torn
      cut_after [] b = refl
      cut_after (x ∷ bytes) b =
          let e = b.4 in
          let same : byte ≡ x = cc in
          let rest : text b.0 ≡ bytes ++ b.1 = cc in
          ap (λ y. after byte (y ∷ bytes) >>= read) (sym same) ∙ (ap (λ r. r >>= read) (after_there byte bytes) ∙ later.cut bytes (b.0, b.1, b.2, b.3, rest))

-- the same texts as those of other values
module _ {U V : Type 0} (PU : U → Type 0) (text : U → List ℕ) (read : List ℕ → Parse U) (P : V → Type 0) (of : V → U) (make : U → V)
    (has : (v : V) → P v → PU (of v) × (make (of v) ≡ v)) (gives : (u : U) → PU u → P (make u) × (of (make u) ≡ u)) (inner : Decides PU text read) where
  pub renamed : Decides P (λ v. text (of v)) (λ bytes. read bytes >>= λ found. Ok (make found.0, found.1))
  renamed = record {
    back = λ v rest p.
        ap (λ r. r >>= λ found. Ok (make found.0, found.1)) (inner.back (of v) rest (has v p).0)
        ∙ ap (λ w. Ok (w, rest)) (has v p).1;
    sound = λ bytes found e.
        let b = step_ok _ _ _ e in
        let s = inner.sound bytes b.0 b.1 in
        let g = gives b.0.0 s.0 in
        let value : make b.0.0 ≡ found.0 = ap (λ (r : V × List ℕ). r.0) (same_found _ _ b.2) in
        let rest : b.0.1 ≡ found.1 = ap (λ (r : V × List ℕ). r.1) (same_found _ _ b.2) in
        (subst P value g.0, s.1 ∙ (ap (λ u. text u ++ b.0.1) (sym g.1) ∙ (ap (λ w. text (of w) ++ b.0.1) value ∙ ap (λ r. text (of found.0) ++ r) rest)));
    torn = λ bytes e. elim (step_err _ _ _ e) [
      | inl h ↦
          let b = inner.torn bytes h in
          let g = gives b.0 b.2 in
          (make b.0, b.1, g.0, b.3, ap text g.1 ∙ b.4)
      | inr h ↦ cc (h.2)
    ];
    cut = λ bytes b. ap (λ r. r >>= λ found. Ok (make found.0, found.1)) (inner.cut bytes (of b.0, b.1, (has b.0 b.2).0, b.3, b.4));
  }
