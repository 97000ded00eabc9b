-- From a symbol in an alternative of a normal form to the term that it is the symbol of.
use Rattle.std.proofs.Common.{◌≡◌, ◌⊎◌, inl, inr, ℕ, ◌+◌, List, [], ◌∷◌, ◌++◌, Option, Some, None, slice_get, refl, sym, ap, ◌∙◌, subst}
use Rattle.std.specs.List.{Contains}
use Rattle.grammar_tree.specs.Derives.{Term, Seq, Alts, rule, eof, done, next, none, or, DerivesSeq, DerivesAlts, by_eof, by_first, by_later}
use Rattle.grammar_tree.specs.Corners.{Begins, BeginsSeq, BeginsAlts, CanBeEmpty, and_base, and_rest, bases, new_rules, rest_of, rests, seq_new_rules}
use Rattle.normal_form.specs.declared.normal.Sym.{Sym}
use Rattle.normal_form.specs.NormalDerives.{NormalDerives, NormalDerivesSeq}
use Rattle.normal_form.specs.Numbering.{symbol, and_symbol, seq_symbols, alts_symbols, tail, base_symbols, rest_symbols}
use Rattle.normal_form.specs.Numbering as numbers
use Rattle.normal_form.proofs.Backward.{backward, backward_all}
use Rattle.normal_form.proofs.Forward.{all_inverse, rest_is}
use Rattle.normal_form.proofs.Lists.{Contains-nil, Contains-cases}
use Rattle.normal_form.proofs.Named.{closed_part, represents, represents_seq}
use Rattle.normal_form.proofs.Parts.{Setting, Known, KnownSeq, KnownAlts, first_of_alts, first_of_seq, rest_of_alts, rest_of_seq}
use Rattle.normal_form.proofs.Represents.{HasEachRule}

-- an element of a list, with what is before and after it
pub split_at : {X : Type 0} (xs : List X) (x : X) → Contains xs x → (before : List X) × (after : List X) × (xs ≡ before ++ x ∷ after)
split_at [] x c = absurd (Contains-nil x c)
split_at (y ∷ ys) x c = elim (Contains-cases x y ys c) [
  | inl e ↦ ([], ys, ap (λ z. z ∷ ys) (sym e))
  | inr d ↦ let more = split_at ys x d in (y ∷ more.0, more.1, ap (λ l. y ∷ l) more.2)
]

pub nil_has_none : {X : Type 0} (before : List X) (x : X) (after : List X) → [] ≡ before ++ x ∷ after → ⊥
nil_has_none [] x after e = absurd (cc)
nil_has_none (y ∷ before) x after e = absurd (cc)

pub both_nil : (u v : List ℕ) → u ++ v ≡ [] → (u ≡ []) × (v ≡ [])
both_nil [] v e = (refl, e)
both_nil (x ∷ u) v e = absurd (cc)

-- The symbol after these symbols of a sequence is that of a term that is known. Where they
-- can be empty, what can be first in the term can be first in the sequence.
pub record PartAt (S : Setting) (low high : ℕ) (s : Seq) (before : List Sym) (x : Sym) : Type 0 where
  pub number : ℕ
  pub term : Term
  pub is : x ≡ symbol S.numbers number term
  pub known : Known S low high number term
  pub begins : NormalDerivesSeq S.form before [] → (q : ℕ) → Begins S.bodies q term → BeginsSeq S.bodies q s

-- The alternative is that of a sequence that is known, which is one of the alternatives.
pub record AltAt (S : Setting) (low high : ℕ) (a : Alts) (alt : List Sym) : Type 0 where
  pub number : ℕ
  pub seq : Seq
  pub is : alt ≡ seq_symbols S.numbers number seq
  pub known : KnownSeq S low high number seq
  pub begins : (q : ℕ) → BeginsSeq S.bodies q seq → BeginsAlts S.bodies q a
  pub derives : (w : List ℕ) → DerivesSeq S.bodies seq w → DerivesAlts S.bodies a w

module _ (S : Setting) (has_each : HasEachRule S.bodies S.form S.numbers.own_rule) (low high : ℕ) where
  pub can_be_empty : (n : ℕ) (t : Term) → Known S low high n t → NormalDerives S.form (symbol S.numbers n t) [] → CanBeEmpty S.bodies t
  can_be_empty n t k d = backward has_each d t (represents S.bodies S.form S.numbers n t k.closed k.at)

  -- the first symbol of a sequence, or one after it
  part_next : (n : ℕ) (t : Term) (s : Seq) (x : Sym) (after : List Sym) → Known S low high n t →
      ((before : List Sym) → seq_symbols S.numbers (n + new_rules t) s ≡ before ++ x ∷ after → PartAt S low high s before x) →
      (before : List Sym) → symbol S.numbers n t ∷ seq_symbols S.numbers (n + new_rules t) s ≡ before ++ x ∷ after → PartAt S low high (next t s) before x
  part_next n t s x after known later [] e = record { number = n; term = t; is = cc; known = known; begins = λ d q h. inl h }
  part_next n t s x after known later (b ∷ before) e =
      let first : symbol S.numbers n t ≡ b = cc in
      let more : seq_symbols S.numbers (n + new_rules t) s ≡ before ++ x ∷ after = cc in
      let it = later before more in
      record {
        number = it.number;
        term = it.term;
        is = it.is;
        known = it.known;
        begins = λ d q h.
            let cut = all_inverse b before d refl in
            let nothing = both_nil cut.0 cut.1 (sym cut.2) in
            let P : List ℕ → Type 0 = λ w. NormalDerives S.form b w in
            let Q : List ℕ → Type 0 = λ w. NormalDerivesSeq S.form before w in
            let R : Sym → Type 0 = λ y. NormalDerives S.form y [] in
            inr (can_be_empty n t known (subst R (sym first) (subst P nothing.0 cut.3)), it.begins (subst Q nothing.1 cut.4) q h);
      }

  part_first : (n : ℕ) (t : Term) (s : Seq) (x : Sym) (before after : List Sym) → (t ≡ eof) ⊎ Known S low high n t →
      ((before : List Sym) → seq_symbols S.numbers (n + new_rules t) s ≡ before ++ x ∷ after → PartAt S low high s before x) →
      and_symbol t (symbol S.numbers n t) (seq_symbols S.numbers (n + new_rules t) s) ≡ before ++ x ∷ after → PartAt S low high (next t s) before x
  part_first n t s x before after (inl is_eof) later e =
      let P : Term → Type 0 = λ y. and_symbol y (symbol S.numbers n y) (seq_symbols S.numbers (n + new_rules t) s) ≡ before ++ x ∷ after in
      let it = later before (subst P is_eof e) in
      let Q : Term → Type 0 = λ y. CanBeEmpty S.bodies y in
      record { number = it.number; term = it.term; is = it.is; known = it.known; begins = λ d q h. inr (subst Q (sym is_eof) by_eof, it.begins d q h) }
  part_first n t s x before after (inr known) later e =
      part_next n t s x after known later before
      (sym (closed_part S.bodies (λ ks. slice_get S.form.sets (S.numbers.set_of ks) ≡ Some ks) t (symbol S.numbers n t)
      (seq_symbols S.numbers (n + new_rules t) s) known.closed) ∙ e)

  pub part_of : (n : ℕ) (s : Seq) (x : Sym) (before after : List Sym) → KnownSeq S low high n s → seq_symbols S.numbers n s ≡ before ++ x ∷ after
      → PartAt S low high s before x
  part_of n done x before after known e = absurd (nil_has_none before x after e)
  part_of n (next t s) x before after known e =
      part_first n t s x before after (first_of_seq S low high n t s known)
      (λ b h. part_of (n + new_rules t) s x b after (rest_of_seq S low high n t s known) h) e

-- what an alternative of the form derives, one of the alternatives of the grammar derives
pub alt_derives : (S : Setting) (has_each : HasEachRule S.bodies S.form S.numbers.own_rule) (low high : ℕ) (a : Alts) (alt : List Sym) (w : List ℕ)
    → AltAt S low high a alt → NormalDerivesSeq S.form alt w → DerivesAlts S.bodies a w
alt_derives S has_each low high a alt w it d =
    let P : List Sym → Type 0 = λ x. NormalDerivesSeq S.form x w in
    it.derives w (backward_all has_each (subst P it.is d) it.seq (represents_seq S.bodies S.form S.numbers it.number it.seq it.known.closed it.known.at))

module _ (S : Setting) (low high : ℕ) where
  later_alt : (s : Seq) (a : Alts) (alt : List Sym) → AltAt S low high a alt → AltAt S low high (or s a) alt
  later_alt s a alt h =
      record { number = h.number; seq = h.seq; is = h.is; known = h.known; begins = λ q b. inr (h.begins q b); derives = λ w d. by_later s a w (h.derives w d) }

  pub alt_of : (n : ℕ) (a : Alts) (alt : List Sym) → KnownAlts S low high n a → Contains (alts_symbols S.numbers n a) alt → AltAt S low high a alt
  alt_of n none alt known c = absurd (Contains-nil alt c)
  alt_of n (or s a) alt known c = elim (Contains-cases alt (seq_symbols S.numbers n s) (alts_symbols S.numbers (n + seq_new_rules s) a) c) [
    | inl e ↦ record { number = n; seq = s; is = e; known = first_of_alts S low high n s a known; begins = λ q b. inl b; derives = λ w d. by_first s a w d }
    | inr d ↦ later_alt s a alt (alt_of (n + seq_new_rules s) a alt (rest_of_alts S low high n s a known) d)
  ]

  -- a base
  base_first : (n : ℕ) (s : Seq) (b : Alts) (o : Option Seq) (more : List (List Sym)) (alt : List Sym) → KnownSeq S low high n s
      → (Contains more alt → AltAt S low high b alt) →
      Contains (numbers.with_base o (seq_symbols S.numbers n s) more) alt → AltAt S low high (and_base s o b) alt
  base_first n s b None more alt known later c = elim (Contains-cases alt (seq_symbols S.numbers n s) more c) [
    | inl e ↦ record { number = n; seq = s; is = e; known = known; begins = λ q h. inl h; derives = λ w d. by_first s b w d }
    | inr d ↦ later_alt s b alt (later d)
  ]
  base_first n s b (Some rest) more alt known later c = later c

  pub base_of : (r n : ℕ) (a : Alts) (alt : List Sym) → KnownAlts S low high n a → Contains (base_symbols S.numbers r n a) alt
      → AltAt S low high (bases r a) alt
  base_of r n none alt known c = absurd (Contains-nil alt c)
  base_of r n (or s a) alt known c =
      base_first n s (bases r a) (rest_of r s) (base_symbols S.numbers r (n + seq_new_rules s) a) alt (first_of_alts S low high n s a known)
      (base_of r (n + seq_new_rules s) a alt (rest_of_alts S low high n s a known)) c

  -- a rest
  rest_here : (r n : ℕ) (rest : Seq) (b : Alts) (alt : List Sym) (s : Seq) → s ≡ next (rule r) rest → KnownSeq S low high n s
      → alt ≡ tail (seq_symbols S.numbers n s) → AltAt S low high (or rest b) alt
  rest_here r n rest b alt s e known is =
      let P : Seq → Type 0 = λ x. KnownSeq S low high n x in
      record {
        number = n + new_rules (rule r);
        seq = rest;
        is = is ∙ ap (λ x. tail (seq_symbols S.numbers n x)) e;
        known = rest_of_seq S low high n (rule r) rest (subst P e known);
        begins = λ q h. inl h;
        derives = λ w d. by_first rest b w d;
      }

  rest_first : (r n : ℕ) (s : Seq) (b : Alts) (o : Option Seq) (more : List (List Sym)) (alt : List Sym) → rest_of r s ≡ o → KnownSeq S low high n s
      → (Contains more alt → AltAt S low high b alt) →
      Contains (numbers.with_rest o (seq_symbols S.numbers n s) more) alt → AltAt S low high (and_rest o b) alt
  rest_first r n s b None more alt e known later c = later c
  rest_first r n s b (Some rest) more alt e known later c = elim (Contains-cases alt (tail (seq_symbols S.numbers n s)) more c) [
    | inl is ↦ rest_here r n rest b alt s (rest_is r s rest e) known is
    | inr d ↦ later_alt rest b alt (later d)
  ]

  pub rest_alt : (r n : ℕ) (a : Alts) (alt : List Sym) → KnownAlts S low high n a → Contains (rest_symbols S.numbers r n a) alt
      → AltAt S low high (rests r a) alt
  rest_alt r n none alt known c = absurd (Contains-nil alt c)
  rest_alt r n (or s a) alt known c =
      rest_first r n s (rests r a) (rest_of r s) (rest_symbols S.numbers r (n + seq_new_rules s) a) alt refl (first_of_alts S low high n s a known)
      (rest_alt r (n + seq_new_rules s) a alt (rest_of_alts S low high n s a known)) c
