-- The terms of a checked grammar, each with the number of its first new rule: what is known of a term holds of its parts.
use Rattle.std.proofs.Common.{◌≡◌, ◌⊎◌, inl, inr, ℕ, zero, suc, ◌+◌, ◌<◌, ◌≤◌, ◌^◌, List, [], ◌∷◌, ◌++◌}
use Rattle.std.proofs.Common.{length, Some, None, slice_get, refl, ap, ◌∙◌, subst, arith}
use Rattle.grammar_tree.specs.Derives.{Term, Seq, Alts, kind, among, rule, block, opt, star, plus, eof, done, next, none, or}
use Rattle.grammar_tree.specs.Corners.{HasEmptyLoop, HasEmptyLoopSeq, HasEmptyLoopAlts, new_rules, seq_new_rules, alts_new_rules}
use Rattle.normal_form.specs.Form.{RuleForm, NormalForm}
use Rattle.normal_form.specs.Numbering.{Numbering, symbol, alts_symbols, term_rules, seq_rules, alts_rules}
use Rattle.normal_form.proofs.Closed.{IsClosed, IsClosedSeq, IsClosedAlts}
use Rattle.normal_form.proofs.Named.{At, At_left, At_right, IsThere, rules_length, seq_length}

-- Each kind in the term is one of so many.
abbrev mutual
  pub HasKinds : ℕ → Term → Type 0
  HasKinds n (kind k) = k < n
  HasKinds n (among ks) = Unit {0}
  HasKinds n (rule r) = Unit {0}
  HasKinds n (block a) = HasKindsAlts n a
  HasKinds n (opt t) = HasKinds n t
  HasKinds n (star t) = HasKinds n t
  HasKinds n (plus t) = HasKinds n t
  HasKinds n eof = Unit {0}

  pub HasKindsSeq : ℕ → Seq → Type 0
  HasKindsSeq n done = Unit {0}
  HasKindsSeq n (next t s) = HasKinds n t × HasKindsSeq n s

  pub HasKindsAlts : ℕ → Alts → Type 0
  HasKindsAlts n none = Unit {0}
  HasKindsAlts n (or s a) = HasKindsSeq n s × HasKindsAlts n a

-- how many terms and alternatives are in a term, itself included
abbrev mutual
  pub size : Term → ℕ
  size (kind k) = 1
  size (among ks) = 1
  size (rule r) = 1
  size (block a) = suc (alts_size a)
  size (opt t) = suc (size t)
  size (star t) = suc (size t)
  size (plus t) = suc (size t)
  size eof = 1

  pub seq_size : Seq → ℕ
  seq_size done = 0
  seq_size (next t s) = size t + seq_size s

  pub alts_size : Alts → ℕ
  alts_size none = 0
  alts_size (or s a) = suc (seq_size s + alts_size a)

-- A grammar with its normal form: its rules' alternatives, the form, the numbers of rules and sets, and how many kinds it has.
pub record Setting : Type 0 where
  pub bodies : List Alts
  pub form : NormalForm
  pub numbers : Numbering
  pub kinds : ℕ

-- The term's rules are in the form from the number n on, and before the number `high`; and what the check of the grammar says of the term.
pub record Known (S : Setting) (low high n : ℕ) (t : Term) : Type 0 where
  pub at : At S.form n (term_rules S.numbers n t)
  pub closed : IsClosed S.bodies (IsThere S.form S.numbers) t
  pub no_loop : ¬ HasEmptyLoop S.bodies t
  pub kinds : HasKinds S.kinds t
  pub small : size t < 2 ^ 32
  pub above : low ≤ n
  pub below : n + new_rules t ≤ high

pub record KnownSeq (S : Setting) (low high n : ℕ) (s : Seq) : Type 0 where
  pub at : At S.form n (seq_rules S.numbers n s)
  pub closed : IsClosedSeq S.bodies (IsThere S.form S.numbers) s
  pub no_loop : ¬ HasEmptyLoopSeq S.bodies s
  pub kinds : HasKindsSeq S.kinds s
  pub small : seq_size s < 2 ^ 32
  pub above : low ≤ n
  pub below : n + seq_new_rules s ≤ high

pub record KnownAlts (S : Setting) (low high n : ℕ) (a : Alts) : Type 0 where
  pub at : At S.form n (alts_rules S.numbers n a)
  pub closed : IsClosedAlts S.bodies (IsThere S.form S.numbers) a
  pub no_loop : ¬ HasEmptyLoopAlts S.bodies a
  pub kinds : HasKindsAlts S.kinds a
  pub small : alts_size a < 2 ^ 32
  pub above : low ≤ n
  pub below : n + alts_new_rules a ≤ high

module _ (S : Setting) (low high : ℕ) where
  pub of_block : (n : ℕ) (a : Alts) → Known S low high n (block a) → KnownAlts S low high (n + 1) a
  of_block n a k =
      record { at = k.at.1; closed = k.closed; no_loop = k.no_loop; kinds = k.kinds; small = omega arith; above = omega arith; below = omega arith }

  pub of_opt : (n : ℕ) (t : Term) → Known S low high n (opt t) → Known S low high (n + 1) t
  of_opt n t k = record { at = k.at.1; closed = k.closed; no_loop = k.no_loop; kinds = k.kinds; small = omega arith; above = omega arith; below = omega arith }

  pub of_star : (n : ℕ) (t : Term) → Known S low high n (star t) → Known S low high (n + 1) t
  of_star n t k =
      record {
        at = k.at.1;
        closed = k.closed;
        no_loop = λ h. k.no_loop (inr h);
        kinds = k.kinds;
        small = omega arith;
        above = omega arith;
        below = omega arith;
      }

  pub of_plus : (n : ℕ) (t : Term) → Known S low high n (plus t) → Known S low high (n + 1) t
  of_plus n t k =
      record {
        at = k.at.1;
        closed = k.closed;
        no_loop = λ h. k.no_loop (inr h);
        kinds = k.kinds;
        small = omega arith;
        above = omega arith;
        below = omega arith;
      }

  first_known : (n : ℕ) (t : Term) (s : Seq) → KnownSeq S low high n (next t s) → IsClosed S.bodies (IsThere S.form S.numbers) t → Known S low high n t
  first_known n t s k c =
      record {
        at = At_left S.form n (term_rules S.numbers n t) (seq_rules S.numbers (n + new_rules t) s) k.at;
        closed = c;
        no_loop = λ h. k.no_loop (inl h);
        kinds = k.kinds.0;
        small = omega arith;
        above = omega arith;
        below = omega arith;
      }

  -- `EOF`, which is left out, or a term that is known
  pub first_of_seq : (n : ℕ) (t : Term) (s : Seq) → KnownSeq S low high n (next t s) → (t ≡ eof) ⊎ Known S low high n t
  first_of_seq n t s k = go k.closed.0
    where
      go : (t ≡ eof) ⊎ IsClosed S.bodies (IsThere S.form S.numbers) t → (t ≡ eof) ⊎ Known S low high n t
      go (inl e) = inl e
      go (inr c) = inr (first_known n t s k c)

  pub rest_of_seq : (n : ℕ) (t : Term) (s : Seq) → KnownSeq S low high n (next t s) → KnownSeq S low high (n + new_rules t) s
  rest_of_seq n t s k =
      record {
        at =
            At_right S.form n (term_rules S.numbers n t) (seq_rules S.numbers (n + new_rules t) s) (n + new_rules t)
            (ap (λ x. n + x) (rules_length S.numbers n t)) k.at;
        closed = k.closed.1;
        no_loop = λ h. k.no_loop (inr h);
        kinds = k.kinds.1;
        small = omega arith;
        above = omega arith;
        below = omega arith;
      }

  pub first_of_alts : (n : ℕ) (s : Seq) (a : Alts) → KnownAlts S low high n (or s a) → KnownSeq S low high n s
  first_of_alts n s a k =
      record {
        at = At_left S.form n (seq_rules S.numbers n s) (alts_rules S.numbers (n + seq_new_rules s) a) k.at;
        closed = k.closed.0;
        no_loop = λ h. k.no_loop (inl h);
        kinds = k.kinds.0;
        small = omega arith;
        above = omega arith;
        below = omega arith;
      }

  pub rest_of_alts : (n : ℕ) (s : Seq) (a : Alts) → KnownAlts S low high n (or s a) → KnownAlts S low high (n + seq_new_rules s) a
  rest_of_alts n s a k =
      record {
        at =
            At_right S.form n (seq_rules S.numbers n s) (alts_rules S.numbers (n + seq_new_rules s) a) (n + seq_new_rules s)
            (ap (λ x. n + x) (seq_length S.numbers n s)) k.at;
        closed = k.closed.1;
        no_loop = λ h. k.no_loop (inr h);
        kinds = k.kinds.1;
        small = omega arith;
        above = omega arith;
        below = omega arith;
      }

-- The rule is in these rules, at an index.
pub get_append : (xs ys : List RuleForm) (k : ℕ) (f : RuleForm) → slice_get (xs ++ ys) k ≡ Some f → (slice_get xs k ≡ Some f)
    ⊎ ((j : ℕ) × (k ≡ length xs + j) × (slice_get ys j ≡ Some f))
get_append [] ys k f e = inr (k, omega arith, e)
get_append (x ∷ xs) ys zero f e = inl e
get_append (x ∷ xs) ys (suc k) f e = elim (get_append xs ys k f e) [
  | inl h ↦ inl h
  | inr h ↦ inr (h.0, omega (arith, h.1), h.2)
]

-- The rule with this number and this form begins the rules of a term that is known.
pub record Begun (S : Setting) (low high m : ℕ) (f : RuleForm) : Type 0 where
  pub term : Term
  pub known : Known S low high m term
  pub more : List RuleForm
  pub rules : term_rules S.numbers m term ≡ f ∷ more

module _ (S : Setting) (low high : ℕ) where
  -- the first rule of a term, or one of those after it
  begun_here : (n k : ℕ) (t : Term) (x : RuleForm) (xs : List RuleForm) (f : RuleForm) (m : ℕ) → Known S low high n t → term_rules S.numbers n t ≡ x ∷ xs
      → n + k ≡ m → slice_get (x ∷ xs) k ≡ Some f →
      ((j : ℕ) → n + 1 + j ≡ m → slice_get xs j ≡ Some f → Begun S low high m f) → Begun S low high m f
  begun_here n zero t x xs f m known e is at later =
      let same : x ≡ f = cc in
      let here : n ≡ m = omega (arith, is) in
      let P : ℕ → Type 0 = λ i. Begun S low high i f in
      subst P here (record { term = t; known = known; more = xs; rules = e ∙ ap (λ y. y ∷ xs) same })
  begun_here n (suc k) t x xs f m known e is at later = later k (omega (arith, is)) at

  in_first : (n k : ℕ) (t : Term) (f : RuleForm) (m : ℕ) → (t ≡ eof) ⊎ Known S low high n t → slice_get (term_rules S.numbers n t) k ≡ Some f
      → (Known S low high n t → Begun S low high m f) → Begun S low high m f
  in_first n k t f m (inl e) at found =
      let P : Term → Type 0 = λ x. slice_get (term_rules S.numbers n x) k ≡ Some f in
      let nothing : None ≡ Some f = subst P e at in absurd (cc)
  in_first n k t f m (inr known) at found = found known

  mutual
    pub in_term : (n k : ℕ) (t : Term) (f : RuleForm) (m : ℕ) → Known S low high n t → n + k ≡ m → slice_get (term_rules S.numbers n t) k ≡ Some f
        → Begun S low high m f
    in_term n k (kind _) f m known is at = absurd (cc)
    in_term n k (among _) f m known is at = absurd (cc)
    in_term n k (rule _) f m known is at = absurd (cc)
    in_term n k (block a) f m known is at =
        begun_here n k (block a) (RuleForm.regular (alts_symbols S.numbers (n + 1) a)) (alts_rules S.numbers (n + 1) a) f m known refl is at
        (λ j e h. in_alts (n + 1) j a f m (of_block S low high n a known) e h)
    in_term n k (opt t) f m known is at =
        begun_here n k (opt t) (RuleForm.opt (symbol S.numbers (n + 1) t)) (term_rules S.numbers (n + 1) t) f m known refl is at
        (λ j e h. in_term (n + 1) j t f m (of_opt S low high n t known) e h)
    in_term n k (star t) f m known is at =
        begun_here n k (star t) (RuleForm.star (symbol S.numbers (n + 1) t)) (term_rules S.numbers (n + 1) t) f m known refl is at
        (λ j e h. in_term (n + 1) j t f m (of_star S low high n t known) e h)
    in_term n k (plus t) f m known is at =
        begun_here n k (plus t) (RuleForm.plus (symbol S.numbers (n + 1) t)) (term_rules S.numbers (n + 1) t) f m known refl is at
        (λ j e h. in_term (n + 1) j t f m (of_plus S low high n t known) e h)
    in_term n k eof f m known is at = absurd (cc)

    in_seq : (n k : ℕ) (s : Seq) (f : RuleForm) (m : ℕ) → KnownSeq S low high n s → n + k ≡ m → slice_get (seq_rules S.numbers n s) k ≡ Some f
        → Begun S low high m f
    in_seq n k done f m known is at = absurd (cc)
    in_seq n k (next t s) f m known is at = elim (get_append (term_rules S.numbers n t) (seq_rules S.numbers (n + new_rules t) s) k f at) [
      | inl h ↦ in_first n k t f m (first_of_seq S low high n t s known) h (λ first. in_term n k t f m first is h)
      | inr h ↦ in_seq (n + new_rules t) h.0 s f m (rest_of_seq S low high n t s known) (omega (arith, is, h.1, rules_length S.numbers n t)) h.2
    ]

    pub in_alts : (n k : ℕ) (a : Alts) (f : RuleForm) (m : ℕ) → KnownAlts S low high n a → n + k ≡ m → slice_get (alts_rules S.numbers n a) k ≡ Some f
        → Begun S low high m f
    in_alts n k none f m known is at = absurd (cc)
    in_alts n k (or s a) f m known is at = elim (get_append (seq_rules S.numbers n s) (alts_rules S.numbers (n + seq_new_rules s) a) k f at) [
      | inl h ↦ in_seq n k s f m (first_of_alts S low high n s a known) is h
      | inr h ↦ in_alts (n + seq_new_rules s) h.0 a f m (rest_of_alts S low high n s a known) (omega (arith, is, h.1, seq_length S.numbers n s)) h.2
    ]
