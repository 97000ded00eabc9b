-- The rules of the normal form have the shape of the terms that made them.
use Rattle.std.proofs.Common.{◌≡◌, ℕ, zero, suc, ◌+◌, ◌⊎◌, inl, inr, List, [], ◌∷◌, ◌++◌, length, take, Option, Some, None}
use Rattle.std.proofs.Common.{slice_get, refl, sym, ap, ◌∙◌, subst, arith, length-append, append_assoc}
use Rattle.grammar_tree.specs.Derives.{Term, Seq, Alts, kind, among, rule, block, opt, star, plus, eof, done, next, none, or}
use Rattle.grammar_tree.specs.Corners.{new_rules, seq_new_rules, alts_new_rules, and_base, and_rest, rest_of, bases, rests, group_size, normal_count_from}
use Rattle.normal_form.specs.declared.normal.Sym.{Sym}
use Rattle.normal_form.specs.declared.normal.Sym.TheVariants.{Rule}
use Rattle.normal_form.specs.Form.{RuleForm, NormalForm}
use Rattle.normal_form.specs.Numbering.{Numbering, symbol, and_symbol, seq_symbols, alts_symbols, term_rules, seq_rules}
use Rattle.normal_form.specs.Numbering.{alts_rules, tail, base_symbols, rest_symbols, group_of, group, groups}
use Rattle.normal_form.specs.Numbering as numbers
use Rattle.normal_form.proofs.Represents.{Represents, RepresentsSeq, RepresentsAlts, IsPlainRule, IsRecursiveRule}
use Rattle.grammar_check_recursion.proofs.Lent.{head_count}
use Rattle.normal_form.proofs.Closed.{IsClosed, IsClosedSeq, IsClosedAlts}
use Rattle.normal_form.proofs.Forward.{rest_is}

-- these rules are at this number and after it
abbrev pub At : NormalForm → ℕ → List RuleForm → Type 0
At N n [] = Unit {0}
At N n (x ∷ xs) = (slice_get N.rules n ≡ Some x) × At N (n + 1) xs

At_move : (N : NormalForm) (m n : ℕ) (xs : List RuleForm) → m ≡ n → At N m xs → At N n xs
At_move N m n xs e h = let P : ℕ → Type 0 = λ k. At N k xs in subst P e h

get_move : (N : NormalForm) (m n : ℕ) (x : RuleForm) → m ≡ n → slice_get N.rules m ≡ Some x → slice_get N.rules n ≡ Some x
get_move N m n x e h = let P : ℕ → Type 0 = λ k. slice_get N.rules k ≡ Some x in subst P e h

pub At_left : (N : NormalForm) (n : ℕ) (xs ys : List RuleForm) → At N n (xs ++ ys) → At N n xs
At_left N n [] ys h = tt
At_left N n (x ∷ xs) ys (e, h) = (e, At_left N (n + 1) xs ys h)

pub At_right : (N : NormalForm) (n : ℕ) (xs ys : List RuleForm) (m : ℕ) → n + length xs ≡ m → At N n (xs ++ ys) → At N m ys
At_right N n [] ys m e h = At_move N n m ys (omega (arith, e)) h
At_right N n (x ∷ xs) ys m e (y, h) = At_right N (n + 1) xs ys m (omega (arith, e)) h

mutual
  pub rules_length : (M : Numbering) (n : ℕ) (t : Term) → length (term_rules M n t) ≡ new_rules t
  rules_length M n (kind k) = refl
  rules_length M n (among ks) = refl
  rules_length M n (rule r) = refl
  rules_length M n (block a) = omega (arith, alts_length M (n + 1) a)
  rules_length M n (opt t) = omega (arith, rules_length M (n + 1) t)
  rules_length M n (star t) = omega (arith, rules_length M (n + 1) t)
  rules_length M n (plus t) = omega (arith, rules_length M (n + 1) t)
  rules_length M n eof = refl

  pub seq_length : (M : Numbering) (n : ℕ) (s : Seq) → length (seq_rules M n s) ≡ seq_new_rules s
  seq_length M n done = refl
  seq_length M n (next t s) =
      length-append (term_rules M n t) (seq_rules M (n + new_rules t) s) ∙ omega (arith, rules_length M n t, seq_length M (n + new_rules t) s)

  pub alts_length : (M : Numbering) (n : ℕ) (a : Alts) → length (alts_rules M n a) ≡ alts_new_rules a
  alts_length M n none = refl
  alts_length M n (or s a) =
      length-append (seq_rules M n s) (alts_rules M (n + seq_new_rules s) a) ∙ omega (arith, seq_length M n s, alts_length M (n + seq_new_rules s) a)

pub closed_part : (G : List Alts) (K : List ℕ → Type 0) (t : Term) (x : Sym) (ss : List Sym) → IsClosed G K t → and_symbol t x ss ≡ x ∷ ss
closed_part G K eof x ss h = absurd h
closed_part G K (kind k) x ss h = refl
closed_part G K (among ks) x ss h = refl
closed_part G K (rule r) x ss h = refl
closed_part G K (block a) x ss h = refl
closed_part G K (opt t) x ss h = refl
closed_part G K (star t) x ss h = refl
closed_part G K (plus t) x ss h = refl

-- the set has its number
abbrev pub IsThere : NormalForm → Numbering → List ℕ → Type 0
IsThere N M ks = slice_get N.sets (M.set_of ks) ≡ Some ks

module _ (G : List Alts) (N : NormalForm) (M : Numbering) where
  represents_next : (n : ℕ) (t : Term) (s : Seq) (ss : List Sym) → (t ≡ eof) ⊎ IsClosed G (IsThere N M) t
      → (IsClosed G (IsThere N M) t → Represents G N M.own_rule (symbol M n t) t) → RepresentsSeq G N M.own_rule ss s
      → RepresentsSeq G N M.own_rule (and_symbol t (symbol M n t) ss) (next t s)
  represents_next n t s ss (inl e) h k =
      let P : Term → Type 0 = λ x. RepresentsSeq G N M.own_rule (and_symbol x (symbol M n x) ss) (next x s) in subst P (sym e) (inl (refl, k))
  represents_next n t s ss (inr c) h k =
      let P : List Sym → Type 0 = λ x. RepresentsSeq G N M.own_rule x (next t s) in
      subst P (sym (closed_part G (IsThere N M) t (symbol M n t) ss c)) (inr (symbol M n t, ss, refl, h c, k))

  mutual
    pub represents : (n : ℕ) (t : Term) → IsClosed G (IsThere N M) t → At N n (term_rules M n t) → Represents G N M.own_rule (symbol M n t) t
    represents n (kind k) c h = refl
    represents n (among ks) c h = (M.set_of ks, refl, c)
    represents n (rule r) c h = (refl, c)
    represents n (block a) c h = (n, alts_symbols M (n + 1) a, refl, h.0, represents_alts (n + 1) a c h.1)
    represents n (opt t) c h = (n, symbol M (n + 1) t, refl, h.0, represents (n + 1) t c h.1)
    represents n (star t) c h = (n, symbol M (n + 1) t, refl, h.0, represents (n + 1) t c h.1)
    represents n (plus t) c h = (n, symbol M (n + 1) t, refl, h.0, represents (n + 1) t c h.1)
    represents n eof c h = absurd c

    pub represents_seq : (n : ℕ) (s : Seq) → IsClosedSeq G (IsThere N M) s → At N n (seq_rules M n s) → RepresentsSeq G N M.own_rule (seq_symbols M n s) s
    represents_seq n done c h = refl
    represents_seq n (next t s) (c, d) h =
        represents_next n t s (seq_symbols M (n + new_rules t) s) c (λ b. represents n t b (At_left N n (term_rules M n t) (seq_rules M (n + new_rules t) s) h))
        (represents_seq (n + new_rules t) s d (At_right N n (term_rules M n t) (seq_rules M (n + new_rules t) s) (n + new_rules t)
        (ap (λ k. n + k) (rules_length M n t)) h))

    pub represents_alts : (n : ℕ) (a : Alts) → IsClosedAlts G (IsThere N M) a → At N n (alts_rules M n a) → RepresentsAlts G N M.own_rule (alts_symbols M n a) a
    represents_alts n none c h = refl
    represents_alts n (or s a) (c, d) h = (
      seq_symbols M n s,
      alts_symbols M (n + seq_new_rules s) a,
      refl,
      represents_seq n s c (At_left N n (seq_rules M n s) (alts_rules M (n + seq_new_rules s) a) h),
      represents_alts (n + seq_new_rules s) a d
          (At_right N n (seq_rules M n s) (alts_rules M (n + seq_new_rules s) a) (n + seq_new_rules s) (ap (λ k. n + k) (seq_length M n s)) h),
    )

  -- The bases.
  base_first : (o : Option Seq) (s : Seq) (b : Alts) (ss : List Sym) (more : List (List Sym)) → RepresentsSeq G N M.own_rule ss s
      → RepresentsAlts G N M.own_rule more b → RepresentsAlts G N M.own_rule (numbers.with_base o ss more) (and_base s o b)
  base_first None s b ss more h k = (ss, more, refl, h, k)
  base_first (Some rest) s b ss more h k = k

  base_represented : (r n : ℕ) (a : Alts) → IsClosedAlts G (IsThere N M) a → At N n (alts_rules M n a)
      → RepresentsAlts G N M.own_rule (base_symbols M r n a) (bases r a)
  base_represented r n none c h = refl
  base_represented r n (or s a) (c, d) h =
      base_first (rest_of r s) s (bases r a) (seq_symbols M n s) (base_symbols M r (n + seq_new_rules s) a)
      (represents_seq n s c (At_left N n (seq_rules M n s) (alts_rules M (n + seq_new_rules s) a) h))
      (base_represented r (n + seq_new_rules s) a d
      (At_right N n (seq_rules M n s) (alts_rules M (n + seq_new_rules s) a) (n + seq_new_rules s) (ap (λ k. n + k) (seq_length M n s)) h))

  -- The rests.
  tail_represented : (r : ℕ) (rest : Seq) (ss : List Sym) → RepresentsSeq G N M.own_rule ss (next (rule r) rest) → RepresentsSeq G N M.own_rule (tail ss) rest
  tail_represented r rest ss (inl (e, h)) = absurd (cc)
  tail_represented r rest ss (inr (s, more, e, h, k)) =
      let P : List Sym → Type 0 = λ x. RepresentsSeq G N M.own_rule x rest in subst P (sym (ap tail e)) k

  rest_first : (r : ℕ) (o : Option Seq) (s : Seq) (b : Alts) (ss : List Sym) (more : List (List Sym)) → rest_of r s ≡ o → RepresentsSeq G N M.own_rule ss s
      → RepresentsAlts G N M.own_rule more b → RepresentsAlts G N M.own_rule (numbers.with_rest o ss more) (and_rest o b)
  rest_first r None s b ss more e h k = k
  rest_first r (Some rest) s b ss more e h k =
      let P : Seq → Type 0 = λ x. RepresentsSeq G N M.own_rule ss x in (tail ss, more, refl, tail_represented r rest ss (subst P (rest_is r s rest e) h), k)

  rest_represented : (r n : ℕ) (a : Alts) → IsClosedAlts G (IsThere N M) a → At N n (alts_rules M n a)
      → RepresentsAlts G N M.own_rule (rest_symbols M r n a) (rests r a)
  rest_represented r n none c h = refl
  rest_represented r n (or s a) (c, d) h =
      rest_first r (rest_of r s) s (rests r a) (seq_symbols M n s) (rest_symbols M r (n + seq_new_rules s) a) refl
      (represents_seq n s c (At_left N n (seq_rules M n s) (alts_rules M (n + seq_new_rules s) a) h))
      (rest_represented r (n + seq_new_rules s) a d
      (At_right N n (seq_rules M n s) (alts_rules M (n + seq_new_rules s) a) (n + seq_new_rules s) (ap (λ k. n + k) (seq_length M n s)) h))

  pub group_represented : (r n : ℕ) (a : Alts) → M.own_rule r ≡ n → IsClosedAlts G (IsThere N M) a → (b : Alts) → rests r a ≡ b → At N n (group_of M n r a b)
      → IsPlainRule G N M.own_rule r a ⊎ IsRecursiveRule G N M.own_rule r a
  group_represented r n a p c none e h =
      let P : ℕ → Type 0 = λ k. slice_get N.rules k ≡ Some (RuleForm.regular (alts_symbols M (n + 1) a)) in
      inl (record { plain = e; alts = alts_symbols M (n + 1) a; at = subst P (sym p) h.0; represented = represents_alts (n + 1) a c h.1 })
  group_represented r n a p c (or s b) e h =
      let P : ℕ → Type 0 = λ k. slice_get N.rules k ≡ Some (RuleForm.regular ((Rule (n + 1) ∷ Rule (n + 2) ∷ []) ∷ [])) in
      let new : At N (n + 4) (alts_rules M (n + 4) a) = At_move N (n + 1 + 1 + 1 + 1) (n + 4) (alts_rules M (n + 4) a) (omega arith) h.1.1.1.1 in
      inr (record {
        base = n + 1;
        many = n + 2;
        rest = n + 3;
        base_alts = base_symbols M r (n + 4) a;
        rest_alts = rest_symbols M r (n + 4) a;
        at = subst P (sym p) h.0;
        base_at = h.1.0;
        many_at = get_move N (n + 1 + 1) (n + 2) (RuleForm.star (Rule (n + 3))) (omega arith) h.1.1.0;
        rest_at = get_move N (n + 1 + 1 + 1) (n + 3) (RuleForm.regular (rest_symbols M r (n + 4) a)) (omega arith) h.1.1.1.0;
        bases_are = base_represented r (n + 4) a c new;
        rests_are = rest_represented r (n + 4) a c new;
      })

group_of_length : (M : Numbering) (n r : ℕ) (a b : Alts) → length (group_of M n r a b) ≡ head_count b + alts_new_rules a
group_of_length M n r a none = omega (arith, alts_length M (n + 1) a)
group_of_length M n r a (or s b) = omega (arith, alts_length M (n + 4) a)

pub group_length : (M : Numbering) (n r : ℕ) (a : Alts) → length (group M n r a) ≡ group_size r a
group_length M n r a = group_of_length M n r a (rests r a)

-- each group is where it begins
pub group_at : (N : NormalForm) (M : Numbering) (n r : ℕ) (G : List Alts) (k : ℕ) (a : Alts) → At N n (groups M n r G) → slice_get G k ≡ Some a → (m q : ℕ)
    → n + normal_count_from r (take k G) ≡ m → r + k ≡ q → At N m (group M m q a)
group_at N M n r [] k a h e m q em eq = absurd (cc)
group_at N M n r (b ∷ G) zero a h e m q em eq =
    let same : b ≡ a = cc in
    let here : n ≡ m = omega (arith, em) in
    let number : r ≡ q = omega (arith, eq) in
    let P : ℕ → ℕ → Alts → Type 0 = λ x y z. At N x (group M x y z) in
    let Q : Alts → Type 0 = λ z. P n r z in
    let R : ℕ → Type 0 = λ y. P n y a in
    let S : ℕ → Type 0 = λ x. P x q a in
    subst S here (subst R number (subst Q same (At_left N n (group M n r b) (groups M (n + group_size r b) (r + 1) G) h)))
group_at N M n r (b ∷ G) (suc k) a h e m q em eq =
    group_at N M (n + group_size r b) (r + 1) G k a
    (At_right N n (group M n r b) (groups M (n + group_size r b) (r + 1) G) (n + group_size r b) (ap (λ x. n + x) (group_length M n r b)) h) e m q (go em)
    (omega (arith, eq))
  where
    go : n + normal_count_from r (take (suc k) (b ∷ G)) ≡ m → n + group_size r b + normal_count_from (r + 1) (take k G) ≡ m
    go em' = let x : normal_count_from (suc r) (take k G) ≡ normal_count_from (r + 1) (take k G) =
        ap (λ y. normal_count_from y (take k G)) (omega arith) in omega (arith, em', x)

get_after : (front back : List RuleForm) (k : RuleForm) → slice_get (front ++ k ∷ back) (length front) ≡ Some k
get_after [] back k = refl
get_after (x ∷ front) back k = get_after front back k

-- the whole
At_end : (N : NormalForm) (front xs : List RuleForm) → N.rules ≡ front ++ xs → At N (length front) xs
At_end N front [] e = tt
At_end N front (x ∷ xs) e = (
  let P : List RuleForm → Type 0 = λ l. slice_get l (length front) ≡ Some x in subst P (sym e) (get_after front xs x),
  At_move N (length (front ++ x ∷ [])) (length front + 1) xs (length-append front (x ∷ []))
      (At_end N (front ++ x ∷ []) xs (e ∙ sym (append_assoc front (x ∷ []) xs))),
)

pub At_all : (N : NormalForm) (xs : List RuleForm) → N.rules ≡ xs → At N 0 xs
At_all N xs e = At_end N [] xs e
