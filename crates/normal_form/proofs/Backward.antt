-- What a symbol derives, each term that it represents derives.
use Rattle.std.proofs.Common.{◌≡◌, ℕ, ◌⊎◌, inl, inr, List, [], ◌∷◌, ◌++◌, Option, Some, None, slice_get, refl, sym, ap, ◌∙◌, subst, append_assoc}
use Rattle.std.proofs.lemmas.List.{append-nil}
use Rattle.std.specs.List.{Contains}
use Rattle.grammar_tree.specs.Derives.{Term, Seq, Alts, kind, among, rule, block, opt, star, plus, eof, done, next, none, or, Derives}
use Rattle.grammar_tree.specs.Derives.{DerivesSeq, DerivesAlts, DerivesMany, by_kind, by_among, by_rule, by_block, by_absent, by_present}
use Rattle.grammar_tree.specs.Derives.{by_star, by_end, by_more, by_plus, by_eof, by_done, by_next, by_first, by_later}
use Rattle.grammar_tree.specs.Corners.{and_base, and_rest, rest_of, bases, rests}
use Rattle.normal_form.specs.declared.normal.Sym.{Sym}
use Rattle.normal_form.specs.declared.normal.Sym.TheVariants.{Kind, Set, Rule}
use Rattle.normal_form.specs.Form.{RuleForm, NormalForm}
use Rattle.normal_form.specs.NormalDerives.{NormalDerives, NormalDerivesSeq, NormalDerivesMany, of_kind, of_set, of_regular, of_absent}
use Rattle.normal_form.specs.NormalDerives.{of_present, of_star, of_plus, of_done, of_next, of_end, of_more}
use Rattle.normal_form.proofs.Represents.{Represents, RepresentsSeq, RepresentsAlts, IsPlainRule, IsRecursiveRule, HasEachRule}
use Rattle.normal_form.proofs.Lists.{Contains-nil, Contains-cases, Contains-only}
use Rattle.normal_form.proofs.Forward.{rest_is}

-- each sequence that the symbols represent derives the list
abbrev pub GivenSeq : List Alts → NormalForm → (ℕ → ℕ) → List Sym → List ℕ → Type 0
GivenSeq G N own_rule ss w = (s : Seq) → RepresentsSeq G N own_rule ss s → DerivesSeq G s w

abbrev pub Given : List Alts → NormalForm → (ℕ → ℕ) → Sym → List ℕ → Type 0
Given G N own_rule s w = (t : Term) → Represents G N own_rule s t → Derives G t w

alts_first : {G : List Alts} {N : NormalForm} (own_rule : ℕ → ℕ) (s : Seq) (a : Alts) (ss : List Sym) (more : List (List Sym)) (alt : List Sym) (w : List ℕ)
    → RepresentsSeq G N own_rule ss s → GivenSeq G N own_rule alt w → (Contains more alt → DerivesAlts G a w) → (alt ≡ ss) ⊎ Contains more alt
    → DerivesAlts G (or s a) w
alts_first {G = G} {N = N} own_rule s a ss more alt w st h k (inl same) = let Q : List Sym → Type 0 =
    λ x. RepresentsSeq G N own_rule x s in by_first s a w (h s (subst Q (sym same) st))
alts_first own_rule s a ss more alt w st h k (inr c) = by_later s a w (k c)

alts_back : {G : List Alts} {N : NormalForm} (own_rule : ℕ → ℕ) (a : Alts) (alts : List (List Sym)) (alt : List Sym) (w : List ℕ)
    → RepresentsAlts G N own_rule alts a → Contains alts alt → GivenSeq G N own_rule alt w → DerivesAlts G a w
alts_back own_rule none alts alt w e c h = let P : List (List Sym) → Type 0 = λ x. Contains x alt in absurd (Contains-nil alt (subst P e c))
alts_back {G = G} {N = N} own_rule (or s a) alts alt w (ss, more, e, st, later) c h =
    let P : List (List Sym) → Type 0 = λ x. Contains x alt in
    alts_first {N = N} own_rule s a ss more alt w st h (λ c'. alts_back own_rule a more alt w later c' h) (Contains-cases alt ss more (subst P e c))

-- A base is an alternative.
bases_first : {G : List Alts} (s : Seq) (a b : Alts) (w : List ℕ) → (DerivesAlts G b w → DerivesAlts G a w) → (o : Option Seq)
    → DerivesAlts G (and_base s o b) w → DerivesAlts G (or s a) w
bases_first s a b w h None (by_first s' a' w' d') = by_first s a w d'
bases_first s a b w h None (by_later s' a' w' d') = by_later s a w (h d')
bases_first s a b w h (Some rest) d' = by_later s a w (h d')

bases_back : {G : List Alts} (r : ℕ) (a : Alts) (w : List ℕ) → DerivesAlts G (bases r a) w → DerivesAlts G a w
bases_back r none w d = d
bases_back {G = G} r (or s a) w d = bases_first s a (bases r a) w (bases_back r a w) (rest_of r s) d

none_empty : {G : List Alts} {a : Alts} {w : List ℕ} → DerivesAlts G a w → a ≡ none → ⊥
none_empty (by_first s a w d) e = absurd (cc)
none_empty (by_later s a w d) e = absurd (cc)

-- The rule itself and then a rest is an alternative.
rests_first : {G : List Alts} (r : ℕ) (s : Seq) (a b : Alts) (u v : List ℕ) → Derives G (rule r) u → (DerivesAlts G b v → DerivesAlts G a (u ++ v))
    → (o : Option Seq) → rest_of r s ≡ o → DerivesAlts G (and_rest o b) v → DerivesAlts G (or s a) (u ++ v)
rests_first r s a b u v d h None e d' = by_later s a (u ++ v) (h d')
rests_first {G = G} r s a b u v d h (Some rest) e (by_first s' a' w' d') =
    let P : Seq → Type 0 = λ x. DerivesSeq G x (u ++ v) in
    by_first s a (u ++ v) (subst P (sym (rest_is r s rest e)) (by_next (rule r) rest u v d d'))
rests_first r s a b u v d h (Some rest) e (by_later s' a' w' d') = by_later s a (u ++ v) (h d')

rests_back : {G : List Alts} (r : ℕ) (a : Alts) (u v : List ℕ) → Derives G (rule r) u → DerivesAlts G (rests r a) v → DerivesAlts G a (u ++ v)
rests_back r none u v d h = absurd (none_empty h refl)
rests_back {G = G} r (or s a) u v d h = rests_first r s a (rests r a) u v d (rests_back r a u v d) (rest_of r s) refl h

block_inverse : {G : List Alts} (a : Alts) {t : Term} {w : List ℕ} → Derives G t w → t ≡ block a → DerivesAlts G a w
block_inverse {G = G} a (by_block a' w d) e = let P : Alts → Type 0 = λ x. DerivesAlts G x w in let same : a' ≡ a = cc in subst P same d
block_inverse a by_eof e = absurd (cc)
block_inverse a (by_kind k) e = absurd (cc)
block_inverse a (by_among ks k c) e = absurd (cc)
block_inverse a (by_rule r a' w at d) e = absurd (cc)
block_inverse a (by_absent t) e = absurd (cc)
block_inverse a (by_present t w d) e = absurd (cc)
block_inverse a (by_star t w m) e = absurd (cc)
block_inverse a (by_plus t u v d m) e = absurd (cc)

-- Rests after the rule, one after another.
left_many : {G : List Alts} (r : ℕ) (a : Alts) → slice_get G r ≡ Some a → {t : Term} (u : List ℕ) {v : List ℕ} → DerivesMany G t v → t ≡ block (rests r a)
    → Derives G (rule r) u → Derives G (rule r) (u ++ v)
left_many {G = G} r a at u (by_end t) e d = let P : List ℕ → Type 0 = λ x. Derives G (rule r) x in subst P (sym (append-nil u)) d
left_many {G = G} r a at u (by_more t x y d' m) e d =
    let P : List ℕ → Type 0 = λ x. Derives G (rule r) x in
    subst P (append_assoc u x y) (left_many r a at (u ++ x) m e (by_rule r a (u ++ x) at (rests_back r a u x d (block_inverse (rests r a) d' e))))

star_inverse_many : {G : List Alts} (of : Term) {t : Term} {w : List ℕ} → Derives G t w → t ≡ star of → DerivesMany G of w
star_inverse_many {G = G} of (by_star t w m) e = let P : Term → Type 0 = λ x. DerivesMany G x w in let same : t ≡ of = cc in subst P same m
star_inverse_many of by_eof e = absurd (cc)
star_inverse_many of (by_kind k) e = absurd (cc)
star_inverse_many of (by_among ks k c) e = absurd (cc)
star_inverse_many of (by_rule r a' w at d) e = absurd (cc)
star_inverse_many of (by_block a w d) e = absurd (cc)
star_inverse_many of (by_absent t) e = absurd (cc)
star_inverse_many of (by_present t w d) e = absurd (cc)
star_inverse_many of (by_plus t u v d m) e = absurd (cc)

-- the bases and then any number of rests
abbrev pub unrolled : ℕ → Alts → Seq
unrolled r a = next (block (bases r a)) (next (star (block (rests r a))) done)

seq_inverse : {G : List Alts} (t : Term) (s : Seq) {all : Seq} {w : List ℕ} → DerivesSeq G all w → all ≡ next t s → (u : List ℕ) × (v : List ℕ) × (w ≡ u ++ v)
    × Derives G t u × DerivesSeq G s v
seq_inverse t s by_done e = absurd (cc)
seq_inverse {G = G} t s (by_next t' s' u v d h) e =
    let first : t' ≡ t = cc in
    let more : s' ≡ s = cc in
    let P : Term → Type 0 = λ x. Derives G x u in
    let Q : Seq → Type 0 = λ x. DerivesSeq G x v in (u, v, refl, subst P first d, subst Q more h)

done_inverse : {G : List Alts} {s : Seq} {w : List ℕ} → DerivesSeq G s w → s ≡ done → w ≡ []
done_inverse by_done e = refl
done_inverse (by_next t s u v d h) e = absurd (cc)

unrolled_back : {G : List Alts} (r : ℕ) (a : Alts) (w : List ℕ) → slice_get G r ≡ Some a → DerivesSeq G (unrolled r a) w → Derives G (rule r) w
unrolled_back {G = G} r a w at d =
    let x = seq_inverse (block (bases r a)) (next (star (block (rests r a))) done) d refl in
    let y = seq_inverse (star (block (rests r a))) done x.4 refl in
    let nothing : y.1 ≡ [] = done_inverse y.4 refl in
    let e : x.1 ≡ y.0 = y.2 ∙ ap (λ l. y.0 ++ l) nothing ∙ append-nil y.0 in
    let P : List ℕ → Type 0 = λ l. Derives G (rule r) l in
    let base : Derives G (rule r) x.0 = by_rule r a x.0 at (bases_back r a x.0 (block_inverse (bases r a) x.3 refl)) in
    subst P (ap (λ l. x.0 ++ l) (sym e) ∙ sym x.2) (left_many r a at x.0 (star_inverse_many (block (rests r a)) y.3 refl) refl base)

-- The seq of one alternative.
seq_end : (G : List Alts) (N : NormalForm) (own_rule : ℕ → ℕ) (ss : List Sym) → ss ≡ [] → GivenSeq G N own_rule ss []
seq_end G N own_rule ss e done st = by_done
seq_end G N own_rule ss e (next t s) (inl (is, st)) =
    let P : Term → Type 0 = λ x. DerivesSeq G (next x s) [] in subst P (sym is) (by_next eof s [] [] by_eof (seq_end G N own_rule ss e s st))
seq_end G N own_rule ss e (next t s) (inr (x, more, is, st, later)) = absurd (cc)

seq_step : {G : List Alts} {N : NormalForm} (own_rule : ℕ → ℕ) (s : Sym) (ss : List Sym) (u v : List ℕ) → Given G N own_rule s u → GivenSeq G N own_rule ss v
    → (all : List Sym) → all ≡ s ∷ ss → GivenSeq G N own_rule all (u ++ v)
seq_step own_rule s ss u v h k all e done st = absurd (cc)
seq_step {G = G} own_rule s ss u v h k all e (next t q) (inl (is, st)) =
    let P : Term → Type 0 =
    λ x. DerivesSeq G (next x q) (u ++ v) in subst P (sym is) (by_next eof q [] (u ++ v) by_eof (seq_step own_rule s ss u v h k all e q st))
seq_step {G = G} {N = N} own_rule s ss u v h k all e (next t q) (inr (x, more, is, st, later)) =
    let first : x ≡ s = cc in
    let rest : more ≡ ss = cc in
    let P : Sym → Type 0 = λ y. Represents G N own_rule y t in
    let Q : List Sym → Type 0 = λ y. RepresentsSeq G N own_rule y q in by_next t q u v (h t (subst P first st)) (k q (subst Q rest later))

-- the symbols of a rule with bases and rests represent them
recursive_represented : {G : List Alts} {N : NormalForm} {own_rule : ℕ → ℕ} (r : ℕ) (a : Alts) (p : IsRecursiveRule G N own_rule r a)
    → RepresentsSeq G N own_rule (Rule p.base ∷ Rule p.many ∷ []) (unrolled r a)
recursive_represented r a p =
    inr (
      Rule p.base,
      Rule p.many ∷ [],
      refl,
      (p.base, p.base_alts, refl, p.base_at, p.bases_are),
      inr (Rule p.many, [], refl, (p.many, Rule p.rest, refl, p.many_at, (p.rest, p.rest_alts, refl, p.rest_at, p.rests_are)), refl),
    )

rule_back : {G : List Alts} {N : NormalForm} {own_rule : ℕ → ℕ} (r : ℕ) (a : Alts) (alts : List (List Sym)) (alt : List Sym) (w : List ℕ)
    → slice_get G r ≡ Some a → slice_get N.rules (own_rule r) ≡ Some (RuleForm.regular alts) → Contains alts alt → GivenSeq G N own_rule alt w
    → IsPlainRule G N own_rule r a ⊎ IsRecursiveRule G N own_rule r a → Derives G (rule r) w
rule_back {G = G} {N = N} {own_rule = own_rule} r a alts alt w known at c h (inl p) =
    let same : p.alts ≡ alts = cc (p.at, at) in
    let P : List (List Sym) → Type 0 =
    λ x. RepresentsAlts G N own_rule x a in by_rule r a w known (alts_back own_rule a alts alt w (subst P same p.represented) c h)
rule_back {G = G} {N = N} {own_rule = own_rule} r a alts alt w known at c h (inr p) =
    let same : alts ≡ (Rule p.base ∷ Rule p.many ∷ []) ∷ [] = cc (p.at, at) in
    let P : List (List Sym) → Type 0 = λ x. Contains x alt in
    let one : alt ≡ Rule p.base ∷ Rule p.many ∷ [] = Contains-only alt (Rule p.base ∷ Rule p.many ∷ []) (subst P same c) in
    let Q : List Sym → Type 0 = λ x. RepresentsSeq G N own_rule x (unrolled r a) in
    unrolled_back r a w known (h (unrolled r a) (subst Q (sym one) (recursive_represented r a p)))

regular_back : {G : List Alts} {N : NormalForm} {own_rule : ℕ → ℕ} → HasEachRule G N own_rule → (n : ℕ) (alts : List (List Sym)) (alt : List Sym) (w : List ℕ)
    → slice_get N.rules n ≡ Some (RuleForm.regular alts) → Contains alts alt → GivenSeq G N own_rule alt w → Given G N own_rule (Rule n) w
regular_back has_each n alts alt w at c h (kind k) e = absurd (cc)
regular_back has_each n alts alt w at c h (among ks) (i, e, x) = absurd (cc)
regular_back {N = N} {own_rule = own_rule} has_each n alts alt w at c h (rule r) (e, (a, known)) =
    let same : n ≡ own_rule r = cc in
    let P : ℕ → Type 0 = λ x. slice_get N.rules x ≡ Some (RuleForm.regular alts) in rule_back r a alts alt w known (subst P same at) c h (has_each r a known)
regular_back {G = G} {N = N} {own_rule = own_rule} has_each n alts alt w at c h (block a) (m, alts', e, at', st) =
    let same : alts' ≡ alts = cc in
    let P : List (List Sym) → Type 0 = λ x. RepresentsAlts G N own_rule x a in by_block a w (alts_back own_rule a alts alt w (subst P same st) c h)
regular_back has_each n alts alt w at c h (opt t) (m, of, e, at', st) = absurd (cc)
regular_back has_each n alts alt w at c h (star t) (m, of, e, at', st) = absurd (cc)
regular_back has_each n alts alt w at c h (plus t) (m, of, e, at', st) = absurd (cc)
regular_back has_each n alts alt w at c h eof st = absurd st

-- a rule of the grammar is a regular rule
rule_regular : {G : List Alts} {N : NormalForm} {own_rule : ℕ → ℕ} (r : ℕ) (a : Alts) (n : ℕ) → IsPlainRule G N own_rule r a ⊎ IsRecursiveRule G N own_rule r a
    → Rule n ≡ Rule (own_rule r) → (x : RuleForm) → slice_get N.rules n ≡ Some x → (alts : List (List Sym)) × (x ≡ RuleForm.regular alts)
rule_regular {own_rule = own_rule} r a n (inl p) e x at = let same : n ≡ own_rule r = cc in let h : Some x ≡ Some (RuleForm.regular p.alts) =
    cc (p.at, at, same) in (p.alts, cc)
rule_regular {own_rule = own_rule} r a n (inr p) e x at = (
  (Rule p.base ∷ Rule p.many ∷ []) ∷ [],
  let same : n ≡ own_rule r = cc in
      let h : Some x ≡ Some (RuleForm.regular ((Rule p.base ∷ Rule p.many ∷ []) ∷ [])) = cc (p.at, at, same) in cc,
)

star_back : {G : List Alts} {N : NormalForm} {own_rule : ℕ → ℕ} (n : ℕ) (of : Sym) (w : List ℕ) → slice_get N.rules n ≡ Some (RuleForm.star of)
    → ((t : Term) → Represents G N own_rule of t → DerivesMany G t w) → HasEachRule G N own_rule → Given G N own_rule (Rule n) w
star_back n of w at h has_each (kind k) e = absurd (cc)
star_back n of w at h has_each (among ks) (i, e, x) = absurd (cc)
star_back n of w at h has_each (rule r) (e, (a, known)) = let x = rule_regular r a n (has_each r a known) e (RuleForm.star of) at in absurd (cc (x.1))
star_back n of w at h has_each (block a) (m, alts', e, at', st) = absurd (cc)
star_back n of w at h has_each (opt t) (m, of', e, at', st) = absurd (cc)
star_back {G = G} {N = N} {own_rule = own_rule} n of w at h has_each (star t) (m, of', e, at', st) =
    let same : of' ≡ of = cc in
    let P : Sym → Type 0 = λ x. Represents G N own_rule x t in by_star t w (h t (subst P same st))
star_back n of w at h has_each (plus t) (m, of', e, at', st) = absurd (cc)
star_back n of w at h has_each eof st = absurd st

plus_back : {G : List Alts} {N : NormalForm} {own_rule : ℕ → ℕ} (n : ℕ) (of : Sym) (u v : List ℕ) → slice_get N.rules n ≡ Some (RuleForm.plus of)
    → Given G N own_rule of u → ((t : Term) → Represents G N own_rule of t → DerivesMany G t v) → HasEachRule G N own_rule
    → Given G N own_rule (Rule n) (u ++ v)
plus_back n of u v at k h has_each (kind j) e = absurd (cc)
plus_back n of u v at k h has_each (among ks) (i, e, x) = absurd (cc)
plus_back n of u v at k h has_each (rule r) (e, (a, known)) = let x = rule_regular r a n (has_each r a known) e (RuleForm.plus of) at in absurd (cc (x.1))
plus_back n of u v at k h has_each (block a) (m, alts', e, at', st) = absurd (cc)
plus_back n of u v at k h has_each (opt t) (m, of', e, at', st) = absurd (cc)
plus_back {G = G} {N = N} {own_rule = own_rule} n of u v at k h has_each (plus t) (m, of', e, at', st) =
    let same : of' ≡ of = cc in
    let P : Sym → Type 0 = λ x. Represents G N own_rule x t in by_plus t u v (k t (subst P same st)) (h t (subst P same st))
plus_back n of u v at k h has_each (star t) (m, of', e, at', st) = absurd (cc)
plus_back n of u v at k h has_each eof st = absurd st

opt_back : {G : List Alts} {N : NormalForm} {own_rule : ℕ → ℕ} (n : ℕ) (of : Sym) (w : List ℕ) → slice_get N.rules n ≡ Some (RuleForm.opt of)
    → ((t : Term) → Represents G N own_rule of t → Derives G (opt t) w) → HasEachRule G N own_rule → Given G N own_rule (Rule n) w
opt_back n of w at h has_each (kind j) e = absurd (cc)
opt_back n of w at h has_each (among ks) (i, e, x) = absurd (cc)
opt_back n of w at h has_each (rule r) (e, (a, known)) = let x = rule_regular r a n (has_each r a known) e (RuleForm.opt of) at in absurd (cc (x.1))
opt_back n of w at h has_each (block a) (m, alts', e, at', st) = absurd (cc)
opt_back {G = G} {N = N} {own_rule = own_rule} n of w at h has_each (opt t) (m, of', e, at', st) =
    let same : of' ≡ of = cc in
    let P : Sym → Type 0 = λ x. Represents G N own_rule x t in h t (subst P same st)
opt_back n of w at h has_each (plus t) (m, of', e, at', st) = absurd (cc)
opt_back n of w at h has_each (star t) (m, of', e, at', st) = absurd (cc)
opt_back n of w at h has_each eof st = absurd st

kind_back : {G : List Alts} (N : NormalForm) (own_rule : ℕ → ℕ) (k : ℕ) → Given G N own_rule (Kind k) (k ∷ [])
kind_back {G = G} N own_rule k (kind j) e = let same : k ≡ j = cc in let P : ℕ → Type 0 = λ x. Derives G (kind x) (k ∷ []) in subst P same (by_kind k)
kind_back N own_rule k (among ks) (i, e, x) = absurd (cc)
kind_back N own_rule k (rule r) (e, x) = absurd (cc)
kind_back N own_rule k (block a) (m, alts, e, at, st) = absurd (cc)
kind_back N own_rule k (opt t) (m, of, e, at, st) = absurd (cc)
kind_back N own_rule k (star t) (m, of, e, at, st) = absurd (cc)
kind_back N own_rule k (plus t) (m, of, e, at, st) = absurd (cc)
kind_back N own_rule k eof st = absurd st

set_back : {G : List Alts} (N : NormalForm) (own_rule : ℕ → ℕ) (i k : ℕ) (ks : List ℕ) → slice_get N.sets i ≡ Some ks → Contains ks k
    → Given G N own_rule (Set i) (k ∷ [])
set_back N own_rule i k ks at c (kind j) e = absurd (cc)
set_back {G = G} N own_rule i k ks at c (among ls) (j, e, x) =
    let same : ks ≡ ls = cc in let P : List ℕ → Type 0 = λ x. Contains x k in by_among ls k (subst P same c)
set_back N own_rule i k ks at c (rule r) (e, x) = absurd (cc)
set_back N own_rule i k ks at c (block a) (m, alts, e, at', st) = absurd (cc)
set_back N own_rule i k ks at c (opt t) (m, of, e, at', st) = absurd (cc)
set_back N own_rule i k ks at c (star t) (m, of, e, at', st) = absurd (cc)
set_back N own_rule i k ks at c (plus t) (m, of, e, at', st) = absurd (cc)
set_back N own_rule i k ks at c eof st = absurd st

mutual
  pub backward : {G : List Alts} {N : NormalForm} {own_rule : ℕ → ℕ} → HasEachRule G N own_rule → {s : Sym} {w : List ℕ} → NormalDerives N s w
      → Given G N own_rule s w
  backward {N = N} {own_rule = own_rule} has_each (of_kind k) = kind_back N own_rule k
  backward {N = N} {own_rule = own_rule} has_each (of_set i k ks at c) = set_back N own_rule i k ks at c
  backward has_each (of_regular n alts alt w at c d) = regular_back has_each n alts alt w at c (backward_all has_each d)
  backward has_each (of_absent n s at) = opt_back n s [] at (λ t st. by_absent t) has_each
  backward has_each (of_present n s w at d) = opt_back n s w at (λ t st. by_present t w (backward has_each d t st)) has_each
  backward has_each (of_star n s w at m) = star_back n s w at (backward_many has_each m) has_each
  backward has_each (of_plus n s u v at d m) = plus_back n s u v at (backward has_each d) (backward_many has_each m) has_each

  pub backward_all : {G : List Alts} {N : NormalForm} {own_rule : ℕ → ℕ} → HasEachRule G N own_rule → {ss : List Sym} {w : List ℕ} → NormalDerivesSeq N ss w
      → GivenSeq G N own_rule ss w
  backward_all {G = G} {N = N} {own_rule = own_rule} has_each of_done = seq_end G N own_rule [] refl
  backward_all {G = G} {N = N} {own_rule = own_rule} has_each (of_next s ss u v d h) =
      seq_step own_rule s ss u v (backward has_each d) (backward_all has_each h) (s ∷ ss) refl

  pub backward_many : {G : List Alts} {N : NormalForm} {own_rule : ℕ → ℕ} → HasEachRule G N own_rule → {s : Sym} {w : List ℕ} → NormalDerivesMany N s w
      → (t : Term) → Represents G N own_rule s t → DerivesMany G t w
  backward_many has_each (of_end s) t st = by_end t
  backward_many has_each (of_more s u v d m) t st = by_more t u v (backward has_each d t st) (backward_many has_each m t st)
