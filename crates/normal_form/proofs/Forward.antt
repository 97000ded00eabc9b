-- What a term derives, the symbol that represents it derives.
use Rattle.std.proofs.Common.{◌≡◌, ℕ, ◌⊎◌, inl, inr, true, false, cond, List, [], ◌∷◌, ◌++◌, Option, Some}
use Rattle.std.proofs.Common.{None, slice_get, refl, sym, ap, ◌∙◌, subst, append_assoc}
use Rattle.std.specs.Prelude.{nat_eq}
use Rattle.std.proofs.lemmas.List.{append-nil}
use Rattle.std.proofs.lemmas.Bool.Decides.{eqb_tells}
use Rattle.std.specs.List.{Contains}
use Rattle.grammar_tree.specs.Derives.{Term, Seq, Alts, rule, eof, done, next, none, or, Derives, DerivesSeq, DerivesAlts, DerivesMany, by_kind, by_among}
use Rattle.grammar_tree.specs.Derives.{by_rule, by_block, by_absent, by_present, by_star, by_end, by_more, by_plus, by_eof, by_done, by_next, by_first}
use Rattle.grammar_tree.specs.Derives.{by_later}
use Rattle.grammar_tree.specs.Corners.{and_base, and_rest, rest_of, bases, rests}
use Rattle.normal_form.specs.declared.normal.Sym.{Sym}
use Rattle.normal_form.specs.declared.normal.Sym.TheVariants.{Rule}
use Rattle.normal_form.specs.Form.{RuleForm, NormalForm}
use Rattle.normal_form.specs.NormalDerives.{NormalDerives, NormalDerivesSeq, NormalDerivesMany, of_kind, of_set, of_regular, of_absent}
use Rattle.normal_form.specs.NormalDerives.{of_present, of_star, of_plus, of_done, of_next, of_end, of_more}
use Rattle.normal_form.proofs.Represents.{Represents, RepresentsSeq, RepresentsAlts, IsPlainRule, IsRecursiveRule, HasEachRule}
use Rattle.normal_form.proofs.Lists.{Contains-here, Contains-there, Contains-only}

-- one of the alternatives derives the list
abbrev pub OneOf : NormalForm → List (List Sym) → List ℕ → Type 0
OneOf N alts w = (alt : List Sym) × Contains alts alt × NormalDerivesSeq N alt w

pub many_snoc : {N : NormalForm} {s : Sym} {u : List ℕ} (v : List ℕ) → NormalDerivesMany N s u → NormalDerives N s v → NormalDerivesMany N s (u ++ v)
many_snoc {N = N} v (of_end s) d =
    let P : List ℕ → Type 0 = λ x. NormalDerivesMany N s x in subst P (append-nil v) (of_more s v [] d (of_end s))
many_snoc {N = N} v (of_more s a b h m) d =
    let P : List ℕ → Type 0 = λ x. NormalDerivesMany N s x in subst P (sym (append_assoc a b v)) (of_more s a (b ++ v) h (many_snoc v m d))

-- How an alternative of a left-recursive rule derives a list: as a base, or as the rule itself and then a rest.
abbrev pub Splits : NormalForm → Sym → List (List Sym) → List (List Sym) → List ℕ → Type 0
Splits N e base_alts rest_alts w = OneOf N base_alts w ⊎ ((u : List ℕ) × (v : List ℕ) × NormalDerives N e u × OneOf N rest_alts v × (w ≡ u ++ v))

-- a list that a symbol for the term derives
abbrev pub Reached : List Alts → NormalForm → (ℕ → ℕ) → Term → List ℕ → Type 0
Reached G N own_rule t w = (s : Sym) → Represents G N own_rule s t → NormalDerives N s w

abbrev pub ReachedSeq : List Alts → NormalForm → (ℕ → ℕ) → Seq → List ℕ → Type 0
ReachedSeq G N own_rule t w = (ss : List Sym) → RepresentsSeq G N own_rule ss t → NormalDerivesSeq N ss w

abbrev pub ReachedAlts : List Alts → NormalForm → (ℕ → ℕ) → Alts → List ℕ → Type 0
ReachedAlts G N own_rule t w = (alts : List (List Sym)) → RepresentsAlts G N own_rule alts t → OneOf N alts w

-- the same with the alternatives of the rule r sorted into bases and rests
abbrev pub ReachedSplit : List Alts → NormalForm → (ℕ → ℕ) → Alts → List ℕ → Type 0
ReachedSplit G N own_rule a w =
    (r : ℕ) (known : Alts) → slice_get G r ≡ Some known → (base_alts rest_alts : List (List Sym)) → RepresentsAlts G N own_rule base_alts (bases r a)
    → RepresentsAlts G N own_rule rest_alts (rests r a) → Splits N (Rule (own_rule r)) base_alts rest_alts w

-- a plain rule has no rests, and its bases are its alternatives
bases_go : (r : ℕ) (s : Seq) (a : Alts) (o : Option Seq) → (rests r a ≡ none → bases r a ≡ a) → and_rest o (rests r a) ≡ none
    → and_base s o (bases r a) ≡ or s a
bases_go r s a None h e = ap (or s) (h e)
bases_go r s a (Some rest) h e = absurd (cc)

pub bases_plain : (r : ℕ) (a : Alts) → rests r a ≡ none → bases r a ≡ a
bases_plain r none e = refl
bases_plain r (or s a) e = bases_go r s a (rest_of r s) (bases_plain r a) e

-- what a regular rule derives, one of its alternatives does
pub regular_inverse : {N : NormalForm} (n : ℕ) (alts : List (List Sym)) {s : Sym} {w : List ℕ} → slice_get N.rules n ≡ Some (RuleForm.regular alts)
    → NormalDerives N s w → s ≡ Rule n → OneOf N alts w
regular_inverse n alts at (of_kind k) e = absurd (cc)
regular_inverse n alts at (of_set i k ks h c) e = absurd (cc)
regular_inverse {N = N} n alts at (of_regular r alts' alt w h c d) e =
    let same : alts' ≡ alts = cc in
    let P : List (List Sym) → Type 0 = λ x. Contains x alt in (alt, subst P same c, d)
regular_inverse n alts at (of_absent r s h) e = absurd (cc)
regular_inverse n alts at (of_present r s w h d) e = absurd (cc)
regular_inverse n alts at (of_star r s w h m) e = absurd (cc)
regular_inverse n alts at (of_plus r s u v h d m) e = absurd (cc)

pub star_inverse : {N : NormalForm} (n : ℕ) (of : Sym) {s : Sym} {w : List ℕ} → slice_get N.rules n ≡ Some (RuleForm.star of) → NormalDerives N s w → s ≡ Rule n
    → NormalDerivesMany N of w
star_inverse n of at (of_kind k) e = absurd (cc)
star_inverse n of at (of_set i k ks h c) e = absurd (cc)
star_inverse n of at (of_regular r alts' alt w h c d) e = absurd (cc)
star_inverse n of at (of_absent r s h) e = absurd (cc)
star_inverse n of at (of_present r s w h d) e = absurd (cc)
star_inverse {N = N} n of at (of_star r s w h m) e =
    let same : s ≡ of = cc in
    let P : Sym → Type 0 = λ x. NormalDerivesMany N x w in subst P same m
star_inverse n of at (of_plus r s u v h d m) e = absurd (cc)

all_inverse_nil : {N : NormalForm} {ss : List Sym} {w : List ℕ} → NormalDerivesSeq N ss w → ss ≡ [] → w ≡ []
all_inverse_nil of_done e = refl
all_inverse_nil (of_next s ss u v d h) e = absurd (cc)

pub all_inverse : {N : NormalForm} (s : Sym) (ss : List Sym) {all : List Sym} {w : List ℕ} → NormalDerivesSeq N all w → all ≡ s ∷ ss → (u : List ℕ)
    × (v : List ℕ) × (w ≡ u ++ v) × NormalDerives N s u × NormalDerivesSeq N ss v
all_inverse s ss of_done e = absurd (cc)
all_inverse {N = N} s ss (of_next s' ss' u v d h) e =
    let first : s' ≡ s = cc in
    let more : ss' ≡ ss = cc in
    let P : Sym → Type 0 = λ x. NormalDerives N x u in
    let Q : List Sym → Type 0 = λ x. NormalDerivesSeq N x v in (u, v, refl, subst P first d, subst Q more h)

-- What a rule with bases and rests derives: a base, and then rests.
pub left_inverse : {N : NormalForm} (at_rule base many rest : ℕ) (w : List ℕ)
    → slice_get N.rules at_rule ≡ Some (RuleForm.regular ((Rule base ∷ Rule many ∷ []) ∷ [])) → slice_get N.rules many ≡ Some (RuleForm.star (Rule rest))
    → NormalDerives N (Rule at_rule) w → (u : List ℕ) × (v : List ℕ) × (w ≡ u ++ v) × NormalDerives N (Rule base) u × NormalDerivesMany N (Rule rest) v
left_inverse {N = N} at_rule base many rest w at many_at d = go (regular_inverse at_rule _ at d refl)
  where
    go : OneOf N ((Rule base ∷ Rule many ∷ []) ∷ []) w → (u : List ℕ) × (v : List ℕ) × (w ≡ u ++ v) × NormalDerives N (Rule base) u
        × NormalDerivesMany N (Rule rest) v
    go (alt, c, h) =
        let one = Contains-only alt (Rule base ∷ Rule many ∷ []) c in
        let x = all_inverse (Rule base) (Rule many ∷ []) h one in
        let y = all_inverse (Rule many) [] x.4 refl in
        let nothing : y.1 ≡ [] = all_inverse_nil y.4 refl in
        let P : List ℕ → Type 0 = λ l. l ≡ y.0 in
        let e : x.1 ≡ y.0 = y.2 ∙ ap (λ l. y.0 ++ l) nothing ∙ append-nil y.0 in
        (x.0, y.0, x.2 ∙ ap (λ l. x.0 ++ l) e, x.3, star_inverse many (Rule rest) many_at y.3 refl)

-- The other way round.
pub left_build : {N : NormalForm} (at_rule base many rest : ℕ) (u v : List ℕ)
    → slice_get N.rules at_rule ≡ Some (RuleForm.regular ((Rule base ∷ Rule many ∷ []) ∷ [])) → slice_get N.rules many ≡ Some (RuleForm.star (Rule rest))
    → NormalDerives N (Rule base) u → NormalDerivesMany N (Rule rest) v → NormalDerives N (Rule at_rule) (u ++ v)
left_build {N = N} at_rule base many rest u v at many_at d m =
    let last : NormalDerivesSeq N (Rule many ∷ []) (v ++ []) = of_next (Rule many) [] v [] (of_star many (Rule rest) v many_at m) of_done in
    let P : List ℕ → Type 0 = λ x. NormalDerivesSeq N (Rule many ∷ []) x in
    of_regular at_rule ((Rule base ∷ Rule many ∷ []) ∷ []) (Rule base ∷ Rule many ∷ []) (u ++ v) at (Contains-here (Rule base ∷ Rule many ∷ []) [])
    (of_next (Rule base) (Rule many ∷ []) u v d (subst P (append-nil v) last))

splits_rule : {G : List Alts} {N : NormalForm} {own_rule : ℕ → ℕ} (r : ℕ) (a : Alts) (w : List ℕ) → slice_get G r ≡ Some a → IsPlainRule G N own_rule r a
    ⊎ IsRecursiveRule G N own_rule r a → ReachedAlts G N own_rule a w → ReachedSplit G N own_rule a w → NormalDerives N (Rule (own_rule r)) w
splits_rule {G = G} {N = N} {own_rule = own_rule} r a w known (inl p) h k =
    let d : OneOf N p.alts w = h p.alts p.represented in of_regular (own_rule r) p.alts d.0 w p.at d.1 d.2
splits_rule {G = G} {N = N} {own_rule = own_rule} r a w known (inr p) h k = go (k r a known p.base_alts p.rest_alts p.bases_are p.rests_are)
  where
    go : Splits N (Rule (own_rule r)) p.base_alts p.rest_alts w → NormalDerives N (Rule (own_rule r)) w
    go (inl b) =
        let Q : List ℕ → Type 0 = λ x. NormalDerives N (Rule (own_rule r)) x in
        subst Q (append-nil w) (left_build (own_rule r) p.base p.many p.rest w [] p.at p.many_at (of_regular p.base p.base_alts b.0 w p.base_at b.1 b.2)
        (of_end (Rule p.rest)))
    go (inr (u, v, d, b, e)) =
        let Q : List ℕ → Type 0 = λ x. NormalDerives N (Rule (own_rule r)) x in
        let i = left_inverse (own_rule r) p.base p.many p.rest u p.at p.many_at d in
        let m = many_snoc v i.4 (of_regular p.rest p.rest_alts b.0 v p.rest_at b.1 b.2) in
        subst Q (sym (append_assoc i.0 i.1 v) ∙ ap (λ x. x ++ v) (sym i.2) ∙ sym e)
        (left_build (own_rule r) p.base p.many p.rest i.0 (i.1 ++ v) p.at p.many_at i.3 m)

-- What a seq with a rest is.
pub rest_is : (r : ℕ) (s rest : Seq) → rest_of r s ≡ Some rest → s ≡ next (rule r) rest
rest_is r done rest e = absurd (cc)
rest_is r (next (rule q) more) rest e = go (eqb_tells q r)
  where
    go : ((nat_eq q r ≡ true) × (q ≡ r)) ⊎ ((nat_eq q r ≡ false) × (q ≡ r → ⊥)) → next (rule q) more ≡ next (rule r) rest
    go (inl (t, same)) =
        let h : cond true (Some more) None ≡ Some rest = ap (λ b. cond b (Some more) None) (sym t) ∙ e in cc
    go (inr (f, other)) =
        let h : cond false (Some more) None ≡ Some rest = ap (λ b. cond b (Some more) None) (sym f) ∙ e in absurd (cc)
rest_is r (next t more) rest e = absurd (cc)

one_here : {N : NormalForm} (alts more : List (List Sym)) (alt : List Sym) (w : List ℕ) → alts ≡ alt ∷ more → NormalDerivesSeq N alt w → OneOf N alts w
one_here alts more alt w e d = let P : List (List Sym) → Type 0 = λ x. Contains x alt in (alt, subst P (sym e) (Contains-here alt more), d)

one_there : {N : NormalForm} (alts more : List (List Sym)) (alt : List Sym) (w : List ℕ) → alts ≡ alt ∷ more → OneOf N more w → OneOf N alts w
one_there alts more alt w e (x, c, d) = let P : List (List Sym) → Type 0 = λ y. Contains y x in (x, subst P (sym e) (Contains-there x alt more c), d)

-- An alternative that begins with the rule is derived by the rule and then the rest.
abbrev pub Begins : List Alts → NormalForm → (ℕ → ℕ) → Seq → List ℕ → Type 0
Begins G N own_rule s w =
    (r : ℕ) (known : Alts) → slice_get G r ≡ Some known → (rest : Seq) → s ≡ next (rule r) rest → (u : List ℕ) × (v : List ℕ)
    × NormalDerives N (Rule (own_rule r)) u × ReachedSeq G N own_rule rest v × (w ≡ u ++ v)

-- One alternative in front of others, sorted.
split_first : {G : List Alts} {N : NormalForm} {own_rule : ℕ → ℕ} (s : Seq) (a : Alts) (w : List ℕ) → ReachedSeq G N own_rule s w → Begins G N own_rule s w
    → ReachedSplit G N own_rule (or s a) w
split_first {G = G} {N = N} {own_rule = own_rule} s a w h k r known at base_alts rest_alts = go (rest_of r s) refl
  where
    go : (o : Option Seq) → rest_of r s ≡ o → RepresentsAlts G N own_rule base_alts (and_base s o (bases r a))
        → RepresentsAlts G N own_rule rest_alts (and_rest o (rests r a)) → Splits N (Rule (own_rule r)) base_alts rest_alts w
    go None e (ss, more, is, st, later) hr = inl (one_here base_alts more ss w is (h ss st))
    go (Some rest) e hb (ss, more, is, st, later) =
        let x = k r known at rest (rest_is r s rest e) in inr (x.0, x.1, x.2, one_here rest_alts more ss x.1 is (x.3 ss st), x.4)

-- One of the others.
split_later : (G : List Alts) {N : NormalForm} (own_rule : ℕ → ℕ) (s : Seq) (a : Alts) (w : List ℕ) → ReachedSplit G N own_rule a w
    → ReachedSplit G N own_rule (or s a) w
split_later G {N = N} own_rule s a w h r known at base_alts rest_alts = go (rest_of r s)
  where
    weaker_base : (ss : List Sym) (more : List (List Sym)) → base_alts ≡ ss ∷ more → Splits N (Rule (own_rule r)) more rest_alts w
        → Splits N (Rule (own_rule r)) base_alts rest_alts w
    weaker_base ss more is (inl x) = inl (one_there base_alts more ss w is x)
    weaker_base ss more is (inr x) = inr x

    weaker_rest : (ss : List Sym) (more : List (List Sym)) → rest_alts ≡ ss ∷ more → Splits N (Rule (own_rule r)) base_alts more w
        → Splits N (Rule (own_rule r)) base_alts rest_alts w
    weaker_rest ss more is (inl x) = inl x
    weaker_rest ss more is (inr (u, v, d, x, e)) = inr (u, v, d, one_there rest_alts more ss v is x, e)

    go : (o : Option Seq) → RepresentsAlts G N own_rule base_alts (and_base s o (bases r a)) → RepresentsAlts G N own_rule rest_alts (and_rest o (rests r a))
        → Splits N (Rule (own_rule r)) base_alts rest_alts w
    go None (ss, more, is, st, later) hr = weaker_base ss more is (h r known at more rest_alts later hr)
    go (Some rest) hb (ss, more, is, st, later) = weaker_rest ss more is (h r known at base_alts more hb later)

begins_done : (G : List Alts) (N : NormalForm) (own_rule : ℕ → ℕ) → Begins G N own_rule done []
begins_done G N own_rule r known at rest e = absurd (cc)

begins_next : (G : List Alts) {N : NormalForm} (own_rule : ℕ → ℕ) (t : Term) (s : Seq) (u v : List ℕ) → Reached G N own_rule t u → ReachedSeq G N own_rule s v
    → Begins G N own_rule (next t s) (u ++ v)
begins_next G {N = N} own_rule t s u v h k r known at rest e =
    let same : t ≡ rule r = cc in
    let more : s ≡ rest = cc in
    let P : Term → Type 0 = λ x. Reached G N own_rule x u in
    let Q : Seq → Type 0 = λ x. ReachedSeq G N own_rule x v in (u, v, subst P same h (Rule (own_rule r)) (refl, (known, at)), subst Q more k, refl)

seq_next : (G : List Alts) {N : NormalForm} (own_rule : ℕ → ℕ) (t : Term) (s : Seq) (u v : List ℕ) → Reached G N own_rule t u → (t ≡ eof → u ≡ [])
    → ReachedSeq G N own_rule s v → ReachedSeq G N own_rule (next t s) (u ++ v)
seq_next G {N = N} own_rule t s u v h z k ss (inl (e, st)) =
    let P : List ℕ → Type 0 = λ x. NormalDerivesSeq N ss (x ++ v) in subst P (sym (z e)) (k ss st)
seq_next G {N = N} own_rule t s u v h z k ss (inr (x, more, e, st, later)) =
    let P : List (List Sym) → Type 0 = λ y. Unit {0} in
    let Q : List Sym → Type 0 = λ y. NormalDerivesSeq N y (u ++ v) in subst Q (sym e) (of_next x more u v (h x st) (k more later))

eof_empty : {G : List Alts} {t : Term} {w : List ℕ} → Derives G t w → t ≡ eof → w ≡ []
eof_empty by_eof e = refl
eof_empty (by_kind k) e = absurd (cc)
eof_empty (by_among ks k c) e = absurd (cc)
eof_empty (by_rule r a w at d) e = absurd (cc)
eof_empty (by_block a w d) e = absurd (cc)
eof_empty (by_absent t) e = absurd (cc)
eof_empty (by_present t w d) e = absurd (cc)
eof_empty (by_star t w m) e = absurd (cc)
eof_empty (by_plus t u v d m) e = absurd (cc)

mutual
  pub forward : {G : List Alts} {N : NormalForm} {own_rule : ℕ → ℕ} → HasEachRule G N own_rule → {t : Term} {w : List ℕ} → Derives G t w
      → Reached G N own_rule t w
  forward {N = N} {own_rule = own_rule} has_each (by_kind k) s e = let P : Sym → Type 0 = λ x. NormalDerives N x (k ∷ []) in subst P (sym e) (of_kind k)
  forward {N = N} has_each (by_among ks k c) s (i, e, h) = let P : Sym → Type 0 = λ x. NormalDerives N x (k ∷ []) in subst P (sym e) (of_set i k ks h c)
  forward {N = N} {own_rule = own_rule} has_each (by_rule r a w at d) s (e, known) =
      let P : Sym → Type 0 =
      λ x. NormalDerives N x w in subst P (sym e) (splits_rule r a w at (has_each r a at) (forward_alts has_each d) (forward_split has_each d))
  forward {N = N} has_each (by_block a w d) s (n, alts, e, at, st) =
      let P : Sym → Type 0 = λ x. NormalDerives N x w in
      let f : OneOf N alts w = forward_alts has_each d alts st in subst P (sym e) (of_regular n alts f.0 w at f.1 f.2)
  forward {N = N} has_each (by_absent t) s (n, of, e, at, st) = let P : Sym → Type 0 = λ x. NormalDerives N x [] in subst P (sym e) (of_absent n of at)
  forward {N = N} has_each (by_present t w d) s (n, of, e, at, st) =
      let P : Sym → Type 0 = λ x. NormalDerives N x w in subst P (sym e) (of_present n of w at (forward has_each d of st))
  forward {N = N} has_each (by_star t w m) s (n, of, e, at, st) = let P : Sym → Type 0 =
      λ x. NormalDerives N x w in subst P (sym e) (of_star n of w at (forward_many has_each m of st))
  forward {N = N} has_each (by_plus t u v d m) s (n, of, e, at, st) =
      let P : Sym → Type 0 = λ x. NormalDerives N x (u ++ v) in subst P (sym e) (of_plus n of u v at (forward has_each d of st) (forward_many has_each m of st))
  forward has_each by_eof s e = absurd e

  pub forward_many : {G : List Alts} {N : NormalForm} {own_rule : ℕ → ℕ} → HasEachRule G N own_rule → {t : Term} {w : List ℕ} → DerivesMany G t w → (of : Sym)
      → Represents G N own_rule of t → NormalDerivesMany N of w
  forward_many has_each (by_end t) of st = of_end of
  forward_many has_each (by_more t u v d m) of st = of_more of u v (forward has_each d of st) (forward_many has_each m of st)

  pub forward_seq : {G : List Alts} {N : NormalForm} {own_rule : ℕ → ℕ} → HasEachRule G N own_rule → {s : Seq} {w : List ℕ} → DerivesSeq G s w
      → ReachedSeq G N own_rule s w
  forward_seq {N = N} has_each by_done ss e = let P : List Sym → Type 0 = λ x. NormalDerivesSeq N x [] in subst P (sym e) of_done
  forward_seq {G = G} {own_rule = own_rule} has_each (by_next t s u v d h) ss st =
      seq_next G own_rule t s u v (forward has_each d) (eof_empty d) (forward_seq has_each h) ss st

  pub forward_alts : {G : List Alts} {N : NormalForm} {own_rule : ℕ → ℕ} → HasEachRule G N own_rule → {a : Alts} {w : List ℕ} → DerivesAlts G a w
      → ReachedAlts G N own_rule a w
  forward_alts has_each (by_first s a w d) alts (ss, more, e, st, later) = one_here alts more ss w e (forward_seq has_each d ss st)
  forward_alts has_each (by_later s a w d) alts (ss, more, e, st, later) = one_there alts more ss w e (forward_alts has_each d more later)

  pub forward_split : {G : List Alts} {N : NormalForm} {own_rule : ℕ → ℕ} → HasEachRule G N own_rule → {a : Alts} {w : List ℕ} → DerivesAlts G a w
      → ReachedSplit G N own_rule a w
  forward_split {G = G} {N = N} {own_rule = own_rule} has_each (by_first s a w by_done) =
      split_first done a [] (forward_seq has_each by_done) (begins_done G N own_rule)
  forward_split {G = G} {own_rule = own_rule} has_each (by_first s a w (by_next t rest u v d h)) =
      split_first (next t rest) a (u ++ v) (seq_next G own_rule t rest u v (forward has_each d) (eof_empty d) (forward_seq has_each h))
      (begins_next G own_rule t rest u v (forward has_each d) (forward_seq has_each h))
  forward_split {G = G} {own_rule = own_rule} has_each (by_later s a w d) = split_later G own_rule s a w (forward_split has_each d)
