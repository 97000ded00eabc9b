-- Numbers of nodes between two bounds.
use Rattle.std.proofs.Common.{◌≡◌, ◌⊎◌, inl, inr, ℕ, zero, suc, ◌+◌, ◌<◌, ◌≤◌, false, List, [], ◌∷◌, ◌++◌, Option, Some, None}
use Rattle.std.proofs.Common.{nat_eq, length, get_or, refl, sym, ap, ◌∙◌, subst, arith, append_assoc}
use Rattle.std.specs.Prelude.{⊤, slice_index}
use Rattle.std.specs.List.Sorted.{IsStrictlyIncreasing}
use Rattle.std.specs.Option.{option_or}
use Rattle.std.proofs.lemmas.Bool.{cases_Bool, cond-false, cond-true, eqb-true, ne_eqb}
use Rattle.std.proofs.lemmas.Option.{same_Some, none-some}
use Rattle.std.proofs.lemmas.List.{append-nil}
use Rattle.normal_form.specs.declared.normal.Sym.{Sym}
use Rattle.normal_form.specs.Form.{NormalForm}
use Rattle.syntax_tree.specs.Trees.{PlainTree, PlainTrees, renumbered, renumbered_all, size, size_all}
use Rattle.syntax_tree.specs.Valid.{slot_at, slot_among, slots_of}
use Rattle.syntax_tree.specs.Numbered.{NumbersRise, number_of, numbers, numbers_all, subtree, subtree_among, with_subtree, with_subtree_among}

pub or_some : {A : Type 0} (o p : Option A) (v : A) → option_or o p ≡ Some v → (o ≡ Some v) ⊎ ((o ≡ None) × (p ≡ Some v))
or_some None p v e = inr (refl, e)
or_some (Some x) p v e = inl e

pub or_none : {A : Type 0} (o : Option A) → option_or o None ≡ o
or_none None = refl
or_none (Some x) = refl

abbrev mutual
  -- The numbers of the tree are at least `low` and less than `high`, and they rise.
  pub IsWithin : ℕ → ℕ → PlainTree → Type 0
  IsWithin low high (PlainTree.leaf n k i) = (low ≤ n) × (n < high)
  IsWithin low high (PlainTree.node n r a ts) = (low ≤ n) × AreWithin (n + 1) high ts

  pub AreWithin : ℕ → ℕ → PlainTrees → Type 0
  AreWithin low high PlainTrees.none = low ≤ high
  AreWithin low high (PlainTrees.next t ts) = (m : ℕ) × IsWithin low m t × AreWithin m high ts

mutual
  pub bounds : (low high : ℕ) (t : PlainTree) → IsWithin low high t → low < high
  bounds low high (PlainTree.leaf n k i) w = omega arith
  bounds low high (PlainTree.node n r a ts) w = omega (arith, w.0, bounds_all (n + 1) high ts w.1)

  pub bounds_all : (low high : ℕ) (ts : PlainTrees) → AreWithin low high ts → low ≤ high
  bounds_all low high PlainTrees.none w = w
  bounds_all low high (PlainTrees.next t ts) w = omega (arith, bounds low w.0 t w.1, bounds_all w.0 high ts w.2)

abbrev mutual
  -- No node of the tree has the number.
  pub Lacks : ℕ → PlainTree → Type 0
  Lacks q (PlainTree.leaf n k i) = nat_eq n q ≡ false
  Lacks q (PlainTree.node n r a ts) = (nat_eq n q ≡ false) × AllLack q ts

  pub AllLack : ℕ → PlainTrees → Type 0
  AllLack q PlainTrees.none = ⊤
  AllLack q (PlainTrees.next t ts) = Lacks q t × AllLack q ts

mutual
  -- a number outside the bounds is none of the tree's
  pub outside : (low high q : ℕ) (t : PlainTree) → IsWithin low high t → (q < low) ⊎ (high ≤ q) → Lacks q t
  outside low high q (PlainTree.leaf n k i) w (inl b) = ne_eqb n q (omega (arith, w.0, b))
  outside low high q (PlainTree.leaf n k i) w (inr b) = ne_eqb n q (omega (arith, w.1, b))
  outside low high q (PlainTree.node n r a ts) w (inl b) = (ne_eqb n q (omega (arith, w.0, b)), all_outside (n + 1) high q ts w.1 (inl (omega (arith, w.0, b))))
  outside low high q (PlainTree.node n r a ts) w (inr b) =
      (ne_eqb n q (omega (arith, bounds_all (n + 1) high ts w.1, b)), all_outside (n + 1) high q ts w.1 (inr b))

  pub all_outside : (low high q : ℕ) (ts : PlainTrees) → AreWithin low high ts → (q < low) ⊎ (high ≤ q) → AllLack q ts
  all_outside low high q PlainTrees.none w b = tt
  all_outside low high q (PlainTrees.next t ts) w (inl b) =
      (outside low w.0 q t w.1 (inl b), all_outside w.0 high q ts w.2 (inl (omega (arith, b, bounds low w.0 t w.1))))
  all_outside low high q (PlainTrees.next t ts) w (inr b) =
      (outside low w.0 q t w.1 (inr (omega (arith, b, bounds_all w.0 high ts w.2))), all_outside w.0 high q ts w.2 (inr b))

mutual
  pub lacks_subtree : (q : ℕ) (t : PlainTree) → Lacks q t → subtree q t ≡ None
  lacks_subtree q (PlainTree.leaf n k i) e = cond-false (nat_eq n q) (Some (PlainTree.leaf n k i)) None e
  lacks_subtree q (PlainTree.node n r a ts) e = cond-false (nat_eq n q) (Some (PlainTree.node n r a ts)) (subtree_among q ts) e.0 ∙ lack_subtree q ts e.1

  pub lack_subtree : (q : ℕ) (ts : PlainTrees) → AllLack q ts → subtree_among q ts ≡ None
  lack_subtree q PlainTrees.none e = refl
  lack_subtree q (PlainTrees.next t ts) e = ap (λ o. option_or o (subtree_among q ts)) (lacks_subtree q t e.0) ∙ lack_subtree q ts e.1

mutual
  pub lacks_with : (q : ℕ) (w t : PlainTree) → Lacks q t → with_subtree q w t ≡ t
  lacks_with q w (PlainTree.leaf n k i) e = cond-false (nat_eq n q) w (PlainTree.leaf n k i) e
  lacks_with q w (PlainTree.node n r a ts) e =
      cond-false (nat_eq n q) w (PlainTree.node n r a (with_subtree_among q w ts)) e.0 ∙ ap (λ us. PlainTree.node n r a us) (lack_with q w ts e.1)

  pub lack_with : (q : ℕ) (w : PlainTree) (ts : PlainTrees) → AllLack q ts → with_subtree_among q w ts ≡ ts
  lack_with q w PlainTrees.none e = refl
  lack_with q w (PlainTrees.next t ts) e =
      ap (λ u. PlainTrees.next u (with_subtree_among q w ts)) (lacks_with q w t e.0) ∙ ap (λ us. PlainTrees.next t us) (lack_with q w ts e.1)

mutual
  pub lacks_slot : (N : NormalForm) (s : Sym) (q : ℕ) (t : PlainTree) → Lacks q t → slot_at N s q t ≡ None
  lacks_slot N s q (PlainTree.leaf n k i) e = cond-false (nat_eq n q) (Some s) None e
  lacks_slot N s q (PlainTree.node n r a ts) e =
      cond-false (nat_eq n q) (Some s) (slot_among N (slots_of N r a ts) q ts) e.0 ∙ lack_slot N (slots_of N r a ts) q ts e.1

  pub lack_slot : (N : NormalForm) (ss : List Sym) (q : ℕ) (ts : PlainTrees) → AllLack q ts → slot_among N ss q ts ≡ None
  lack_slot N ss q PlainTrees.none e = refl
  lack_slot N [] q (PlainTrees.next t ts) e = refl
  lack_slot N (s ∷ ss) q (PlainTrees.next t ts) e = ap (λ o. option_or o (slot_among N ss q ts)) (lacks_slot N s q t e.0) ∙ lack_slot N ss q ts e.1

mutual
  -- where no tree is found, no node has the number
  pub none_lacks : (q : ℕ) (t : PlainTree) → subtree q t ≡ None → Lacks q t
  none_lacks q (PlainTree.leaf n k i) e = elim (cases_Bool (nat_eq n q)) [
    | inl is ↦ absurd (none-some (PlainTree.leaf n k i) (sym e ∙ cond-true (nat_eq n q) (Some (PlainTree.leaf n k i)) None is))
    | inr is ↦ is
  ]
  none_lacks q (PlainTree.node n r a ts) e = elim (cases_Bool (nat_eq n q)) [
    | inl is ↦ absurd (none-some (PlainTree.node n r a ts) (sym e ∙ cond-true (nat_eq n q) (Some (PlainTree.node n r a ts)) (subtree_among q ts) is))
    | inr is ↦ (is, none_lack q ts (sym (cond-false (nat_eq n q) (Some (PlainTree.node n r a ts)) (subtree_among q ts) is) ∙ e))
  ]

  pub none_lack : (q : ℕ) (ts : PlainTrees) → subtree_among q ts ≡ None → AllLack q ts
  none_lack q PlainTrees.none e = tt
  none_lack q (PlainTrees.next t ts) e = let both = or_both (subtree q t) (subtree_among q ts) e in (none_lacks q t both.0, none_lack q ts both.1)
    where
      or_both : {A : Type 0} (o p : Option A) → option_or o p ≡ None → (o ≡ None) × (p ≡ None)
      or_both None p e = (refl, e)
      or_both (Some x) p e = absurd (none-some x (sym e))

-- What is found has the number, which is between the bounds, and so are the numbers below it.
pub record IsFound (low high q : ℕ) (v : PlainTree) : Type 0 where
  pub number : number_of v ≡ q
  pub above : low ≤ q
  pub below : q < high
  pub end : ℕ
  pub inside : IsWithin q end v
  pub ends : end ≤ high

pub wider : (low high low' high' q : ℕ) (v : PlainTree) → IsFound low high q v → low' ≤ low → high ≤ high' → IsFound low' high' q v
wider low high low' high' q v f l h =
    record {
      number = f.number;
      above = omega (arith, f.above, l);
      below = omega (arith, f.below, h);
      end = f.end;
      inside = f.inside;
      ends = omega (arith, f.ends, h);
    }

found_leaf : (n k i q low high : ℕ) (v : PlainTree) → IsWithin low high (PlainTree.leaf n k i) → n ≡ q → PlainTree.leaf n k i ≡ v → IsFound low high q v
found_leaf n k i q low high v w e f =
    let P : PlainTree → Type 0 = λ u. IsFound low high q u in
    subst P f
    (record { number = e; above = omega (arith, w.0, e); below = omega (arith, w.1, e); end = high; inside = (omega (arith, e), w.1); ends = omega arith })

found_node : (n r a : ℕ) (ts : PlainTrees) (q low high : ℕ) (v : PlainTree) → IsWithin low high (PlainTree.node n r a ts) → n ≡ q → PlainTree.node n r a ts ≡ v
    → IsFound low high q v
found_node n r a ts q low high v w e f =
    let P : PlainTree → Type 0 = λ u. IsFound low high q u in
    subst P f
    (record {
      number = e;
      above = omega (arith, w.0, e);
      below = omega (arith, bounds_all (n + 1) high ts w.1, e);
      end = high;
      inside = (omega (arith, e), w.1);
      ends = omega arith;
    })

mutual
  pub found : (low high q : ℕ) (t v : PlainTree) → IsWithin low high t → subtree q t ≡ Some v → IsFound low high q v
  found low high q (PlainTree.leaf n k i) v w e = elim (cases_Bool (nat_eq n q)) [
    | inl is ↦ found_leaf n k i q low high v w (eqb-true n q is)
        (same_Some (PlainTree.leaf n k i) v (sym (cond-true (nat_eq n q) (Some (PlainTree.leaf n k i)) None is) ∙ e))
    | inr is ↦ absurd (none-some v (sym (cond-false (nat_eq n q) (Some (PlainTree.leaf n k i)) None is) ∙ e))
  ]
  found low high q (PlainTree.node n r a ts) v w e = elim (cases_Bool (nat_eq n q)) [
    | inl is ↦ found_node n r a ts q low high v w (eqb-true n q is)
        (same_Some (PlainTree.node n r a ts) v (sym (cond-true (nat_eq n q) (Some (PlainTree.node n r a ts)) (subtree_among q ts) is) ∙ e))
    | inr is ↦ wider (n + 1) high low high q v
        (found_among (n + 1) high q ts v w.1 (sym (cond-false (nat_eq n q) (Some (PlainTree.node n r a ts)) (subtree_among q ts) is) ∙ e)) (omega (arith, w.0))
        (omega arith)
  ]

  pub found_among : (low high q : ℕ) (ts : PlainTrees) (v : PlainTree) → AreWithin low high ts → subtree_among q ts ≡ Some v → IsFound low high q v
  found_among low high q PlainTrees.none v w e = absurd (none-some v e)
  found_among low high q (PlainTrees.next t ts) v w e = elim (or_some (subtree q t) (subtree_among q ts) v e) [
    | inl first ↦ wider low w.0 low high q v (found low w.0 q t v w.1 first) (omega arith) (bounds_all w.0 high ts w.2)
    | inr later ↦ wider w.0 high low high q v (found_among w.0 high q ts v w.2 later.1) (omega (arith, bounds low w.0 t w.1)) (omega arith)
  ]

-- Each number of a list is at least `low`, and greater than those before it.
abbrev pub RisesFrom : ℕ → List ℕ → Type 0
RisesFrom low [] = ⊤
RisesFrom low (x ∷ xs) = (low ≤ x) × RisesFrom (x + 1) xs

pub rises_weaker : (low low' : ℕ) (xs : List ℕ) → low' ≤ low → RisesFrom low xs → RisesFrom low' xs
rises_weaker low low' [] l r = tt
rises_weaker low low' (x ∷ xs) l r = (omega (arith, l, r.0), r.1)

pub rises_increasing : (low : ℕ) (xs : List ℕ) → RisesFrom low xs → IsStrictlyIncreasing xs
rises_increasing low [] r k h = absurd (let no : k + 1 < 0 = h in omega (arith, no))
rises_increasing low (x ∷ []) r k h = absurd (let no : k + 1 < 1 = h in omega (arith, no))
rises_increasing low (x ∷ y ∷ xs) r zero h = omega (arith, r.1.0)
rises_increasing low (x ∷ y ∷ xs) r (suc k) h =
    let e : suc k + 1 ≡ suc (k + 1) = omega arith in
    let within : k + 1 < length (y ∷ xs) = omega (arith, h) in
    let P : ℕ → Type 0 = λ j. get_or (y ∷ xs) k 0 < get_or (x ∷ y ∷ xs) j 0 in
    subst P (sym e) (rises_increasing (x + 1) (y ∷ xs) r.1 k within)

pub increasing_rises : (low : ℕ) (xs : List ℕ) → IsStrictlyIncreasing xs → ((x : ℕ) (ys : List ℕ) → xs ≡ x ∷ ys → low ≤ x) → RisesFrom low xs
increasing_rises low [] h l = tt
increasing_rises low (x ∷ []) h l = (l x [] refl, tt)
increasing_rises low (x ∷ y ∷ xs) h l =
    let first : x < y = h zero (omega arith) in
    let later : IsStrictlyIncreasing (y ∷ xs) = λ k within. next_of x y xs k (h (suc k) (omega (arith, within))) in
    (l x (y ∷ xs) refl, increasing_rises (x + 1) (y ∷ xs) later (λ z zs e. let same : y ≡ z = cc in omega (arith, first, same)))
  where
    next_of : (x y : ℕ) (xs : List ℕ) (k : ℕ) → slice_index (x ∷ y ∷ xs) (suc k) < slice_index (x ∷ y ∷ xs) (suc k + 1)
        → slice_index (y ∷ xs) k < slice_index (y ∷ xs) (k + 1)
    next_of x y xs k h =
        let e : suc k + 1 ≡ suc (k + 1) = omega arith in
        let P : ℕ → Type 0 = λ j. get_or (y ∷ xs) k 0 < get_or (x ∷ y ∷ xs) j 0 in
        subst P e h

mutual
  pub numbers_rise : (low high : ℕ) (t : PlainTree) (rest : List ℕ) → IsWithin low high t → RisesFrom high rest → RisesFrom low (numbers t ++ rest)
  numbers_rise low high (PlainTree.leaf n k i) rest w r = (w.0, rises_weaker high (n + 1) rest (omega (arith, w.1)) r)
  numbers_rise low high (PlainTree.node n r' a ts) rest w r = (w.0, numbers_rise_all (n + 1) high ts rest w.1 r)

  pub numbers_rise_all : (low high : ℕ) (ts : PlainTrees) (rest : List ℕ) → AreWithin low high ts → RisesFrom high rest → RisesFrom low (numbers_all ts ++ rest)
  numbers_rise_all low high PlainTrees.none rest w r = rises_weaker high low rest w r
  numbers_rise_all low high (PlainTrees.next t ts) rest w r =
      let P : List ℕ → Type 0 = λ l. RisesFrom low l in
      subst P (sym (append_assoc (numbers t) (numbers_all ts) rest))
      (numbers_rise low w.0 t (numbers_all ts ++ rest) w.1 (numbers_rise_all w.0 high ts rest w.2 r))

mutual
  pub rise_within : (low : ℕ) (t : PlainTree) (rest : List ℕ) → RisesFrom low (numbers t ++ rest) → (high : ℕ) × IsWithin low high t × RisesFrom high rest
  rise_within low (PlainTree.leaf n k i) rest r = (n + 1, (r.0, omega arith), r.1)
  rise_within low (PlainTree.node n r' a ts) rest r = let more = rise_within_all (n + 1) ts rest r.1 in (more.0, (r.0, more.1), more.2)

  pub rise_within_all : (low : ℕ) (ts : PlainTrees) (rest : List ℕ) → RisesFrom low (numbers_all ts ++ rest) → (high : ℕ) × AreWithin low high ts
      × RisesFrom high rest
  rise_within_all low PlainTrees.none rest r = (low, omega arith, r)
  rise_within_all low (PlainTrees.next t ts) rest r =
      let P : List ℕ → Type 0 = λ l. RisesFrom low l in
      let first = rise_within low t (numbers_all ts ++ rest) (subst P (append_assoc (numbers t) (numbers_all ts) rest) r) in
      let later = rise_within_all first.0 ts rest first.2 in
      (later.0, (first.0, first.1, later.1), later.2)

-- the two forms of rising numbers
pub within_from : (t : PlainTree) → NumbersRise t → (high : ℕ) × IsWithin 0 high t
within_from t rise =
    let P : List ℕ → Type 0 = λ l. RisesFrom 0 l in
    let found = rise_within 0 t [] (subst P (sym (append-nil (numbers t))) (increasing_rises 0 (numbers t) rise (λ x ys e. omega arith))) in
    (found.0, found.1)

pub rise_from : (low high : ℕ) (t : PlainTree) → IsWithin low high t → NumbersRise t
rise_from low high t w =
    let P : List ℕ → Type 0 = λ l. RisesFrom low l in
    rises_increasing low (numbers t) (subst P (append-nil (numbers t)) (numbers_rise low high t [] w tt))

mutual
  -- a tree whose nodes are numbered one after another
  pub numbered_within : (n : ℕ) (t : PlainTree) → renumbered n t ≡ t → IsWithin n (n + size t) t
  numbered_within n (PlainTree.leaf m k i) e = let same : n ≡ m = cc in (omega (arith, same), omega (arith, same))
  numbered_within n (PlainTree.node m r a ts) e =
      let same : n ≡ m = cc in
      let below : renumbered_all (n + 1) ts ≡ ts = cc in
      let P : ℕ → Type 0 = λ j. AreWithin j (n + size (PlainTree.node m r a ts)) ts in
      let Q : ℕ → Type 0 = λ j. AreWithin (n + 1) j ts in
      let ends : n + 1 + size_all ts ≡ n + size (PlainTree.node m r a ts) = omega arith in
      (omega (arith, same), subst P (ap (λ j. j + 1) same) (subst Q ends (numbered_within_all (n + 1) ts below)))

  pub numbered_within_all : (n : ℕ) (ts : PlainTrees) → renumbered_all n ts ≡ ts → AreWithin n (n + size_all ts) ts
  numbered_within_all n PlainTrees.none e = omega arith
  numbered_within_all n (PlainTrees.next t ts) e =
      let first : renumbered n t ≡ t = cc in
      let later : renumbered_all (n + size t) ts ≡ ts = cc in
      let Q : ℕ → Type 0 = λ j. AreWithin (n + size t) j ts in
      let ends : n + size t + size_all ts ≡ n + (size t + size_all ts) = omega arith in
      (n + size t, numbered_within n t first, subst Q ends (numbered_within_all (n + size t) ts later))
