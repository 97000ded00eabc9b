-- Trees whose numbers rise, within bounds.
use Rattle.std.proofs.Common.{◌≡◌, ◌⊎◌, inl, inr, ℕ, ◌+◌, ◌<◌, ◌≤◌, Option, Some, None, refl, sym, ap, ◌∙◌, subst, arith}
use Rattle.std.specs.Prelude.{Bool, if◌then◌else◌, nat_eq}
use Rattle.std.specs.Option.{option_or}
use Rattle.std.proofs.lemmas.Bool.{cases_eq, eq-eqb, ne_eqb}
use Rattle.std.proofs.lemmas.Option.{none-some, same_Some}
use Rattle.syntax_tree.specs.Trees.{PlainTree, PlainTrees, renumbered, renumbered_all, size, size_all}
use Rattle.syntax_tree.specs.Numbered.{number_of, subtree, subtree_among}

-- An option is one or the other.
pub cases_option : {X : Type 0} (o : Option X) → ((v : X) × (o ≡ Some v)) ⊎ (o ≡ None)
cases_option None = inr refl
cases_option (Some v) = inl (v, refl)

pub cases_or : {X : Type 0} (x y : Option X) (v : X) → option_or x y ≡ Some v → (x ≡ Some v) ⊎ ((x ≡ None) × (y ≡ Some v))
cases_or None y v e = inr (refl, e)
cases_or (Some w) y v e = inl e

pub or_first : {X : Type 0} (x y : Option X) (v : X) → x ≡ Some v → option_or x y ≡ Some v
or_first x y v e = ap (λ o. option_or o y) e

pub or_second : {X : Type 0} (x y : Option X) → x ≡ None → option_or x y ≡ y
or_second x y e = ap (λ o. option_or o y) e

pub or_none : {X : Type 0} (x y : Option X) → y ≡ None → option_or x y ≡ x
or_none None y e = e
or_none (Some v) y e = refl

-- a test of two numbers
pub when_equal : {X : Type 0} (n q : ℕ) (x y : X) → n ≡ q → (if nat_eq n q then x else y) ≡ x
when_equal n q x y e = ap (λ (b : Bool). if b then x else y) (eq-eqb n q e)

pub when_not : {X : Type 0} (n q : ℕ) (x y : X) → (n ≡ q → ⊥) → (if nat_eq n q then x else y) ≡ y
when_not n q x y e = ap (λ (b : Bool). if b then x else y) (ne_eqb n q e)

abbrev mutual
  -- The numbers are at least `low` and below `high`, and each is greater than those before it.
  pub Rises : ℕ → ℕ → PlainTree → Type 0
  Rises low high (PlainTree.leaf n k i) = (low ≤ n) × (n < high)
  Rises low high (PlainTree.node n r a ts) = (low ≤ n) × RiseAll (n + 1) high ts

  pub RiseAll : ℕ → ℕ → PlainTrees → Type 0
  RiseAll low high PlainTrees.none = low ≤ high
  RiseAll low high (PlainTrees.next t ts) = (middle : ℕ) × Rises low middle t × RiseAll middle high ts

mutual
  pub number_within : (low high : ℕ) (t : PlainTree) → Rises low high t → (low ≤ number_of t) × (number_of t < high)
  number_within low high (PlainTree.leaf n k i) h = h
  number_within low high (PlainTree.node n r a ts) h = let rest = bounds_rise (n + 1) high ts h.1 in (h.0, omega (arith, rest))

  pub bounds_rise : (low high : ℕ) (ts : PlainTrees) → RiseAll low high ts → low ≤ high
  bounds_rise low high PlainTrees.none h = h
  bounds_rise low high (PlainTrees.next t ts) h =
      let own = number_within low h.0 t h.1 in
      let rest = bounds_rise h.0 high ts h.2 in
      omega (arith, own, rest)

-- a tree with its own numbers, in preorder, has rising numbers
mutual
  pub rises_from : (n high : ℕ) (t : PlainTree) → renumbered n t ≡ t → n + size t ≡ high → Rises n high t
  rises_from n high (PlainTree.leaf m k i) e f = let same : n ≡ m = cc in (omega arith, omega arith)
  rises_from n high (PlainTree.node m r a ts) e f =
      let same : n ≡ m = cc in
      let below : renumbered_all (n + 1) ts ≡ ts = cc in
      let rest = rise_from (n + 1) high ts below (omega (arith, f)) in
      (omega (arith, same), subst (λ x. RiseAll (x + 1) high ts) same rest)

  pub rise_from : (n high : ℕ) (ts : PlainTrees) → renumbered_all n ts ≡ ts → n + size_all ts ≡ high → RiseAll n high ts
  rise_from n high PlainTrees.none e f = omega (arith, f)
  rise_from n high (PlainTrees.next t ts) e f =
      let first : renumbered n t ≡ t = cc in
      let later : renumbered_all (n + size t) ts ≡ ts = cc in
      (n + size t, rises_from n (n + size t) t first refl, rise_from (n + size t) high ts later (omega (arith, f)))

-- wider bounds
mutual
  pub rises_wider : (low high low' high' : ℕ) (t : PlainTree) → low' ≤ low → high ≤ high' → Rises low high t → Rises low' high' t
  rises_wider low high low' high' (PlainTree.leaf n k i) l g h = (omega (arith, h.0), omega (arith, h.1))
  rises_wider low high low' high' (PlainTree.node n r a ts) l g h = (omega (arith, h.0), rise_wider (n + 1) high (n + 1) high' ts (omega arith) g h.1)

  pub rise_wider : (low high low' high' : ℕ) (ts : PlainTrees) → low' ≤ low → high ≤ high' → RiseAll low high ts → RiseAll low' high' ts
  rise_wider low high low' high' PlainTrees.none l g h = omega (arith, h)
  rise_wider low high low' high' (PlainTrees.next t ts) l g h =
      (h.0, rises_wider low h.0 low' h.0 t l (omega arith) h.1, rise_wider h.0 high h.0 high' ts (omega arith) g h.2)

-- the subtree with a number
pub subtree_own : (q : ℕ) (t : PlainTree) → number_of t ≡ q → subtree q t ≡ Some t
subtree_own q (PlainTree.leaf n k i) e = when_equal n q (Some (PlainTree.leaf n k i)) None e
subtree_own q (PlainTree.node n r a ts) e = when_equal n q (Some (PlainTree.node n r a ts)) (subtree_among q ts) e

pub subtree_below : (q n r a : ℕ) (ts : PlainTrees) → (n ≡ q → ⊥) → subtree q (PlainTree.node n r a ts) ≡ subtree_among q ts
subtree_below q n r a ts e = when_not n q (Some (PlainTree.node n r a ts)) (subtree_among q ts) e

-- a subtree has the number that it is found by, and rises too
mutual
  pub subtree_within : (low high : ℕ) (t : PlainTree) → Rises low high t → (q : ℕ) (u : PlainTree) → subtree q t ≡ Some u → (number_of u ≡ q) × Rises q high u
      × (low ≤ q)
  subtree_within low high (PlainTree.leaf n k i) h q u e =
      elim (cases_eq n q) [
        | inl same ↦
            let is : PlainTree.leaf n k i ≡ u = same_Some (PlainTree.leaf n k i) u (sym (subtree_own q (PlainTree.leaf n k i) same) ∙ e) in
            subst (λ x. (number_of x ≡ q) × Rises q high x × (low ≤ q)) is (same, (omega (arith, same), h.1), omega (arith, same, h.0))
        | inr other ↦ absurd (none-some u (sym (when_not n q (Some (PlainTree.leaf n k i)) None other) ∙ e))
      ]
  subtree_within low high (PlainTree.node n r a ts) h q u e =
      elim (cases_eq n q) [
        | inl same ↦
            let is : PlainTree.node n r a ts ≡ u = same_Some (PlainTree.node n r a ts) u (sym (subtree_own q (PlainTree.node n r a ts) same) ∙ e) in
            subst (λ x. (number_of x ≡ q) × Rises q high x × (low ≤ q)) is (same, (omega (arith, same), h.1), omega (arith, same, h.0))
        | inr other ↦
            let deeper = subtree_among_within (n + 1) high ts h.1 q u (sym (subtree_below q n r a ts other) ∙ e) in
            (deeper.0, deeper.1, omega (arith, deeper.2, h.0))
      ]

  pub subtree_among_within : (low high : ℕ) (ts : PlainTrees) → RiseAll low high ts → (q : ℕ) (u : PlainTree) → subtree_among q ts ≡ Some u → (number_of u ≡ q)
      × Rises q high u × (low ≤ q)
  subtree_among_within low high PlainTrees.none h q u e = absurd (none-some u e)
  subtree_among_within low high (PlainTrees.next t ts) h q u e =
      elim (cases_or (subtree q t) (subtree_among q ts) u e) [
        | inl found ↦
            let one = subtree_within low h.0 t h.1 q u found in
            (one.0, rises_wider q h.0 q high u (omega arith) (bounds_rise h.0 high ts h.2) one.1, one.2)
        | inr both ↦
            let more = subtree_among_within h.0 high ts h.2 q u both.1 in
            let own = number_within low h.0 t h.1 in
            (more.0, more.1, omega (arith, more.2, own))
      ]

-- a number that is found is within the bounds
pub found_within : (low high : ℕ) (t : PlainTree) → Rises low high t → (q : ℕ) (u : PlainTree) → subtree q t ≡ Some u → (low ≤ q) × (q < high)
found_within low high t h q u e =
    let is = subtree_within low high t h q u e in
    let own = number_within q high u is.1 in
    (is.2, omega (arith, own))

pub found_among_within : (low high : ℕ) (ts : PlainTrees) → RiseAll low high ts → (q : ℕ) (u : PlainTree) → subtree_among q ts ≡ Some u → (low ≤ q) × (q < high)
found_among_within low high ts h q u e =
    let is = subtree_among_within low high ts h q u e in
    let own = number_within q high u is.1 in
    (is.2, omega (arith, own))

pub not_found : (low high : ℕ) (t : PlainTree) → Rises low high t → (q : ℕ) → (q < low) ⊎ (high ≤ q) → subtree q t ≡ None
not_found low high t h q out =
    elim (cases_option (subtree q t)) [
      | inl some ↦ let is =
          found_within low high t h q some.0 some.1 in absurd (elim out [ inl below ↦ omega (arith, is.0, below) | inr above ↦ omega (arith, is.1, above) ])
      | inr none ↦ none
    ]

pub not_found_among : (low high : ℕ) (ts : PlainTrees) → RiseAll low high ts → (q : ℕ) → (q < low) ⊎ (high ≤ q) → subtree_among q ts ≡ None
not_found_among low high ts h q out =
    elim (cases_option (subtree_among q ts)) [
      | inl some ↦ let is =
          found_among_within low high ts h q some.0 some.1 in
          absurd (elim out [ inl below ↦ omega (arith, is.0, below) | inr above ↦ omega (arith, is.1, above) ])
      | inr none ↦ none
    ]
