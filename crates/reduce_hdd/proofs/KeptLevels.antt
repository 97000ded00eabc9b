-- Nodes of a level that aren't deleted are nodes of the level of what is left.
use Rattle.std.proofs.Common.{◌≡◌, ◌⊎◌, inl, inr, ℕ, zero, suc, ◌+◌, ◌<◌, ◌≤◌, List, [], ◌∷◌, Bool, true, false, map, sym, ap, ◌∙◌, subst, arith}
use Rattle.std.specs.Prelude.{nat_lt}
use Rattle.std.specs.List.{Contains}
use Rattle.std.proofs.lemmas.Bool.{cases_Bool, cond-false, cond-true, false_from_ne_true, false≢true}
use Rattle.std.proofs.lemmas.List.{append-nil}
use Rattle.std.proofs.lemmas.List.Elements.{Contains-append_cases, Contains-append_left, Contains-append_right}
use Rattle.grammar_tree.proofs.Lent.{contains_none}
use Rattle.normal_form.specs.Form.{NormalForm}
use Rattle.syntax_tree.specs.Trees.{PlainTree, PlainTrees, weight}
use Rattle.syntax_tree.specs.Numbered.{NumbersRise, number_of, roots}
use Rattle.syntax_tree_cut.specs.WithoutNodes.{dropped, is_among, loses_children, without_nodes, without_nodes_all}
use Rattle.syntax_tree_cut.proofs.Lent.{Rises, RiseAll, bounds_rise, number_within, child_within, NoneFrom, first_kept, first_out, without_others}
use Rattle.hdd_levels.specs.Levels.{deletable_children, level, with_leaves}
use Rattle.hdd_levels.proofs.Lent.{AreOf, level_all, level_next, rising_bound, dropped_of, level_split, own_level}

-- The number is one of a tree that has a leaf.
abbrev HasNumber : PlainTrees → ℕ → Type 0
HasNumber ts q = Contains (map number_of (with_leaves ts)) q

some_first : (t : PlainTree) (ts : PlainTrees) (q : ℕ) → nat_lt 0 (weight t) ≡ true → Contains (number_of t ∷ map number_of (with_leaves ts)) q
    → HasNumber (PlainTrees.next t ts) q
some_first t ts q some has =
    subst (λ (l : List PlainTree). Contains (map number_of l) q) (sym (cond-true (nat_lt 0 (weight t)) (t ∷ with_leaves ts) (with_leaves ts) some)) has

none_first : (t : PlainTree) (ts : PlainTrees) (q : ℕ) → nat_lt 0 (weight t) ≡ false → HasNumber ts q → HasNumber (PlainTrees.next t ts) q
none_first t ts q none has =
    subst (λ (l : List PlainTree). Contains (map number_of l) q) (sym (cond-false (nat_lt 0 (weight t)) (t ∷ with_leaves ts) (with_leaves ts) none)) has

later_number : (t : PlainTree) (ts : PlainTrees) (q : ℕ) → HasNumber ts q → HasNumber (PlainTrees.next t ts) q
later_number t ts q (k, lt, e) =
    elim (cases_Bool (nat_lt 0 (weight t))) [
      | inl some ↦ some_first t ts q some (suc k, omega (arith, lt), e)
      | inr none ↦ none_first t ts q none (k, lt, e)
    ]

-- it is that of the first tree, or of a later one
first_or_later : (t : PlainTree) (ts : PlainTrees) (q : ℕ) → HasNumber (PlainTrees.next t ts) q → ((nat_lt 0 (weight t) ≡ true) × (number_of t ≡ q))
    ⊎ HasNumber ts q
first_or_later t ts q has =
    elim (cases_Bool (nat_lt 0 (weight t))) [
      | inl some ↦ either some (subst (λ (l : List PlainTree). Contains (map number_of l) q)
          (cond-true (nat_lt 0 (weight t)) (t ∷ with_leaves ts) (with_leaves ts) some) has)
      | inr none ↦ inr (subst (λ (l : List PlainTree). Contains (map number_of l) q)
          (cond-false (nat_lt 0 (weight t)) (t ∷ with_leaves ts) (with_leaves ts) none) has)
    ]
  where
    either : nat_lt 0 (weight t) ≡ true → Contains (number_of t ∷ map number_of (with_leaves ts)) q → ((nat_lt 0 (weight t) ≡ true) × (number_of t ≡ q))
        ⊎ HasNumber ts q
    either some (zero, lt, e) = inl (some, e)
    either some (suc k, lt, e) = inr (k, omega (arith, lt), e)

module _ (qs : List ℕ) where
  -- of some trees none of which has one of the numbers below its root
  root_stays : (low high : ℕ) (ts : PlainTrees) → RiseAll low high ts → AreOf qs low high (roots ts) → (q : ℕ) → HasNumber ts q → is_among qs q ≡ false
      → HasNumber (without_nodes_all qs ts) q
  root_stays low high PlainTrees.none h of q has stays = has
  root_stays low high (PlainTrees.next t ts) h of q has stays =
      let own = number_within low h.0 t h.1 in
      let rest = bounds_rise h.0 high ts h.2 in
      let inside : NoneFrom qs (number_of t + 1) h.0 =
      λ n le lt. false_from_ne_true (is_among qs n) (λ is. not_root n le lt (of n (omega (arith, le, own)) (omega (arith, lt, rest)) is)) in
      let same : without_nodes qs t ≡ t = without_others qs low h.0 t h.1 inside in
      let more : HasNumber ts q → HasNumber (without_nodes_all qs ts) q =
      λ one. root_stays h.0 high ts h.2 (λ n le lt is. later n le (of n (omega (arith, le, own)) lt is)) q one stays in
      elim (cases_Bool (is_among qs (number_of t))) [
        | inl out ↦
            subst (λ (us : PlainTrees). HasNumber us q) (sym (first_out qs t ts out))
            (elim (first_or_later t ts q has) [ inl first ↦ absurd (false≢true (sym stays ∙ ap (is_among qs) (sym first.1) ∙ out)) | inr one ↦ more one ])
        | inr kept ↦
            subst (λ (us : PlainTrees). HasNumber us q)
            (sym (first_kept qs t ts kept ∙ ap (λ (u : PlainTree). PlainTrees.next u (without_nodes_all qs ts)) same))
            (elim (first_or_later t ts q has) [
              | inl first ↦ some_first t (without_nodes_all qs ts) q first.0 (zero, omega arith, first.1)
              | inr one ↦ later_number t (without_nodes_all qs ts) q (more one)
            ])
      ]
    where
      not_root : (n : ℕ) → number_of t + 1 ≤ n → n < h.0 → Contains (number_of t ∷ roots ts) n → ⊥
      not_root n le lt (zero, in_it, e) = omega (arith, e, le)
      not_root n le lt (suc k, in_it, e) = let within = child_within h.0 high ts h.2 n (k, omega (arith, in_it), e) in omega (arith, within, lt)

      later : (n : ℕ) → h.0 ≤ n → Contains (number_of t ∷ roots ts) n → Contains (roots ts) n
      later n le (zero, in_it, e) = absurd (let own = number_within low h.0 t h.1 in omega (arith, own, e, le))
      later n le (suc k, in_it, e) = (k, omega (arith, in_it), e)

  module _ (N : NormalForm) where
    -- the level below a node that can lose its children has those that have a leaf
    own_is : (n r a : ℕ) (ts : PlainTrees) → loses_children N r ≡ true → level N 1 (PlainTree.node n r a ts) ≡ map number_of (with_leaves ts)
    own_is n r a ts loses =
        ap (map number_of) (append-nil (deletable_children N (PlainTree.node n r a ts)) ∙ cond-true (loses_children N r) (with_leaves ts) [] loses)

    own_none : (n r a : ℕ) (ts : PlainTrees) → loses_children N r ≡ false → level N 1 (PlainTree.node n r a ts) ≡ []
    own_none n r a ts keeps =
        ap (map number_of) (append-nil (deletable_children N (PlainTree.node n r a ts)) ∙ cond-false (loses_children N r) (with_leaves ts) [] keeps)

    mutual
      level_stays : (d low high : ℕ) (t : PlainTree) → Rises low high t → AreOf qs (number_of t + 1) high (level N d t) → (q : ℕ) → Contains (level N d t) q
          → is_among qs q ≡ false → Contains (level N d (without_nodes qs t)) q
      level_stays d low high (PlainTree.leaf n k i) h of q has stays = has
      level_stays zero low high (PlainTree.node n r a ts) h of q has stays = has
      level_stays (suc zero) low high (PlainTree.node n r a ts) h of q has stays =
          elim (cases_Bool (loses_children N r)) [
            | inl loses ↦
                subst (λ (l : List ℕ). Contains l q) (sym (own_is n r a (without_nodes_all qs ts) loses))
                (root_stays (n + 1) high ts h.1 (own_level N qs n r a ts (n + 1) high of loses) q
                (subst (λ (l : List ℕ). Contains l q) (own_is n r a ts loses) has) stays)
            | inr keeps ↦ absurd (contains_none q (subst (λ (l : List ℕ). Contains l q) (own_none n r a ts keeps) has))
          ]
      level_stays (suc (suc d)) low high (PlainTree.node n r a ts) h of q has stays = level_stays_all d (n + 1) high ts h.1 of q has stays

      level_stays_all : (d low high : ℕ) (ts : PlainTrees) → RiseAll low high ts → AreOf qs low high (level_all N d ts) → (q : ℕ)
          → Contains (level_all N d ts) q → is_among qs q ≡ false → Contains (level_all N d (without_nodes_all qs ts)) q
      level_stays_all d low high PlainTrees.none h of q has stays = has
      level_stays_all d low high (PlainTrees.next t ts) h of q has stays =
          let split = level_split N qs d low high t ts h of in
          subst (λ (us : PlainTrees). Contains (level_all N d us) q) (sym (first_kept qs t ts split.0))
          (subst (λ (l : List ℕ). Contains l q) (sym (level_next N d (without_nodes qs t) (without_nodes_all qs ts)))
          (elim (Contains-append_cases (level N (suc d) t) (level_all N d ts) q (subst (λ (l : List ℕ). Contains l q) (level_next N d t ts) has)) [
            | inl first ↦ Contains-append_left (level N (suc d) (without_nodes qs t)) (level_all N d (without_nodes_all qs ts)) q
                (level_stays (suc d) low h.0 t h.1 split.1 q first stays)
            | inr later ↦ Contains-append_right (level N (suc d) (without_nodes qs t)) (level_all N d (without_nodes_all qs ts)) q
                (level_stays_all d h.0 high ts h.2 split.2 q later stays)
          ]))

-- a node of a level that isn't among those that are deleted of it
pub stays_in_level : (N : NormalForm) (d : ℕ) (t : PlainTree) (keep : List Bool) (q : ℕ) → NumbersRise t → Contains (level N d t) q
    → is_among (dropped (level N d t) keep) q ≡ false →
    Contains (level N d (without_nodes (dropped (level N d t) keep) t)) q
stays_in_level N d t keep q rise has stays =
    let h = rising_bound t rise in
    level_stays (dropped (level N d t) keep) N d 0 h.0 t h.1 (dropped_of (level N d t) keep (number_of t + 1) h.0) q has stays
