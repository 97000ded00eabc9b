-- Which nodes of a tree are in a level, and in which order.
use Rattle.std.proofs.Common.{◌≡◌, inl, inr, ℕ, zero, suc, ◌+◌, ◌<◌, ◌≤◌, List, [], ◌∷◌, ◌++◌, Some, None}
use Rattle.std.proofs.Common.{Bool, true, false, map, refl, sym, ap, ◌∙◌, subst, arith}
use Rattle.std.specs.Prelude.{nat_lt}
use Rattle.std.specs.List.{Contains, flat_map}
use Rattle.std.proofs.lemmas.Bool.{cases_Bool, cond-false, cond-true, ltb-true}
use Rattle.std.proofs.lemmas.Grind.{flat_map-append}
use Rattle.std.proofs.lemmas.List.{map-append}
use Rattle.std.proofs.lemmas.List.Elements.{Contains-append_cases}
use Rattle.std.proofs.lemmas.Option.{same_Some}
use Rattle.grammar_tree.proofs.Lent.{contains_none}
use Rattle.normal_form.specs.Form.{NormalForm}
use Rattle.syntax_tree.specs.Trees.{PlainTree, PlainTrees, IsBelow, IsIn, IsInSome, weight}
use Rattle.syntax_tree.specs.Trees as trees
use Rattle.syntax_tree.specs.Numbered.{NumbersRise, number_of, subtree}
use Rattle.syntax_tree.proofs.Lent.{AreWithin, IsWithin, within_from}
use Rattle.syntax_tree.specs.Levels.{at_depth, at_depth_all}
use Rattle.syntax_tree_cut.specs.WithoutNodes.{AreApart, dropped, is_among, loses_children}
use Rattle.syntax_tree_cut.proofs.Lent.{Rises, RiseAll, bounds_rise, found_among_within, found_within, not_found, number_within}
use Rattle.syntax_tree_cut.proofs.Lent.{rises_wider, subtree_below, subtree_within, deeper_found, in_found, in_some_found}
use Rattle.hdd_levels.specs.Levels.{deletable_at, deletable_children, level, with_leaves}

-- The numbers of the trees, and of what is below them, rise from tree to tree.
abbrev pub Spread : ℕ → ℕ → List PlainTree → Type 0
Spread low high [] = low ≤ high
Spread low high (t ∷ ts) = (middle : ℕ) × Rises low middle t × Spread middle high ts

pub spread_bounds : (low high : ℕ) (ts : List PlainTree) → Spread low high ts → low ≤ high
spread_bounds low high [] s = s
spread_bounds low high (t ∷ ts) s = let own = number_within low s.0 t s.1 in let rest = spread_bounds s.0 high ts s.2 in omega (arith, own, rest)

pub spread_from : (low low' high : ℕ) (ts : List PlainTree) → low' ≤ low → Spread low high ts → Spread low' high ts
spread_from low low' high [] le s = omega (arith, le, s)
spread_from low low' high (t ∷ ts) le s = (s.0, rises_wider low s.0 low' s.0 t le (omega arith) s.1, s.2)

pub spread_append : (low middle high : ℕ) (ts us : List PlainTree) → Spread low middle ts → Spread middle high us → Spread low high (ts ++ us)
spread_append low middle high [] us s r = spread_from middle low high us s r
spread_append low middle high (t ∷ ts) us s r = (s.0, s.1, spread_append s.0 middle high ts us s.2 r)

mutual
  pub depth_spread : (d low high : ℕ) (t : PlainTree) → Rises low high t → Spread low high (at_depth d t)
  depth_spread zero low high t h = (high, h, omega arith)
  depth_spread (suc d) low high (PlainTree.leaf n k i) h = omega (arith, h)
  depth_spread (suc d) low high (PlainTree.node n r a ts) h =
      spread_from (n + 1) low high (at_depth_all d ts) (omega (arith, h.0)) (depth_spread_all d (n + 1) high ts h.1)

  pub depth_spread_all : (d low high : ℕ) (ts : PlainTrees) → RiseAll low high ts → Spread low high (at_depth_all d ts)
  depth_spread_all d low high PlainTrees.none h = h
  depth_spread_all d low high (PlainTrees.next t ts) h =
      spread_append low h.0 high (at_depth d t) (at_depth_all d ts) (depth_spread d low h.0 t h.1) (depth_spread_all d h.0 high ts h.2)

pub leaves_spread : (low high : ℕ) (ts : PlainTrees) → RiseAll low high ts → Spread low high (with_leaves ts)
leaves_spread low high PlainTrees.none h = h
leaves_spread low high (PlainTrees.next t ts) h =
    elim (cases_Bool (nat_lt 0 (weight t))) [
      | inl some ↦ subst (λ l. Spread low high l) (sym (cond-true (nat_lt 0 (weight t)) (t ∷ with_leaves ts) (with_leaves ts) some))
          (h.0, h.1, leaves_spread h.0 high ts h.2)
      | inr none ↦
          let own = number_within low h.0 t h.1 in
          subst (λ l. Spread low high l) (sym (cond-false (nat_lt 0 (weight t)) (t ∷ with_leaves ts) (with_leaves ts) none))
          (spread_from h.0 low high (with_leaves ts) (omega (arith, own)) (leaves_spread h.0 high ts h.2))
    ]

module _ (N : NormalForm) where
  pub children_spread : (low high : ℕ) (t : PlainTree) → Rises low high t → Spread low high (deletable_children N t)
  children_spread low high (PlainTree.leaf n k i) h = omega (arith, h)
  children_spread low high (PlainTree.node n r a ts) h =
      let rest = bounds_rise (n + 1) high ts h.1 in
      let le : low ≤ high = omega (arith, rest, h.0) in
      elim (cases_Bool (loses_children N r)) [
        | inl some ↦ subst (λ l. Spread low high l) (sym (cond-true (loses_children N r) (with_leaves ts) [] some))
            (spread_from (n + 1) low high (with_leaves ts) (omega (arith, h.0)) (leaves_spread (n + 1) high ts h.1))
        | inr none ↦ subst (λ l. Spread low high l) (sym (cond-false (loses_children N r) (with_leaves ts) [] none)) le
      ]

  pub each_spread : (low high : ℕ) (ts : List PlainTree) → Spread low high ts → Spread low high (flat_map (deletable_children N) ts)
  each_spread low high [] s = s
  each_spread low high (t ∷ ts) s =
      spread_append low s.0 high (deletable_children N t) (flat_map (deletable_children N) ts) (children_spread low s.0 t s.1) (each_spread s.0 high ts s.2)

  pub level_spread : (d low high : ℕ) (t : PlainTree) → Rises low high t → Spread low high (deletable_at N d t)
  level_spread zero low high t h = let own = number_within low high t h in omega (arith, own)
  level_spread (suc d) low high t h = each_spread low high (at_depth d t) (depth_spread d low high t h)

-- a number of the trees is within their bounds
pub number_spread : (low high : ℕ) (ts : List PlainTree) (q : ℕ) → Spread low high ts → Contains (map number_of ts) q → (low ≤ q) × (q < high)
number_spread low high [] q s has = absurd (contains_none q has)
number_spread low high (t ∷ ts) q s (zero, lt, e) = let own = number_within low s.0 t s.1 in let rest =
    spread_bounds s.0 high ts s.2 in (omega (arith, own, e), omega (arith, own, e, rest))
number_spread low high (t ∷ ts) q s (suc k, lt, e) =
    let own = number_within low s.0 t s.1 in
    let rest = number_spread s.0 high ts q s.2 (k, omega (arith, lt), e) in
    (omega (arith, own, rest), rest.1)

-- a tree with the number is among the trees
pub tree_of_number : (ts : List PlainTree) (q : ℕ) → Contains (map number_of ts) q → (u : PlainTree) × Contains ts u × (number_of u ≡ q)
tree_of_number [] q has = absurd (contains_none q has)
tree_of_number (t ∷ ts) q (zero, lt, e) = (t, (zero, omega arith, refl), e)
tree_of_number (t ∷ ts) q (suc k, lt, e) =
    let more = tree_of_number ts q (k, omega (arith, lt), e) in
    (more.0, (suc more.1.0, (let in_it = more.1.1 in omega (arith, in_it)), more.1.2), more.2)

mutual
  pub depth_in : (d : ℕ) (t u : PlainTree) → Contains (at_depth d t) u → IsIn u t
  depth_in zero t u (zero, lt, e) = subst (λ v. IsIn v t) e (trees.itself t)
  depth_in zero t u (suc k, lt, e) = absurd (omega (arith, lt))
  depth_in (suc d) (PlainTree.leaf n k i) u has = absurd (contains_none u has)
  depth_in (suc d) (PlainTree.node n r a ts) u has = trees.below u n r a ts (depth_in_some d ts u has)

  pub depth_in_some : (d : ℕ) (ts : PlainTrees) (u : PlainTree) → Contains (at_depth_all d ts) u → IsInSome u ts
  depth_in_some d PlainTrees.none u has = absurd (contains_none u has)
  depth_in_some d (PlainTrees.next t ts) u has =
      elim (Contains-append_cases (at_depth d t) (at_depth_all d ts) u has) [
        | inl first ↦ trees.in_first u t ts (depth_in d t u first)
        | inr later ↦ trees.in_later u t ts (depth_in_some d ts u later)
      ]

in_later_too : (t : PlainTree) (ts : PlainTrees) (u : PlainTree) → IsInSome u ts × (0 < weight u) → IsInSome u (PlainTrees.next t ts) × (0 < weight u)
in_later_too t ts u more = (trees.in_later u t ts more.0, more.1)

in_first_or : (t : PlainTree) (ts : PlainTrees) (u : PlainTree) → nat_lt 0 (weight t) ≡ true → (Contains (with_leaves ts) u → IsInSome u ts × (0 < weight u))
    → Contains (t ∷ with_leaves ts) u → IsInSome u (PlainTrees.next t ts) × (0 < weight u)
in_first_or t ts u some rest (zero, lt, e) =
    subst (λ v. IsInSome v (PlainTrees.next t ts) × (0 < weight v)) e (trees.in_first t t ts (trees.itself t), ltb-true 0 (weight t) some)
in_first_or t ts u some rest (suc k, lt, e) = in_later_too t ts u (rest (k, omega (arith, lt), e))

pub leaves_in : (ts : PlainTrees) (u : PlainTree) → Contains (with_leaves ts) u → IsInSome u ts × (0 < weight u)
leaves_in PlainTrees.none u has = absurd (contains_none u has)
leaves_in (PlainTrees.next t ts) u has =
    elim (cases_Bool (nat_lt 0 (weight t))) [
      | inl some ↦ in_first_or t ts u some (λ h. leaves_in ts u h)
          (subst (λ l. Contains l u) (cond-true (nat_lt 0 (weight t)) (t ∷ with_leaves ts) (with_leaves ts) some) has)
      | inr none ↦ in_later_too t ts u (leaves_in ts u
          (subst (λ l. Contains l u) (cond-false (nat_lt 0 (weight t)) (t ∷ with_leaves ts) (with_leaves ts) none) has))
    ]

pub children_in : (N : NormalForm) (t u : PlainTree) → Contains (deletable_children N t) u → IsBelow u t × (0 < weight u)
children_in N (PlainTree.leaf n k i) u has = absurd (contains_none u has)
children_in N (PlainTree.node n r a ts) u has =
    elim (cases_Bool (loses_children N r)) [
      | inl some ↦ leaves_in ts u (subst (λ l. Contains l u) (cond-true (loses_children N r) (with_leaves ts) [] some) has)
      | inr none ↦ absurd (contains_none u (subst (λ l. Contains l u) (cond-false (loses_children N r) (with_leaves ts) [] none) has))
    ]

pub of_each : (N : NormalForm) (ts : List PlainTree) (u : PlainTree) → Contains (flat_map (deletable_children N) ts) u → (p : PlainTree) × Contains ts p
    × Contains (deletable_children N p) u
of_each N [] u has = absurd (contains_none u has)
of_each N (t ∷ ts) u has =
    elim (Contains-append_cases (deletable_children N t) (flat_map (deletable_children N) ts) u has) [
      | inl first ↦ (t, (zero, omega arith, refl), first)
      | inr later ↦ let more = of_each N ts u later in (more.0, (suc more.1.0, (let in_it = more.1.1 in omega (arith, in_it)), more.1.2), more.2)
    ]

-- what is below a tree has a greater number, and is found in it
pub below_found : (low high : ℕ) (t u : PlainTree) → Rises low high t → IsBelow u t → (subtree (number_of u) t ≡ Some u) × (number_of t < number_of u)
below_found low high (PlainTree.leaf n k i) u h is = elim is [ ]
below_found low high (PlainTree.node n r a ts) u h is =
    let deeper = in_some_found (n + 1) high ts h.1 u is in
    let within = found_among_within (n + 1) high ts h.1 (number_of u) u deeper in
    (subtree_below (number_of u) n r a ts (λ (e : n ≡ number_of u). omega (arith, e, within)) ∙ deeper, omega (arith, within))

-- each node of a level is below the root, and has a leaf
pub level_found : (N : NormalForm) (d low high : ℕ) (t u : PlainTree) → Rises low high t → Contains (deletable_at N d t) u → (subtree (number_of u) t ≡ Some u)
    × (number_of t < number_of u) × (0 < weight u)
level_found N zero low high t u h has = absurd (contains_none u has)
level_found N (suc d) low high t u h has =
    let parent = of_each N (at_depth d t) u has in
    let p = parent.0 in
    let there = in_found low high t h p (depth_in d t p parent.1) in
    let at = subtree_within low high t h (number_of p) p there in
    let child = children_in N p u parent.2 in
    let below = below_found (number_of p) high p u at.1 child.0 in
    let least = least_number low high t h (number_of p) p there in
    (deeper_found low high t h (number_of p) (number_of u) p u there below.0, (let more = below.1 in omega (arith, least, more)), child.1)
  where
    least_number : (low high : ℕ) (t : PlainTree) → Rises low high t → (q : ℕ) (v : PlainTree) → subtree q t ≡ Some v → number_of t ≤ q
    least_number low high (PlainTree.leaf n k i) h q v e = (found_within n high (PlainTree.leaf n k i) (omega arith, h.1) q v e).0
    least_number low high (PlainTree.node n r a ts) h q v e = (found_within n high (PlainTree.node n r a ts) (omega arith, h.1) q v e).0

-- trees that are found and spread are apart
pub spread_apart : (t : PlainTree) (low high : ℕ) (us : List PlainTree) → Spread low high us
    → ((u : PlainTree) → Contains us u → (subtree (number_of u) t ≡ Some u) × (number_of t < number_of u) × (0 < weight u)) → AreApart t (map number_of us)
spread_apart t low high [] s found = tt
spread_apart t low high (u ∷ us) s found =
    let own = found u (zero, omega arith, refl) in (
      record { node = u; node_is = own.0; below = λ (e : number_of t ≡ number_of u). (let less = own.1 in omega (arith, e, less)); leaf = own.2 },
      λ q has.
          let within = number_within low s.0 u s.1 in
          let later = number_spread s.0 high us q s.2 has in (
            omega (arith, within, later),
            λ v e. subst (λ (w : PlainTree). subtree q w ≡ None) (same_Some u v (sym own.0 ∙ e))
                (not_found low s.0 u s.1 q (inr later.0)),
          ),
      spread_apart t s.0 high us s.2 (λ v has. found v (suc has.0, (let in_it = has.1 in omega (arith, in_it)), has.2)),
    )

pub level_apart : (N : NormalForm) (d low high : ℕ) (t : PlainTree) → Rises low high t → AreApart t (level N d t)
level_apart N d low high t h = spread_apart t low high (deletable_at N d t) (level_spread N d low high t h) (λ u has. level_found N d low high t u h has)

pub in_with : (p q : ℕ) (ds qs : List ℕ) → (Contains ds q → Contains qs q) → Contains (p ∷ ds) q → Contains (p ∷ qs) q
in_with p q ds qs rest (zero, lt, e) = (zero, omega arith, e)
in_with p q ds qs rest (suc k, lt, e) = let more = rest (k, omega (arith, lt), e) in (suc more.0, (let in_it = more.1 in omega (arith, in_it)), more.2)

-- some of the nodes
pub dropped_in : (qs : List ℕ) (keep : List Bool) (q : ℕ) → Contains (dropped qs keep) q → Contains qs q
dropped_in [] keep q has = absurd (contains_none q has)
dropped_in (p ∷ qs) [] q has = in_with p q (dropped qs []) qs (λ h. dropped_in qs [] q h) has
dropped_in (p ∷ qs) (true ∷ keep) q has = let more = dropped_in qs keep q has in (suc more.0, (let in_it = more.1 in omega (arith, in_it)), more.2)
dropped_in (p ∷ qs) (false ∷ keep) q has = in_with p q (dropped qs keep) qs (λ h. dropped_in qs keep q h) has

pub dropped_apart : (t : PlainTree) (qs : List ℕ) (keep : List Bool) → AreApart t qs → AreApart t (dropped qs keep)
dropped_apart t [] keep apart = tt
dropped_apart t (q ∷ qs) [] apart = (apart.0, λ p has. apart.1 p (dropped_in qs [] p has), dropped_apart t qs [] apart.2)
dropped_apart t (q ∷ qs) (true ∷ keep) apart = dropped_apart t qs keep apart.2
dropped_apart t (q ∷ qs) (false ∷ keep) apart = (apart.0, λ p has. apart.1 p (dropped_in qs keep p has), dropped_apart t qs keep apart.2)

-- the level below one tree after another
abbrev pub level_all : NormalForm → ℕ → PlainTrees → List ℕ
level_all N d ts = map number_of (flat_map (deletable_children N) (at_depth_all d ts))

pub level_next : (N : NormalForm) (d : ℕ) (t : PlainTree) (ts : PlainTrees) → level_all N d (PlainTrees.next t ts) ≡ level N (suc d) t ++ level_all N d ts
level_next N d t ts =
    ap (map number_of) (flat_map-append (deletable_children N) (at_depth d t) (at_depth_all d ts))
    ∙ map-append number_of (flat_map (deletable_children N) (at_depth d t)) (flat_map (deletable_children N) (at_depth_all d ts))

-- Those of the numbers that are from one up to another are among the nodes.
abbrev pub AreOf : List ℕ → ℕ → ℕ → List ℕ → Type 0
AreOf qs low high nodes = (q : ℕ) → low ≤ q → q < high → is_among qs q ≡ true → Contains nodes q

-- rising numbers have bounds
mutual
  within_rises : (low high : ℕ) (t : PlainTree) → IsWithin low high t → Rises low high t
  within_rises low high (PlainTree.leaf n k i) w = w
  within_rises low high (PlainTree.node n r a ts) w = (w.0, within_rise (n + 1) high ts w.1)

  within_rise : (low high : ℕ) (ts : PlainTrees) → AreWithin low high ts → RiseAll low high ts
  within_rise low high PlainTrees.none w = w
  within_rise low high (PlainTrees.next t ts) w = (w.0, within_rises low w.0 t w.1, within_rise w.0 high ts w.2)

pub rising_bound : (t : PlainTree) → NumbersRise t → (high : ℕ) × Rises 0 high t
rising_bound t rise = let within = within_from t rise in (within.0, within_rises 0 within.0 t within.1)
