-- Where of each plus whose elements are all in a level one is kept, each plus of what is left has an element.
use Rattle.std.proofs.Common.{◌≡◌, inl, inr, ℕ, zero, suc, ◌+◌, ◌-◌, ◌<◌, ◌≤◌, List, [], ◌∷◌, ◌++◌, Option, Some, None, Bool, true, false, drop}
use Rattle.std.proofs.Common.{length, map, nat_eq, take, refl, sym, ap, ◌∙◌, subst, arith, append_assoc, length-append, length-drop}
use Rattle.std.specs.Prelude.{◌&&◌, ◌||◌, nat_lt, not, slice_get}
use Rattle.std.specs.List.{All, Contains, between, flat_map, list_all, list_any}
use Rattle.std.proofs.lemmas.Bool.{and_parts, cases_Bool, cond-false, cond-true, eq-eqb, eqb-false, eqb-true, false_from_ne_true, false≢true, ne_eqb, or_left}
use Rattle.std.proofs.lemmas.List.{length-map, map-append}
use Rattle.std.proofs.lemmas.List.Elements.{All-append, All-cons, All-nil, Contains-append_cases}
use Rattle.std.proofs.lemmas.List.Folds.{list_all-append, list_any-append}
use Rattle.grammar_tree.proofs.Lent.{contains_none}
use Rattle.std.specs.Option.{option_map_or}
use Rattle.normal_form.specs.Form.{RuleForm, NormalForm}
use Rattle.syntax_tree.specs.Trees.{PlainTree, PlainTrees, children_of, count, weight}
use Rattle.syntax_tree.specs.Numbered.{number_of, roots}
use Rattle.syntax_tree.specs.Levels.{at_depth, at_depth_all}
use Rattle.syntax_tree_cut.specs.WithoutNodes.{NoneAmong, dropped, form_loses, is_among, loses_children, without_nodes, without_nodes_all}
use Rattle.syntax_tree_cut.proofs.Lent.{Rises, RiseAll, bounds_rise, number_within, rise_wider, child_within, NoneFrom, first_kept, first_out, without_others}
use Rattle.hdd_levels.specs.Levels.{deletable_children, fills_plus, fills_pluses, fills_pluses_all, is_plus, is_plus_form, level, with_leaves}
use Rattle.hdd_levels.specs.LevelForms.{elements_if, is_plus_node, plus_of, pluses_of}
use Rattle.hdd_levels.specs.inner.LevelForms.{IsWithin, keeps_element}
use Rattle.hdd_levels.proofs.InLevels.{AreOf, Spread, children_spread, depth_spread, dropped_in, each_spread, leaves_spread, level_all, number_spread}
use Rattle.hdd_levels.proofs.KeptTrees.{among_contains, dropped_of, filled, level_elements_all, level_split, no_level, own_level}

-- whether what is left of the tree's own children fills it, if it is a plus
abbrev pub own_fills : NormalForm → List ℕ → PlainTree → Bool
own_fills N qs (PlainTree.leaf n k i) = true
own_fills N qs (PlainTree.node n r a ts) = fills_plus N r (without_nodes_all qs ts)

and_true : (b : Bool) → (b && true) ≡ b
and_true true = refl
and_true false = refl

or_false : (b : Bool) → (b || false) ≡ b
or_false true = refl
or_false false = refl

module _ (N : NormalForm) (qs : List ℕ) where
  -- below trees of which none or some are left out as they are
  roots_fill : (low high : ℕ) (ts : PlainTrees) → RiseAll low high ts → fills_pluses_all N ts ≡ true → AreOf qs low high (roots ts)
      → fills_pluses_all N (without_nodes_all qs ts) ≡ true
  roots_fill low high PlainTrees.none h fills of = refl
  roots_fill low high (PlainTrees.next t ts) h fills of =
      let own = number_within low h.0 t h.1 in
      let rest = bounds_rise h.0 high ts h.2 in
      let both = and_parts (fills_pluses N t) (fills_pluses_all N ts) fills in
      let more = roots_fill h.0 high ts h.2 both.1 (λ q le lt is. later q le (of q (omega (arith, le, own)) lt is)) in
      let inside : NoneFrom qs (number_of t + 1) h.0 =
      λ n le lt. false_from_ne_true (is_among qs n) (λ is. not_root n le lt (of n (omega (arith, le, own)) (omega (arith, lt, rest)) is)) in
      elim (cases_Bool (is_among qs (number_of t))) [
        | inl out ↦ ap (fills_pluses_all N) (first_out qs t ts out) ∙ more
        | inr stays ↦
            ap (fills_pluses_all N) (first_kept qs t ts stays)
            ∙ ap (λ (u : PlainTree). fills_pluses N u && fills_pluses_all N (without_nodes_all qs ts)) (without_others qs low h.0 t h.1 inside)
            ∙ ap (λ (b : Bool). b && fills_pluses_all N (without_nodes_all qs ts)) both.0
            ∙ more
      ]
    where
      not_root : (n : ℕ) → number_of t + 1 ≤ n → n < h.0 → Contains (number_of t ∷ roots ts) n → ⊥
      not_root n le lt (zero, in_it, e) = omega (arith, e, le)
      not_root n le lt (suc k, in_it, e) = let within = child_within h.0 high ts h.2 n (k, omega (arith, in_it), e) in omega (arith, within, lt)

      later : (q : ℕ) → h.0 ≤ q → Contains (number_of t ∷ roots ts) q → Contains (roots ts) q
      later q le (zero, in_it, e) = absurd (let own = number_within low h.0 t h.1 in omega (arith, own, e, le))
      later q le (suc k, in_it, e) = (k, omega (arith, in_it), e)

  same_fills : (r : ℕ) (ts : PlainTrees) → NoneAmong qs ts → fills_plus N r ts ≡ true → fills_plus N r (without_nodes_all qs ts) ≡ true
  same_fills r PlainTrees.none none fills = fills
  same_fills r (PlainTrees.next t ts) none fills = ap (fills_plus N r) (first_kept qs t ts none.0)

  own_roots : (n r a high : ℕ) (ts : PlainTrees) → AreOf qs (n + 1) high (level N 1 (PlainTree.node n r a ts)) → AreOf qs (n + 1) high (roots ts)
  own_roots n r a high ts of q le lt is =
      elim (cases_Bool (loses_children N r)) [
        | inl loses ↦ own_level N qs n r a ts (n + 1) high of loses q le lt is
        | inr keeps ↦ absurd (false≢true (sym (no_level N qs n r a ts (n + 1) high of keeps q le lt) ∙ is))
      ]

  -- without nodes of a level, a tree fills its pluses where those one depth higher are filled
  mutual
    pub fills_by_parents : (d low high : ℕ) (t : PlainTree) → Rises low high t → fills_pluses N t ≡ true → AreOf qs (number_of t + 1) high (level N (suc d) t)
        → fills_pluses N (without_nodes qs t) ≡ list_all (own_fills N qs) (at_depth d t)
    fills_by_parents zero low high (PlainTree.leaf n k i) h fills of = refl
    fills_by_parents zero low high (PlainTree.node n r a ts) h fills of =
        let both = and_parts (fills_plus N r ts) (fills_pluses_all N ts) fills in
        ap (λ (b : Bool). fills_plus N r (without_nodes_all qs ts) && b) (roots_fill (n + 1) high ts h.1 both.1 (own_roots n r a high ts of))
    fills_by_parents (suc d) low high (PlainTree.leaf n k i) h fills of = refl
    fills_by_parents (suc d) low high (PlainTree.node n r a ts) h fills of =
        let both = and_parts (fills_plus N r ts) (fills_pluses_all N ts) fills in
        ap (λ (b : Bool). b && fills_pluses_all N (without_nodes_all qs ts)) (same_fills r ts (level_elements_all N qs d (n + 1) high ts h.1 of).0 both.0)
        ∙ fills_by_parents_all d (n + 1) high ts h.1 both.1 of

    fills_by_parents_all : (d low high : ℕ) (ts : PlainTrees) → RiseAll low high ts → fills_pluses_all N ts ≡ true → AreOf qs low high (level_all N d ts)
        → fills_pluses_all N (without_nodes_all qs ts) ≡ list_all (own_fills N qs) (at_depth_all d ts)
    fills_by_parents_all d low high PlainTrees.none h fills of = refl
    fills_by_parents_all d low high (PlainTrees.next t ts) h fills of =
        let split = level_split N qs d low high t ts h of in
        let both = and_parts (fills_pluses N t) (fills_pluses_all N ts) fills in
        ap (fills_pluses_all N) (first_kept qs t ts split.0)
        ∙ ap (λ (b : Bool). b && fills_pluses_all N (without_nodes_all qs ts)) (fills_by_parents d low h.0 t h.1 both.0 split.1)
        ∙ ap (λ (b : Bool). list_all (own_fills N qs) (at_depth d t) && b) (fills_by_parents_all d h.0 high ts h.2 both.1 split.2)
        ∙ sym (list_all-append (own_fills N qs) (at_depth d t) (at_depth_all d ts))

-- numbers that are among the same, as far as the trees have them
mutual
  without_alike : (ps qs : List ℕ) (low high : ℕ) (t : PlainTree) → Rises low high t
      → ((n : ℕ) → number_of t + 1 ≤ n → n < high → is_among ps n ≡ is_among qs n) → without_nodes ps t ≡ without_nodes qs t
  without_alike ps qs low high (PlainTree.leaf n k i) h alike = refl
  without_alike ps qs low high (PlainTree.node n r a ts) h alike =
      ap (λ (us : PlainTrees). PlainTree.node n r a us) (without_alike_all ps qs (n + 1) high ts h.1 alike)

  without_alike_all : (ps qs : List ℕ) (low high : ℕ) (ts : PlainTrees) → RiseAll low high ts → ((n : ℕ) → low ≤ n → n < high → is_among ps n ≡ is_among qs n)
      → without_nodes_all ps ts ≡ without_nodes_all qs ts
  without_alike_all ps qs low high PlainTrees.none h alike = refl
  without_alike_all ps qs low high (PlainTrees.next t ts) h alike =
      let own = number_within low h.0 t h.1 in
      let rest = bounds_rise h.0 high ts h.2 in
      let more = without_alike_all ps qs h.0 high ts h.2 (λ n le lt. alike n (omega (arith, le, own)) lt) in
      let same = alike (number_of t) own.0 (omega (arith, own, rest)) in
      elim (cases_Bool (is_among ps (number_of t))) [
        | inl out ↦ first_out ps t ts out ∙ more ∙ sym (first_out qs t ts (sym same ∙ out))
        | inr stays ↦
            first_kept ps t ts stays
            ∙ ap (λ (u : PlainTree). PlainTrees.next u (without_nodes_all ps ts))
            (without_alike ps qs low h.0 t h.1 (λ n le lt. alike n (omega (arith, le, own)) (omega (arith, lt, rest))))
            ∙ ap (λ (us : PlainTrees). PlainTrees.next (without_nodes qs t) us) more
            ∙ sym (first_kept qs t ts (sym same ∙ stays))
      ]

-- what is dropped of a list of nodes and of those after them
drop_none : (keep : List Bool) → drop 0 keep ≡ keep
drop_none [] = refl
drop_none (b ∷ keep) = refl

drop_nothing : (k : ℕ) (keep : List Bool) → keep ≡ [] → drop k keep ≡ []
drop_nothing zero [] e = refl
drop_nothing (suc k) [] e = refl
drop_nothing k (b ∷ keep) e = absurd (cc)

pub dropped_append : (ps qs : List ℕ) (keep : List Bool) → dropped (ps ++ qs) keep ≡ dropped ps keep ++ dropped qs (drop (length ps) keep)
dropped_append [] qs keep = ap (dropped qs) (sym (drop_none keep))
dropped_append (p ∷ ps) qs [] =
    ap (λ (l : List ℕ). p ∷ l) (dropped_append ps qs []
    ∙ ap (λ (k : List Bool). dropped ps [] ++ dropped qs k) (drop_nothing (length ps) [] refl ∙ sym (drop_nothing (suc (length ps)) [] refl)))
dropped_append (p ∷ ps) qs (true ∷ keep) = dropped_append ps qs keep
dropped_append (p ∷ ps) qs (false ∷ keep) = ap (λ (l : List ℕ). p ∷ l) (dropped_append ps qs keep)

not_among : (nodes : List ℕ) (keep : List Bool) (n : ℕ) → (Contains nodes n → ⊥) → is_among (dropped nodes keep) n ≡ false
not_among nodes keep n not =
    false_from_ne_true (is_among (dropped nodes keep) n) (λ is. not (dropped_in nodes keep n (among_contains (dropped nodes keep) n is)))

in_middle : (front middle back : List ℕ) (keep : List Bool) (n : ℕ) → (Contains front n → ⊥) → (Contains back n → ⊥)
    → is_among (dropped (front ++ (middle ++ back)) keep) n ≡ is_among (dropped middle (drop (length front) keep)) n
in_middle front middle back keep n not_front not_back =
    let rest : List Bool = drop (length front) keep in
    ap (λ (l : List ℕ). is_among l n) (dropped_append front (middle ++ back) keep
    ∙ ap (λ (l : List ℕ). dropped front keep ++ l) (dropped_append middle back rest))
    ∙ list_any-append (nat_eq n) (dropped front keep) (dropped middle rest ++ dropped back (drop (length middle) rest))
    ∙ ap (λ (b : Bool). b || is_among (dropped middle rest ++ dropped back (drop (length middle) rest)) n) (not_among front keep n not_front)
    ∙ list_any-append (nat_eq n) (dropped middle rest) (dropped back (drop (length middle) rest))
    ∙ ap (λ (b : Bool). is_among (dropped middle rest) n || b) (not_among back (drop (length middle) rest) n not_back)
    ∙ or_false (is_among (dropped middle rest) n)

-- whether there are trees
abbrev some_trees : PlainTrees → Bool
some_trees PlainTrees.none = false
some_trees (PlainTrees.next t ts) = true

plus_filled : (N : NormalForm) (r : ℕ) (ts : PlainTrees) → is_plus N r ≡ true → fills_plus N r ts ≡ some_trees ts
plus_filled N r PlainTrees.none e = ap not e
plus_filled N r (PlainTrees.next t ts) e = refl

-- without the first tree, and more of the others
first_too : (low high : ℕ) (t : PlainTree) (ts : PlainTrees) (h : RiseAll low high (PlainTrees.next t ts)) (qs : List ℕ)
    → without_nodes_all (number_of t ∷ qs) (PlainTrees.next t ts) ≡ without_nodes_all qs ts
first_too low high t ts h qs =
    let own = number_within low h.0 t h.1 in
    first_out (number_of t ∷ qs) t ts (or_left (nat_eq (number_of t) (number_of t)) (is_among qs (number_of t)) (eq-eqb (number_of t) (number_of t) refl))
    ∙ without_alike_all (number_of t ∷ qs) qs h.0 high ts h.2
    (λ n le lt. ap (λ (b : Bool). b || is_among qs n) (ne_eqb n (number_of t) (λ (e : n ≡ number_of t). omega (arith, e, le, own))))

first_not : (low high : ℕ) (t : PlainTree) (ts : PlainTrees) (h : RiseAll low high (PlainTrees.next t ts)) (nodes : List ℕ) (keep : List Bool)
    → ((n : ℕ) → Contains nodes n → h.0 ≤ n) → is_among (dropped nodes keep) (number_of t) ≡ false
first_not low high t ts h nodes keep above =
    let own = number_within low h.0 t h.1 in
    not_among nodes keep (number_of t) (λ has. let le = above (number_of t) has in omega (arith, own, le))

-- of trees that are all in the list of nodes some are left where a flag is true
keeps_some : (low high : ℕ) (ts : PlainTrees) → RiseAll low high ts → (keep : List Bool) → count ts ≤ length keep
    → some_trees (without_nodes_all (dropped (roots ts) keep) ts) ≡ list_any (λ b. b) (take (count ts) keep)
keeps_some low high PlainTrees.none h [] le = refl
keeps_some low high PlainTrees.none h (b ∷ keep) le = refl
keeps_some low high (PlainTrees.next t ts) h [] le = absurd (omega (arith, le))
keeps_some low high (PlainTrees.next t ts) h (true ∷ keep) le =
    ap some_trees (first_kept (dropped (roots ts) keep) t ts (first_not low high t ts h (roots ts) keep (λ n has. (child_within h.0 high ts h.2 n has).0)))
keeps_some low high (PlainTrees.next t ts) h (false ∷ keep) le =
    ap some_trees (first_too low high t ts h (dropped (roots ts) keep)) ∙ keeps_some h.0 high ts h.2 keep (omega (arith, le))

-- a tree without a leaf is left
no_more_leaves : (ts : PlainTrees) → length (with_leaves ts) ≤ count ts
no_more_leaves PlainTrees.none = omega arith
no_more_leaves (PlainTrees.next t ts) =
    let more = no_more_leaves ts in
    elim (cases_Bool (nat_lt 0 (weight t))) [
      | inl some ↦ let e =
          ap (λ (l : List PlainTree). length l) (cond-true (nat_lt 0 (weight t)) (t ∷ with_leaves ts) (with_leaves ts) some) in omega (arith, more, e)
      | inr none ↦ let e =
          ap (λ (l : List PlainTree). length l) (cond-false (nat_lt 0 (weight t)) (t ∷ with_leaves ts) (with_leaves ts) none) in omega (arith, more, e)
    ]

all_leaves : (ts : PlainTrees) → length (with_leaves ts) ≡ count ts → map number_of (with_leaves ts) ≡ roots ts
all_leaves PlainTrees.none e = refl
all_leaves (PlainTrees.next t ts) e =
    elim (cases_Bool (nat_lt 0 (weight t))) [
      | inl some ↦
          let is = cond-true (nat_lt 0 (weight t)) (t ∷ with_leaves ts) (with_leaves ts) some in
          let long = ap (λ (l : List PlainTree). length l) is in
          ap (map number_of) is ∙ ap (λ (l : List ℕ). number_of t ∷ l) (all_leaves ts (omega (arith, e, long)))
      | inr none ↦
          let long = ap (λ (l : List PlainTree). length l) (cond-false (nat_lt 0 (weight t)) (t ∷ with_leaves ts) (with_leaves ts) none) in
          let most = no_more_leaves ts in
          absurd (omega (arith, e, long, most))
    ]

module _ (low high : ℕ) (t : PlainTree) (ts : PlainTrees) (h : RiseAll low high (PlainTrees.next t ts)) where
  not_first : (keep : List Bool) → is_among (dropped (map number_of (with_leaves ts)) keep) (number_of t) ≡ false
  not_first keep =
      first_not low high t ts h (map number_of (with_leaves ts)) keep
      (λ n has. (number_spread h.0 high (with_leaves ts) n (leaves_spread h.0 high ts h.2) has).0)

  with_first : (keep : List Bool) → ((keep : List Bool) → some_trees (without_nodes_all (dropped (map number_of (with_leaves ts)) keep) ts) ≡ true) →
      some_trees (without_nodes_all (dropped (number_of t ∷ map number_of (with_leaves ts)) keep) (PlainTrees.next t ts)) ≡ true
  with_first [] rest = ap some_trees (first_too low high t ts h (dropped (map number_of (with_leaves ts)) [])) ∙ rest []
  with_first (true ∷ keep) rest = ap some_trees (first_kept (dropped (map number_of (with_leaves ts)) keep) t ts (not_first keep))
  with_first (false ∷ keep) rest = ap some_trees (first_too low high t ts h (dropped (map number_of (with_leaves ts)) keep)) ∙ rest keep

keeps_leafless : (low high : ℕ) (ts : PlainTrees) → RiseAll low high ts → (keep : List Bool) → (length (with_leaves ts) ≡ count ts → ⊥)
    → some_trees (without_nodes_all (dropped (map number_of (with_leaves ts)) keep) ts) ≡ true
keeps_leafless low high PlainTrees.none h keep fewer = absurd (fewer refl)
keeps_leafless low high (PlainTrees.next t ts) h keep fewer =
    elim (cases_Bool (nat_lt 0 (weight t))) [
      | inl some ↦
          let is = cond-true (nat_lt 0 (weight t)) (t ∷ with_leaves ts) (with_leaves ts) some in
          ap (λ (l : List PlainTree). some_trees (without_nodes_all (dropped (map number_of l) keep) (PlainTrees.next t ts))) is
          ∙ with_first low high t ts h keep (λ k. keeps_leafless h.0 high ts h.2 k (λ e. fewer (ap (λ (l : List PlainTree). length l) is ∙ ap suc e)))
      | inr none ↦
          let is = cond-false (nat_lt 0 (weight t)) (t ∷ with_leaves ts) (with_leaves ts) none in
          ap (λ (l : List PlainTree). some_trees (without_nodes_all (dropped (map number_of l) keep) (PlainTrees.next t ts))) is
          ∙ ap some_trees (first_kept (dropped (map number_of (with_leaves ts)) keep) t ts (not_first low high t ts h keep))
    ]

-- no elements, or some
no_elements : (keep : List Bool) (test : Bool) (from end : ℕ) → test ≡ false → list_all (keeps_element keep) (elements_if test from end) ≡ true
no_elements keep test from end e = ap (λ (b : Bool). list_all (keeps_element keep) (elements_if b from end)) e

one_plus : (keep : List Bool) (test : Bool) (from end : ℕ) → test ≡ true
    → list_all (keeps_element keep) (elements_if test from end) ≡ list_any (λ b. b) (between from end keep)
one_plus keep test from end e =
    ap (λ (b : Bool). list_all (keeps_element keep) (elements_if b from end)) e ∙ and_true (list_any (λ b. b) (between from end keep))

module _ (N : NormalForm) where
  -- of one node among others: the numbers before it are less, those after it are greater
  module _ (keep : List Bool) (front back : List ℕ) (low high : ℕ) (before : (n : ℕ) → Contains front n → n < low)
      (after : (n : ℕ) → Contains back n → high ≤ n) where
    middle_alone : (middle : List ℕ) (ts : PlainTrees) → RiseAll low high ts
        → without_nodes_all (dropped (front ++ (middle ++ back)) keep) ts ≡ without_nodes_all (dropped middle (drop (length front) keep)) ts
    middle_alone middle ts h =
        without_alike_all (dropped (front ++ (middle ++ back)) keep) (dropped middle (drop (length front) keep)) low high ts h
        (λ n le lt. in_middle front middle back keep n (λ has. let less = before n has in omega (arith, less, le))
        (λ has. let more = after n has in omega (arith, more, lt)))

    plus_fills : (r : ℕ) (ts : PlainTrees) → RiseAll low high ts → is_plus N r ≡ true → length front + length (with_leaves ts) ≤ length keep →
        list_all (keeps_element keep) (elements_if (nat_eq (length (with_leaves ts)) (count ts)) (length front) (length front + length (with_leaves ts)))
        ≡ fills_plus N r (without_nodes_all (dropped (front ++ (map number_of (with_leaves ts) ++ back)) keep) ts)
    plus_fills r ts h plus long =
        let from : ℕ = length front in
        let many : ℕ = length (with_leaves ts) in
        let right : fills_plus N r (without_nodes_all (dropped (front ++ (map number_of (with_leaves ts) ++ back)) keep) ts) ≡ some_trees
        (without_nodes_all (dropped (map number_of (with_leaves ts)) (drop from keep)) ts) =
        plus_filled N r (without_nodes_all (dropped (front ++ (map number_of (with_leaves ts) ++ back)) keep) ts) plus
        ∙ ap some_trees (middle_alone (map number_of (with_leaves ts)) ts h) in
        elim (cases_Bool (nat_eq many (count ts))) [
          | inl all ↦
              let same = eqb-true many (count ts) all in
              let rest = length-drop from keep in
              one_plus keep (nat_eq many (count ts)) from (from + many) all
              ∙ ap (λ (k : ℕ). list_any (λ b. b) (take k (drop from keep))) (let e : (from + many) - from ≡ count ts = omega (arith, same) in e)
              ∙ sym (keeps_some low high ts h (drop from keep) (omega (arith, same, rest, long)))
              ∙ ap (λ (l : List ℕ). some_trees (without_nodes_all (dropped l (drop from keep)) ts)) (sym (all_leaves ts same))
              ∙ sym right
          | inr fewer ↦
              no_elements keep (nat_eq many (count ts)) from (from + many) fewer
              ∙ sym (keeps_leafless low high ts h (drop from keep) (eqb-false many (count ts) fewer))
              ∙ sym right
        ]

  plus_loses : (r : ℕ) → is_plus N r ≡ true → loses_children N r ≡ true
  plus_loses r plus = of_rule (slice_get N.rules r) plus
    where
      of_form : (form : RuleForm) → is_plus_form form ≡ true → form_loses form ≡ true
      of_form (RuleForm.regular alts) e = absurd (false≢true e)
      of_form (RuleForm.star x) e = refl
      of_form (RuleForm.plus x) e = refl
      of_form (RuleForm.opt x) e = refl

      of_rule : (o : Option RuleForm) → option_map_or is_plus_form o false ≡ true → option_map_or form_loses o false ≡ true
      of_rule None e = absurd (false≢true e)
      of_rule (Some form) e = of_form form e

  tree_fills : (keep : List Bool) (front back : List ℕ) (low high : ℕ) (t : PlainTree) → ((n : ℕ) → Contains front n → n < low)
      → ((n : ℕ) → Contains back n → high ≤ n) → Rises low high t → length front + length (deletable_children N t) ≤ length keep →
      list_all (keeps_element keep) (plus_of N (length front) t) ≡ own_fills N (dropped (front ++ (map number_of (deletable_children N t) ++ back)) keep) t
  tree_fills keep front back low high (PlainTree.leaf n k i) before after h long = refl
  tree_fills keep front back low high (PlainTree.node n r a ts) before after h long =
      elim (cases_Bool (is_plus N r)) [
        | inl plus ↦
            let is : deletable_children N (PlainTree.node n r a ts) ≡ with_leaves ts = cond-true (loses_children N r) (with_leaves ts) [] (plus_loses r plus) in
            ap (λ (b : Bool). list_all (keeps_element keep)
            (elements_if (b && nat_eq (length (deletable_children N (PlainTree.node n r a ts))) (count ts)) (length front)
            (length front + length (deletable_children N (PlainTree.node n r a ts))))) plus
            ∙ ap (λ (l : List PlainTree). list_all (keeps_element keep) (elements_if (nat_eq (length l) (count ts)) (length front) (length front + length l)))
            is
            ∙ plus_fills keep front back low high before after r ts (rise_wider (n + 1) high low high ts (omega (arith, h.0)) (omega arith) h.1) plus
            (subst (λ (l : List PlainTree). length front + length l ≤ length keep) is long)
            ∙ ap (λ (l : List PlainTree). fills_plus N r (without_nodes_all (dropped (front ++ (map number_of l ++ back)) keep) ts)) (sym is)
        | inr other ↦
            ap (λ (b : Bool). list_all (keeps_element keep)
            (elements_if (b && nat_eq (length (deletable_children N (PlainTree.node n r a ts))) (count ts)) (length front)
            (length front + length (deletable_children N (PlainTree.node n r a ts))))) other
            ∙ sym (filled N r (without_nodes_all (dropped (front ++ (map number_of (deletable_children N (PlainTree.node n r a ts)) ++ back)) keep) ts) other)
      ]

  -- of nodes of one depth, one after another
  trees_fill : (keep : List Bool) (all front : List ℕ) (low high : ℕ) (ts : List PlainTree) → Spread low high ts → ((n : ℕ) → Contains front n → n < low)
      → all ≡ front ++ map number_of (flat_map (deletable_children N) ts) → length all ≤ length keep →
      list_all (keeps_element keep) (pluses_of N (length front) ts) ≡ list_all (own_fills N (dropped all keep)) ts
  trees_fill keep all front low high [] s before is long = refl
  trees_fill keep all front low high (t ∷ ts) s before is long =
      let own : List ℕ = map number_of (deletable_children N t) in
      let back : List ℕ = map number_of (flat_map (deletable_children N) ts) in
      let parts : all ≡ front ++ (own ++ back) =
      is ∙ ap (λ (l : List ℕ). front ++ l) (map-append number_of (deletable_children N t) (flat_map (deletable_children N) ts)) in
      let again : all ≡ (front ++ own) ++ back = parts ∙ sym (append_assoc front own back) in
      let own_long = length-map (deletable_children N t) number_of in
      let front_long = length-append front own in
      let all_long = ap length again ∙ length-append (front ++ own) back in
      let here : length front + length (deletable_children N t) ≡ length (front ++ own) = omega (arith, own_long, front_long) in
      let bounds = number_within low s.0 t s.1 in
      list_all-append (keeps_element keep) (plus_of N (length front) t) (pluses_of N (length front + length (deletable_children N t)) ts)
      ∙ ap (λ (b : Bool). b && list_all (keeps_element keep) (pluses_of N (length front + length (deletable_children N t)) ts))
      (tree_fills keep front back low s.0 t before
      (λ n has. (number_spread s.0 high (flat_map (deletable_children N) ts) n (each_spread N s.0 high ts s.2) has).0) s.1
      (omega (arith, own_long, front_long, all_long, long))
      ∙ ap (λ (l : List ℕ). own_fills N (dropped l keep) t) (sym parts))
      ∙ ap (λ (k : ℕ). own_fills N (dropped all keep) t && list_all (keeps_element keep) (pluses_of N k ts)) here
      ∙ ap (λ (b : Bool). own_fills N (dropped all keep) t && b)
      (trees_fill keep all (front ++ own) s.0 high ts s.2
      (λ n has. elim (Contains-append_cases front own n has) [
        | inl early ↦ let less = before n early in omega (arith, less, bounds)
        | inr late ↦ (number_spread low s.0 (deletable_children N t) n (children_spread N low s.0 t s.1) late).1
      ]) again long)

  -- of a level
  pub level_fills : (d high : ℕ) (t : PlainTree) (keep : List Bool) → Rises 0 high t → fills_pluses N t ≡ true → length (level N (suc d) t) ≤ length keep →
      list_all (keeps_element keep) (pluses_of N 0 (at_depth d t)) ≡ fills_pluses N (without_nodes (dropped (level N (suc d) t) keep) t)
  level_fills d high t keep h fills long =
      trees_fill keep (level N (suc d) t) [] 0 high (at_depth d t) (depth_spread d 0 high t h) (λ n has. absurd (contains_none n has)) refl long
      ∙ sym (fills_by_parents N (dropped (level N (suc d) t) keep) d 0 high t h fills (dropped_of (level N (suc d) t) keep (number_of t + 1) high))

  -- where the elements of pluses are
  one_within : (test : Bool) (from end len : ℕ) → from ≤ end → end ≤ len → All (IsWithin len) (elements_if test from end)
  one_within true from end len rises among =
      All-cons (IsWithin len) (record { from = from; end = end }) [] (record { rises = rises; among = among }) (All-nil (IsWithin len))
  one_within false from end len rises among = All-nil (IsWithin len)

  pub pluses_within : (from len : ℕ) (ts : List PlainTree) → from + length (flat_map (deletable_children N) ts) ≤ len → All (IsWithin len) (pluses_of N from ts)
  pluses_within from len [] le = All-nil (IsWithin len)
  pluses_within from len (t ∷ ts) le =
      let both = length-append (deletable_children N t) (flat_map (deletable_children N) ts) in
      All-append (IsWithin len) (plus_of N from t) (pluses_of N (from + length (deletable_children N t)) ts)
      (one_within (is_plus_node N t && nat_eq (length (deletable_children N t)) (count (children_of t))) from (from + length (deletable_children N t)) len
      (omega arith) (omega (arith, both, le)))
      (pluses_within (from + length (deletable_children N t)) len ts (omega (arith, both, le)))
