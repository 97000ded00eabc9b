-- What is left of a tree where nodes of one level are deleted.
use Rattle.std.proofs.Common.{◌≡◌, ◌⊎◌, inl, inr, ℕ, zero, suc, ◌+◌, ◌<◌, ◌≤◌, List, [], ◌∷◌, ◌++◌, Option, Some}
use Rattle.std.proofs.Common.{Bool, true, false, map, refl, sym, ap, ◌∙◌, subst, arith}
use Rattle.std.specs.Prelude.{length, not, nat_lt, replicate, slice_get}
use Rattle.std.specs.List.{Contains, flat_map}
use Rattle.std.specs.Option.{option_map_or}
use Rattle.std.proofs.lemmas.Bool.{and_from, and_parts, cases_Bool, cond-false, cond-true, eqb-true, false_from_ne_true, false≢true}
use Rattle.std.proofs.lemmas.List.{append-nil, map-append}
use Rattle.std.proofs.lemmas.List.Elements.{Contains-append_cases}
use Rattle.std.proofs.lemmas.Map.Views.{Contains-from_any}
use Rattle.grammar_tree.proofs.Lent.{contains_none}
use Rattle.normal_form.specs.declared.normal.Sym.{Sym}
use Rattle.normal_form.specs.Form.{RuleForm, NormalForm}
use Rattle.syntax_tree.specs.Trees.{PlainTree, PlainTrees, weight}
use Rattle.syntax_tree.specs.Numbered.{number_of, roots}
use Rattle.syntax_tree.specs.Valid.{AreValid, EachIsValid, IsValid, of_absent, of_leaf, of_next, of_no_slots}
use Rattle.syntax_tree.specs.Valid.{of_none, of_plus, of_present, of_regular, of_slot, of_star}
use Rattle.syntax_tree.specs.Levels.{at_depth, at_depth_all}
use Rattle.syntax_tree_cut.specs.WithoutNodes.{AreElements, AreElementsOfAll, NoneAmong, dropped, form_loses, is_among}
use Rattle.syntax_tree_cut.specs.WithoutNodes.{loses_children, without_nodes, without_nodes_all}
use Rattle.syntax_tree_cut.proofs.Lent.{Rises, RiseAll, bounds_rise, number_within, child_within, NoneFrom, first_kept}
use Rattle.syntax_tree_cut.proofs.Lent.{first_out, nothing_out, number_without, without_left}
use Rattle.syntax_tree.proofs.Lent.{part}
use Rattle.hdd_levels.specs.Levels.{deletable_at, deletable_children, fills_plus, fills_pluses, fills_pluses_all, is_plus, is_plus_form, level, with_leaves}
use Rattle.hdd_levels.specs.Laws.{HigherNodesStay, KeepingAllKeepsTree, KeptTreesAreLeft, KeptTreesAreTrees, ValidTreesFillPluses}
use Rattle.hdd_levels.proofs.InLevels.{AreOf, depth_spread_all, dropped_in, each_spread, in_with, level_all, level_found}
use Rattle.hdd_levels.proofs.InLevels.{level_next, level_spread, number_spread, rising_bound, tree_of_number}

pub among_contains : (qs : List ℕ) (q : ℕ) → is_among qs q ≡ true → Contains qs q
among_contains qs q is = Contains-from_any eqb-true q qs is

-- those of some nodes that are dropped are among the nodes
pub dropped_of : (nodes : List ℕ) (keep : List Bool) (low high : ℕ) → AreOf (dropped nodes keep) low high nodes
dropped_of nodes keep low high q le lt is = dropped_in nodes keep q (among_contains (dropped nodes keep) q is)

none_of : (qs : List ℕ) (low high : ℕ) → AreOf qs low high [] → NoneFrom qs low high
none_of qs low high of n le lt = false_from_ne_true (is_among qs n) (λ is. contains_none n (of n le lt is))

-- the trees that have a leaf are among the trees
root_in : (ts : PlainTrees) (q : ℕ) → Contains (map number_of (with_leaves ts)) q → Contains (roots ts) q
root_in PlainTrees.none q has = absurd (contains_none q has)
root_in (PlainTrees.next t ts) q has =
    elim (cases_Bool (nat_lt 0 (weight t))) [
      | inl some ↦
          in_with (number_of t) q (map number_of (with_leaves ts)) (roots ts) (λ h. root_in ts q h)
          (subst (λ (l : List PlainTree). Contains (map number_of l) q) (cond-true (nat_lt 0 (weight t)) (t ∷ with_leaves ts) (with_leaves ts) some) has)
      | inr none ↦
          let more =
          root_in ts q (subst (λ (l : List PlainTree). Contains (map number_of l) q)
          (cond-false (nat_lt 0 (weight t)) (t ∷ with_leaves ts) (with_leaves ts) none) has) in
          (suc more.0, (let in_it = more.1 in omega (arith, in_it)), more.2)
    ]

module _ (N : NormalForm) (qs : List ℕ) where
  -- where there is none of the numbers
  mutual
    none_elements : (low high : ℕ) (t : PlainTree) → Rises low high t → NoneFrom qs (number_of t + 1) high → AreElements N qs t
    none_elements low high (PlainTree.leaf n k i) h none = tt
    none_elements low high (PlainTree.node n r a ts) h none = (inr (none_among (n + 1) high ts h.1 none), none_elements_all (n + 1) high ts h.1 none)

    none_elements_all : (low high : ℕ) (ts : PlainTrees) → RiseAll low high ts → NoneFrom qs low high → AreElementsOfAll N qs ts
    none_elements_all low high PlainTrees.none h none = tt
    none_elements_all low high (PlainTrees.next t ts) h none =
        let own = number_within low h.0 t h.1 in
        let rest = bounds_rise h.0 high ts h.2 in (
          none_elements low h.0 t h.1 (λ n le lt. none n (omega (arith, le, own)) (omega (arith, lt, rest))),
          none_elements_all h.0 high ts h.2 (λ n le lt. none n (omega (arith, le, own)) lt),
        )

    none_among : (low high : ℕ) (ts : PlainTrees) → RiseAll low high ts → NoneFrom qs low high → NoneAmong qs ts
    none_among low high PlainTrees.none h none = tt
    none_among low high (PlainTrees.next t ts) h none =
        let own = number_within low h.0 t h.1 in
        let rest = bounds_rise h.0 high ts h.2 in
        (none (number_of t) own.0 (omega (arith, own, rest)), none_among h.0 high ts h.2 (λ n le lt. none n (omega (arith, le, own)) lt))

  -- where there are none but the trees' own
  root_elements : (low high : ℕ) (ts : PlainTrees) → RiseAll low high ts → AreOf qs low high (roots ts) → AreElementsOfAll N qs ts
  root_elements low high PlainTrees.none h of = tt
  root_elements low high (PlainTrees.next t ts) h of =
      let own = number_within low h.0 t h.1 in
      let rest = bounds_rise h.0 high ts h.2 in
      let inside : NoneFrom qs (number_of t + 1) h.0 =
      λ n le lt. false_from_ne_true (is_among qs n) (λ is. not_root n le lt (of n (omega (arith, le, own)) (omega (arith, lt, rest)) is)) in
      (none_elements low h.0 t h.1 inside, root_elements h.0 high ts h.2 (λ q le lt is. later q le (of q (omega (arith, le, own)) lt is)))
    where
      not_root : (n : ℕ) → number_of t + 1 ≤ n → n < h.0 → Contains (number_of t ∷ roots ts) n → ⊥
      not_root n le lt (zero, in_it, e) = omega (arith, e, le)
      not_root n le lt (suc k, in_it, e) = let within = child_within h.0 high ts h.2 n (k, omega (arith, in_it), e) in omega (arith, within, lt)

      later : (q : ℕ) → h.0 ≤ q → Contains (number_of t ∷ roots ts) q → Contains (roots ts) q
      later q le (zero, in_it, e) = absurd (let own = number_within low h.0 t h.1 in omega (arith, own, e, le))
      later q le (suc k, in_it, e) = (k, omega (arith, in_it), e)

  -- the numbers that are of the level below some trees, tree by tree
  pub level_split : (d low high : ℕ) (t : PlainTree) (ts : PlainTrees) (h : RiseAll low high (PlainTrees.next t ts))
      → AreOf qs low high (level_all N d (PlainTrees.next t ts)) →
      (is_among qs (number_of t) ≡ false) × AreOf qs (number_of t + 1) h.0 (level N (suc d) t) × AreOf qs h.0 high (level_all N d ts)
  level_split d low high t ts h of =
      let own = number_within low h.0 t h.1 in
      let rest = bounds_rise h.0 high ts h.2 in
      let both : (q : ℕ) → low ≤ q → q < high → is_among qs q ≡ true → Contains (level N (suc d) t) q ⊎ Contains (level_all N d ts) q =
      λ q le lt is. Contains-append_cases (level N (suc d) t) (level_all N d ts) q
      (subst (λ (l : List ℕ). Contains l q) (level_next N d t ts) (of q le lt is)) in (
        false_from_ne_true (is_among qs (number_of t)) (λ is.
            elim (both (number_of t) own.0 (omega (arith, own, rest)) is) [
              | inl in_first ↦ let it = in_level (number_of t) in_first in omega (arith, it)
              | inr in_later ↦ let it = after (number_of t) in_later in omega (arith, it, own)
            ]),
        λ q le lt is.
            elim (both q (omega (arith, le, own)) (omega (arith, lt, rest)) is) [
              | inl in_first ↦ in_first
              | inr in_later ↦ absurd (let it = after q in_later in omega (arith, it, lt))
            ],
        λ q le lt is.
            elim (both q (omega (arith, le, own)) lt is) [
              | inl in_first ↦ absurd (let it = number_spread low h.0 (deletable_at N (suc d) t) q (level_spread N (suc d) low h.0 t h.1) in_first in
                  omega (arith, it, le))
              | inr in_later ↦ in_later
            ],
      )
    where
      in_level : (q : ℕ) → Contains (level N (suc d) t) q → number_of t < q
      in_level q has =
          let it = tree_of_number (deletable_at N (suc d) t) q has in
          let at = level_found N (suc d) low h.0 t it.0 h.1 it.1 in
          let less = at.1 in
          let is = it.2 in
          omega (arith, less, is)

      after : (q : ℕ) → Contains (level_all N d ts) q → h.0 ≤ q
      after q has =
          (number_spread h.0 high (flat_map (deletable_children N) (at_depth_all d ts)) q
          (each_spread N h.0 high (at_depth_all d ts) (depth_spread_all d h.0 high ts h.2)) has).0

  pub own_level : (n r a : ℕ) (ts : PlainTrees) (low high : ℕ) → AreOf qs low high (level N 1 (PlainTree.node n r a ts)) → loses_children N r ≡ true
      → AreOf qs low high (roots ts)
  own_level n r a ts low high of loses q le lt is =
      let has : Contains (map number_of (with_leaves ts)) q =
      subst (λ (l : List PlainTree). Contains (map number_of l) q)
      (append-nil (deletable_children N (PlainTree.node n r a ts)) ∙ cond-true (loses_children N r) (with_leaves ts) [] loses) (of q le lt is) in
      root_in ts q has

  pub no_level : (n r a : ℕ) (ts : PlainTrees) (low high : ℕ) → AreOf qs low high (level N 1 (PlainTree.node n r a ts)) → loses_children N r ≡ false
      → NoneFrom qs low high
  no_level n r a ts low high of keeps =
      none_of qs low high (λ q le lt is. subst (λ (l : List PlainTree). Contains (map number_of l) q)
      (append-nil (deletable_children N (PlainTree.node n r a ts)) ∙ cond-false (loses_children N r) (with_leaves ts) [] keeps) (of q le lt is))

  -- nodes of one level are elements
  mutual
    pub level_elements : (d low high : ℕ) (t : PlainTree) → Rises low high t → AreOf qs (number_of t + 1) high (level N d t) → AreElements N qs t
    level_elements d low high (PlainTree.leaf n k i) h of = tt
    level_elements zero low high (PlainTree.node n r a ts) h of = none_elements low high (PlainTree.node n r a ts) h (none_of qs (n + 1) high of)
    level_elements (suc zero) low high (PlainTree.node n r a ts) h of =
        elim (cases_Bool (loses_children N r)) [
          | inl loses ↦ (inl loses, root_elements (n + 1) high ts h.1 (own_level n r a ts (n + 1) high of loses))
          | inr keeps ↦ none_elements low high (PlainTree.node n r a ts) h (no_level n r a ts (n + 1) high of keeps)
        ]
    level_elements (suc (suc d)) low high (PlainTree.node n r a ts) h of = let both = level_elements_all d (n + 1) high ts h.1 of in (inr both.0, both.1)

    pub level_elements_all : (d low high : ℕ) (ts : PlainTrees) → RiseAll low high ts → AreOf qs low high (level_all N d ts) → NoneAmong qs ts
        × AreElementsOfAll N qs ts
    level_elements_all d low high PlainTrees.none h of = (tt, tt)
    level_elements_all d low high (PlainTrees.next t ts) h of =
        let split = level_split d low high t ts h of in
        let rest = level_elements_all d h.0 high ts h.2 split.2 in
        ((split.0, rest.0), (level_elements (suc d) low h.0 t h.1 split.1, rest.1))

  -- the nodes above the level stay
  mutual
    pub higher_stay : (d low high : ℕ) (t : PlainTree) → Rises low high t → AreOf qs (number_of t + 1) high (level N (suc d) t)
        → map number_of (at_depth d (without_nodes qs t)) ≡ map number_of (at_depth d t)
    higher_stay zero low high t h of = ap (λ (n : ℕ). n ∷ []) (number_without qs t)
    higher_stay (suc d) low high (PlainTree.leaf n k i) h of = refl
    higher_stay (suc d) low high (PlainTree.node n r a ts) h of = higher_stay_all d (n + 1) high ts h.1 of

    pub higher_stay_all : (d low high : ℕ) (ts : PlainTrees) → RiseAll low high ts → AreOf qs low high (level_all N d ts)
        → map number_of (at_depth_all d (without_nodes_all qs ts)) ≡ map number_of (at_depth_all d ts)
    higher_stay_all d low high PlainTrees.none h of = refl
    higher_stay_all d low high (PlainTrees.next t ts) h of =
        let split = level_split d low high t ts h of in
        ap (λ (us : PlainTrees). map number_of (at_depth_all d us)) (first_kept qs t ts split.0)
        ∙ map-append number_of (at_depth d (without_nodes qs t)) (at_depth_all d (without_nodes_all qs ts))
        ∙ ap (λ (l : List ℕ). l ++ map number_of (at_depth_all d (without_nodes_all qs ts))) (higher_stay d low h.0 t h.1 split.1)
        ∙ ap (λ (l : List ℕ). map number_of (at_depth d t) ++ l) (higher_stay_all d h.0 high ts h.2 split.2)
        ∙ sym (map-append number_of (at_depth d t) (at_depth_all d ts))

-- a rule that is no plus, and one that is
form_plus : (N : NormalForm) (r : ℕ) (form : RuleForm) → slice_get N.rules r ≡ Some form → is_plus N r ≡ is_plus_form form
form_plus N r form e = ap (λ (o : Option RuleForm). option_map_or is_plus_form o false) e

pub filled : (N : NormalForm) (r : ℕ) (ts : PlainTrees) → is_plus N r ≡ false → fills_plus N r ts ≡ true
filled N r PlainTrees.none e = ap not e
filled N r (PlainTrees.next t ts) e = refl

-- a valid tree fills its pluses
mutual
  pub fills_valid : (N : NormalForm) (s : Sym) (t : PlainTree) → IsValid N s t → fills_pluses N t ≡ true
  fills_valid N s t (of_leaf s' n k i fits) = refl
  fills_valid N s t (of_regular s' n r a ts alts alt fits rule alternative valid) =
      and_from (fills_plus N r ts) (fills_pluses_all N ts) (filled N r ts (form_plus N r (RuleForm.regular alts) rule)) (fills_slots N alt ts valid)
  fills_valid N s t (of_absent s' n r x fits rule) = and_from (not (is_plus N r)) true (ap not (form_plus N r (RuleForm.opt x) rule)) refl
  fills_valid N s t (of_present s' n r u x fits rule valid) = and_from (fills_pluses N u) true (fills_valid N x u valid) refl
  fills_valid N s t (of_star s' n r ts x fits rule each) =
      and_from (fills_plus N r ts) (fills_pluses_all N ts) (filled N r ts (form_plus N r (RuleForm.star x) rule)) (fills_each N x ts each)
  fills_valid N s t (of_plus s' n r u us x fits rule each) = fills_each N x (PlainTrees.next u us) each

  fills_slots : (N : NormalForm) (ss : List Sym) (ts : PlainTrees) → AreValid N ss ts → fills_pluses_all N ts ≡ true
  fills_slots N ss ts of_no_slots = refl
  fills_slots N ss ts (of_slot s ss' t ts' valid rest) =
      and_from (fills_pluses N t) (fills_pluses_all N ts') (fills_valid N s t valid) (fills_slots N ss' ts' rest)

  fills_each : (N : NormalForm) (x : Sym) (ts : PlainTrees) → EachIsValid N x ts → fills_pluses_all N ts ≡ true
  fills_each N x ts (of_none x') = refl
  fills_each N x ts (of_next x' t ts' valid rest) = and_from (fills_pluses N t) (fills_pluses_all N ts') (fills_valid N x t valid) (fills_each N x ts' rest)

-- A valid tree without elements is valid, where it fills its pluses.
module _ (N : NormalForm) (qs : List ℕ) where
  never_regular : (r : ℕ) (alts : List (List Sym)) → slice_get N.rules r ≡ Some (RuleForm.regular alts) → loses_children N r ≡ true → ⊥
  never_regular r alts rule loses = false≢true (sym (ap (λ (o : Option RuleForm). option_map_or form_loses o false) rule) ∙ loses)

  plus_left : (s : Sym) (n r : ℕ) (x : Sym) (us : PlainTrees)
      → ((v : PlainTree) (vs : PlainTrees) → EachIsValid N x (PlainTrees.next v vs) → IsValid N s (PlainTree.node n r 0 (PlainTrees.next v vs)))
      → is_plus N r ≡ true →
      EachIsValid N x us → fills_plus N r us ≡ true → IsValid N s (PlainTree.node n r 0 us)
  plus_left s n r x PlainTrees.none plus is each fills = absurd (false≢true (sym (ap not is) ∙ fills))
  plus_left s n r x (PlainTrees.next v vs) plus is each fills = plus v vs each

  mutual
    pub valid_without : (s : Sym) (t : PlainTree) → IsValid N s t → AreElements N qs t → fills_pluses N (without_nodes qs t) ≡ true
        → IsValid N s (without_nodes qs t)
    valid_without s t (of_leaf s' n k i fits) of fills = of_leaf s n k i fits
    valid_without s t (of_regular s' n r a ts alts alt fits rule alternative valid) of fills =
        let both = and_parts (fills_plus N r (without_nodes_all qs ts)) (fills_pluses_all N (without_nodes_all qs ts)) fills in
        elim of.0 [
          | inl loses ↦ absurd (never_regular r alts rule loses)
          | inr none ↦ of_regular s n r a (without_nodes_all qs ts) alts alt fits rule alternative (slots_without alt ts valid of.1 none both.1)
        ]
    valid_without s t (of_absent s' n r x fits rule) of fills = of_absent s n r x fits rule
    valid_without s t (of_present s' n r u x fits rule valid) of fills =
        elim (cases_Bool (is_among qs (number_of u))) [
          | inl out ↦ subst (λ (us : PlainTrees). IsValid N s (PlainTree.node n r 0 us)) (sym (first_out qs u PlainTrees.none out))
              (of_absent s n r x fits rule)
          | inr stays ↦
              let both =
              and_parts (fills_plus N r (without_nodes_all qs (PlainTrees.next u PlainTrees.none)))
              (fills_pluses_all N (without_nodes_all qs (PlainTrees.next u PlainTrees.none))) fills in
              let rest : fills_pluses_all N (PlainTrees.next (without_nodes qs u) PlainTrees.none) ≡ true =
              subst (λ (us : PlainTrees). fills_pluses_all N us ≡ true) (first_kept qs u PlainTrees.none stays) both.1 in
              subst (λ (us : PlainTrees). IsValid N s (PlainTree.node n r 0 us)) (sym (first_kept qs u PlainTrees.none stays))
              (of_present s n r (without_nodes qs u) x fits rule (valid_without x u valid of.1.0 (and_parts (fills_pluses N (without_nodes qs u)) true rest).0))
        ]
    valid_without s t (of_star s' n r ts x fits rule each) of fills =
        let both = and_parts (fills_plus N r (without_nodes_all qs ts)) (fills_pluses_all N (without_nodes_all qs ts)) fills in
        of_star s n r (without_nodes_all qs ts) x fits rule (each_without x ts each of.1 both.1)
    valid_without s t (of_plus s' n r u ts x fits rule each) of fills =
        let us : PlainTrees = without_nodes_all qs (PlainTrees.next u ts) in
        let both = and_parts (fills_plus N r us) (fills_pluses_all N us) fills in
        plus_left s n r x us (λ v vs e. of_plus s n r v vs x fits rule e) (form_plus N r (RuleForm.plus x) rule)
        (each_without x (PlainTrees.next u ts) each of.1 both.1) both.0

    slots_without : (ss : List Sym) (ts : PlainTrees) → AreValid N ss ts → AreElementsOfAll N qs ts → NoneAmong qs ts
        → fills_pluses_all N (without_nodes_all qs ts) ≡ true → AreValid N ss (without_nodes_all qs ts)
    slots_without ss ts of_no_slots of none fills = of_no_slots
    slots_without ss ts (of_slot s ss' t ts' valid rest) of none fills =
        let both =
        and_parts (fills_pluses N (without_nodes qs t)) (fills_pluses_all N (without_nodes_all qs ts'))
        (subst (λ (us : PlainTrees). fills_pluses_all N us ≡ true) (first_kept qs t ts' none.0) fills) in
        subst (λ (us : PlainTrees). AreValid N (s ∷ ss') us) (sym (first_kept qs t ts' none.0))
        (of_slot s ss' (without_nodes qs t) (without_nodes_all qs ts') (valid_without s t valid of.0 both.0) (slots_without ss' ts' rest of.1 none.1 both.1))

    each_without : (x : Sym) (ts : PlainTrees) → EachIsValid N x ts → AreElementsOfAll N qs ts → fills_pluses_all N (without_nodes_all qs ts) ≡ true
        → EachIsValid N x (without_nodes_all qs ts)
    each_without x ts (of_none x') of fills = of_none x
    each_without x ts (of_next x' t ts' valid rest) of fills =
        elim (cases_Bool (is_among qs (number_of t))) [
          | inl out ↦
              subst (λ (us : PlainTrees). EachIsValid N x us) (sym (first_out qs t ts' out))
              (each_without x ts' rest of.1 (subst (λ (us : PlainTrees). fills_pluses_all N us ≡ true) (first_out qs t ts' out) fills))
          | inr stays ↦
              let both =
              and_parts (fills_pluses N (without_nodes qs t)) (fills_pluses_all N (without_nodes_all qs ts'))
              (subst (λ (us : PlainTrees). fills_pluses_all N us ≡ true) (first_kept qs t ts' stays) fills) in
              subst (λ (us : PlainTrees). EachIsValid N x us) (sym (first_kept qs t ts' stays))
              (of_next x (without_nodes qs t) (without_nodes_all qs ts') (valid_without x t valid of.0 both.0) (each_without x ts' rest of.1 both.1))
        ]

pub all_kept : (nodes : List ℕ) → dropped nodes (replicate (length nodes) true) ≡ []
all_kept [] = refl
all_kept (q ∷ nodes) = all_kept nodes

pub keeping_all : KeepingAllKeepsTree
keeping_all nodes t = ap (λ (qs : List ℕ). without_nodes qs t) (all_kept nodes) ∙ nothing_out t

pub valid_fills : ValidTreesFillPluses
valid_fills N s t valid = fills_valid N s t valid

pub kept_left : KeptTreesAreLeft
kept_left nodes keep t = without_left (dropped nodes keep) t

pub kept_trees : KeptTreesAreTrees
kept_trees N s t d keep of rise fills =
    let h = rising_bound t rise in
    let qs : List ℕ = dropped (level N d t) keep in record {
      valid = valid_without N qs s t of.valid (level_elements N qs d 0 h.0 t h.1 (dropped_of (level N d t) keep (number_of t + 1) h.0)) fills;
      rising = (part t (without_nodes qs t) (without_left qs t)).leaves_rise of.rising;
    }

pub higher_nodes : HigherNodesStay
higher_nodes N t d keep rise =
    let h = rising_bound t rise in
    higher_stay N (dropped (level N (suc d) t) keep) d 0 h.0 t h.1 (dropped_of (level N (suc d) t) keep (number_of t + 1) h.0)
