-- Single deletions are those of one node of a level.
use Rattle.std.proofs.Common.{◌≡◌, ◌⊎◌, inl, inr, ℕ, zero, suc, ◌+◌, ◌<◌, ◌≤◌, List, [], ◌∷◌, ◌++◌, Option, Some, true}
use Rattle.std.proofs.Common.{false, length, map, refl, sym, ap, ◌∙◌, subst, arith, length-append}
use Rattle.std.specs.Prelude.{nat_lt, not, slice_get}
use Rattle.std.specs.List.{Contains, flat_map}
use Rattle.std.specs.Option.{option_map_or}
use Rattle.std.proofs.Math.Nat.{le-max_left, le-max_right}
use Rattle.std.proofs.lemmas.Bool.{and_parts, cases_Bool, cond-false, cond-true, false≢true, lt-ltb}
use Rattle.std.proofs.lemmas.List.{append-nil}
use Rattle.std.proofs.lemmas.List.Elements.{Contains-append_cases, Contains-append_left, Contains-append_right}
use Rattle.grammar_tree.proofs.Lent.{contains_none}
use Rattle.normal_form.specs.declared.normal.Sym.{Sym}
use Rattle.normal_form.specs.Form.{RuleForm, NormalForm}
use Rattle.syntax_tree.specs.Trees.{PlainTree, PlainTrees, leaves, weight, weight_all}
use Rattle.syntax_tree.specs.Numbered.{number_of, subtree}
use Rattle.syntax_tree.specs.Valid.{AreValid, EachIsValid, IsValid, of_absent, of_next, of_no_slots, of_none, of_plus, of_present, of_regular, of_slot, of_star}
use Rattle.syntax_tree.specs.Edits.{Deletes, DeletesAmong, IsLocalDeletion, IsSingleDeletion, LeavesOut, first, later}
use Rattle.syntax_tree.specs.Edits as edits
use Rattle.syntax_tree.specs.Levels.{at_depth_all, depth, height}
use Rattle.syntax_tree.proofs.Lent.{edits_are_trees}
use Rattle.syntax_tree_cut.specs.WithoutNodes.{dropped, form_loses, loses_children, without_nodes, without_nodes_all}
use Rattle.syntax_tree_cut.proofs.Lent.{Rises, RiseAll, number_within, leaves_count, first_kept, first_out, is_not_the_one}
use Rattle.syntax_tree_cut.proofs.Lent.{is_the_one, loses_leaves, one_outside, without_others_all, without_outside}
use Rattle.hdd_levels.specs.Levels.{deletable_at, deletable_children, fills_plus, fills_pluses, fills_pluses_all, is_plus_form, kept_tree, level, with_leaves}
use Rattle.hdd_levels.specs.Laws.{SingleDeletionsAreOfLevels, all_but}
use Rattle.hdd_levels.proofs.InLevels.{depth_spread_all, each_spread, leaves_spread, level_all, level_found, level_next}
use Rattle.hdd_levels.proofs.InLevels.{level_spread, number_spread, rising_bound, tree_of_number}
use Rattle.hdd_levels.proofs.KeptTrees.{all_kept, fills_valid}

-- one flag is false
pub one_dropped : (nodes : List ℕ) (q : ℕ) (has : Contains nodes q) → dropped nodes (all_but (length nodes) has.0) ≡ q ∷ []
one_dropped [] q has = absurd (contains_none q has)
one_dropped (n ∷ nodes) q (zero, lt, e) = ap (λ (l : List ℕ). n ∷ l) (all_kept nodes) ∙ ap (λ (m : ℕ). m ∷ []) e
one_dropped (n ∷ nodes) q (suc k, lt, e) = one_dropped nodes q (k, omega (arith, lt), e)

pub at_index : (nodes : List ℕ) (k : ℕ) → k < length nodes → (q : ℕ) × (has : Contains nodes q) × (has.0 ≡ k)
at_index [] k lt = absurd (omega (arith, lt))
at_index (n ∷ nodes) zero lt = (n, (zero, omega arith, refl), refl)
at_index (n ∷ nodes) (suc k) lt = let more =
    at_index nodes k (omega (arith, lt)) in (more.0, (suc more.1.0, (let in_it = more.1.1 in omega (arith, in_it)), more.1.2), ap suc more.2)

-- the number of a first tree that has a leaf, and those of later ones
first_number : (t : PlainTree) (ts : PlainTrees) → 0 < weight t → Contains (map number_of (with_leaves (PlainTrees.next t ts))) (number_of t)
first_number t ts some =
    subst (λ (l : List PlainTree). Contains (map number_of l) (number_of t))
    (sym (cond-true (nat_lt 0 (weight t)) (t ∷ with_leaves ts) (with_leaves ts) (lt-ltb 0 (weight t) some))) (zero, omega arith, refl)

later_number : (t : PlainTree) (ts : PlainTrees) (q : ℕ) → Contains (map number_of (with_leaves ts)) q
    → Contains (map number_of (with_leaves (PlainTrees.next t ts))) q
later_number t ts q has =
    elim (cases_Bool (nat_lt 0 (weight t))) [
      | inl some ↦ subst (λ (l : List PlainTree). Contains (map number_of l) q)
          (sym (cond-true (nat_lt 0 (weight t)) (t ∷ with_leaves ts) (with_leaves ts) some)) (suc has.0, (let lt = has.1 in omega (arith, lt)), has.2)
      | inr none ↦ subst (λ (l : List PlainTree). Contains (map number_of l) q)
          (sym (cond-false (nat_lt 0 (weight t)) (t ∷ with_leaves ts) (with_leaves ts) none)) has
    ]

some_number : (t : PlainTree) (ts : PlainTrees) (q : ℕ) → Contains (map number_of (with_leaves (PlainTrees.next t ts))) q → (number_of t ≡ q)
    ⊎ Contains (map number_of (with_leaves ts)) q
some_number t ts q has =
    elim (cases_Bool (nat_lt 0 (weight t))) [
      | inl some ↦ of_both (subst (λ (l : List PlainTree). Contains (map number_of l) q)
          (cond-true (nat_lt 0 (weight t)) (t ∷ with_leaves ts) (with_leaves ts) some) has)
      | inr none ↦ inr (subst (λ (l : List PlainTree). Contains (map number_of l) q)
          (cond-false (nat_lt 0 (weight t)) (t ∷ with_leaves ts) (with_leaves ts) none) has)
    ]
  where
    of_both : Contains (number_of t ∷ map number_of (with_leaves ts)) q → (number_of t ≡ q) ⊎ Contains (map number_of (with_leaves ts)) q
    of_both (zero, lt, e) = inl e
    of_both (suc k, lt, e) = inr (k, omega (arith, lt), e)

-- without the first of some trees, or without a node of it, or of later ones
module _ (q low high : ℕ) (t : PlainTree) (ts : PlainTrees) (h : RiseAll low high (PlainTrees.next t ts)) where
  pub without_first : number_of t ≡ q → without_nodes_all (q ∷ []) (PlainTrees.next t ts) ≡ ts
  without_first same =
      let own = number_within low h.0 t h.1 in
      first_out (q ∷ []) t ts (is_the_one q (number_of t) same)
      ∙ without_others_all (q ∷ []) h.0 high ts h.2 (one_outside q h.0 high (inl (omega (arith, same, own))))

  pub without_in_first : number_of t < q → q < h.0 → without_nodes_all (q ∷ []) (PlainTrees.next t ts) ≡ PlainTrees.next (without_nodes (q ∷ []) t) ts
  without_in_first more less =
      first_kept (q ∷ []) t ts (is_not_the_one q (number_of t) (λ (e : number_of t ≡ q). omega (arith, e, more)))
      ∙ ap (λ (us : PlainTrees). PlainTrees.next (without_nodes (q ∷ []) t) us)
      (without_others_all (q ∷ []) h.0 high ts h.2 (one_outside q h.0 high (inl less)))

  pub without_in_later : h.0 ≤ q → without_nodes_all (q ∷ []) (PlainTrees.next t ts) ≡ PlainTrees.next t (without_nodes_all (q ∷ []) ts)
  without_in_later le =
      let own = number_within low h.0 t h.1 in
      first_kept (q ∷ []) t ts (is_not_the_one q (number_of t) (λ (e : number_of t ≡ q). omega (arith, e, own, le)))
      ∙ ap (λ (u : PlainTree). PlainTrees.next u (without_nodes_all (q ∷ []) ts)) (without_outside q low h.0 t h.1 (inr le))

module _ (N : NormalForm) where
  own_numbers : (n r a : ℕ) (ts : PlainTrees) → loses_children N r ≡ true → level N 1 (PlainTree.node n r a ts) ≡ map number_of (with_leaves ts)
  own_numbers n r a ts loses =
      ap (map number_of) (append-nil (deletable_children N (PlainTree.node n r a ts)) ∙ cond-true (loses_children N r) (with_leaves ts) [] loses)

  no_numbers : (n r a : ℕ) (ts : PlainTrees) → loses_children N r ≡ false → level N 1 (PlainTree.node n r a ts) ≡ []
  no_numbers n r a ts keeps =
      ap (map number_of) (append-nil (deletable_children N (PlainTree.node n r a ts)) ∙ cond-false (loses_children N r) (with_leaves ts) [] keeps)

  by_rule : (r : ℕ) (form : RuleForm) → slice_get N.rules r ≡ Some form → loses_children N r ≡ form_loses form
  by_rule r form e = ap (λ (o : Option RuleForm). option_map_or form_loses o false) e

  -- A deletion that takes a leaf is that of a node of a level.
  pub record IsOfLevel (t u : PlainTree) : Type 0 where
    pub above : ℕ
    pub node : ℕ
    pub in_level : Contains (level N (suc above) t) node
    pub without : u ≡ without_nodes (node ∷ []) t
    pub deep : suc above ≤ depth t

  record AreOfLevel (ts us : PlainTrees) : Type 0 where
    above : ℕ
    node : ℕ
    in_level : Contains (level_all N above ts) node
    without : us ≡ without_nodes_all (node ∷ []) ts
    deep : suc (suc above) ≤ height ts

  left_out_of : (low high : ℕ) (ts us : PlainTrees) → RiseAll low high ts → LeavesOut ts us → weight_all us < weight_all ts → (q : ℕ)
      × Contains (map number_of (with_leaves ts)) q × (us ≡ without_nodes_all (q ∷ []) ts) × (1 ≤ height ts)
  left_out_of low high PlainTrees.none us h out less = elim out [ ]
  left_out_of low high (PlainTrees.next t ts) us h (first t' ts') less =
      let most = le-max_left (suc (depth t)) (height ts) in
      (number_of t, first_number t ts (omega (arith, less)), sym (without_first (number_of t) low high t ts h refl), omega (arith, most))
  left_out_of low high (PlainTrees.next t ts) vs h (later t' ts' us out) less =
      let more = left_out_of h.0 high ts us h.2 out (omega (arith, less)) in
      let at = number_spread h.0 high (with_leaves ts) more.0 (leaves_spread h.0 high ts h.2) more.1 in
      let most = le-max_left (suc (depth t)) (height ts) in (
        more.0,
        later_number t ts more.0 more.1,
        ap (λ (ws : PlainTrees). PlainTrees.next t ws) more.2 ∙ sym (without_in_later more.0 low high t ts h at.0),
        omega (arith, most),
      )

  local_of : (low high n r a : ℕ) (ts us : PlainTrees) (form : RuleForm) → RiseAll (n + 1) high ts → slice_get N.rules r ≡ Some form → form_loses form ≡ true
      → LeavesOut ts us → weight_all us < weight_all ts → IsOfLevel (PlainTree.node n r a ts) (PlainTree.node n r a us)
  local_of low high n r a ts us form h rule loses out less =
      let it = left_out_of (n + 1) high ts us h out less in
      record {
        above = 0;
        node = it.0;
        in_level = subst (λ (l : List ℕ). Contains l it.0) (sym (own_numbers n r a ts (by_rule r form rule ∙ loses))) it.1;
        without = ap (λ (vs : PlainTrees). PlainTree.node n r a vs) it.2;
        deep = it.3;
      }

  mutual
    pub deletion_of : (low high : ℕ) (t u : PlainTree) → Rises low high t → Deletes N t u → weight u < weight t → IsOfLevel t u
    deletion_of low high t u h (edits.at_node t' u' (edits.of_star n r a ts us x rule out)) less =
        local_of low high n r a ts us (RuleForm.star x) h.1 rule refl out less
    deletion_of low high t u h (edits.at_node t' u' (edits.of_plus n r a ts v vs x rule out)) less =
        local_of low high n r a ts (PlainTrees.next v vs) (RuleForm.plus x) h.1 rule refl out less
    deletion_of low high t u h (edits.at_node t' u' (edits.of_opt n r a v x rule)) less =
        local_of low high n r a (PlainTrees.next v PlainTrees.none) PlainTrees.none (RuleForm.opt x) h.1 rule refl (first v PlainTrees.none) less
    deletion_of low high t u h (edits.within n r a ts us among) less =
        let it = deletions_of (n + 1) high ts us h.1 among less in
        record {
          above = suc it.above;
          node = it.node;
          in_level = it.in_level;
          without = ap (λ (vs : PlainTrees). PlainTree.node n r a vs) it.without;
          deep = it.deep;
        }

    deletions_of : (low high : ℕ) (ts us : PlainTrees) → RiseAll low high ts → DeletesAmong N ts us → weight_all us < weight_all ts → AreOfLevel ts us
    deletions_of low high ts us h (edits.in_first t u rest one) less =
        let it = deletion_of low h.0 t u h.1 one (omega (arith, less)) in
        let tree = tree_of_number (deletable_at N (suc it.above) t) it.node it.in_level in
        let at = level_found N (suc it.above) low h.0 t tree.0 h.1 tree.1 in
        let bound = number_spread low h.0 (deletable_at N (suc it.above) t) it.node (level_spread N (suc it.above) low h.0 t h.1) it.in_level in
        let most = le-max_left (suc (depth t)) (height rest) in
        let deep = it.deep in
        record {
          above = it.above;
          node = it.node;
          in_level =
              subst (λ (l : List ℕ). Contains l it.node) (sym (level_next N it.above t rest))
              (Contains-append_left (level N (suc it.above) t) (level_all N it.above rest) it.node it.in_level);
          without =
              ap (λ (v : PlainTree). PlainTrees.next v rest) it.without
              ∙ sym (without_in_first it.node low high t rest h (let more = at.1 in let is = tree.2 in omega (arith, more, is)) bound.1);
          deep = omega (arith, most, deep);
        }
    deletions_of low high ts us h (edits.in_later t rest vs among) less =
        let it = deletions_of h.0 high rest vs h.2 among (omega (arith, less)) in
        let bound =
        number_spread h.0 high (flat_map (deletable_children N) (at_depth_all it.above rest)) it.node
        (each_spread N h.0 high (at_depth_all it.above rest) (depth_spread_all it.above h.0 high rest h.2)) it.in_level in
        let most = le-max_right (suc (depth t)) (height rest) in
        let deep = it.deep in
        record {
          above = it.above;
          node = it.node;
          in_level =
              subst (λ (l : List ℕ). Contains l it.node) (sym (level_next N it.above t rest))
              (Contains-append_right (level N (suc it.above) t) (level_all N it.above rest) it.node it.in_level);
          without = ap (λ (ws : PlainTrees). PlainTrees.next t ws) it.without ∙ sym (without_in_later it.node low high t rest h bound.0);
          deep = omega (arith, most, deep);
        }

  -- And the other way round.
  leaves_out : (q low high : ℕ) (ts : PlainTrees) → RiseAll low high ts → Contains (map number_of (with_leaves ts)) q
      → LeavesOut ts (without_nodes_all (q ∷ []) ts)
  leaves_out q low high PlainTrees.none h has = absurd (contains_none q has)
  leaves_out q low high (PlainTrees.next t ts) h has =
      elim (some_number t ts q has) [
        | inl same ↦ subst (λ (us : PlainTrees). LeavesOut (PlainTrees.next t ts) us) (sym (without_first q low high t ts h same)) (first t ts)
        | inr more ↦
            let at = number_spread h.0 high (with_leaves ts) q (leaves_spread h.0 high ts h.2) more in
            subst (λ (us : PlainTrees). LeavesOut (PlainTrees.next t ts) us) (sym (without_in_later q low high t ts h at.0))
            (later t ts (without_nodes_all (q ∷ []) ts) (leaves_out q h.0 high ts h.2 more))
      ]

  plus_loses : (n r a : ℕ) (ts us : PlainTrees) (x : Sym) → slice_get N.rules r ≡ Some (RuleForm.plus x) → LeavesOut ts us → fills_plus N r us ≡ true
      → IsLocalDeletion N (PlainTree.node n r a ts) (PlainTree.node n r a us)
  plus_loses n r a ts PlainTrees.none x rule out fills =
      absurd (false≢true (sym (ap not (ap (λ (o : Option RuleForm). option_map_or is_plus_form o false) rule)) ∙ fills))
  plus_loses n r a ts (PlainTrees.next u us) x rule out fills = edits.of_plus n r a ts u us x rule out

  -- Each of the trees is valid for some slot.
  abbrev AllValid : PlainTrees → Type 0
  AllValid PlainTrees.none = Unit {0}
  AllValid (PlainTrees.next t ts) = ((s : Sym) × IsValid N s t) × AllValid ts

  all_slots : (ss : List Sym) (ts : PlainTrees) → AreValid N ss ts → AllValid ts
  all_slots ss ts of_no_slots = tt
  all_slots ss ts (of_slot s ss' t ts' valid rest) = ((s, valid), all_slots ss' ts' rest)

  all_each : (x : Sym) (ts : PlainTrees) → EachIsValid N x ts → AllValid ts
  all_each x ts (of_none x') = tt
  all_each x ts (of_next x' t ts' valid rest) = ((x, valid), all_each x ts' rest)

  all_children : (s : Sym) (n r a : ℕ) (ts : PlainTrees) → IsValid N s (PlainTree.node n r a ts) → AllValid ts
  all_children s n r a ts (of_regular s' n' r' a' ts' alts alt fits rule alternative valid) = all_slots alt ts valid
  all_children s n r a ts (of_absent s' n' r' x fits rule) = tt
  all_children s n r a ts (of_present s' n' r' u x fits rule valid) = ((x, valid), tt)
  all_children s n r a ts (of_star s' n' r' ts' x fits rule each) = all_each x ts each
  all_children s n r a ts (of_plus s' n' r' u us x fits rule each) = all_each x (PlainTrees.next u us) each

  module _ (q : ℕ) where
    own_deletion : (s : Sym) (n r a high : ℕ) (ts : PlainTrees) → RiseAll (n + 1) high ts → IsValid N s (PlainTree.node n r a ts)
        → Contains (level N 1 (PlainTree.node n r a ts)) q → fills_plus N r (without_nodes_all (q ∷ []) ts) ≡ true →
        IsLocalDeletion N (PlainTree.node n r a ts) (PlainTree.node n r a (without_nodes_all (q ∷ []) ts))
    own_deletion s n r a high ts h (of_regular s' n' r' a' ts' alts alt fits rule alternative valid) has fills =
        absurd (contains_none q (subst (λ (l : List ℕ). Contains l q) (no_numbers n r a ts (by_rule r (RuleForm.regular alts) rule)) has))
    own_deletion s n r a high ts h (of_absent s' n' r' x fits rule) has fills =
        absurd (contains_none q (subst (λ (l : List ℕ). Contains l q) (own_numbers n r 0 PlainTrees.none (by_rule r (RuleForm.opt x) rule)) has))
    own_deletion s n r a high ts h (of_present s' n' r' u x fits rule valid) has fills =
        let same : number_of u ≡ q =
        elim
        (some_number u PlainTrees.none q (subst (λ (l : List ℕ). Contains l q)
        (own_numbers n r 0 (PlainTrees.next u PlainTrees.none) (by_rule r (RuleForm.opt x) rule)) has))
        [ inl is ↦ is | inr more ↦ absurd (contains_none q more) ] in
        subst (λ (us : PlainTrees). IsLocalDeletion N (PlainTree.node n r 0 (PlainTrees.next u PlainTrees.none)) (PlainTree.node n r 0 us))
        (sym (first_out (q ∷ []) u PlainTrees.none (is_the_one q (number_of u) same))) (edits.of_opt n r 0 u x rule)
    own_deletion s n r a high ts h (of_star s' n' r' ts' x fits rule each) has fills =
        edits.of_star n r 0 ts (without_nodes_all (q ∷ []) ts) x rule
        (leaves_out q (n + 1) high ts h (subst (λ (l : List ℕ). Contains l q) (own_numbers n r 0 ts (by_rule r (RuleForm.star x) rule)) has))
    own_deletion s n r a high ts h (of_plus s' n' r' u us x fits rule each) has fills =
        plus_loses n r 0 (PlainTrees.next u us) (without_nodes_all (q ∷ []) (PlainTrees.next u us)) x rule
        (leaves_out q (n + 1) high (PlainTrees.next u us) h
        (subst (λ (l : List ℕ). Contains l q) (own_numbers n r 0 (PlainTrees.next u us) (by_rule r (RuleForm.plus x) rule)) has)) fills

    mutual
      pub level_deletion : (d low high : ℕ) (s : Sym) (t : PlainTree) → Rises low high t → IsValid N s t → Contains (level N (suc d) t) q
          → fills_pluses N (without_nodes (q ∷ []) t) ≡ true → Deletes N t (without_nodes (q ∷ []) t)
      level_deletion zero low high s (PlainTree.leaf n k i) h valid has fills = absurd (contains_none q has)
      level_deletion (suc d) low high s (PlainTree.leaf n k i) h valid has fills = absurd (contains_none q has)
      level_deletion zero low high s (PlainTree.node n r a ts) h valid has fills =
          edits.at_node (PlainTree.node n r a ts) (PlainTree.node n r a (without_nodes_all (q ∷ []) ts))
          (own_deletion s n r a high ts h.1 valid has
          (and_parts (fills_plus N r (without_nodes_all (q ∷ []) ts)) (fills_pluses_all N (without_nodes_all (q ∷ []) ts)) fills).0)
      level_deletion (suc d) low high s (PlainTree.node n r a ts) h valid has fills =
          edits.within n r a ts (without_nodes_all (q ∷ []) ts)
          (level_deletions d (n + 1) high ts h.1 (all_children s n r a ts valid) has
          (and_parts (fills_plus N r (without_nodes_all (q ∷ []) ts)) (fills_pluses_all N (without_nodes_all (q ∷ []) ts)) fills).1)

      level_deletions : (d low high : ℕ) (ts : PlainTrees) → RiseAll low high ts → AllValid ts → Contains (level_all N d ts) q
          → fills_pluses_all N (without_nodes_all (q ∷ []) ts) ≡ true → DeletesAmong N ts (without_nodes_all (q ∷ []) ts)
      level_deletions d low high PlainTrees.none h valid has fills = absurd (contains_none q has)
      level_deletions d low high (PlainTrees.next t ts) h valid has fills =
          elim (Contains-append_cases (level N (suc d) t) (level_all N d ts) q (subst (λ (l : List ℕ). Contains l q) (level_next N d t ts) has)) [
            | inl in_first ↦
                let tree = tree_of_number (deletable_at N (suc d) t) q in_first in
                let at = level_found N (suc d) low h.0 t tree.0 h.1 tree.1 in
                let bound = number_spread low h.0 (deletable_at N (suc d) t) q (level_spread N (suc d) low h.0 t h.1) in_first in
                let is = without_in_first q low high t ts h (let more = at.1 in let same = tree.2 in omega (arith, more, same)) bound.1 in
                subst (λ (us : PlainTrees). DeletesAmong N (PlainTrees.next t ts) us) (sym is)
                (edits.in_first t (without_nodes (q ∷ []) t) ts
                (level_deletion d low h.0 valid.0.0 t h.1 valid.0.1 in_first
                (and_parts (fills_pluses N (without_nodes (q ∷ []) t)) (fills_pluses_all N ts)
                (subst (λ (us : PlainTrees). fills_pluses_all N us ≡ true) is fills)).0))
            | inr in_later ↦
                let bound =
                number_spread h.0 high (flat_map (deletable_children N) (at_depth_all d ts)) q
                (each_spread N h.0 high (at_depth_all d ts) (depth_spread_all d h.0 high ts h.2)) in_later in
                let is = without_in_later q low high t ts h bound.0 in
                subst (λ (us : PlainTrees). DeletesAmong N (PlainTrees.next t ts) us) (sym is)
                (edits.in_later t ts (without_nodes_all (q ∷ []) ts)
                (level_deletions d h.0 high ts h.2 valid.1 in_later
                (and_parts (fills_pluses N t) (fills_pluses_all N (without_nodes_all (q ∷ []) ts))
                (subst (λ (us : PlainTrees). fills_pluses_all N us ≡ true) is fills)).1))
          ]

-- a node with a leaf takes it with it
lighter_without : (q high : ℕ) (t v : PlainTree) → Rises 0 high t → (number_of t ≡ q → ⊥) → subtree q t ≡ Some v → 0 < weight v
    → weight (without_nodes (q ∷ []) t) < weight t
lighter_without q high t v h other e some =
    let loses = loses_leaves q 0 high t v h other e in
    let before = sym (leaves_count t) ∙ ap length loses.before ∙ length-append loses.front (leaves v ++ loses.back) in
    let inner = length-append (leaves v) loses.back in
    let after = sym (leaves_count (without_nodes (q ∷ []) t)) ∙ ap length loses.after ∙ length-append loses.front loses.back in
    let own = leaves_count v in
    omega (arith, before, inner, after, own, some)

pub single_deletions : SingleDeletionsAreOfLevels
single_deletions N s t u of rise = (to, from)
  where
    to : IsSingleDeletion N t u → (d : ℕ) × (k : ℕ) × (d ≤ depth t) × (k < length (level N d t))
        × (u ≡ kept_tree (level N d t) (all_but (length (level N d t)) k) t) × (fills_pluses N u ≡ true)
    to one =
        let h = rising_bound t rise in
        let it = deletion_of N 0 h.0 t u h.1 one.edit one.smaller in
        let has = it.in_level in (
          suc it.above,
          has.0,
          it.deep,
          has.1,
          it.without ∙ ap (λ (qs : List ℕ). without_nodes qs t) (sym (one_dropped (level N (suc it.above) t) it.node has)),
          fills_valid N s u (edits_are_trees N s t u of (record { edit = inl one.edit; smaller = one.smaller })).0.valid,
        )

    from : ((d : ℕ) × (k : ℕ) × (d ≤ depth t) × (k < length (level N d t)) × (u ≡ kept_tree (level N d t) (all_but (length (level N d t)) k) t)
        × (fills_pluses N u ≡ true)) → IsSingleDeletion N t u
    from (zero, k, deep, lt, is, fills) = absurd (omega (arith, lt))
    from (suc d, k, deep, lt, is, fills) =
        let h = rising_bound t rise in
        let it = at_index (level N (suc d) t) k lt in
        let q : ℕ = it.0 in
        let same : u ≡ without_nodes (q ∷ []) t =
        is ∙ ap (λ (j : ℕ). kept_tree (level N (suc d) t) (all_but (length (level N (suc d) t)) j) t) (sym it.2)
        ∙ ap (λ (qs : List ℕ). without_nodes qs t) (one_dropped (level N (suc d) t) q it.1) in
        let tree = tree_of_number (deletable_at N (suc d) t) q it.1 in
        let at = level_found N (suc d) 0 h.0 t tree.0 h.1 tree.1 in
        let other : number_of t ≡ q → ⊥ = λ (e : number_of t ≡ q). (let more = at.1 in let n = tree.2 in omega (arith, e, more, n)) in
        let found : subtree q t ≡ Some tree.0 = ap (λ (m : ℕ). subtree m t) (sym tree.2) ∙ at.0 in
        subst (λ (w : PlainTree). IsSingleDeletion N t w) (sym same) (record {
          edit = level_deletion N q d 0 h.0 s t h.1 of.valid it.1 (ap (fills_pluses N) (sym same) ∙ fills);
          smaller = lighter_without q h.0 t tree.0 h.1 other found at.2;
        })
