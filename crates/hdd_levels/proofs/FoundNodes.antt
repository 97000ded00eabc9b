-- Lists of nodes that are left, and what is gathered from them one by one.
use Rattle.std.proofs.Common.{◌≡◌, ℕ, zero, suc, ◌+◌, ◌-◌, ◌<◌, List, [], ◌∷◌, ◌++◌, Option, Some, None, Bool, true, false, length}
use Rattle.std.proofs.Common.{map, nat_eq, take, refl, sym, ap, ◌∙◌, subst, arith, append_assoc, length-append}
use Rattle.std.specs.Prelude.{◌&&◌, if◌then◌else◌, nat_lt, slice_get, slice_index_or, IsSome}
use Rattle.std.specs.List.{Contains, flat_map}
use Rattle.std.specs.Option.{option_and_then, option_map, option_map_or}
use Rattle.std.proofs.Math.Numerals.{add-one}
use Rattle.std.proofs.lemmas.Bool.{cond-false, cond-true}
use Rattle.std.proofs.lemmas.Grind.{flat_map-append}
use Rattle.std.proofs.lemmas.List.{append-nil, length-map, map-append}
use Rattle.std.proofs.lemmas.List.Elements.{filter-append}
use Rattle.std.proofs.lemmas.Option.{none-some, same_Some}
use Rattle.grammar_tree.proofs.Lent.{contains_none}
use Rattle.normal_form.specs.Form.{RuleForm, NormalForm}
use Rattle.syntax_tree.specs.Trees.{IsInSome, PlainTree, PlainTrees, children_of, count, weight}
use Rattle.syntax_tree.specs.Trees as trees
use Rattle.syntax_tree.specs.Numbered.{number_of, roots, subtree}
use Rattle.syntax_tree.specs.Nodes.{AreNodesOf, SyntaxTree, whole}
use Rattle.syntax_tree_cut.specs.Cuts.{CutForm, IsCutOf, cut_tree}
use Rattle.syntax_tree_cut.specs.declared.shape.Shape.{Shape}
use Rattle.syntax_tree_cut.specs.declared.shape.Shape.TheVariants.{Leaf}
use Rattle.syntax_tree_cut.specs.Shapes.{shape_of, shape_of_form}
use Rattle.syntax_tree_cut.specs.WithoutNodes.{form_loses}
use Rattle.syntax_tree_cut.proofs.Lent.{Rises, subtree_within, deeper_found, some_is}
use Rattle.descend_replace.specs.LevelLaws.{children_of_each, list_of}
use Rattle.descend_replace.proofs.Lent.{cut_rises, roots_numbers}
use Rattle.hdd_levels.specs.declared.level_nodes.Elements.{Elements}
use Rattle.hdd_levels.specs.Levels.{deletable_children, is_plus_form, with_leaves}
use Rattle.hdd_levels.specs.LevelForms.{elements_if, is_plus_node, plus_of, pluses_of}
use Rattle.hdd_levels.specs.inner.LevelForms.{AreNodesIn, has_leaf, shape_loses, whole_plus, with_leaves_in}
use Rattle.hdd_levels.proofs.InLevels.{below_found, rising_bound}

take_none : (ts : List PlainTree) → take 0 ts ≡ []
take_none [] = refl
take_none (t ∷ ts) = refl

nth : (ts : List PlainTree) (k : ℕ) → k < length ts → (u : PlainTree) × Contains ts u × (take (suc k) ts ≡ take k ts ++ u ∷ [])
    × ((d : ℕ) → slice_index_or (map number_of ts) k d ≡ number_of u)
nth [] k lt = absurd (omega (arith, lt))
nth (t ∷ ts) zero lt = (t, (zero, omega arith, refl), ap (λ (l : List PlainTree). t ∷ l) (take_none ts), λ d. refl)
nth (t ∷ ts) (suc k) lt =
    let more = nth ts k (omega (arith, lt)) in
    (more.0, (suc more.1.0, (let in_it = more.1.1 in omega (arith, in_it)), more.1.2), ap (λ (l : List PlainTree). t ∷ l) more.2, more.3)

-- the elements of pluses among trees and one more
pub pluses_append : (N : NormalForm) (from : ℕ) (ts : List PlainTree) (u : PlainTree)
    → pluses_of N from (ts ++ u ∷ []) ≡ pluses_of N from ts ++ plus_of N (from + length (flat_map (deletable_children N) ts)) u
pluses_append N from [] u = append-nil (plus_of N from u) ∙ ap (λ (k : ℕ). plus_of N k u) (let e : from ≡ from + 0 = omega arith in e)
pluses_append N from (t ∷ ts) u =
    let both = length-append (deletable_children N t) (flat_map (deletable_children N) ts) in
    ap (λ (l : List Elements). plus_of N from t ++ l) (pluses_append N (from + length (deletable_children N t)) ts u)
    ∙ sym (append_assoc (plus_of N from t) (pluses_of N (from + length (deletable_children N t)) ts)
    (plus_of N ((from + length (deletable_children N t)) + length (flat_map (deletable_children N) ts)) u))
    ∙ ap (λ (k : ℕ). (plus_of N from t ++ pluses_of N (from + length (deletable_children N t)) ts) ++ plus_of N k u)
    (let e : (from + length (deletable_children N t)) + length (flat_map (deletable_children N) ts) ≡ from + length
    (deletable_children N t ++ flat_map (deletable_children N) ts) = omega (arith, both) in e)

-- whether there is a leaf, by the weight
pub has_leaf_is : (found : Option PlainTree) (w : ℕ) → option_map weight found ≡ Some w → option_map has_leaf found ≡ Some (nat_lt 0 w)
has_leaf_is None w weighs = absurd (none-some w weighs)
has_leaf_is (Some u) w weighs = ap (λ (n : ℕ). Some (nat_lt 0 n)) (same_Some (weight u) w weighs)

module _ (t : PlainTree) (nodes : List ℕ) (ts : List PlainTree) (are : AreNodesIn t nodes ts) where
  as_long : length nodes ≡ length ts
  as_long = ap length are.numbers ∙ length-map ts number_of

  pub node_at : (k d : ℕ) → k < length nodes → (u : PlainTree) × (subtree (slice_index_or nodes k d) t ≡ Some u) × (take (k + 1) ts ≡ take k ts ++ u ∷ [])
      × (number_of u ≡ slice_index_or nodes k d)
  node_at k d lt =
      let it = nth ts k (let e = as_long in omega (arith, lt, e)) in
      let number : slice_index_or nodes k d ≡ number_of it.0 = ap (λ (l : List ℕ). slice_index_or l k d) are.numbers ∙ it.3 d in
      (it.0, ap (λ (n : ℕ). subtree n t) number ∙ are.found it.0 it.1, ap (λ (n : ℕ). take n ts) (add-one k) ∙ it.2, sym number)

  pub is_left : (k d : ℕ) → k < length nodes → IsSome (subtree (slice_index_or nodes k d) t)
  is_left k d lt = let it = node_at k d lt in some_is (subtree (slice_index_or nodes k d) t) it.0 it.1

  -- with the children of the next node
  pub children_more : (k d : ℕ) → k < length nodes → (old new : List ℕ) → old ≡ map number_of (children_of_each (take k ts))
      → ((u : PlainTree) → subtree (slice_index_or nodes k d) t ≡ Some u → new ≡ old ++ roots (children_of u)) →
      new ≡ map number_of (children_of_each (take (k + 1) ts))
  children_more k d lt old new so_far after =
      let it = node_at k d lt in
      let below : List PlainTree = list_of (children_of it.0) in
      after it.0 it.1
      ∙ ap (λ (l : List ℕ). l ++ roots (children_of it.0)) so_far
      ∙ ap (λ (l : List ℕ). map number_of (children_of_each (take k ts)) ++ l) (roots_numbers (children_of it.0))
      ∙ sym (map-append number_of (children_of_each (take k ts)) below)
      ∙ ap (λ (l : List PlainTree). map number_of (children_of_each (take k ts) ++ l)) (sym (append-nil below))
      ∙ ap (map number_of) (sym (flat_map-append (λ (u : PlainTree). list_of (children_of u)) (take k ts) (it.0 ∷ [])))
      ∙ ap (λ (l : List PlainTree). map number_of (children_of_each l)) (sym it.2)

  -- with the deletable children of the next node, and its elements where it is a plus
  pub deletable_more : (N : NormalForm) (k d : ℕ) → k < length nodes → (old new : List ℕ) (pluses more : List Elements)
      → (old ≡ map number_of (flat_map (deletable_children N) (take k ts))) × (pluses ≡ pluses_of N 0 (take k ts)) →
      ((u : PlainTree) → subtree (slice_index_or nodes k d) t ≡ Some u → new ≡ old ++ map number_of (deletable_children N u))
      → ((u : PlainTree) → subtree (slice_index_or nodes k d) t ≡ Some u → more ≡ pluses ++ plus_of N (length old) u) →
      (new ≡ map number_of (flat_map (deletable_children N) (take (k + 1) ts))) × (more ≡ pluses_of N 0 (take (k + 1) ts))
  deletable_more N k d lt old new pluses more so_far after after_pluses =
      let it = node_at k d lt in
      let own : List PlainTree = deletable_children N it.0 in
      let before : List PlainTree = flat_map (deletable_children N) (take k ts) in
      let long : length old ≡ 0 + length before =
      ap length so_far.0 ∙ length-map before number_of ∙ (let e : length before ≡ 0 + length before = omega arith in e) in (
        after it.0 it.1
            ∙ ap (λ (l : List ℕ). l ++ map number_of own) so_far.0
            ∙ sym (map-append number_of before own)
            ∙ ap (λ (l : List PlainTree). map number_of (before ++ l)) (sym (append-nil own))
            ∙ ap (map number_of) (sym (flat_map-append (deletable_children N) (take k ts) (it.0 ∷ [])))
            ∙ ap (λ (l : List PlainTree). map number_of (flat_map (deletable_children N) l)) (sym it.2),
        after_pluses it.0 it.1
            ∙ ap (λ (l : List Elements). l ++ plus_of N (length old) it.0) so_far.1
            ∙ ap (λ (n : ℕ). pluses_of N 0 (take k ts) ++ plus_of N n it.0) long
            ∙ sym (pluses_append N 0 (take k ts) it.0)
            ∙ ap (pluses_of N 0) (sym it.2),
      )

  -- with the next node, if it has a token
  pub leaves_more : (k d : ℕ) → k < length nodes → (has : Bool) → option_map has_leaf (subtree (slice_index_or nodes k d) t) ≡ Some has
      → (base old new : List ℕ) → old ≡ base ++ map number_of (with_leaves_in (take k ts)) →
      new ≡ (if has then old ++ slice_index_or nodes k d ∷ [] else old) → new ≡ base ++ map number_of (with_leaves_in (take (k + 1) ts))
  leaves_more k d lt has has_is base old new so_far after =
      let it = node_at k d lt in
      let u : PlainTree = it.0 in
      let before : List PlainTree = with_leaves_in (take k ts) in
      let leafy : has_leaf u ≡ has = same_Some (has_leaf u) has (sym (ap (option_map has_leaf) it.1) ∙ has_is) in
      let number : number_of u ≡ slice_index_or nodes k d = it.3 in
      let parts : with_leaves_in (take (k + 1) ts) ≡ before ++ with_leaves_in (u ∷ []) = ap with_leaves_in it.2 ∙ filter-append has_leaf (take k ts) (u ∷ []) in
      after ∙ by_test has u leafy (slice_index_or nodes k d) number base before old so_far ∙ ap (λ (l : List PlainTree). base ++ map number_of l) (sym parts)
    where
      by_test : (b : Bool) (u : PlainTree) → has_leaf u ≡ b → (n : ℕ) → number_of u ≡ n → (base : List ℕ) (before : List PlainTree) (old : List ℕ)
          → old ≡ base ++ map number_of before → (if b then old ++ n ∷ [] else old) ≡ base ++ map number_of (before ++ with_leaves_in (u ∷ []))
      by_test true u is n number base before old so_far =
          ap (λ (l : List ℕ). l ++ n ∷ []) so_far
          ∙ append_assoc base (map number_of before) (n ∷ [])
          ∙ ap (λ (m : ℕ). base ++ (map number_of before ++ m ∷ [])) (sym number)
          ∙ ap (λ (l : List ℕ). base ++ l) (sym (map-append number_of before (u ∷ [])))
          ∙ ap (λ (l : List PlainTree). base ++ map number_of (before ++ l)) (sym (cond-true (has_leaf u) (u ∷ []) [] is))
      by_test false u is n number base before old so_far =
          so_far
          ∙ ap (λ (l : List PlainTree). base ++ map number_of l) (sym (append-nil before))
          ∙ ap (λ (l : List PlainTree). base ++ map number_of (before ++ l)) (sym (cond-false (has_leaf u) (u ∷ []) [] is))

-- the children of a node are found
in_list : (ts : PlainTrees) (u : PlainTree) → Contains (list_of ts) u → IsInSome u ts
in_list PlainTrees.none u has = absurd (contains_none u has)
in_list (PlainTrees.next t ts) u (zero, lt, e) = subst (λ (v : PlainTree). IsInSome v (PlainTrees.next t ts)) e (trees.in_first t t ts (trees.itself t))
in_list (PlainTrees.next t ts) u (suc k, lt, e) = trees.in_later u t ts (in_list ts u (k, omega (arith, lt), e))

pub children_found : (low high q : ℕ) (t u : PlainTree) → Rises low high t → subtree q t ≡ Some u → (items : List ℕ) → items ≡ roots (children_of u)
    → AreNodesIn t items (list_of (children_of u))
children_found low high q t u h e items are = record {
  numbers = are ∙ roots_numbers (children_of u);
  found = λ v has.
      let at = subtree_within low high t h q u e in
      deeper_found low high t h q (number_of v) u v e (below_found q high u v at.1 (is_below u v has)).0;
}
  where
    is_below : (u v : PlainTree) → Contains (list_of (children_of u)) v → trees.IsBelow v u
    is_below (PlainTree.leaf n k i) v has = absurd (contains_none v has)
    is_below (PlainTree.node n r a ts) v has = in_list ts v has

pub leaves_listed : (ts : PlainTrees) → with_leaves ts ≡ with_leaves_in (list_of ts)
leaves_listed PlainTrees.none = refl
leaves_listed (PlainTrees.next t ts) = ap (λ (l : List PlainTree). if nat_lt 0 (weight t) then t ∷ l else l) (leaves_listed ts)

pub as_many_children : (ts : PlainTrees) → length (roots ts) ≡ count ts
as_many_children PlainTrees.none = refl
as_many_children (PlainTrees.next t ts) = ap suc (as_many_children ts)

-- what the shape of a node says of its children
pub record FitsShape (N : NormalForm) (u : PlainTree) (shape : Shape) : Type 0 where
  pub children : deletable_children N u ≡ (if shape_loses shape then with_leaves (children_of u) else [])
  pub plus : (m : ℕ) → (is_plus_node N u && nat_eq m (count (children_of u))) ≡ whole_plus shape (count (children_of u)) m

pub fits_shape : (N : NormalForm) (u : PlainTree) (shape : Shape) → shape_of N u ≡ Some shape → FitsShape N u shape
fits_shape N (PlainTree.leaf n k i) shape e =
    subst (λ (s : Shape). FitsShape N (PlainTree.leaf n k i) s) (same_Some Leaf shape e) (record { children = refl; plus = λ m. refl })
fits_shape N (PlainTree.node n r a ts) shape e = by_rule (slice_get N.rules r) refl e
  where
    of_form : (form : RuleForm) → slice_get N.rules r ≡ Some form → FitsShape N (PlainTree.node n r a ts) (shape_of_form form)
    of_form (RuleForm.regular alts) f = record {
      children = ap (λ (o : Option RuleForm). if option_map_or form_loses o false then with_leaves ts else []) f;
      plus = λ m. ap (λ (o : Option RuleForm). option_map_or is_plus_form o false && nat_eq m (count ts)) f;
    }
    of_form (RuleForm.star x) f = record {
      children = ap (λ (o : Option RuleForm). if option_map_or form_loses o false then with_leaves ts else []) f;
      plus = λ m. ap (λ (o : Option RuleForm). option_map_or is_plus_form o false && nat_eq m (count ts)) f;
    }
    of_form (RuleForm.plus x) f = record {
      children = ap (λ (o : Option RuleForm). if option_map_or form_loses o false then with_leaves ts else []) f;
      plus = λ m. ap (λ (o : Option RuleForm). option_map_or is_plus_form o false && nat_eq m (count ts)) f;
    }
    of_form (RuleForm.opt x) f = record {
      children = ap (λ (o : Option RuleForm). if option_map_or form_loses o false then with_leaves ts else []) f;
      plus = λ m. ap (λ (o : Option RuleForm). option_map_or is_plus_form o false && nat_eq m (count ts)) f;
    }

    by_rule : (o : Option RuleForm) → slice_get N.rules r ≡ o → option_map shape_of_form o ≡ Some shape → FitsShape N (PlainTree.node n r a ts) shape
    by_rule None f g = absurd (none-some shape g)
    by_rule (Some form) f g = subst (λ (s : Shape). FitsShape N (PlainTree.node n r a ts) s) (same_Some (shape_of_form form) shape g) (of_form form f)

-- what a call says of the shape of a node
pub shape_is : (N : NormalForm) (o : Option PlainTree) (u : PlainTree) (shape : Shape) → o ≡ Some u → option_and_then (shape_of N) o ≡ Some shape
    → FitsShape N u shape
shape_is N o u shape e is = fits_shape N u shape (ap (option_and_then (shape_of N)) (sym e) ∙ is)

-- the deletable children of a node that can lose some
pub losing_children : (N : NormalForm) (u : PlainTree) (shape : Shape) → FitsShape N u shape → shape_loses shape ≡ true
    → with_leaves_in (list_of (children_of u)) ≡ deletable_children N u
losing_children N u shape fits loses =
    sym (leaves_listed (children_of u)) ∙ sym (fits.children ∙ cond-true (shape_loses shape) (with_leaves (children_of u)) [] loses)

-- the elements of a node, if it is a plus
pub plus_is : (N : NormalForm) (u : PlainTree) (shape : Shape) → FitsShape N u shape → (from end many base : ℕ) → from ≡ base
    → end ≡ base + length (deletable_children N u) → many ≡ count (children_of u) →
    elements_if (whole_plus shape many (end - from)) from end ≡ plus_of N base u
plus_is N u shape fits from end many base e f g =
    let own : ℕ = length (deletable_children N u) in
    let test : Bool = is_plus_node N u && nat_eq own (count (children_of u)) in
    ap (λ (m : ℕ). elements_if (whole_plus shape m (end - from)) from end) g
    ∙ ap (λ (k : ℕ). elements_if (whole_plus shape (count (children_of u)) k) from end) (let h : end - from ≡ own = omega (arith, e, f) in h)
    ∙ ap (λ (b : Bool). elements_if b from end) (sym (fits.plus own))
    ∙ ap (λ (x : ℕ). elements_if test x end) e
    ∙ ap (λ (y : ℕ). elements_if test base y) f

-- in what a cut leaves the numbers rise, up to a bound
pub cut_rising : (tree : SyntaxTree) → AreNodesOf tree.form tree.start tree.nodes (whole tree) → (c : CutForm) → IsCutOf tree c → (high : ℕ)
    × Rises 0 high (cut_tree tree c)
cut_rising tree are c of = rising_bound (cut_tree tree c) (cut_rises tree are c of)
