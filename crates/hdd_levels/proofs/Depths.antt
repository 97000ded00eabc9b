-- Levels of a tree, one after another.
use Rattle.std.proofs.Common.{◌≡◌, inl, inr, ℕ, zero, suc, ◌+◌, ◌<◌, ◌≤◌, List, Some, None, Bool, true, false}
use Rattle.std.proofs.Common.{length, map, refl, sym, ap, ◌∙◌, subst, arith, length-append}
use Rattle.std.specs.Prelude.{if◌then◌else◌, max}
use Rattle.std.specs.List.{All, flat_map, list_all}
use Rattle.std.proofs.Math.Nat.{le-max_left, le-max_right}
use Rattle.std.proofs.lemmas.Bool.{cases_lt, le-leb, lt-leb}
use Rattle.std.proofs.lemmas.List.{length-map}
use Rattle.std.proofs.lemmas.List.Elements.{All-nil}
use Rattle.std.proofs.lemmas.Option.{none-some, same_Some}
use Rattle.normal_form.specs.declared.normal.Sym.{Sym}
use Rattle.normal_form.specs.Form.{NormalForm}
use Rattle.syntax_tree.specs.Trees.{PlainTree, PlainTrees}
use Rattle.syntax_tree.specs.Numbered.{number_of}
use Rattle.syntax_tree.specs.Valid.{IsValid}
use Rattle.syntax_tree.specs.Levels.{at_depth, at_depth_all, depth, height}
use Rattle.syntax_tree_cut.specs.WithoutNodes.{AreElements, CanDrop, dropped, without_nodes}
use Rattle.syntax_tree_cut.proofs.Lent.{Rises, in_found, nothing_out}
use Rattle.descend_replace.specs.LevelLaws.{children_of_each}
use Rattle.descend_replace.proofs.Lent.{levels_are_children}
use Rattle.hdd_levels.specs.declared.level_nodes.Elements.{Elements}
use Rattle.hdd_levels.specs.Levels.{deletable_children, fills_pluses, is_so_deep, kept_only, level}
use Rattle.hdd_levels.specs.LevelForms.{IsLevelAt, LevelForm, parents_at, pluses_at, pluses_of}
use Rattle.hdd_levels.specs.inner.LevelForms.{AreNodesIn, IsWithin, keeps_element}
use Rattle.hdd_levels.proofs.InLevels.{depth_in, dropped_apart, level_apart}
use Rattle.hdd_levels.proofs.KeptTrees.{dropped_of, fills_valid, level_elements, valid_without}
use Rattle.hdd_levels.proofs.Pluses.{level_fills, pluses_within}

-- there is something at each depth up to that of the tree, and nothing below it
mutual
  some_at : (d : ℕ) (t : PlainTree) → d ≤ depth t → 0 < length (at_depth d t)
  some_at zero t le = omega arith
  some_at (suc d) (PlainTree.leaf n k i) le = absurd (omega (arith, le))
  some_at (suc d) (PlainTree.node n r a ts) le = some_at_all d ts le

  some_at_all : (d : ℕ) (ts : PlainTrees) → suc d ≤ height ts → 0 < length (at_depth_all d ts)
  some_at_all d PlainTrees.none le = absurd (omega (arith, le))
  some_at_all d (PlainTrees.next t ts) le =
      let both = length-append (at_depth d t) (at_depth_all d ts) in
      elim (cases_lt (depth t) d) [
        | inr deep ↦ let some = some_at d t deep in omega (arith, both, some)
        | inl less ↦
            elim (cases_lt (height ts) (suc d)) [
              | inr high ↦ let some = some_at_all d ts high in omega (arith, both, some)
              | inl low ↦ absurd (let most : suc d ≤ max (suc (depth t)) (height ts) = le in omega (arith, most, less, low))
            ]
      ]

mutual
  deep_from : (d : ℕ) (t : PlainTree) → 0 < length (at_depth d t) → d ≤ depth t
  deep_from zero t some = omega arith
  deep_from (suc d) (PlainTree.leaf n k i) some = absurd (omega (arith, some))
  deep_from (suc d) (PlainTree.node n r a ts) some = deep_from_all d ts some

  deep_from_all : (d : ℕ) (ts : PlainTrees) → 0 < length (at_depth_all d ts) → suc d ≤ height ts
  deep_from_all d PlainTrees.none some = absurd (omega (arith, some))
  deep_from_all d (PlainTrees.next t ts) some =
      let both = length-append (at_depth d t) (at_depth_all d ts) in
      let one = le-max_left (suc (depth t)) (height ts) in
      let two = le-max_right (suc (depth t)) (height ts) in
      elim (cases_lt 0 (length (at_depth d t))) [
        | inl in_first ↦ let deep = deep_from d t in_first in omega (arith, deep, one)
        | inr none ↦ let deep = deep_from_all d ts (omega (arith, both, none, some)) in omega (arith, deep, two)
      ]

-- the numbers of what is one level lower
pub lower_numbers : (d : ℕ) (t : PlainTree) (found : List ℕ) → found ≡ map number_of (children_of_each (at_depth d t))
    → found ≡ map number_of (at_depth (suc d) t)
lower_numbers d t found e = e ∙ ap (map number_of) (sym (levels_are_children t d))

pub is_deep : (d : ℕ) (t : PlainTree) (found : List ℕ) → found ≡ map number_of (at_depth d t) → 0 < length found → is_so_deep d t ≡ true
is_deep d t found e some =
    le-leb d (depth t) (deep_from d t (let same = ap length e in let long = length-map (at_depth d t) number_of in omega (arith, same, long, some)))

pub not_deep : (d : ℕ) (t : PlainTree) (found : List ℕ) → found ≡ map number_of (at_depth d t) → length found ≡ 0 → is_so_deep d t ≡ false
not_deep d t found e none =
    elim (cases_lt (depth t) d) [
      | inl less ↦ lt-leb d (depth t) less
      | inr deep ↦ absurd (let some = some_at d t deep in let same = ap length e in let long = length-map (at_depth d t) number_of in
          omega (arith, same, long, some, none))
    ]

-- the nodes of a depth are found
pub depth_nodes : (d low high : ℕ) (t : PlainTree) → Rises low high t → (numbers : List ℕ) → numbers ≡ map number_of (at_depth d t)
    → AreNodesIn t numbers (at_depth d t)
depth_nodes d low high t h numbers e = record { numbers = e; found = λ u has. in_found low high t h u (depth_in d t u has) }

-- the level below them
pub next_level : (N : NormalForm) (d : ℕ) (t : PlainTree) (l : LevelForm) (numbers below : List ℕ) → numbers ≡ map number_of (at_depth d t)
    → l.parents ≡ Some numbers → l.nodes ≡ map number_of (flat_map (deletable_children N) (at_depth d t)) →
    l.pluses ≡ pluses_of N 0 (at_depth d t) → below ≡ map number_of (children_of_each (at_depth d t)) → 0 < length below → IsLevelAt N t (suc d) l
next_level N d t l numbers below are parents nodes pluses lower some = record {
  deep = is_deep (suc d) t below (lower_numbers d t below lower) some;
  parents = parents ∙ ap Some are;
  nodes = nodes;
  pluses = pluses;
}

-- what may be deleted of a level
module _ (N : NormalForm) (s : Sym) (t : PlainTree) (high : ℕ) (h : Rises 0 high t) (valid : IsValid N s t) (keep : List Bool) where
  pub elements_within : (d : ℕ) (l : LevelForm) → IsLevelAt N t d l → length keep ≡ length l.nodes → All (IsWithin (length keep)) l.pluses
  elements_within d l at each = subst (λ (es : List Elements). All (IsWithin (length keep)) es) (sym at.pluses) (by_depth d at.nodes)
    where
      by_depth : (d : ℕ) → l.nodes ≡ level N d t → All (IsWithin (length keep)) (pluses_at N d t)
      by_depth zero nodes = All-nil (IsWithin (length keep))
      by_depth (suc d) nodes =
          let long = ap length nodes ∙ length-map (flat_map (deletable_children N) (at_depth d t)) number_of in
          pluses_within N 0 (length keep) (at_depth d t) (omega (arith, long, each))

  pub fills_are : (d : ℕ) (l : LevelForm) → IsLevelAt N t d l → length keep ≡ length l.nodes
      → list_all (keeps_element keep) l.pluses ≡ fills_pluses N (without_nodes (dropped l.nodes keep) t)
  fills_are d l at each =
      ap (list_all (keeps_element keep)) at.pluses ∙ by_depth d (ap length at.nodes)
      ∙ ap (λ (qs : List ℕ). fills_pluses N (without_nodes (dropped qs keep) t)) (sym at.nodes)
    where
      by_depth : (d : ℕ) → length l.nodes ≡ length (level N d t)
          → list_all (keeps_element keep) (pluses_at N d t) ≡ fills_pluses N (without_nodes (dropped (level N d t) keep) t)
      by_depth zero long = sym (ap (fills_pluses N) (nothing_out t) ∙ fills_valid N s t valid)
      by_depth (suc d) long = level_fills N d high t keep h (fills_valid N s t valid) (omega (arith, long, each))

  pub can_drop : (d : ℕ) (l : LevelForm) → IsLevelAt N t d l → fills_pluses N (without_nodes (dropped l.nodes keep) t) ≡ true
      → CanDrop N s t (dropped l.nodes keep)
  can_drop d l at fills =
      subst (λ (qs : List ℕ). CanDrop N s t (dropped qs keep)) (sym at.nodes) (record {
        apart = dropped_apart t (level N d t) keep (level_apart N d 0 high t h);
        elements = elements;
        valid =
            valid_without N (dropped (level N d t) keep) s t valid elements
            (subst (λ (qs : List ℕ). fills_pluses N (without_nodes (dropped qs keep) t) ≡ true) at.nodes fills);
      })
    where
      elements : AreElements N (dropped (level N d t) keep) t
      elements = level_elements N (dropped (level N d t) keep) d 0 high t h (dropped_of (level N d t) keep (number_of t + 1) high)

-- the numbers of what is above a depth are those of the depth before it
pub above_is : (d : ℕ) (t : PlainTree) (items : List ℕ) → Some items ≡ parents_at d t → (e : ℕ) × (d ≡ suc e) × (items ≡ map number_of (at_depth e t))
above_is zero t items e = absurd (none-some items (sym e))
above_is (suc d) t items e = (d, refl, same_Some items (map number_of (at_depth d t)) e)

-- what is left of a level, by what was found of its pluses
pub kept_by : (N : NormalForm) (nodes : List ℕ) (keep : List Bool) (t : PlainTree) (b : Bool) → fills_pluses N (without_nodes (dropped nodes keep) t) ≡ b
    → kept_only N nodes keep t ≡ (if b then Some (without_nodes (dropped nodes keep) t) else None)
kept_by N nodes keep t b e = ap (λ (x : Bool). if x then Some (without_nodes (dropped nodes keep) t) else None) e

pub some_long : (n m : ℕ) → (n ≡ 0 → ⊥) → n ≡ m → 0 < m
some_long n zero other e = absurd (other e)
some_long n (suc m) other e = omega arith
