-- What is below a node.
use Rattle.std.proofs.Common.{◌≡◌, ◌⊎◌, inl, inr, ℕ, zero, suc, ◌<◌, ◌≤◌, Bool, true, false, List, [], ◌∷◌, Some, None}
use Rattle.std.proofs.Common.{Contains, length, nat_eq, nat_lt, refl, sym, ap, ◌∙◌, subst, arith}
use Rattle.std.specs.Prelude.{◌&&◌}
use Rattle.std.specs.List.{AllByRecursion, filter}
use Rattle.std.proofs.lemmas.Bool.{cases_Bool, cond-false, cond-true, false≢true}
use Rattle.std.proofs.lemmas.Bool.Decides.{Decides-ltb}
use Rattle.std.proofs.lemmas.Option.{none-some, same_Some}
use Rattle.std.proofs.lemmas.List.Elements.{All-contains_itself, All-weaker, recursion_from_All}
use Rattle.normal_form.specs.declared.normal.Sym.{Sym}
use Rattle.normal_form.specs.Form.{NormalForm}
use Rattle.compat_table.specs.Fits.{Fits}
use Rattle.syntax_tree.specs.Trees.{PlainTree, PlainTrees, IsBelow, IsIn, IsInSome, below, in_first, in_later}
use Rattle.syntax_tree.specs.Trees.{itself, size, size_all, symbol_of, weight, weight_all}
use Rattle.syntax_tree.specs.Numbered.{subtree}
use Rattle.syntax_tree.specs.Levels.{below_in_level_order}
use Rattle.syntax_tree.proofs.Lent.{is_in, levels}
use Rattle.descend_replace.specs.Compatible.{DecidesFits, compatible}
use Rattle.reduce_perses.specs.Queued.{waits}

mutual
  pub size_in : (u t : PlainTree) → IsIn u t → size u ≤ size t
  size_in u t (itself t') = omega arith
  size_in u t (below u' n r a ts d) = let it = size_some u ts d in omega (arith, it)

  pub size_some : (u : PlainTree) (ts : PlainTrees) → IsInSome u ts → size u ≤ size_all ts
  size_some u ts (in_first u' t ts' d) = let it = size_in u t d in omega (arith, it)
  size_some u ts (in_later u' t ts' d) = let it = size_some u ts' d in omega (arith, it)

mutual
  pub weight_in : (u t : PlainTree) → IsIn u t → weight u ≤ weight t
  weight_in u t (itself t') = omega arith
  weight_in u t (below u' n r a ts d) = weight_some u ts d

  pub weight_some : (u : PlainTree) (ts : PlainTrees) → IsInSome u ts → weight u ≤ weight_all ts
  weight_some u ts (in_first u' t ts' d) = let it = weight_in u t d in omega (arith, it)
  weight_some u ts (in_later u' t ts' d) = let it = weight_some u ts' d in omega (arith, it)

-- a node waits where something in it waits
pub waits_around : (q : ℕ) (x v : PlainTree) → subtree q x ≡ Some v → waits v ≡ true → 0 < weight v → waits x ≡ true
waits_around q (PlainTree.leaf n k i) v e is heavy = elim (cases_Bool (nat_eq n q)) [
  | inl same ↦ absurd (false≢true (ap waits (same_Some (PlainTree.leaf n k i) v (sym (cond-true (nat_eq n q) (Some (PlainTree.leaf n k i)) None same) ∙ e))
      ∙ is))
  | inr other ↦ absurd (none-some v (sym (cond-false (nat_eq n q) (Some (PlainTree.leaf n k i)) None other) ∙ e))
]
waits_around q (PlainTree.node n r a ts) v e is heavy =
    let light = weight_in v (PlainTree.node n r a ts) (is_in q (PlainTree.node n r a ts) v e) in
    let some : 0 < weight_all ts = omega (arith, light, heavy) in
    (Decides-ltb 0 (weight_all ts)).1 some

-- Of what is filtered.

pub filtered : {A : Type 0} (p : A → Bool) (P : A → Type 0) (xs : List A) → AllByRecursion P xs → AllByRecursion (λ x. P x × (p x ≡ true)) (filter p xs)
filtered p P [] all = tt
filtered {A} p P (x ∷ xs) all =
    let Q : List A → Type 0 = λ ys. AllByRecursion (λ y. P y × (p y ≡ true)) ys in
    elim (cases_Bool (p x)) [
      | inl is ↦ subst Q (sym (cond-true (p x) (x ∷ filter p xs) (filter p xs) is)) ((all.0, is), filtered p P xs all.1)
      | inr is ↦ subst Q (sym (cond-false (p x) (x ∷ filter p xs) (filter p xs) is)) (filtered p P xs all.1)
    ]

abbrev pub IsOneOf : {A : Type 0} → List A → A → Type 0
IsOneOf [] y = ⊥
IsOneOf (x ∷ xs) y = (x ≡ y) ⊎ IsOneOf xs y

one_of : {A : Type 0} (xs : List A) (y : A) → Contains xs y → IsOneOf xs y
one_of [] y (k, within, e) = absurd (let no : k < 0 = within in omega (arith, no))
one_of (x ∷ xs) y (zero, within, e) = inl e
one_of (x ∷ xs) y (suc k, within, e) = inr (one_of xs y (k, (let less : suc k < suc (length xs) = within in omega (arith, less)), e))

one_filtered : {A : Type 0} (p : A → Bool) (xs : List A) (y : A) → p y ≡ true → IsOneOf xs y → IsOneOf (filter p xs) y
one_filtered p [] y is one = one
one_filtered {A} p (x ∷ xs) y is (inl same) =
    let Q : List A → Type 0 = λ ys. IsOneOf ys y in
    subst Q (sym (cond-true (p x) (x ∷ filter p xs) (filter p xs) (ap p same ∙ is))) (inl same)
one_filtered {A} p (x ∷ xs) y is (inr one) =
    let Q : List A → Type 0 = λ ys. IsOneOf ys y in
    let it = one_filtered p xs y is one in
    elim (cases_Bool (p x)) [
      | inl is' ↦ subst Q (sym (cond-true (p x) (x ∷ filter p xs) (filter p xs) is')) (inr it)
      | inr isn't ↦ subst Q (sym (cond-false (p x) (x ∷ filter p xs) (filter p xs) isn't)) it
    ]

both_true : (a b : Bool) → (a && b) ≡ true → (a ≡ true) × (b ≡ true)
both_true true b e = (refl, e)
both_true false b e = absurd (false≢true e)

are_true : (a b : Bool) → a ≡ true → b ≡ true → (a && b) ≡ true
are_true true b e f = f
are_true false b e f = absurd (false≢true e)

-- What is said of a compatible descendant.
pub record IsCompatible (N : NormalForm) (s : Sym) (v u : PlainTree) : Type 0 where
  pub is_below : IsBelow u v
  pub fits : Fits N (symbol_of u) s
  pub lighter : weight u < weight v

module _ (N : NormalForm) (fits : Sym → Sym → Bool) (decides : DecidesFits N fits) (s : Sym) (v : PlainTree) where
  abbrev passes : PlainTree → Bool
  passes u = fits (symbol_of u) s && nat_lt (weight u) (weight v)

  pub all_compatible : AllByRecursion (IsCompatible N s v) (compatible fits s v)
  all_compatible =
      weaker (compatible fits s v) (filtered passes (λ u. IsBelow u v) (below_in_level_order v)
      (recursion_from_All (λ u. IsBelow u v) (below_in_level_order v)
      (All-weaker (Contains (below_in_level_order v)) (λ u. IsBelow u v) (λ u c. (levels v u).0 c) (below_in_level_order v)
      (All-contains_itself (below_in_level_order v)))))
    where
      weaker : (us : List PlainTree) → AllByRecursion (λ u. IsBelow u v × (passes u ≡ true)) us → AllByRecursion (IsCompatible N s v) us
      weaker [] all = tt
      weaker (u ∷ us) all =
          let both = both_true (fits (symbol_of u) s) (nat_lt (weight u) (weight v)) all.0.1 in
          (record { is_below = all.0.0; fits = (decides (symbol_of u) s).0 both.0; lighter = (Decides-ltb (weight u) (weight v)).0 both.1 }, weaker us all.1)

  pub each_compatible : (u : PlainTree) → IsBelow u v → Fits N (symbol_of u) s → weight u < weight v → IsOneOf (compatible fits s v) u
  each_compatible u is_below fit light =
      one_filtered passes (below_in_level_order v) u
      (are_true (fits (symbol_of u) s) (nat_lt (weight u) (weight v)) ((decides (symbol_of u) s).1 fit) ((Decides-ltb (weight u) (weight v)).1 light))
      (one_of (below_in_level_order v) u ((levels v u).1 is_below))
