-- What is in a tree whose numbers rise.
use Rattle.std.proofs.Common.{◌≡◌, inr, ℕ, ◌+◌, Option, Some, IsSome, nat_eq, refl, sym, ap, ◌∙◌, subst, arith}
use Rattle.std.specs.Option.{option_or}
use Rattle.std.proofs.lemmas.Bool.{cond-false, ne_eqb}
use Rattle.std.proofs.lemmas.Option.{same_Some}
use Rattle.syntax_tree.specs.Trees.{PlainTree, PlainTrees}
use Rattle.syntax_tree.specs.Numbered.{NumbersRise, number_of, subtree, subtree_among}
use Rattle.syntax_tree.proofs.Lent.{AreWithin, IsWithin, found, found_among, lacks_subtree, outside, rise_from, within_from, find, root_found}

pub is_some : {A : Type 0} (o : Option A) (x : A) → o ≡ Some x → IsSome o
is_some {A} o x e = let P : Option A → Type 0 = λ p. IsSome p in subst P (sym e) refl

pub same_node : (o : Option PlainTree) (u v : PlainTree) → o ≡ Some u → o ≡ Some v → u ≡ v
same_node o u v e f = same_Some u v (sym e ∙ f)

-- the numbers of a node and of all below it rise too
pub node_rises : (q : ℕ) (t v : PlainTree) → NumbersRise t → subtree q t ≡ Some v → NumbersRise v
node_rises q t v rise e =
    let within = within_from t rise in
    let f = found 0 within.0 q t v within.1 e in
    rise_from q f.end v f.inside

-- a node has the number by which it is found
pub node_number : (q : ℕ) (t v : PlainTree) → NumbersRise t → subtree q t ≡ Some v → number_of v ≡ q
node_number q t v rise e = let within = within_from t rise in (found 0 within.0 q t v within.1 e).number

-- and is found by it in itself
pub node_itself : (q : ℕ) (t v : PlainTree) → NumbersRise t → subtree q t ≡ Some v → subtree q v ≡ Some v
node_itself q t v rise e = let P : ℕ → Type 0 = λ p. subtree p v ≡ Some v in subst P (node_number q t v rise e) (root_found v)

pub node_deeper : (q p : ℕ) (t u v : PlainTree) → NumbersRise t → subtree q t ≡ Some u → subtree p u ≡ Some v → subtree p t ≡ Some v
node_deeper q p t u v rise e f = (find t rise).deeper q p u v e f

-- the children of a node
pub children_within : (n r a : ℕ) (ts : PlainTrees) → NumbersRise (PlainTree.node n r a ts) → (high : ℕ) × AreWithin (n + 1) high ts
children_within n r a ts rise = let within = within_from (PlainTree.node n r a ts) rise in (within.0, within.1.1)

pub child_found : (high n r a p : ℕ) (ts : PlainTrees) (y : PlainTree) → AreWithin (n + 1) high ts → subtree_among p ts ≡ Some y
    → subtree p (PlainTree.node n r a ts) ≡ Some y
child_found high n r a p ts y within e =
    cond-false (nat_eq n p) (Some (PlainTree.node n r a ts)) (subtree_among p ts)
    (ne_eqb n p (let it = found_among (n + 1) high p ts y within e in omega (arith, it.above))) ∙ e

-- the first of several trees, and the others
pub first_found : (p : ℕ) (t : PlainTree) (ts : PlainTrees) (y : PlainTree) → subtree p t ≡ Some y → subtree_among p (PlainTrees.next t ts) ≡ Some y
first_found p t ts y e = ap (λ o. option_or o (subtree_among p ts)) e

pub later_found : (low middle high p : ℕ) (t : PlainTree) (ts : PlainTrees) (y : PlainTree) → IsWithin low middle t → AreWithin middle high ts
    → subtree_among p ts ≡ Some y →
    subtree_among p (PlainTrees.next t ts) ≡ Some y
later_found low middle high p t ts y first later e =
    ap (λ o. option_or o (subtree_among p ts)) (lacks_subtree p t (outside low middle p t first (inr (found_among middle high p ts y later e).above))) ∙ e

-- no number is both in the first of them and in the others
pub not_both : (low middle high p : ℕ) (t : PlainTree) (ts : PlainTrees) (x y : PlainTree) → IsWithin low middle t → AreWithin middle high ts
    → subtree p t ≡ Some x → subtree_among p ts ≡ Some y → ⊥
not_both low middle high p t ts x y first later e f =
    let under = (found low middle p t x first e).below in
    let above = (found_among middle high p ts y later f).above in
    omega (arith, under, above)
