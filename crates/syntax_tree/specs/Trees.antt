-- Trees over a normal form, as plain data.
use Rattle.std.specs.Prelude.{◌≡◌, ℕ, suc, ◌+◌, ⊤, List, [], ◌∷◌, ◌++◌}
use Rattle.normal_form.specs.declared.normal.Sym.{Sym}
use Rattle.normal_form.specs.declared.normal.Sym.TheVariants.{Kind, Rule}

mutual
  -- Each leaf and node has a number, by which calls name it; nothing else depends on these numbers.
  pub data PlainTree : Type 0 where
    -- a leaf: its number, its kind, and the number of its token, counted from 0
    leaf : (number kind token : ℕ) → PlainTree
    -- a node: its number, its rule, the number of the alternative that it has, counted from 0 (and 0 where its rule isn't regular), and its children
    node : (number rule alt : ℕ) → PlainTrees → PlainTree

  -- trees from left to right
  pub data PlainTrees : Type 0 where
    none : PlainTrees
    next : PlainTree → PlainTrees → PlainTrees

-- the symbol that the tree is itself: its kind or its rule
abbrev pub symbol_of : PlainTree → Sym
symbol_of (PlainTree.leaf n k i) = Kind k
symbol_of (PlainTree.node n r a ts) = Rule r

abbrev mutual
  -- what f gives of the kind and the token of each leaf, from left to right
  pub of_leaves : (ℕ → ℕ → ℕ) → PlainTree → List ℕ
  of_leaves f (PlainTree.leaf n k i) = f k i ∷ []
  of_leaves f (PlainTree.node n r a ts) = of_leaves_all f ts

  pub of_leaves_all : (ℕ → ℕ → ℕ) → PlainTrees → List ℕ
  of_leaves_all f PlainTrees.none = []
  of_leaves_all f (PlainTrees.next t ts) = of_leaves f t ++ of_leaves_all f ts

-- the leaves from left to right, by the numbers of their tokens
abbrev pub leaves : PlainTree → List ℕ
leaves t = of_leaves (λ k i. i) t

-- the leaves from left to right, by their kinds
abbrev pub kinds_of : PlainTree → List ℕ
kinds_of t = of_leaves (λ k i. k) t

abbrev mutual
  -- how many leaves the tree has
  pub weight : PlainTree → ℕ
  weight (PlainTree.leaf n k i) = 1
  weight (PlainTree.node n r a ts) = weight_all ts

  pub weight_all : PlainTrees → ℕ
  weight_all PlainTrees.none = 0
  weight_all (PlainTrees.next t ts) = weight t + weight_all ts

abbrev pub count : PlainTrees → ℕ
count PlainTrees.none = 0
count (PlainTrees.next t ts) = suc (count ts)

abbrev pub children_of : PlainTree → PlainTrees
children_of (PlainTree.leaf n k i) = PlainTrees.none
children_of (PlainTree.node n r a ts) = ts

mutual
  -- The first tree is the second one, or is below it.
  pub data IsIn : PlainTree → PlainTree → Type 0 where
    itself : (t : PlainTree) → IsIn t t
    below : (u : PlainTree) (n r a : ℕ) (ts : PlainTrees) → IsInSome u ts → IsIn u (PlainTree.node n r a ts)

  pub data IsInSome : PlainTree → PlainTrees → Type 0 where
    in_first : (u t : PlainTree) (ts : PlainTrees) → IsIn u t → IsInSome u (PlainTrees.next t ts)
    in_later : (u t : PlainTree) (ts : PlainTrees) → IsInSome u ts → IsInSome u (PlainTrees.next t ts)

-- The first tree is below the second one: a proper descendant.
abbrev pub IsBelow : PlainTree → PlainTree → Type 0
IsBelow u t = IsInSome u (children_of t)

abbrev mutual
  -- how many nodes and leaves the tree has
  pub size : PlainTree → ℕ
  size (PlainTree.leaf n k i) = 1
  size (PlainTree.node n r a ts) = suc (size_all ts)

  pub size_all : PlainTrees → ℕ
  size_all PlainTrees.none = 0
  size_all (PlainTrees.next t ts) = size t + size_all ts

abbrev mutual
  -- the same tree with the numbers from n on, each node's before those below it, from left to right
  pub renumbered : ℕ → PlainTree → PlainTree
  renumbered n (PlainTree.leaf m k i) = PlainTree.leaf n k i
  renumbered n (PlainTree.node m r a ts) = PlainTree.node n r a (renumbered_all (n + 1) ts)

  pub renumbered_all : ℕ → PlainTrees → PlainTrees
  renumbered_all n PlainTrees.none = PlainTrees.none
  renumbered_all n (PlainTrees.next t ts) = PlainTrees.next (renumbered n t) (renumbered_all (n + size t) ts)

abbrev mutual
  -- The leaves are the tokens from f on, in their order.
  pub HasTokensFrom : ℕ → PlainTree → Type 0
  HasTokensFrom f (PlainTree.leaf n k i) = i ≡ f
  HasTokensFrom f (PlainTree.node n r a ts) = HaveTokensFrom f ts

  pub HaveTokensFrom : ℕ → PlainTrees → Type 0
  HaveTokensFrom f PlainTrees.none = ⊤
  HaveTokensFrom f (PlainTrees.next t ts) = HasTokensFrom f t × HaveTokensFrom (f + weight t) ts
