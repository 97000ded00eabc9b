-- What holds of cuts and of the nodes that are left, for the calls.
use Rattle.std.proofs.Common.{◌≡◌, inl, inr, ℕ, zero, suc, ◌+◌, ◌<◌, ◌≤◌, List, [], ◌∷◌, ◌++◌, Option, Some, None}
use Rattle.std.proofs.Common.{length, slice_get, get_or, refl, sym, ap, ◌∙◌, subst, arith}
use Rattle.std.specs.Prelude.{replicate, IsSome}
use Rattle.std.specs.List.{range_with_len}
use Rattle.std.specs.List.Sorted.{IsStrictlyIncreasing}
use Rattle.std.specs.Option.{option_map, option_map_or}
use Rattle.std.proofs.lemmas.Bool.{cases_eq, cases_lt, cases_order, false≢true}
use Rattle.std.proofs.lemmas.List.{length-replicate}
use Rattle.std.proofs.lemmas.List.FromFn.{get_or-range_with_len, length-range_with_len}
use Rattle.std.proofs.lemmas.Option.{none-some, slice_get-get_or, slice_get_within}
use Rattle.normal_form.specs.declared.normal.Sym.{Sym}
use Rattle.normal_form.specs.Form.{NormalForm}
use Rattle.syntax_tree.specs.declared.node.Node.{Node}
use Rattle.syntax_tree.specs.Trees.{HasTokensFrom, HaveTokensFrom, PlainTree, PlainTrees, leaves, of_leaves_all}
use Rattle.syntax_tree.specs.Trees.{renumbered, renumbered_all, size, size_all, weight, weight_all}
use Rattle.syntax_tree.specs.Numbered.{number_of, subtree, subtree_among}
use Rattle.syntax_tree.specs.Valid.{slot_at}
use Rattle.syntax_tree.specs.Nodes.{AreNodesOf, SyntaxTree, nodes_of, whole}
use Rattle.syntax_tree_cut.specs.declared.mark.Mark.{Mark}
use Rattle.syntax_tree_cut.specs.declared.mark.Mark.TheVariants.{Kept, Replaced}
use Rattle.syntax_tree_cut.specs.inner.Tokens.{within}
use Rattle.syntax_tree_cut.specs.Cuts.{CutForm, IsCutOf, ReplacementsGoDown, cut_tree, left_at, mark_at, slot_of}
use Rattle.syntax_tree_cut.specs.inner.TreeLaws.{TreeLaws}
use Rattle.syntax_tree_cut.proofs.Rising.{cases_option, found_within, or_first, or_second, subtree_below, subtree_own}
use Rattle.syntax_tree_cut.proofs.LeftTrees.{part_left, whole_left}
use Rattle.syntax_tree_cut.proofs.Deletions.{leaves_count, slot_there}
use Rattle.syntax_tree_cut.proofs.CutEdits.{cut_of, node_was, slot_at_position, tree_numbers, whole_rises}

pub some_of : {A : Type 0} (o : Option A) → IsSome o → (x : A) × (o ≡ Some x)
some_of None is = absurd (false≢true is)
some_of (Some x) is = (x, refl)

pub get_there : {A : Type 0} (xs : List A) (q : ℕ) → q < length xs → (x : A) × (slice_get xs q ≡ Some x)
get_there [] q lt = absurd (omega (arith, lt))
get_there (x ∷ xs) zero lt = (x, refl)
get_there (x ∷ xs) (suc q) lt = get_there xs q (omega (arith, lt))

before_next : (n q m : ℕ) → n ≡ m → n ≤ q → (m ≡ q → ⊥) → n + 1 ≤ q
before_next n q m same le other =
    elim (cases_lt n q) [
      | inl lt ↦ omega (arith, lt)
      | inr ge ↦ absurd (other (let e : m ≡ q = omega (arith, same, le, ge) in e))
    ]

pub some_size : (t : PlainTree) → 0 < size t
some_size (PlainTree.leaf n k i) = omega arith
some_size (PlainTree.node n r a ts) = omega arith

-- each number of a numbered tree is found
mutual
  pub subtree_there : (n q : ℕ) (t : PlainTree) → renumbered n t ≡ t → n ≤ q → q < n + size t → (u : PlainTree) × (subtree q t ≡ Some u)
  subtree_there n q (PlainTree.leaf m k i) e le lt =
      let same : n ≡ m = cc in
      (PlainTree.leaf m k i, subtree_own q (PlainTree.leaf m k i) (omega (arith, same, le, lt)))
  subtree_there n q (PlainTree.node m r a ts) e le lt =
      let same : n ≡ m = cc in
      let below : renumbered_all (n + 1) ts ≡ ts = cc in
      elim (cases_eq m q) [
        | inl is ↦ (PlainTree.node m r a ts, subtree_own q (PlainTree.node m r a ts) is)
        | inr other ↦
            let deeper = subtree_among_there (n + 1) q ts below (before_next n q m same le other) (omega (arith, lt)) in
            (deeper.0, subtree_below q m r a ts other ∙ deeper.1)
      ]

  pub subtree_among_there : (n q : ℕ) (ts : PlainTrees) → renumbered_all n ts ≡ ts → n ≤ q → q < n + size_all ts → (u : PlainTree)
      × (subtree_among q ts ≡ Some u)
  subtree_among_there n q PlainTrees.none e le lt = absurd (omega (arith, le, lt))
  subtree_among_there n q (PlainTrees.next t ts) e le lt =
      let first : renumbered n t ≡ t = cc in
      let later : renumbered_all (n + size t) ts ≡ ts = cc in
      elim (cases_lt q (n + size t)) [
        | inl in_it ↦ let it = subtree_there n q t first le in_it in (it.0, or_first (subtree q t) (subtree_among q ts) it.0 it.1)
        | inr after ↦
            let more = subtree_among_there (n + size t) q ts later after (omega (arith, lt)) in
            elim (cases_option (subtree q t)) [
              | inl some ↦ (some.0, or_first (subtree q t) (subtree_among q ts) some.0 some.1)
              | inr none ↦ (more.0, or_second (subtree q t) (subtree_among q ts) none ∙ more.1)
            ]
      ]

-- no tree has more leaves than nodes and leaves
mutual
  pub weight_size : (t : PlainTree) → weight t ≤ size t
  weight_size (PlainTree.leaf n k i) = omega arith
  weight_size (PlainTree.node n r a ts) = let rest = weight_size_all ts in omega (arith, rest)

  pub weight_size_all : (ts : PlainTrees) → weight_all ts ≤ size_all ts
  weight_size_all PlainTrees.none = omega arith
  weight_size_all (PlainTrees.next t ts) = let one = weight_size t in let rest = weight_size_all ts in omega (arith, one, rest)

range_both : (a m n : ℕ) → range_with_len a m ++ range_with_len (a + m) n ≡ range_with_len a (m + n)
range_both a zero n = ap (λ (b : ℕ). range_with_len b n) (let e : a + 0 ≡ a = omega arith in e) ∙ ap (range_with_len a) (let e : n ≡ 0 + n = omega arith in e)
range_both a (suc m) n =
    ap (λ (b : ℕ). a ∷ (range_with_len (a + 1) m ++ range_with_len b n)) (let e : a + suc m ≡ (a + 1) + m = omega arith in e)
    ∙ ap (λ (l : List ℕ). a ∷ l) (range_both (a + 1) m n)
    ∙ ap (range_with_len a) (let e : suc (m + n) ≡ suc m + n = omega arith in e)

pub range_more : (n : ℕ) → range_with_len 0 (n + 1) ≡ range_with_len 0 n ++ n ∷ []
range_more n = sym (range_both 0 n 1) ∙ ap (λ (m : ℕ). range_with_len 0 n ++ m ∷ []) (let e : 0 + n ≡ n = omega arith in e)

pub index_is : {A : Type 0} (xs ys : List A) (q : ℕ) (d : A) → ys ≡ xs → q < length xs → slice_get xs q ≡ Some (get_or ys q d)
index_is xs ys q d e lt = slice_get-get_or xs q d lt ∙ ap (λ l. Some (get_or l q d)) (sym e)

-- the leaves of a tree of tokens that follow one another
mutual
  pub leaves_from : (f : ℕ) (t : PlainTree) → HasTokensFrom f t → leaves t ≡ range_with_len f (weight t)
  leaves_from f (PlainTree.leaf n k i) e = ap (λ (x : ℕ). x ∷ []) e
  leaves_from f (PlainTree.node n r a ts) e = leaves_from_all f ts e

  pub leaves_from_all : (f : ℕ) (ts : PlainTrees) → HaveTokensFrom f ts → of_leaves_all (λ k i. i) ts ≡ range_with_len f (weight_all ts)
  leaves_from_all f PlainTrees.none e = refl
  leaves_from_all f (PlainTrees.next t ts) e =
      ap (λ (l : List ℕ). l ++ of_leaves_all (λ k i. i) ts) (leaves_from f t e.0)
      ∙ ap (λ (l : List ℕ). range_with_len f (weight t) ++ l) (leaves_from_all (f + weight t) ts e.1)
      ∙ range_both f (weight t) (weight_all ts)

range_rises : (a n : ℕ) → IsStrictlyIncreasing (range_with_len a n)
range_rises a n k lt =
    let long = length-range_with_len a n in
    let one = get_or-range_with_len a n k 0 (omega (arith, lt, long)) in
    let next = get_or-range_with_len a n (k + 1) 0 (omega (arith, lt, long)) in
    omega (arith, one, next)

all_kept : (n q : ℕ) → mark_at (replicate n Kept) q ≡ Kept
all_kept zero q = refl
all_kept (suc n) zero = refl
all_kept (suc n) (suc q) = all_kept n q

not_replaced : (by : ℕ) → Kept ≡ Replaced by → ⊥
not_replaced by e = cc

pub root_number : (n : ℕ) (t : PlainTree) → renumbered n t ≡ t → number_of t ≡ n
root_number n (PlainTree.leaf m k i) e = cc
root_number n (PlainTree.node m r a ts) e = cc

root_end : (N : NormalForm) (s : Sym) (t : PlainTree) (x : Node) → slice_get (nodes_of N s None 0 t) 0 ≡ Some x → x.end ≡ weight t
root_end N s (PlainTree.leaf n k i) x e = let is = ap (λ (o : Option Node). option_map_or (λ (y : Node). y.end) o 0) e in omega (arith, is)
root_end N s (PlainTree.node n r a ts) x e = let is = ap (λ (o : Option Node). option_map_or (λ (y : Node). y.end) o 0) e in omega (arith, is)

-- what holds of a node that is left
pub record NodeFacts (tree : SyntaxTree) (c : CutForm) (q : ℕ) (u : PlainTree) : Type 0 where
  pub mark : q < length c.marks
  pub node : q < length tree.nodes
  pub position : q < length c.positions
  pub rising : IsStrictlyIncreasing c.kept
  pub span : (x : Node) → slice_get tree.nodes q ≡ Some x → x.first ≤ x.end
  pub tokens : (x : Node) → slice_get tree.nodes q ≡ Some x → length (within x.first x.end c.kept) ≡ weight u
  pub few : weight u ≤ length tree.nodes
  pub slot_node : (p : ℕ) → slice_get c.positions q ≡ Some p → p < length tree.nodes
  pub slot : (p : ℕ) (x : Node) → slice_get c.positions q ≡ Some p → slice_get tree.nodes p ≡ Some x
      → slot_at tree.form tree.start q (cut_tree tree c) ≡ Some x.slot

module _ (tree : SyntaxTree) (laws : TreeLaws) (are : AreNodesOf tree.form tree.start tree.nodes (whole tree)) where
  pub nodes_count : length tree.nodes ≡ size (whole tree)
  nodes_count =
      elim (cases_order (length tree.nodes) (size (whole tree))) [
        | inl same ↦ same
        | inr (inl less) ↦
            let there = subtree_there 0 (length tree.nodes) (whole tree) are.whole.numbered (omega arith) (omega (arith, less)) in
            let node = laws.subtrees_have_nodes tree are (length tree.nodes) there.0 there.1 in
            absurd (let lt = slice_get_within tree.nodes (length tree.nodes) node.0 node.1 in omega (arith, lt))
        | inr (inr more) ↦
            let node = get_there tree.nodes (size (whole tree)) more in
            let there = laws.nodes_are_subtrees tree are (size (whole tree)) node.0 node.1 in
            absurd (let lt = found_within 0 (size (whole tree)) (whole tree) (whole_rises tree laws are) (size (whole tree)) there.0 there.1.subtree_is in
            omega (arith, lt))
      ]

  pub some_nodes : 0 < length tree.nodes
  some_nodes = let count = nodes_count in let some = some_size (whole tree) in omega (arith, count, some)

  pub tokens_count : (x : Node) → slice_get tree.nodes 0 ≡ Some x → x.end ≡ weight (whole tree)
  tokens_count x e = root_end tree.form tree.start (whole tree) x (ap (λ (ns : List Node). slice_get ns 0) (sym are.are) ∙ e)

  -- a cut without edits
  pub new_cut : (d : CutForm) → d.marks ≡ replicate (length tree.nodes) Kept → d.positions ≡ range_with_len 0 (length tree.nodes)
      → d.kept ≡ range_with_len 0 (weight (whole tree)) → (cut_tree tree d ≡ whole tree) × IsCutOf tree d
  new_cut d marks positions kept =
      let all : (q : ℕ) → mark_at d.marks q ≡ Kept = λ q. ap (λ (ms : List Mark). mark_at ms q) marks ∙ all_kept (length tree.nodes) q in
      let root : left_at d.marks 0 (whole tree) ≡ Some (whole tree) =
      ap (λ (n : ℕ). left_at d.marks n (whole tree)) (sym (root_number 0 (whole tree) are.whole.numbered)) ∙ whole_left d.marks all (whole tree) in
      let tokens : leaves (whole tree) ≡ range_with_len 0 (weight (whole tree)) = leaves_from 0 (whole tree) are.whole.tokens in
      let down : ReplacementsGoDown d.marks (whole tree) = λ q by u e m. absurd (not_replaced by (sym (all q) ∙ m)) in
      let slots : (q : ℕ) (s : Sym) → slot_at tree.form tree.start q (whole tree) ≡ Some s → slot_of tree d.positions q ≡ Some s =
      λ q s e.
      let there = slot_there tree.form tree.start q (whole tree) s e in
      let node = laws.subtrees_have_nodes tree are q there.0 there.1 in
      let lt = slice_get_within tree.nodes q node.0 node.1 in
      let at : slice_get (range_with_len 0 (length tree.nodes)) q ≡ Some q =
      slice_get-get_or (range_with_len 0 (length tree.nodes)) q 0 (let long = length-range_with_len 0 (length tree.nodes) in omega (arith, lt, long))
      ∙ ap Some (get_or-range_with_len 0 (length tree.nodes) q 0 lt ∙ (let f : 0 + q ≡ q = omega arith in f)) in
      ap (slot_at_position tree) (ap (λ (ps : List ℕ). slice_get ps q) positions ∙ at)
      ∙ ap (λ (o : Option Node). option_map (λ (x : Node). x.slot) o) node.1
      ∙ sym node.2.slot ∙ e in
      cut_of tree laws are d (whole tree) (ap length marks ∙ length-replicate (length tree.nodes) Kept ∙ nodes_count) down root
      (record { valid = are.whole.valid; rising = subst (λ (l : List ℕ). IsStrictlyIncreasing l) (sym tokens) (range_rises 0 (weight (whole tree))) })
      slots (kept ∙ sym tokens)

  module _ (c : CutForm) (of : IsCutOf tree c) where
    pub node_facts : (q : ℕ) (u : PlainTree) → subtree q (cut_tree tree c) ≡ Some u → NodeFacts tree c q u
    node_facts q u e =
        let was = node_was tree laws are c of q u e in
        let node = laws.subtrees_have_nodes tree are q was.3.0 was.3.1 in
        let slot = laws.nodes_have_slots tree.form tree.start q (cut_tree tree c) u of.fits.valid (tree_numbers tree laws are c of) e in
        let own = of.slots q slot.0 slot.1 in
        record {
          mark = was.2;
          node = slice_get_within tree.nodes q node.0 node.1;
          position = elim (cases_option (slice_get c.positions q)) [
            | inl some ↦ slice_get_within c.positions q some.0 some.1
            | inr none ↦ absurd (none-some slot.0 (ap (slot_at_position tree) (sym none) ∙ own))
          ];
          rising = subst (λ (l : List ℕ). IsStrictlyIncreasing l) (sym of.kept) of.fits.rising;
          span = λ x at. let is = (laws.nodes_are_subtrees tree are q x at).1.end in omega (arith, is);
          tokens = λ x at.
              ap (λ (l : List ℕ). length (within x.first x.end l)) of.kept
              ∙ ap length (sym (laws.leaves_in_span tree are (cut_tree tree c) u q x of.part e at).inside)
              ∙ leaves_count u;
          few =
              let lighter = (laws.left_is_part (whole tree) u (part_left c.marks q (whole tree) u was.0)).lighter in
              let bound = weight_size (whole tree) in
              let count = nodes_count in
              omega (arith, lighter, bound, count);
          slot_node = λ p at. elim (cases_option (slice_get tree.nodes p)) [
            | inl some ↦ slice_get_within tree.nodes p some.0 some.1
            | inr none ↦ absurd (none-some slot.0 (ap (λ (o : Option Node). option_map (λ (x : Node). x.slot) o) (sym none)
                ∙ ap (slot_at_position tree) (sym at) ∙ own))
          ];
          slot = λ p x at node. slot.1 ∙ sym own ∙ ap (slot_at_position tree) at ∙ ap (λ (o : Option Node). option_map (λ (y : Node). y.slot) o) node;
        }

    pub facts_of : (q : ℕ) → IsSome (subtree q (cut_tree tree c)) → (u : PlainTree) × (subtree q (cut_tree tree c) ≡ Some u) × NodeFacts tree c q u
    facts_of q is = let it = some_of (subtree q (cut_tree tree c)) is in (it.0, it.1, node_facts q it.0 it.1)
