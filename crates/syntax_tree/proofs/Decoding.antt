-- The nodes of a tree give the tree back.
use Rattle.std.proofs.Common.{◌≡◌, ℕ, ◌+◌, List, [], ◌∷◌, ◌++◌, Option, Some, None, slice_get, refl, sym, ap, ◌∙◌, subst, arith, append_assoc}
use Rattle.std.specs.Prelude.{replicate}
use Rattle.std.specs.Option.{option_map_or}
use Rattle.std.proofs.lemmas.List.{append-nil}
use Rattle.normal_form.specs.declared.normal.Sym.{Sym}
use Rattle.normal_form.specs.Form.{RuleForm, NormalForm}
use Rattle.syntax_tree.specs.declared.node.Node.{Node}
use Rattle.syntax_tree.specs.Trees.{PlainTree, PlainTrees, HasTokensFrom, HaveTokensFrom, count, renumbered, renumbered_all, size, size_all, weight}
use Rattle.syntax_tree.specs.Valid.{IsValid, AreValid, EachIsValid, of_regular, of_absent, of_present, of_star, of_plus}
use Rattle.syntax_tree.specs.Valid.{of_no_slots, of_slot, of_none, of_next, slots_of, slots_of_form}
use Rattle.syntax_tree.specs.Nodes.{AreNodesOf, first_tree, first_trees, later_trees, nodes_of, nodes_of_all, trees_of, whole_of}

-- trees, and then others
abbrev joined : PlainTrees → PlainTrees → PlainTrees
joined PlainTrees.none us = us
joined (PlainTrees.next t ts) us = PlainTrees.next t (joined ts us)

first_joined : (ts us : PlainTrees) → first_trees (count ts) (joined ts us) ≡ ts
first_joined PlainTrees.none us = refl
first_joined (PlainTrees.next t ts) us = ap (λ vs. PlainTrees.next t vs) (first_joined ts us)

later_joined : (ts us : PlainTrees) → later_trees (count ts) (joined ts us) ≡ us
later_joined PlainTrees.none us = refl
later_joined (PlainTrees.next t ts) us = later_joined ts us

module _ (N : NormalForm) where
  -- the children of a valid node are valid for its slots
  each_are : (x : Sym) (ts : PlainTrees) → EachIsValid N x ts → AreValid N (replicate (count ts) x) ts
  each_are x ts (of_none s) = of_no_slots
  each_are x ts (of_next s t ts' valid rest) = of_slot x (replicate (count ts') x) t ts' valid (each_are x ts' rest)

  pub slots_are : (r a : ℕ) (ts : PlainTrees) (form : RuleForm) → slice_get N.rules r ≡ Some form → slots_of N r a ts ≡ slots_of_form form a (count ts)
  slots_are r a ts form at = ap (λ (o : Option RuleForm). option_map_or (λ form. slots_of_form form a (count ts)) o []) at

  in_slots : (r a : ℕ) (ts : PlainTrees) (ss : List Sym) → slots_of N r a ts ≡ ss → AreValid N ss ts → AreValid N (slots_of N r a ts) ts
  in_slots r a ts ss e valid = let P : List Sym → Type 0 = λ l. AreValid N l ts in subst P (sym e) valid

  pub children_valid : (s : Sym) (n r a : ℕ) (ts : PlainTrees) → IsValid N s (PlainTree.node n r a ts) → AreValid N (slots_of N r a ts) ts
  children_valid s n r a ts (of_regular s' n' r' a' ts' alts alt fits rule at valid) =
      in_slots r a ts alt (slots_are r a ts (RuleForm.regular alts) rule ∙ ap (λ (o : Option (List Sym)). option_map_or (λ alt. alt) o []) at) valid
  children_valid s n r a ts (of_absent s' n' r' x fits rule) = in_slots r 0 PlainTrees.none [] (slots_are r 0 PlainTrees.none (RuleForm.opt x) rule) of_no_slots
  children_valid s n r a ts (of_present s' n' r' t x fits rule valid) =
      in_slots r 0 (PlainTrees.next t PlainTrees.none) (x ∷ []) (slots_are r 0 (PlainTrees.next t PlainTrees.none) (RuleForm.opt x) rule)
      (of_slot x [] t PlainTrees.none valid of_no_slots)
  children_valid s n r a ts (of_star s' n' r' ts' x fits rule each) =
      in_slots r 0 ts (replicate (count ts) x) (slots_are r 0 ts (RuleForm.star x) rule) (each_are x ts each)
  children_valid s n r a ts (of_plus s' n' r' t ts' x fits rule each) =
      in_slots r 0 (PlainTrees.next t ts') (replicate (count (PlainTrees.next t ts')) x) (slots_are r 0 (PlainTrees.next t ts') (RuleForm.plus x) rule)
      (each_are x (PlainTrees.next t ts') each)

  pub no_slots : (t : PlainTree) (ts : PlainTrees) → AreValid N [] (PlainTrees.next t ts) → ⊥
  no_slots t ts valid = elim valid [ ]

  pub slot_valid : (s : Sym) (ss : List Sym) (t : PlainTree) (ts : PlainTrees) → AreValid N (s ∷ ss) (PlainTrees.next t ts) → IsValid N s t × AreValid N ss ts
  slot_valid s ss t ts (of_slot s' ss' t' ts' valid rest) = (valid, rest)

  mutual
    decoded : (s : Sym) (parent : Option ℕ) (f n : ℕ) (t : PlainTree) (ys : List Node) →
        IsValid N s t → renumbered n t ≡ t → HasTokensFrom f t → trees_of n (nodes_of N s parent f t ++ ys) ≡ PlainTrees.next t (trees_of (n + size t) ys)
    decoded s parent f n (PlainTree.leaf m k i) ys valid numbered tokens =
        let same : n ≡ m = cc in
        ap (λ (j : ℕ). PlainTrees.next (PlainTree.leaf n k j) (trees_of (n + 1) ys)) (sym tokens)
        ∙ ap (λ (j : ℕ). PlainTrees.next (PlainTree.leaf j k i) (trees_of (n + 1) ys)) same
    decoded s parent f n (PlainTree.node m r a ts) ys valid numbered tokens =
        let same : n ≡ m = cc in
        let below : renumbered_all (n + 1) ts ≡ ts = cc in
        let rest = decoded_all (slots_of N r a ts) (Some m) f (n + 1) ts ys (children_valid s m r a ts valid) below tokens in
        let first : first_trees (count ts) (trees_of (n + 1) (nodes_of_all N (slots_of N r a ts) (Some m) f ts ++ ys)) ≡ ts =
        ap (first_trees (count ts)) rest ∙ first_joined ts (trees_of (n + 1 + size_all ts) ys) in
        let later : later_trees (count ts) (trees_of (n + 1) (nodes_of_all N (slots_of N r a ts) (Some m) f ts ++ ys)) ≡ trees_of (n + 1 + size_all ts) ys =
        ap (later_trees (count ts)) rest ∙ later_joined ts (trees_of (n + 1 + size_all ts) ys) in
        let end : n + 1 + size_all ts ≡ n + size (PlainTree.node m r a ts) = omega arith in
        ap (λ (us : PlainTrees). PlainTrees.next (PlainTree.node n r a us)
        (later_trees (count ts) (trees_of (n + 1) (nodes_of_all N (slots_of N r a ts) (Some m) f ts ++ ys)))) first
        ∙ ap (λ (us : PlainTrees). PlainTrees.next (PlainTree.node n r a ts) us) later
        ∙ ap (λ (k : ℕ). PlainTrees.next (PlainTree.node k r a ts) (trees_of (n + 1 + size_all ts) ys)) same
        ∙ ap (λ (k : ℕ). PlainTrees.next (PlainTree.node m r a ts) (trees_of k ys)) end

    decoded_all : (ss : List Sym) (parent : Option ℕ) (f n : ℕ) (ts : PlainTrees) (ys : List Node) →
        AreValid N ss ts → renumbered_all n ts ≡ ts → HaveTokensFrom f ts
        → trees_of n (nodes_of_all N ss parent f ts ++ ys) ≡ joined ts (trees_of (n + size_all ts) ys)
    decoded_all ss parent f n PlainTrees.none ys valid numbered tokens = ap (λ (k : ℕ). trees_of k ys) (let e : n ≡ n + 0 = omega arith in e)
    decoded_all [] parent f n (PlainTrees.next t ts') ys valid numbered tokens = absurd (no_slots t ts' valid)
    decoded_all (s ∷ ss') parent f n (PlainTrees.next t ts') ys valid numbered tokens =
        let both = slot_valid s ss' t ts' valid in
        let first : renumbered n t ≡ t = cc in
        let later : renumbered_all (n + size t) ts' ≡ ts' = cc in
        let one = decoded s parent f n t (nodes_of_all N ss' parent (f + weight t) ts' ++ ys) both.0 first tokens.0 in
        let more = decoded_all ss' parent (f + weight t) (n + size t) ts' ys both.1 later tokens.1 in
        ap (λ (l : List Node). trees_of n l) (append_assoc (nodes_of N s parent f t) (nodes_of_all N ss' parent (f + weight t) ts') ys)
        ∙ one
        ∙ ap (λ (us : PlainTrees). PlainTrees.next t us) more
        ∙ ap (λ (k : ℕ). PlainTrees.next t (joined ts' (trees_of k ys))) (let e : (n + size t) + size_all ts' ≡ n + (size t + size_all ts') = omega arith in e)

  -- the nodes of a tree give it back
  pub decoded_whole : (s : Sym) (nodes : List Node) (t : PlainTree) → AreNodesOf N s nodes t → whole_of nodes ≡ t
  decoded_whole s nodes t is =
      let all : nodes ≡ nodes_of N s None 0 t ++ [] = is.are ∙ sym (append-nil (nodes_of N s None 0 t)) in
      ap (λ (l : List Node). whole_of l) all ∙ ap first_tree (decoded s None 0 0 t [] is.whole.valid is.whole.numbered is.whole.tokens)

  pub nodes_of_decoded : (s : Sym) (nodes : List Node) (t : PlainTree) → AreNodesOf N s nodes t → AreNodesOf N s nodes (whole_of nodes)
  nodes_of_decoded s nodes t is = let P : PlainTree → Type 0 = λ u. AreNodesOf N s nodes u in subst P (sym (decoded_whole s nodes t is)) is
