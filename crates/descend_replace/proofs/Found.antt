-- What is found below a node that is left.
use Rattle.std.proofs.Common.{◌≡◌, ℕ, suc, ◌+◌, ◌<◌, ◌≤◌, List, [], ◌∷◌, ◌++◌, Option, Some, None, Bool, true, false, cond}
use Rattle.std.proofs.Common.{length, map, take, get_or, slice_get, refl, sym, ap, ◌∙◌, subst, arith}
use Rattle.std.specs.Prelude.{◌↔◌, ◌&&◌, nat_lt, IsSome}
use Rattle.std.specs.List.{Contains, filter}
use Rattle.std.specs.Option.{option_map}
use Rattle.std.proofs.Math.Numerals.{add-one}
use Rattle.std.proofs.Math.Seq.{take-suc}
use Rattle.std.proofs.lemmas.Bool.{lt-ltb, ltb-true}
use Rattle.std.proofs.lemmas.List.{append-nil, get_or-map, get_or_default, length-map, map-append, take_all}
use Rattle.std.proofs.lemmas.List.Elements.{filter-append}
use Rattle.std.proofs.lemmas.Option.{same_Some, slice_get_within}
use Rattle.normal_form.specs.declared.normal.Sym.{Sym}
use Rattle.normal_form.specs.Form.{NormalForm}
use Rattle.compat_table.specs.Fits.{Fits}
use Rattle.syntax_tree.specs.declared.node.Node.{Node}
use Rattle.syntax_tree.specs.Trees.{PlainTree, IsBelow, IsIn, below, children_of, size, symbol_of, weight}
use Rattle.syntax_tree.specs.Numbered.{NumbersRise, number_of, roots, subtree}
use Rattle.syntax_tree.specs.Valid.{slot_at}
use Rattle.syntax_tree.specs.Nodes.{AreNodesOf, SyntaxTree, whole}
use Rattle.syntax_tree.specs.Levels.{below_in_level_order}
use Rattle.syntax_tree.proofs.Lent.{found, within_from, deeper, is_found, levels, part, have_nodes, whole_rise}
use Rattle.syntax_tree_cut.specs.declared.mark.Mark.{Mark}
use Rattle.syntax_tree_cut.specs.declared.mark.Mark.TheVariants.{Kept}
use Rattle.syntax_tree_cut.specs.Cuts.{CutForm, IsCutOf, by_mark, cut_tree, left_among, left_at, left_of_each, mark_at}
use Rattle.syntax_tree_cut.proofs.Lent.{Rises, rises_from, subtree_own, subtree_within, leaf_own, left_below}
use Rattle.syntax_tree_cut.proofs.Lent.{left_there, node_own, own_left, some_is, index_is, some_of}
use Rattle.descend_replace.proofs.Queue.{HasNext, IsQueue, next_is_below, next_number, next_of, queue_goes_on}
use Rattle.descend_replace.specs.Compatible.{DecidesFits, compatible, is_compatible}

below_in : (t u : PlainTree) → IsBelow u t → IsIn u t
below_in (PlainTree.leaf n k i) u d = elim d [ ]
below_in (PlainTree.node n r a ts) u d = below u n r a ts d

-- What is below a node of a tree is found in the tree by its number.
pub below_found : (t v u : PlainTree) (q : ℕ) → NumbersRise t → subtree q t ≡ Some v → Contains (below_in_level_order v) u → subtree (number_of u) t ≡ Some u
below_found t v u q rise e has =
    let within = within_from t rise in
    let at = found 0 within.0 q t v within.1 e in
    deeper 0 within.0 q (number_of u) t v u within.1 e (is_found q at.end v u at.inside (below_in v u ((levels v u).0 has)))

-- what a mark leaves of a node has its symbol
left_symbol : (marks : List Mark) (q : ℕ) (x u : PlainTree) → number_of x ≡ q → mark_at marks q ≡ Kept → left_at marks q x ≡ Some u → symbol_of x ≡ symbol_of u
left_symbol marks q (PlainTree.leaf n k i) u e m f =
    ap symbol_of (same_Some (PlainTree.leaf n k i) u
    (ap (λ (y : Mark). by_mark y (PlainTree.leaf n k i) (λ by. None)) (sym m ∙ ap (mark_at marks) (sym e)) ∙ sym (leaf_own marks q n k i e) ∙ f))
left_symbol marks q (PlainTree.node n r a ts) u e m f =
    ap symbol_of (same_Some (PlainTree.node n r a (left_of_each marks ts)) u
    (ap (λ (y : Mark). by_mark y (PlainTree.node n r a (left_of_each marks ts)) (λ by. left_among marks by ts)) (sym m ∙ ap (mark_at marks) (sym e))
    ∙ sym (node_own marks q n r a ts e) ∙ f))

module _ (tree : SyntaxTree) (are : AreNodesOf tree.form tree.start tree.nodes (whole tree)) (c : CutForm) (of : IsCutOf tree c) where
  pub cut_rises : NumbersRise (cut_tree tree c)
  cut_rises = (part (whole tree) (cut_tree tree c) of.part).numbers_rise (whole_rise tree.form tree.start (whole tree) are.whole)

  -- the entry of a node that is left
  pub left_node : (q : ℕ) (u : PlainTree) → subtree q (cut_tree tree c) ≡ Some u → (x : Node) × (slice_get tree.nodes q ≡ Some x) × (x.sym ≡ symbol_of u)
  left_node q u e =
      let rises : Rises 0 (size (whole tree)) (whole tree) = rises_from 0 (size (whole tree)) (whole tree) are.whole.numbered (omega arith) in
      let own = own_left c.marks 0 (size (whole tree)) (whole tree) rises 0 q (cut_tree tree c) u of.root e in
      let there = left_there c.marks q (whole tree) u own.0 in
      let at = subtree_within 0 (size (whole tree)) (whole tree) rises q there.0 there.1 in
      let node = have_nodes tree are q there.0 there.1 in
      let here : left_at c.marks q there.0 ≡ Some u =
      sym (left_below c.marks 0 (size (whole tree)) (whole tree) rises q q there.0 there.0 there.1 (subtree_own q there.0 at.0)) ∙ own.0 in
      (node.0, node.1, node.2.sym ∙ left_symbol c.marks q there.0 u at.0 own.1 here)

-- The numbers that were found are those of the compatible ones among the first so many trees below the node.
abbrev pub AreFound : SyntaxTree → CutForm → ℕ → List ℕ → ℕ → Type 0
AreFound tree c q numbers k =
    (fits : Sym → Sym → Bool) (s : Sym) (v : PlainTree) → DecidesFits tree.form fits → slot_at tree.form tree.start q (cut_tree tree c) ≡ Some s
    → subtree q (cut_tree tree c) ≡ Some v →
    numbers ≡ map number_of (filter (is_compatible fits s v) (take k (below_in_level_order v)))

-- whether the tree fits the slot and has fewer leaves
abbrev pub CanTake : NormalForm → Sym → ℕ → PlainTree → Type 0
CanTake N slot tokens u = Fits N (symbol_of u) slot × (weight u < tokens)

same_bool : (a b : Bool) (P : Type 0) → (a ≡ true) ↔ P → (b ≡ true) ↔ P → a ≡ b
same_bool true b P at to = sym (to.1 (at.0 refl))
same_bool false true P at to = at.1 (to.0 refl)
same_bool false false P at to = refl

and_true : (a b : Bool) → (a && b ≡ true) ↔ ((a ≡ true) × (b ≡ true))
and_true true b = (λ e. (refl, e), λ both. both.1)
and_true false b = (λ (e : false ≡ true). absurd (cc), λ both. absurd (let e : false ≡ true = both.0 in cc))

-- the test of a tree, by what was computed
test_is : (N : NormalForm) (fits : Sym → Sym → Bool) (s slot : Sym) (v u : PlainTree) (tokens : ℕ) (result : Bool) → DecidesFits N fits → s ≡ slot
    → weight v ≡ tokens → (result ≡ true) ↔ CanTake N slot tokens u → is_compatible fits s v u ≡ result
test_is N fits s slot v u tokens result decides same weighs can =
    let both = and_true (fits (symbol_of u) s) (nat_lt (weight u) (weight v)) in
    same_bool (is_compatible fits s v u) result (CanTake N slot tokens u) (
      λ is.
          let two = both.0 is in (
            subst (λ (x : Sym). Fits N (symbol_of u) x) same ((decides (symbol_of u) s).0 two.0),
            let less = ltb-true (weight u) (weight v) two.1 in
                omega (arith, less, weighs),
          ),
      λ it.
          both.1 (
            (decides (symbol_of u) s).1 (subst (λ (x : Sym). Fits N (symbol_of u) x) (sym same) it.0),
            lt-ltb (weight u) (weight v) (let less = it.1 in omega (arith, less, weighs)),
          ),
    )
    can

-- one more tree below the node
found_step : (p : PlainTree → Bool) (order : List PlainTree) (u : PlainTree) (numbers more : List ℕ) (k number : ℕ) (take_it : Bool) → p u ≡ take_it
    → number ≡ number_of u → take (suc k) order ≡ take k order ++ u ∷ [] →
    numbers ≡ map number_of (filter p (take k order)) → more ≡ cond take_it (numbers ++ number ∷ []) numbers
    → more ≡ map number_of (filter p (take (suc k) order))
found_step p order u numbers more k number take_it test is one before after =
    after
    ∙ added take_it
    ∙ ap (λ (l : List PlainTree). map number_of (filter p (take k order) ++ l)) (sym (ap (λ (b : Bool). cond b (u ∷ []) []) test))
    ∙ ap (map number_of) (sym (filter-append p (take k order) (u ∷ [])))
    ∙ ap (λ (l : List PlainTree). map number_of (filter p l)) (sym one)
  where
    added : (b : Bool) → cond b (numbers ++ number ∷ []) numbers ≡ map number_of (filter p (take k order) ++ cond b (u ∷ []) [])
    added true =
        ap (λ (l : List ℕ). l ++ number ∷ []) before ∙ ap (λ (n : ℕ). map number_of (filter p (take k order)) ++ n ∷ []) is
        ∙ sym (map-append number_of (filter p (take k order)) (u ∷ []))
    added false = before ∙ ap (map number_of) (sym (append-nil (filter p (take k order))))

-- What is known of the numbers of all that is below the node.
abbrev pub AreBelow : SyntaxTree → CutForm → ℕ → List ℕ → Type 0
AreBelow tree c q numbers = (v : PlainTree) → subtree q (cut_tree tree c) ≡ Some v → numbers ≡ map number_of (below_in_level_order v)

module _ (tree : SyntaxTree) (are : AreNodesOf tree.form tree.start tree.nodes (whole tree)) (c : CutForm) (of : IsCutOf tree c) (q : ℕ) (numbers : List ℕ)
    (all : AreBelow tree c q numbers) where
  -- the tree with the number at an index
  pub tree_at : (v : PlainTree) → subtree q (cut_tree tree c) ≡ Some v → (k d : ℕ) → k < length numbers
      → (get_or numbers k d ≡ number_of (get_or (below_in_level_order v) k v))
      × (subtree (get_or numbers k d) (cut_tree tree c) ≡ Some (get_or (below_in_level_order v) k v))
  tree_at v e k d lt =
      let within : k < length (below_in_level_order v) =
      (let one = ap length (all v e) in let two = length-map (below_in_level_order v) number_of in omega (arith, one, two, lt)) in
      let number : get_or numbers k d ≡ number_of (get_or (below_in_level_order v) k v) =
      ap (λ (l : List ℕ). get_or l k d) (all v e) ∙ get_or-map number_of (below_in_level_order v) k v d within in
      let has : Contains (below_in_level_order v) (get_or (below_in_level_order v) k v) =
      (k, within, get_or_default (below_in_level_order v) k (get_or (below_in_level_order v) k v) v within) in (
        number,
        subst (λ (n : ℕ). subtree n (cut_tree tree c) ≡ Some (get_or (below_in_level_order v) k v)) (sym number)
            (below_found (cut_tree tree c) v (get_or (below_in_level_order v) k v) q (cut_rises tree are c of) e has),
      )

  pub found_more : (slot : Sym) (tokens : ℕ) → slot_at tree.form tree.start q (cut_tree tree c) ≡ Some slot
      → option_map weight (subtree q (cut_tree tree c)) ≡ Some tokens →
      (k number d : ℕ) → k < length numbers → number ≡ get_or numbers k d → (result : Bool)
      → ((u : PlainTree) → subtree number (cut_tree tree c) ≡ Some u → (result ≡ true) ↔ CanTake tree.form slot tokens u) →
      (old new : List ℕ) → AreFound tree c q old k → new ≡ cond result (old ++ number ∷ []) old → AreFound tree c q new (k + 1)
  found_more slot tokens at weighs k number d lt is result can old new so_far after fits s v decides at_s e =
      let it = tree_at v e k d lt in
      let u : PlainTree = get_or (below_in_level_order v) k v in
      let there : subtree number (cut_tree tree c) ≡ Some u = ap (λ (n : ℕ). subtree n (cut_tree tree c)) is ∙ it.1 in
      let within : k < length (below_in_level_order v) = (let one = ap length (all v e) in let two = length-map (below_in_level_order v) number_of in
      omega (arith, one, two, lt)) in
      let heavy : weight v ≡ tokens = same_Some (weight v) tokens (sym (ap (option_map weight) e) ∙ weighs) in
      let test = test_is tree.form fits s slot v u tokens result decides (same_Some s slot (sym at_s ∙ at)) heavy (can u there) in
      subst (λ (n : ℕ). new ≡ map number_of (filter (is_compatible fits s v) (take n (below_in_level_order v)))) (sym (add-one k))
      (found_step (is_compatible fits s v) (below_in_level_order v) u old new k number result test (is ∙ it.0) (take-suc (below_in_level_order v) k v within)
      (so_far fits s v decides at_s e) after)

  pub tree_left : IsSome (subtree q (cut_tree tree c)) → (items : List ℕ) → items ≡ numbers → (k d : ℕ) → k < length items
      → IsSome (subtree (get_or items k d) (cut_tree tree c))
  tree_left left items same k d lt =
      let v = some_of (subtree q (cut_tree tree c)) left in
      let at = tree_at v.0 v.1 k d (let one = ap length same in omega (arith, lt, one)) in
      some_is (subtree (get_or items k d) (cut_tree tree c)) (get_or (below_in_level_order v.0) k v.0)
      (ap (λ (l : List ℕ). subtree (get_or l k d) (cut_tree tree c)) same ∙ at.1)

-- at the end
pub found_all : (tree : SyntaxTree) (c : CutForm) (q : ℕ) (numbers found : List ℕ) (k : ℕ) → AreBelow tree c q numbers → length numbers ≤ k
    → AreFound tree c q found k →
    (fits : Sym → Sym → Bool) (s : Sym) (v : PlainTree) → DecidesFits tree.form fits → slot_at tree.form tree.start q (cut_tree tree c) ≡ Some s
    → subtree q (cut_tree tree c) ≡ Some v → found ≡ map number_of (compatible fits s v)
found_all tree c q numbers found k all over so_far fits s v decides at e =
    so_far fits s v decides at e
    ∙ ap (λ (l : List PlainTree). map number_of (filter (is_compatible fits s v) l))
    (take_all k (below_in_level_order v) (let one = ap length (all v e) in let two = length-map (below_in_level_order v) number_of in
    omega (arith, one, two, over)))

-- the children that a call gave are those of the tree
pub children_are : (o : Option PlainTree) (numbers : List ℕ) (u : PlainTree) → option_map (λ (t : PlainTree). roots (children_of t)) o ≡ Some numbers
    → o ≡ Some u → numbers ≡ roots (children_of u)
children_are o numbers u is e = same_Some numbers (roots (children_of u)) (sym is ∙ ap (option_map (λ (t : PlainTree). roots (children_of t))) e)

module _ (tree : SyntaxTree) (are : AreNodesOf tree.form tree.start tree.nodes (whole tree)) (c : CutForm) (of : IsCutOf tree c) (q : ℕ) (v : PlainTree)
    (e : subtree q (cut_tree tree c) ≡ Some v) where
  -- the next tree of a queue is left
  pub next_left : (done : ℕ) (numbers : List ℕ) (next : HasNext v done numbers) (number d : ℕ) → number ≡ get_or numbers done d
      → subtree number (cut_tree tree c) ≡ Some next.tree
  next_left done numbers next number d is =
      subst (λ (n : ℕ). subtree n (cut_tree tree c) ≡ Some next.tree) (sym (is ∙ next_number v done numbers next d))
      (below_found (cut_tree tree c) v next.tree q (cut_rises tree are c of) e (next_is_below v done numbers next))

  pub queue_step : (done : ℕ) (numbers more : List ℕ) (number d : ℕ) → IsQueue v done numbers → done < length numbers → number ≡ get_or numbers done d →
      ((u : PlainTree) → subtree number (cut_tree tree c) ≡ Some u → more ≡ numbers ++ roots (children_of u)) → IsQueue v (done + 1) more
  queue_step done numbers more number d queue lt is pushed =
      let next = next_of v done numbers queue lt in
      queue_goes_on v done numbers more next (pushed next.tree (next_left done numbers next number d is))

  -- the next tree of a queue may be asked for its children
  pub next_is_left : (done : ℕ) (numbers : List ℕ) (number d : ℕ) → IsQueue v done numbers → done < length numbers → number ≡ get_or numbers done d
      → IsSome (subtree number (cut_tree tree c))
  next_is_left done numbers number d queue lt is =
      let next = next_of v done numbers queue lt in
      some_is (subtree number (cut_tree tree c)) next.tree (next_left done numbers next number d is)

-- whether a tree that is left can take the position, by what was looked up
module _ (tree : SyntaxTree) (are : AreNodesOf tree.form tree.start tree.nodes (whole tree)) (c : CutForm) (of : IsCutOf tree c) (q : ℕ) where
  pub node_there : IsSome (subtree q (cut_tree tree c)) → (nodes : List Node) → nodes ≡ tree.nodes → q < length nodes
  node_there left nodes same =
      let u = some_of (subtree q (cut_tree tree c)) left in
      let node = left_node tree are c of q u.0 u.1 in
      let within = slice_get_within tree.nodes q node.0 node.1 in
      let long = ap length same in
      omega (arith, within, long)

  module _ (u : PlainTree) (e : subtree q (cut_tree tree c) ≡ Some u) (nodes : List Node) (d : Node) (same : nodes ≡ tree.nodes) where
    symbol_is : (get_or nodes q d).sym ≡ symbol_of u
    symbol_is =
        let node = left_node tree are c of q u e in
        let within = slice_get_within tree.nodes q node.0 node.1 in
        ap (λ (x : Node). x.sym) (same_Some (get_or nodes q d) node.0 (sym (index_is tree.nodes nodes q d same within) ∙ node.1)) ∙ node.2

    fits_is : (N : NormalForm) (slot : Sym) (fits : Bool) → N ≡ tree.form → (fits ≡ true) ↔ Fits N (get_or nodes q d).sym slot → (fits ≡ true)
        ↔ Fits tree.form (symbol_of u) slot
    fits_is N slot fits form law = (
      λ is. subst (λ (x : Sym). Fits tree.form x slot) symbol_is (subst (λ (M : NormalForm). Fits M (get_or nodes q d).sym slot) form (law.0 is)),
      λ it. law.1 (subst (λ (M : NormalForm). Fits M (get_or nodes q d).sym slot) (sym form) (subst (λ (x : Sym). Fits tree.form x slot) (sym symbol_is) it)),
    )

    pub by_weight : (N : NormalForm) (slot : Sym) (fits : Bool) (w tokens : ℕ) → N ≡ tree.form → (fits ≡ true) ↔ Fits N (get_or nodes q d).sym slot
        → fits ≡ true → option_map weight (subtree q (cut_tree tree c)) ≡ Some w → (nat_lt w tokens ≡ true) ↔ CanTake tree.form slot tokens u
    by_weight N slot fits w tokens form law is weighs =
        let same_weight : weight u ≡ w = same_Some (weight u) w (sym (ap (option_map weight) e) ∙ weighs) in (
          λ less. ((fits_is N slot fits form law).0 is, (let lighter = ltb-true w tokens less in omega (arith, lighter, same_weight))),
          λ it. lt-ltb w tokens (let less = it.1 in omega (arith, less, same_weight)),
        )

    pub by_fits : (N : NormalForm) (slot : Sym) (fits : Bool) (tokens : ℕ) → N ≡ tree.form → (fits ≡ true) ↔ Fits N (get_or nodes q d).sym slot → fits ≡ false
        → (fits ≡ true) ↔ CanTake tree.form slot tokens u
    by_fits N slot fits tokens form law not = (
      λ is. absurd (let both : false ≡ true = sym not ∙ is in cc),
      λ it. (fits_is N slot fits form law).1 it.0,
    )
