-- Nodes that are deleted one after another, from left to right.
use Rattle.std.proofs.Common.{◌≡◌, inl, inr, ℕ, zero, suc, ◌+◌, ◌-◌, ◌<◌, ◌≤◌, List, [], ◌∷◌, ◌++◌, Some, None, Bool, true, false, length}
use Rattle.std.proofs.Common.{take, drop, slice_get, refl, sym, ap, ◌∙◌, subst, arith, append_assoc, length-drop}
use Rattle.std.specs.Prelude.{if◌then◌else◌, nat_le, nat_lt, slice_index_or, slice_set}
use Rattle.std.specs.List.{Contains}
use Rattle.std.specs.List.Sorted.{IsStrictlyIncreasing}
use Rattle.std.specs.Option.{option_and_then}
use Rattle.std.proofs.lemmas.Bool.{and_from, and_parts, cases_eq, cases_lt, cond-false, cond-true, leb-true, lt-leb, lt-ltb, ltb-true, le-leb}
use Rattle.std.proofs.lemmas.List.{drop-drop, get_or-set_other, get_or-set_same, length-set, take-append-drop}
use Rattle.std.proofs.lemmas.List.Elements.{Contains-append_cases, Contains-append_left}
use Rattle.std.proofs.lemmas.Option.{same_Some, slice_get-get_or, slice_get_within}
use Rattle.grammar_tree.proofs.Lent.{contains_filter, contains_none, filtered}
use Rattle.syntax_tree.specs.declared.node.Node.{Node}
use Rattle.syntax_tree.specs.Trees.{PlainTree, leaves, size}
use Rattle.syntax_tree.specs.Numbered.{number_of, subtree}
use Rattle.syntax_tree.specs.Nodes.{AreNodesOf, SyntaxTree, whole}
use Rattle.syntax_tree.specs.NodeLaws.{IsNodeOf}
use Rattle.syntax_tree.specs.Left.{IsRemainderOf}
use Rattle.syntax_tree.specs.LeftLaws.{AreLeavesInSpan, is_within}
use Rattle.syntax_tree.proofs.Lent.{tokens_follow}
use Rattle.syntax_tree_cut.specs.declared.mark.Mark.{Mark}
use Rattle.syntax_tree_cut.specs.declared.mark.Mark.TheVariants.{Kept, Deleted, Replaced}
use Rattle.syntax_tree_cut.specs.declared.tokens.Gap.{Gap}
use Rattle.syntax_tree_cut.specs.Cuts.{CutForm, IsCutOf, ReplacementsGoDown, cut_tree, left_at, mark_at, slot_of}
use Rattle.syntax_tree_cut.specs.inner.Dropping.{IsDroppedSoFar}
use Rattle.syntax_tree_cut.specs.inner.Tokens.{IsSplitAt, before, from_on}
use Rattle.syntax_tree_cut.specs.inner.TreeLaws.{TreeLaws}
use Rattle.syntax_tree_cut.specs.WithoutNodes.{AreApart, CanDrop, HasLeafBelow, dropped, without_nodes}
use Rattle.syntax_tree_cut.proofs.Rising.{Rises, found_within, subtree_within}
use Rattle.syntax_tree_cut.proofs.LeftTrees.{left_rises, left_there, own_left, part_left}
use Rattle.syntax_tree_cut.proofs.EditedTrees.{edited, left_edited}
use Rattle.syntax_tree_cut.proofs.Deletions.{leaves_count}
use Rattle.syntax_tree_cut.proofs.Spans.{filter_both}
use Rattle.syntax_tree_cut.proofs.Splits.{counts_rise, drop_is, rises_after, take_is}
use Rattle.syntax_tree_cut.proofs.CutFacts.{index_is}
use Rattle.syntax_tree_cut.proofs.CutEdits.{apart_again, cut_of, none_there, tree_numbers, tree_rises, whole_rises}
use Rattle.syntax_tree_cut.proofs.Keeping.{flag_known}
use Rattle.syntax_tree_cut.proofs.WithoutNodes.{edited_without, later_stays, loses_leaves, nothing_out, number_without, same_slot, without_both, without_left}

head_in : {X : Type 0} (x : X) (xs : List X) → Contains (x ∷ xs) x
head_in x xs = (zero, omega arith, refl)

pub later_in : {X : Type 0} (x y : X) (xs : List X) → Contains xs y → Contains (x ∷ xs) y
later_in x y xs (k, lt, e) = (suc k, omega (arith, lt), e)

-- tokens that are all before a bound
all_before : (f : ℕ) (xs : List ℕ) → ((i : ℕ) → Contains xs i → i < f) → before f xs ≡ xs
all_before f [] h = refl
all_before f (x ∷ xs) h =
    cond-true (nat_lt x f) (x ∷ before f xs) (before f xs) (lt-ltb x f (h x (head_in x xs)))
    ∙ ap (λ (l : List ℕ). x ∷ l) (all_before f xs (λ i has. h i (later_in x i xs has)))

none_after : (e : ℕ) (xs : List ℕ) → ((i : ℕ) → Contains xs i → i < e) → from_on e xs ≡ []
none_after e [] h = refl
none_after e (x ∷ xs) h =
    cond-false (nat_le e x) (x ∷ from_on e xs) (from_on e xs) (lt-leb e x (h x (head_in x xs))) ∙ none_after e xs (λ i has. h i (later_in x i xs has))

-- the tokens outside a span, where those of the first list are before it
outside_span : (xs ys : List ℕ) (f e a b : ℕ) → ((i : ℕ) → Contains xs i → i < f) → f ≤ e → IsSplitAt ys f a → IsSplitAt ys e b
    → before f (xs ++ ys) ++ from_on e (xs ++ ys) ≡ (xs ++ take a ys) ++ drop b ys
outside_span xs ys f e a b h le at to =
    let front : before f (xs ++ ys) ≡ xs ++ take a ys =
    filter_both (λ i. nat_lt i f) (λ i. nat_lt i f) xs ys ∙ ap (λ (l : List ℕ). l ++ before f ys) (all_before f xs h)
    ∙ ap (λ (l : List ℕ). xs ++ l) (sym (take_is ys f a at)) in
    let back : from_on e (xs ++ ys) ≡ drop b ys =
    filter_both (λ i. nat_le e i) (λ i. nat_le e i) xs ys
    ∙ ap (λ (l : List ℕ). l ++ from_on e ys) (none_after e xs (λ i has. let lt = h i has in omega (arith, lt, le))) ∙ sym (drop_is ys e b to) in
    ap (λ (l : List ℕ). l ++ from_on e (xs ++ ys)) front ∙ ap (λ (l : List ℕ). (xs ++ take a ys) ++ l) back

some_first_in : (xs : List ℕ) → 0 < length xs → (j : ℕ) × Contains xs j
some_first_in [] lt = absurd (omega (arith, lt))
some_first_in (x ∷ xs) lt = (x, head_in x xs)

take_none : (xs : List ℕ) → take 0 xs ≡ []
take_none [] = refl
take_none (x ∷ xs) = refl

pub leaf_at : (t : PlainTree) (qs : List ℕ) (q : ℕ) → AreApart t qs → Contains qs q → HasLeafBelow t q
leaf_at t [] q apart has = absurd (contains_none q has)
leaf_at t (p ∷ qs) q apart (zero, lt, e) = subst (λ n. HasLeafBelow t n) e apart.0
leaf_at t (p ∷ qs) q apart (suc k, lt, e) = leaf_at t qs q apart.2 (k, omega (arith, lt), e)

not_replaced : (by : ℕ) → Deleted ≡ Replaced by → ⊥
not_replaced by e = cc

module _ (tree : SyntaxTree) (laws : TreeLaws) (are : AreNodesOf tree.form tree.start tree.nodes (whole tree)) where
  -- no node is deleted yet
  pub dropping_begins : (c : CutForm) (all : List ℕ) (gap : Gap) → IsCutOf tree c → AreApart (cut_tree tree c) all → gap.from ≡ 0 → gap.to ≡ 0
      → IsDroppedSoFar tree c all all c gap
  dropping_begins c all gap of apart from to = record {
    of = of;
    reached = cut_tree tree c;
    root = of.root;
    number = refl;
    marks = refl;
    down = of.down;
    positions = refl;
    rising = of.fits.rising;
    kept = ap (λ (i : ℕ). take i c.kept ++ drop gap.to c.kept) from ∙ ap (λ (i : ℕ). take 0 c.kept ++ drop i c.kept) to ∙ take-append-drop 0 c.kept ∙ of.kept;
    ahead = refl;
    apart = apart;
    same = λ q has. refl;
    bound = 0;
    before = λ i has. absurd (contains_none i (subst (λ (l : List ℕ). Contains l i) (ap (λ (n : ℕ). take n c.kept) from ∙ take_none c.kept) has));
    after = λ q j u has e in_u. omega arith;
    gap_rises = omega (arith, from, to);
    within = omega (arith, to);
  }

  -- all nodes are deleted, and the gap is closed
  pub dropping_ends : (c now after : CutForm) (all : List ℕ) (gap : Gap) → IsDroppedSoFar tree c all [] now gap
      → CanDrop tree.form tree.start (cut_tree tree c) all → after.marks ≡ now.marks → after.positions ≡ now.positions →
      after.kept ≡ take gap.from now.kept ++ drop gap.to now.kept → (cut_tree tree after ≡ without_nodes all (cut_tree tree c)) × IsCutOf tree after
  dropping_ends c now after all gap so can marks positions kept =
      let t : PlainTree = cut_tree tree c in
      let is : so.reached ≡ without_nodes all t = sym (nothing_out so.reached) ∙ so.ahead in
      cut_of tree laws are after (without_nodes all t) (ap length marks ∙ so.marks ∙ so.of.for_each)
      (subst (λ (ms : List Mark). ReplacementsGoDown ms (whole tree)) (sym marks) so.down)
      (ap (λ (ms : List Mark). left_at ms 0 (whole tree)) marks ∙ so.root ∙ ap Some is)
      (record { valid = can.valid; rising = (laws.left_is_part t (without_nodes all t) (without_left all t)).leaves_rise so.of.fits.rising })
      (λ q s e. ap (λ (ps : List ℕ). slot_of tree ps q) (positions ∙ so.positions)
      ∙ so.of.slots q s (same_slot tree.form all q s tree.start 0 (size (whole tree)) t (tree_rises tree laws are c so.of) can.elements e))
      (kept ∙ so.kept ∙ ap leaves is)

  module _ (c : CutForm) (all rest : List ℕ) (node : ℕ) (now : CutForm) (gap : Gap) (so : IsDroppedSoFar tree c all (node ∷ rest) now gap) where
    abbrev first : PlainTree
    first = cut_tree tree c

    own : HasLeafBelow first node
    own = so.apart.0

    found : subtree node so.reached ≡ Some own.node
    found = so.same node (head_in node rest) ∙ own.node_is

    below : number_of so.reached ≡ node → ⊥
    below e = own.below (sym so.number ∙ e)

    left : IsRemainderOf (whole tree) so.reached
    left = part_left now.marks 0 (whole tree) so.reached so.root

    rises : Rises 0 (size (whole tree)) so.reached
    rises = left_rises now.marks 0 (size (whole tree)) (whole tree) (whole_rises tree laws are) 0 so.reached so.root

    was : (left_at now.marks node (whole tree) ≡ Some own.node) × (mark_at now.marks node ≡ Kept)
    was = own_left now.marks 0 (size (whole tree)) (whole tree) (whole_rises tree laws are) 0 node so.reached own.node so.root found

    there : (x : PlainTree) × (subtree node (whole tree) ≡ Some x)
    there = left_there now.marks node (whole tree) own.node was.0

    entry : (x : Node) × (slice_get tree.nodes node ≡ Some x) × IsNodeOf tree node x there.0
    entry = laws.subtrees_have_nodes tree are node there.0 there.1

    span : (x : Node) → slice_get tree.nodes node ≡ Some x → AreLeavesInSpan x node so.reached own.node
    span x e = laws.leaves_in_span tree are so.reached own.node node x left found e

    pub next_node : node < length tree.nodes
    next_node = slice_get_within tree.nodes node entry.0 entry.1

    pub next_mark : node < length now.marks
    next_mark =
        let within = found_within 0 (size (whole tree)) (whole tree) (whole_rises tree laws are) node there.0 there.1 in
        let many = so.marks in
        let each = so.of.for_each in
        omega (arith, within, many, each)

    pub span_rises : (x : Node) → slice_get tree.nodes node ≡ Some x → x.first ≤ x.end
    span_rises x e = let is = (laws.nodes_are_subtrees tree are node x e).1.end in omega (arith, is)

    abbrev done : List ℕ
    done = take gap.from now.kept

    abbrev ahead : List ℕ
    ahead = drop gap.to now.kept

    pub rest_rises : IsStrictlyIncreasing ahead
    rest_rises = rises_after done ahead (subst (λ (l : List ℕ). IsStrictlyIncreasing l) (sym so.kept) so.rising)

    -- the node has a token that is left, in its span
    a_token : (x : Node) → slice_get tree.nodes node ≡ Some x → (j : ℕ) × Contains (leaves own.node) j × (x.first ≤ j) × (j < x.end)
    a_token x e =
        let some = some_first_in (leaves own.node) (let many = leaves_count own.node in let lt = own.leaf in omega (arith, many, lt)) in
        let in_span = filtered (is_within x.first x.end) (leaves so.reached) some.0 (subst (λ (l : List ℕ). Contains l some.0) (span x e).inside some.1) in
        let both = and_parts (nat_le x.first some.0) (nat_lt some.0 x.end) in_span.1 in
        (some.0, some.1, leb-true x.first some.0 both.0, ltb-true some.0 x.end both.1)

    -- the tokens before the gap are before those of the node
    done_before : (x : Node) → slice_get tree.nodes node ≡ Some x → (i : ℕ) → Contains done i → i < x.first
    done_before x e i has =
        elim (cases_lt i x.first) [
          | inl lt ↦ lt
          | inr le ↦
              let token = a_token x e in
              let small = so.before i has in
              let great = so.after node token.0 own.node (head_in node rest) own.node_is token.1 in
              let in_all : Contains (leaves so.reached) i = subst (λ (l : List ℕ). Contains l i) so.kept (Contains-append_left done ahead i has) in
              let passes : is_within x.first x.end i ≡ true =
              and_from (nat_le x.first i) (nat_lt i x.end) (le-leb x.first i le) (lt-ltb i x.end (let most = token.3 in omega (arith, small, great, most))) in
              let in_node : Contains (leaves own.node) i =
              subst (λ (l : List ℕ). Contains l i) (sym (span x e).inside) (contains_filter (is_within x.first x.end) (leaves so.reached) i passes in_all) in
              let least = so.after node i own.node (head_in node rest) own.node_is in_node in
              absurd (omega (arith, small, least))
        ]

    -- what the counts of tokens before the ends of its span allow
    pub counts : (x : Node) (a b : ℕ) → slice_get tree.nodes node ≡ Some x → IsSplitAt ahead x.first a → IsSplitAt ahead x.end b → (a ≤ b)
        × (gap.to + a ≤ length now.kept) × ((gap.to + a) + (b - a) ≤ length now.kept)
    counts x a b e at to =
        let up = counts_rise ahead x.first x.end a b at to (span_rises x e) in
        let most = at.among in
        let most' = to.among in
        let long = length-drop gap.to now.kept in
        let within = so.within in
        (up, omega (arith, most, long, within), omega (arith, up, most', long, within))

    module _ (d : CutForm) (g : Gap) (x : Node) (a b : ℕ) (is : slice_get tree.nodes node ≡ Some x) (at : IsSplitAt ahead x.first a)
        (to : IsSplitAt ahead x.end b) (marks : d.marks ≡ slice_set now.marks node Deleted)
        (positions : d.positions ≡ now.positions) (g_from : g.from ≡ gap.from + a) (g_to : g.to ≡ (gap.to + a) + (b - a))
        (stay : take (gap.from + a) d.kept ≡ done ++ take a ahead)
        (next : drop (gap.to + a) d.kept ≡ drop (gap.to + a) now.kept) (long : length d.kept ≡ length now.kept) where
      other_marks : (p : ℕ) → (p ≡ node → ⊥) → mark_at d.marks p ≡ mark_at now.marks p
      other_marks p other = ap (λ (ms : List Mark). mark_at ms p) marks ∙ get_or-set_other now.marks node p Deleted Kept other

      own_mark : mark_at d.marks node ≡ Deleted
      own_mark = ap (λ (ms : List Mark). mark_at ms node) marks ∙ get_or-set_same now.marks node Deleted Kept next_mark

      root_now : left_at d.marks 0 (whole tree) ≡ Some (without_nodes (node ∷ []) so.reached)
      root_now =
          left_edited now.marks d.marks node None other_marks was.1 0 (size (whole tree)) (whole tree) (whole_rises tree laws are)
          (λ y e. none_there d.marks node y (subtree_within 0 (size (whole tree)) (whole tree) (whole_rises tree laws are) node y e).0 own_mark) 0
          ∙ ap (option_and_then (edited node None)) so.root
          ∙ edited_without node so.reached below

      down_now : ReplacementsGoDown d.marks (whole tree)
      down_now n by y e m =
          elim (cases_eq n node) [
            | inl same ↦ absurd (not_replaced by (sym own_mark ∙ ap (mark_at d.marks) (sym same) ∙ m))
            | inr other ↦ so.down n by y e (sym (other_marks n other) ∙ m)
          ]

      front : take g.from d.kept ≡ done ++ take a ahead
      front = ap (λ (i : ℕ). take i d.kept) g_from ∙ stay

      back : drop g.to d.kept ≡ drop b ahead
      back =
          let up = (counts x a b is at to).0 in
          ap (λ (i : ℕ). drop i d.kept) g_to
          ∙ sym (drop-drop (b - a) (gap.to + a) d.kept)
          ∙ ap (drop (b - a)) next
          ∙ drop-drop (b - a) (gap.to + a) now.kept
          ∙ ap (λ (i : ℕ). drop i now.kept) (let e : (gap.to + a) + (b - a) ≡ gap.to + b = omega (arith, up) in e)
          ∙ sym (drop-drop b gap.to now.kept)

      kept_now : take g.from d.kept ++ drop g.to d.kept ≡ leaves (without_nodes (node ∷ []) so.reached)
      kept_now =
          let tokens : List ℕ = leaves so.reached in
          let loses = loses_leaves node 0 (size (whole tree)) so.reached own.node rises below found in
          let two : tokens ≡ before x.first tokens ++ (leaves own.node ++ from_on x.end tokens) = (span x is).all ∙ (simp append_assoc) in
          ap (λ (l : List ℕ). l ++ drop g.to d.kept) front
          ∙ ap (λ (l : List ℕ). (done ++ take a ahead) ++ l) back
          ∙ sym (outside_span done ahead x.first x.end a b (done_before x is) (span_rises x is) at to)
          ∙ ap (λ (l : List ℕ). before x.first l ++ from_on x.end l) so.kept
          ∙ sym (apart_again (is_within x.first x.end) loses.front (leaves own.node) loses.back (before x.first tokens) (from_on x.end tokens) tokens
          (span x is).inside loses.before two)
          ∙ sym loses.after

      same_now : (q : ℕ) → Contains rest q → subtree q (without_nodes (node ∷ []) so.reached) ≡ subtree q first
      same_now q has =
          let later = leaf_at first rest q so.apart.2 has in
          let after = so.apart.1 q has in
          later_stays node q own.node later.node after.0 (after.1 own.node own.node_is) 0 (size (whole tree)) so.reached rises below found
          (so.same q (later_in node q rest has) ∙ later.node_is) ∙ sym later.node_is

      before_now : (i : ℕ) → Contains (take g.from d.kept) i → i < x.first
      before_now i has =
          elim (Contains-append_cases done (take a ahead) i (subst (λ (l : List ℕ). Contains l i) front has)) [
            | inl early ↦ done_before x is i early
            | inr late ↦
                let passes = filtered (λ (j : ℕ). nat_lt j x.first) ahead i (subst (λ (l : List ℕ). Contains l i) (take_is ahead x.first a at) late) in
                ltb-true i x.first passes.1
          ]

      after_now : (q j : ℕ) (u : PlainTree) → Contains rest q → subtree q first ≡ Some u → Contains (leaves u) j → x.first ≤ j
      after_now q j u has e in_u =
          let token = a_token x is in
          let after = so.apart.1 q has in
          let less =
          tokens_follow first own.node u node q token.0 j (tree_numbers tree laws are c so.of) so.of.fits.rising own.node_is e
          (after.1 own.node own.node_is) after.0 token.1 in_u in
          let least = token.2 in
          omega (arith, less, least)

      pub next_dropped : IsDroppedSoFar tree c all rest d g
      next_dropped = record {
        of = so.of;
        reached = without_nodes (node ∷ []) so.reached;
        root = root_now;
        number = number_without (node ∷ []) so.reached ∙ so.number;
        marks = ap length marks ∙ length-set now.marks node Deleted ∙ so.marks;
        down = down_now;
        positions = positions ∙ so.positions;
        rising = (laws.left_is_part so.reached (without_nodes (node ∷ []) so.reached) (without_left (node ∷ []) so.reached)).leaves_rise so.rising;
        kept = kept_now;
        ahead = without_both (node ∷ []) rest so.reached ∙ so.ahead;
        apart = so.apart.2;
        same = same_now;
        bound = x.first;
        before = before_now;
        after = after_now;
        gap_rises = (let up = (counts x a b is at to).0 in let le = so.gap_rises in omega (arith, up, le, g_from, g_to));
        within = (let most = (counts x a b is at to).2 in omega (arith, most, g_to, long));
      }

    -- the same where the entry is read from the list of nodes
    pub counts_at : (nodes : List Node) (e : Node) → nodes ≡ tree.nodes → (a b : ℕ) → IsSplitAt ahead (slice_index_or nodes node e).first a
        → IsSplitAt ahead (slice_index_or nodes node e).end b → a ≤ b
    counts_at nodes e same a b at to = (counts (slice_index_or nodes node e) a b (index_is tree.nodes nodes node e same next_node) at to).0

    pub next_dropped_at : (nodes : List Node) (e : Node) → nodes ≡ tree.nodes → (d : CutForm) (g : Gap) (a b : ℕ)
        → IsSplitAt ahead (slice_index_or nodes node e).first a → IsSplitAt ahead (slice_index_or nodes node e).end b →
        d.marks ≡ slice_set now.marks node Deleted → d.positions ≡ now.positions → g.from ≡ gap.from + a → g.to ≡ (gap.to + a) + (b - a)
        → take (gap.from + a) d.kept ≡ done ++ take a ahead →
        drop (gap.to + a) d.kept ≡ drop (gap.to + a) now.kept → length d.kept ≡ length now.kept → IsDroppedSoFar tree c all rest d g
    next_dropped_at nodes e same d g a b at to marks positions from until stay next long =
        next_dropped d g (slice_index_or nodes node e) a b (index_is tree.nodes nodes node e same next_node) at to marks positions from until stay next long

drop_none : {X : Type 0} (xs : List X) → drop 0 xs ≡ xs
drop_none [] = refl
drop_none (x ∷ xs) = refl

at_start : (nodes : List ℕ) (keep : List Bool) → dropped nodes keep ≡ dropped (drop 0 nodes) (drop 0 keep)
at_start nodes keep = ap (λ (l : List ℕ). dropped l keep) (sym (drop_none nodes)) ∙ ap (λ (l : List Bool). dropped (drop 0 nodes) l) (sym (drop_none keep))

-- the flags of the nodes that are still to come
pub next_flag : (nodes : List ℕ) (keep : List Bool) (k q : ℕ) (b : Bool) → slice_get nodes k ≡ Some q → slice_get keep k ≡ Some b →
    dropped (drop k nodes) (drop k keep) ≡ (if b then dropped (drop (suc k) nodes) (drop (suc k) keep) else q ∷ dropped (drop (suc k) nodes)
    (drop (suc k) keep))
next_flag [] keep k q b e f = absurd (let lt = slice_get_within [] k q e in omega (arith, lt))
next_flag (n ∷ nodes) [] k q b e f = absurd (let lt = slice_get_within [] k b f in omega (arith, lt))
next_flag (n ∷ nodes) (true ∷ keep) zero q b e f =
    let is : true ≡ b = same_Some true b f in
    subst (λ (c : Bool). dropped nodes keep ≡ (if c then dropped (drop 0 nodes) (drop 0 keep) else q ∷ dropped (drop 0 nodes) (drop 0 keep))) is
    (at_start nodes keep)
next_flag (n ∷ nodes) (false ∷ keep) zero q b e f =
    let is : false ≡ b = same_Some false b f in
    subst (λ (c : Bool). n ∷ dropped nodes keep ≡ (if c then dropped (drop 0 nodes) (drop 0 keep) else q ∷ dropped (drop 0 nodes) (drop 0 keep))) is
    (ap (λ (m : ℕ). m ∷ dropped nodes keep) (same_Some n q e) ∙ ap (λ (l : List ℕ). q ∷ l) (at_start nodes keep))
next_flag (n ∷ nodes) (c ∷ keep) (suc k) q b e f = next_flag nodes keep k q b e f

drop_past : (xs : List ℕ) (k : ℕ) → length xs ≤ k → drop k xs ≡ []
drop_past [] zero le = refl
drop_past [] (suc k) le = refl
drop_past (x ∷ xs) zero le = absurd (omega (arith, le))
drop_past (x ∷ xs) (suc k) le = drop_past xs k (omega (arith, le))

-- The next node is to be deleted, or is kept; or there is none.
module _ (tree : SyntaxTree) (c : CutForm) (nodes : List ℕ) (keep : List Bool) (k : ℕ) (now : CutForm) (gap : Gap) (each : length keep ≡ length nodes)
    (so : IsDroppedSoFar tree c (dropped nodes keep) (dropped (drop k nodes) (drop k keep)) now gap) where
  flag_is : (b : Bool) → k < length nodes → slice_index_or keep k false ≡ b →
      dropped (drop k nodes) (drop k keep) ≡ (if b then dropped (drop (k + 1) nodes) (drop (k + 1) keep) else slice_index_or nodes k 0 ∷ dropped
      (drop (k + 1) nodes) (drop (k + 1) keep))
  flag_is b lt is =
      let next : suc k ≡ k + 1 = omega arith in
      next_flag nodes keep k (slice_index_or nodes k 0) b (slice_get-get_or nodes k 0 lt) (flag_known keep k false b is (omega (arith, lt, each)))
      ∙ ap (λ (m : ℕ). if b then dropped (drop m nodes) (drop m keep) else slice_index_or nodes k 0 ∷ dropped (drop m nodes) (drop m keep)) next

  pub next_is_dropped : k < length nodes → slice_index_or keep k false ≡ false
      → IsDroppedSoFar tree c (dropped nodes keep) (slice_index_or nodes k 0 ∷ dropped (drop (k + 1) nodes) (drop (k + 1) keep)) now gap
  next_is_dropped lt is = subst (λ (l : List ℕ). IsDroppedSoFar tree c (dropped nodes keep) l now gap) (flag_is false lt is) so

  pub next_is_kept : k < length nodes → slice_index_or keep k false ≡ true
      → IsDroppedSoFar tree c (dropped nodes keep) (dropped (drop (k + 1) nodes) (drop (k + 1) keep)) now gap
  next_is_kept lt is = subst (λ (l : List ℕ). IsDroppedSoFar tree c (dropped nodes keep) l now gap) (flag_is true lt is) so

  pub none_is_next : length nodes ≤ k → IsDroppedSoFar tree c (dropped nodes keep) [] now gap
  none_is_next le =
      subst (λ (l : List ℕ). IsDroppedSoFar tree c (dropped nodes keep) l now gap) (ap (λ (l : List ℕ). dropped l (drop k keep)) (drop_past nodes k le)) so
