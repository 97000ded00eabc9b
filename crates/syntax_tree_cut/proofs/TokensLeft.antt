-- The tokens that single edits leave, while the cut stays.
use Rattle.std.proofs.Common.{◌≡◌, ℕ, ◌<◌, ◌≤◌, List, ◌++◌, Option, Some, length, slice_get, refl, sym, ap, ◌∙◌, subst, arith}
use Rattle.std.specs.Prelude.{slice_index_or, slice_set}
use Rattle.std.specs.List.Sorted.{IsStrictlyIncreasing}
use Rattle.std.proofs.lemmas.Option.{get_or_from_slice_get, same_Some}
use Rattle.syntax_tree.specs.declared.node.Node.{Node}
use Rattle.syntax_tree.specs.Trees.{PlainTree, PlainTrees, leaves}
use Rattle.syntax_tree.specs.Numbered.{number_of, subtree, with_subtree}
use Rattle.syntax_tree.specs.Nodes.{AreNodesOf, SyntaxTree, whole}
use Rattle.syntax_tree_cut.specs.declared.mark.Mark.{Mark}
use Rattle.syntax_tree_cut.specs.declared.mark.Mark.TheVariants.{Deleted, Replaced}
use Rattle.syntax_tree_cut.specs.Cuts.{CanEmpty, CanReplace, CutForm, HasChildren, IsCutOf, IsOccupant, cut_tree}
use Rattle.syntax_tree_cut.specs.inner.Steps.{HasDeleted, HasReplaced}
use Rattle.syntax_tree_cut.specs.inner.Tokens.{before, from_on, within}
use Rattle.syntax_tree_cut.specs.inner.TreeLaws.{TreeLaws}
use Rattle.syntax_tree_cut.proofs.CutFacts.{index_is, node_facts}
use Rattle.syntax_tree_cut.proofs.CutCalls.{content_deleted, content_facts, lighter_below, node_replaced}

-- the occupant is the content
pub is_content : (marks marks' : List Mark) (p : ℕ) (result : Option ℕ) (content number : ℕ) → marks ≡ marks'
    → ((o : Option ℕ) → IsOccupant marks' p o → o ≡ Some number) → IsOccupant marks p result → result ≡ Some content → content ≡ number
is_content marks marks' p result content number same each at is =
    same_Some content number (sym is ∙ each result (subst (λ (l : List Mark). IsOccupant l p result) same at))

module _ (tree : SyntaxTree) (laws : TreeLaws) (are : AreNodesOf tree.form tree.start tree.nodes (whole tree)) (c : CutForm) (of : IsCutOf tree c) where
  rises : (d : CutForm) → IsCutOf tree d → IsStrictlyIncreasing d.kept
  rises d is = subst (λ (l : List ℕ). IsStrictlyIncreasing l) (sym is.kept) is.fits.rising

  -- the entry of a node that is left
  pub entry_of : (q : ℕ) (u : PlainTree) → subtree q (cut_tree tree c) ≡ Some u → (nodes : List Node) (d : Node) → nodes ≡ tree.nodes
      → (q < length nodes) × (slice_get tree.nodes q ≡ Some (slice_index_or nodes q d)) × ((slice_index_or nodes q d).first ≤ (slice_index_or nodes q d).end)
  entry_of q u found nodes d same =
      let facts = node_facts tree laws are c of q u found in
      let at = index_is tree.nodes nodes q d same facts.node in
      (subst (λ (l : List Node). q < length l) (sym same) facts.node, at, facts.span (slice_index_or nodes q d) at)

  -- that of the content of an optional
  pub content_entry : (node : ℕ) (can : CanEmpty tree.form (cut_tree tree c) node) (content : ℕ) → content ≡ number_of can.content → (nodes : List Node)
      (d : Node)
      → nodes ≡ tree.nodes → (content < length nodes) × (slice_get tree.nodes content ≡ Some (slice_index_or nodes content d))
      × ((slice_index_or nodes content d).first ≤ (slice_index_or nodes content d).end)
  content_entry node can content is nodes d same =
      let facts = (content_facts tree laws are c of node can).1 in
      let lt : content < length tree.nodes = subst (λ (n : ℕ). n < length tree.nodes) (sym is) facts.node in
      let at = index_is tree.nodes nodes content d same lt in (
        subst (λ (l : List Node). content < length l) (sym same) lt,
        at,
        facts.span (slice_index_or nodes content d) (subst (λ (n : ℕ). slice_get tree.nodes n ≡ Some (slice_index_or nodes content d)) is at),
      )

  -- the node that is put into another one's position has no more tokens than that
  pub fewer_of : (node by : ℕ) → CanReplace tree.form tree.start (cut_tree tree c) node by → (nodes : List Node) (d : Node) (old : List ℕ) → nodes ≡ tree.nodes
      → old ≡ c.kept → length (within (slice_index_or nodes by d).first (slice_index_or nodes by d).end old)
      ≤ length (within (slice_index_or nodes node d).first (slice_index_or nodes node d).end old)
  fewer_of node by can nodes d old same was =
      let whole_node = PlainTree.node node can.rule can.alt can.children in
      let one = (node_facts tree laws are c of node whole_node can.node).tokens (slice_index_or nodes node d)
      (entry_of node whole_node can.node nodes d same).1 in
      let two = (node_facts tree laws are c of by can.other can.other_is).tokens (slice_index_or nodes by d)
      (entry_of by can.other can.other_is nodes d same).1 in
      let less = lighter_below can.other whole_node can.below in
      subst
      (λ (l : List ℕ). length (within (slice_index_or nodes by d).first (slice_index_or nodes by d).end l)
      ≤ length (within (slice_index_or nodes node d).first (slice_index_or nodes node d).end l)) (sym was) (omega (arith, one, two, less))

  -- without the content of an optional
  pub content_left : (node : ℕ) (can : CanEmpty tree.form (cut_tree tree c) node) (content : ℕ) (gone : Node) (old tokens : List ℕ)
      → content ≡ number_of can.content → slice_get tree.nodes content ≡ Some gone → old ≡ c.kept → tokens ≡ before gone.first old ++ from_on gone.end old
      → ((t : PlainTree) × HasChildren node (λ ts. PlainTrees.none) (cut_tree tree c) t × (tokens ≡ leaves t)) × IsStrictlyIncreasing tokens
  content_left node can content gone old tokens is at was are_now =
      let d : CutForm = record { marks = slice_set c.marks (number_of can.content) Deleted; positions = c.positions; kept = tokens } in
      let did : HasDeleted tree c d (number_of can.content) = record {
        marks = refl;
        positions = refl;
        kept = λ x e.
            are_now ∙ ap (λ (l : List ℕ). before gone.first l ++ from_on gone.end l) was
            ∙ ap (λ (y : Node). before y.first c.kept ++ from_on y.end c.kept) (same_Some gone x (sym at ∙ ap (slice_get tree.nodes) is ∙ e));
      } in
      let both = content_deleted tree laws are c of d node can did in
      ((cut_tree tree d, both.0, both.1.kept), rises d both.1)

  -- with another node in the position of a node
  pub replacement_left : (node by : ℕ) → CanReplace tree.form tree.start (cut_tree tree c) node by → (gone new : Node) (old tokens : List ℕ)
      → slice_get tree.nodes node ≡ Some gone → slice_get tree.nodes by ≡ Some new → old ≡ c.kept
      → tokens ≡ before gone.first old ++ within new.first new.end old ++ from_on gone.end old
      → ((t : PlainTree) × ((u : PlainTree) → subtree by (cut_tree tree c) ≡ Some u → t ≡ with_subtree node u (cut_tree tree c)) × (tokens ≡ leaves t))
      × IsStrictlyIncreasing tokens
  replacement_left node by can gone new old tokens at at_by was are_now =
      let d : CutForm =
      record { marks = slice_set c.marks node (Replaced by); positions = slice_set c.positions by (slice_index_or c.positions node 0); kept = tokens } in
      let did : HasReplaced tree c d node by = record {
        marks = refl;
        positions = λ p e. ap (slice_set c.positions by) (get_or_from_slice_get c.positions node p 0 e);
        kept = λ x y ex ey.
            are_now ∙ ap (λ (l : List ℕ). before gone.first l ++ within new.first new.end l ++ from_on gone.end l) was
            ∙ ap (λ (z : Node). before z.first c.kept ++ within new.first new.end c.kept ++ from_on z.end c.kept) (same_Some gone x (sym at ∙ ex))
            ∙ ap (λ (z : Node). before x.first c.kept ++ within z.first z.end c.kept ++ from_on x.end c.kept) (same_Some new y (sym at_by ∙ ey));
      } in
      let both = node_replaced tree laws are c of d node by can did in
      ((cut_tree tree d, both.0, both.1.kept), rises d both.1)
