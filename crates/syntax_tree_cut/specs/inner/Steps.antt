-- What an edit writes into a cut: its marks, positions and tokens.
use Rattle.std.specs.Prelude.{◌≡◌, ℕ, ◌++◌, Some, slice_get, slice_set}
use Rattle.syntax_tree.specs.declared.node.Node.{Node}
use Rattle.syntax_tree.specs.Nodes.{SyntaxTree}
use Rattle.syntax_tree_cut.specs.declared.mark.Mark.TheVariants.{Deleted, Replaced}
use Rattle.syntax_tree_cut.specs.inner.Tokens.{before, from_on, within}
use Rattle.syntax_tree_cut.specs.Cuts.{CutForm}

-- The node q is marked as deleted, and the tokens of its span are gone.
pub record HasDeleted (tree : SyntaxTree) (c d : CutForm) (q : ℕ) : Type 0 where
  pub marks : d.marks ≡ slice_set c.marks q Deleted
  pub positions : d.positions ≡ c.positions
  pub kept : (x : Node) → slice_get tree.nodes q ≡ Some x → d.kept ≡ before x.first c.kept ++ from_on x.end c.kept

-- The node q is marked as replaced by another one, which has its position now, and of the tokens of its span those of the other one's span are left.
pub record HasReplaced (tree : SyntaxTree) (c d : CutForm) (q by : ℕ) : Type 0 where
  pub marks : d.marks ≡ slice_set c.marks q (Replaced by)
  pub positions : (p : ℕ) → slice_get c.positions q ≡ Some p → d.positions ≡ slice_set c.positions by p
  pub kept : (x y : Node) → slice_get tree.nodes q ≡ Some x → slice_get tree.nodes by ≡ Some y
      → d.kept ≡ before x.first c.kept ++ within y.first y.end c.kept ++ from_on x.end c.kept
