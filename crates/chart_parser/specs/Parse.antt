-- What a parse gives.
use Rattle.std.specs.Prelude.{◌≡◌, ℕ, List, length}
use Rattle.normal_form.specs.declared.normal.Sym.{Sym}
use Rattle.normal_form.specs.Form.{NormalForm}
use Rattle.syntax_tree.specs.Nodes.{SyntaxTree, whole}
use Rattle.syntax_tree.specs.Preferred.{Preferred}

-- The tree is the preferred one of all of the kinds, for the start symbol.
pub record IsParse (N : NormalForm) (start : Sym) (kinds : List ℕ) (tree : SyntaxTree) : Type 0 where
  pub form : tree.form ≡ N
  pub same_start : tree.start ≡ start
  pub preferred : Preferred N kinds start 0 (length kinds) (whole tree)
