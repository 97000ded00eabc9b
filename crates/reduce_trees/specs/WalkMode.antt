-- Reductions of trees by rounds, whatever walks the tree.
use Rattle.normal_form.specs.declared.normal.Sym.{Sym}
use Rattle.normal_form.specs.Form.{NormalForm}
use Rattle.reduce_rounds.specs.Mode.{RoundMode}
use Rattle.reduce_rounds.specs.Trials.{Trials}
use Rattle.syntax_tree.specs.Trees.{PlainTree}
use Rattle.reduce_trees_mode.specs.Input.{TreeInput, TreeState}
use Rattle.reduce_trees_mode.specs.TreeTrials.{tree_mode}

-- the mode whose rounds try this of a tree for a symbol of a normal form
abbrev pub walk_mode : (NormalForm → Sym → PlainTree → Trials PlainTree) → TreeInput → RoundMode TreeState
walk_mode round input = tree_mode (round input.form input.symbol) input
