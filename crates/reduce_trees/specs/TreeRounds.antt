-- One round of a mode of trees, as a recursion over a verdict on every text.
use Rattle.std.specs.Prelude.{Bool, List, ℕ}
use Rattle.reduce_step.specs.declared.mode.TreeMode.{TreeMode}
use Rattle.reduce_step.specs.declared.mode.TreeMode.TheVariants.{Hdd, Perses}
use Rattle.reduce_rounds.specs.StateTexts.{StateTexts}
use Rattle.reduce_rounds.specs.Reduction.{RoundEnd}
use Rattle.syntax_tree.specs.Trees.{PlainTree}
use Rattle.reduce_trees_mode.specs.Input.{TreeInput}
use Rattle.reduce_perses.specs.VisitEnd.{visit_end}
use Rattle.descend_replace.specs.FitsIn.{fits_in}
use Rattle.reduce_hdd.specs.Followed.{levels_end}

-- it visits node after node, the heaviest first, or it goes level after level, from the root down
abbrev pub tree_round : TreeMode → TreeInput → StateTexts PlainTree → (List ℕ → Bool) → PlainTree → RoundEnd PlainTree
tree_round Perses input texts verdict tree = visit_end texts verdict input.form (fits_in input.form) input.symbol tree
tree_round Hdd input texts verdict tree = levels_end input.form texts verdict tree
