-- The problem of a tree, with the respelling of what is left or without.
use Rattle.std.proofs.Common.{◌≡◌, Bool, true, false, refl}
use Rattle.reduce_step.specs.declared.mode.TreeMode.{TreeMode}
use Rattle.reduce_trees_mode.specs.Input.{IsInput, TreeInput}
use Rattle.run_problem.specs.Problem.{IsProblem, start_text, tree_problem}

pub tree_start : (respell : Bool) (mode : TreeMode) (input : TreeInput) → start_text (tree_problem respell mode input) ≡ input.start
tree_start true mode input = refl
tree_start false mode input = refl

pub tree_is : (respell : Bool) (mode : TreeMode) (input : TreeInput) → IsInput input → IsProblem (tree_problem respell mode input)
tree_is true mode input is = is
tree_is false mode input is = is
