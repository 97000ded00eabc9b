-- First leaves of trees.
use Rattle.std.proofs.Common.{◌≡◌, refl, ℕ, Option, Some, None, arith, option_map, slice_get}
use Rattle.std.specs.Option.{option_and_then}
use Rattle.std.proofs.lemmas.Option.{same_Some, slice_get_past}
use Rattle.syntax_tree.specs.Trees.{PlainTree, leaves, weight}
use Rattle.syntax_tree_cut.specs.WeightLaws.{WeightsCountLeaves}

-- a tree without weight has none
pub first_of_none : (counted : WeightsCountLeaves) (found : Option PlainTree) (w : ℕ) → option_map weight found ≡ Some w → w ≡ 0
    → option_and_then (λ t. slice_get (leaves t) 0) found ≡ None
first_of_none counted None w weighs zero = refl
first_of_none counted (Some t) w weighs zero =
    let same = same_Some (weight t) w weighs in
    let count = counted t in
    slice_get_past (leaves t) 0 (omega (arith, same, count, zero))
