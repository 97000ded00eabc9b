-- The reductions of a mode of trees are those of its recursion.
use Rattle.std.proofs.Common.{sym}
use Rattle.reduce_step.specs.declared.mode.TreeMode.TheVariants.{Hdd, Perses}
use Rattle.reduce_rounds.proofs.Lent.{recursions_reduce_alike}
use Rattle.reduce_trees_mode.specs.InStyles.{end_in, squeezed_first, trees_in}
use Rattle.reduce_trees_mode.specs.Laws.{OpeningIsOneTest}
use Rattle.reduce_trees_mode.specs.Listed.{IsKept}
use Rattle.reduce_perses.specs.VisitRounds.{visit_round}
use Rattle.reduce_hdd.specs.LevelRounds.{level_round}
use Rattle.reduce_trees.specs.Laws.{HddRoundsAreLevels, PersesRoundsAreVisits, WalksAreLawful, WalksAreRecursions}
use Rattle.reduce_trees.specs.TreeRounds.{tree_round}
use Rattle.reduce_trees.specs.WalkMode.{walk_mode}

pub visits_are_recursions : PersesRoundsAreVisits → WalksAreLawful visit_round → OpeningIsOneTest → WalksAreRecursions Perses visit_round
visits_are_recursions rounds lawful opens input verdict is =
    recursions_reduce_alike (walk_mode visit_round input) (IsKept input) (lawful input is).keeps (squeezed_first input)
    (λ v state. end_in state.style (tree_round Perses input (trees_in input state.style) v state.tree)) verdict
    (sym (opens input (visit_round input.form input.symbol) verdict)) (λ state kept. sym (rounds input verdict state is kept))

pub levels_are_recursions : HddRoundsAreLevels → WalksAreLawful level_round → OpeningIsOneTest → WalksAreRecursions Hdd level_round
levels_are_recursions rounds lawful opens input verdict is =
    recursions_reduce_alike (walk_mode level_round input) (IsKept input) (lawful input is).keeps (squeezed_first input)
    (λ v state. end_in state.style (tree_round Hdd input (trees_in input state.style) v state.tree)) verdict
    (sym (opens input (level_round input.form input.symbol) verdict)) (λ state kept. sym (rounds input verdict state))
