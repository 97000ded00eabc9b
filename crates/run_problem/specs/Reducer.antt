-- The reducer of a problem: what it asks, and how it goes on at each answer.
use Rattle.normal_form.specs.declared.normal.Sym.{Sym}
use Rattle.normal_form.specs.Form.{NormalForm}
use Rattle.syntax_tree.specs.Trees.{PlainTree}
use Rattle.reduce_step.specs.Plan.{Plan}
use Rattle.reduce_step.specs.declared.mode.TreeMode.{TreeMode}
use Rattle.reduce_step.specs.declared.mode.TreeMode.TheVariants.{Hdd, Perses}
use Rattle.reduce_rounds.specs.Trials.{Trials}
use Rattle.reduce_rounds.specs.RoundsPlan.{plan_first}
use Rattle.reduce_core.specs.LineMode.{line_plan}
use Rattle.reduce_core.specs.Reduction.{Admits}
use Rattle.reduce_perses.specs.VisitRounds.{visit_round}
use Rattle.reduce_hdd.specs.LevelRounds.{level_round}
use Rattle.reduce_trees.specs.WalkMode.{walk_mode}
use Rattle.spell_shrink.specs.SpellMode.{spell_mode}
use Rattle.run_problem.specs.Problem.{Problem}

-- what a round of the mode tries of a tree for a symbol of a normal form: by the nodes, the heaviest first, or by the levels of the tree
abbrev pub round_trials : TreeMode → NormalForm → Sym → PlainTree → Trials PlainTree
round_trials Perses = visit_round
round_trials Hdd = level_round

-- the reducer of the problem, whose mode this is, where this is what is admitted
abbrev pub reducer_of : Admits → Problem → Plan
reducer_of guard (Problem.of_lines start) = line_plan guard start
reducer_of guard (Problem.of_tree mode input) = plan_first (walk_mode (round_trials mode) input)
reducer_of guard (Problem.of_respelling mode input) = plan_first (spell_mode (round_trials mode) input)
