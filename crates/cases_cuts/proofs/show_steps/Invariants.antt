use Rattle.syntax_tree_cut.specs.Cuts.{IsCutOf}
use Rattle.cases_cuts.proofs.show_steps.Given as goal

abbrev pub invariant-loop-step : goal.invariant-loop-step
invariant-loop-step l = IsCutOf l.fn.case.tree l.cut
