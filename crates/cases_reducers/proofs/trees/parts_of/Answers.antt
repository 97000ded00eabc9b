use Rattle.cases_reducers.proofs.Ready.{has_kinds}
use Rattle.cases_reducers.proofs.trees.parts_of.Goals as goal

pub new-requires-2-clause-kinds : goal.new-requires-2-clause-kinds
new-requires-2-clause-kinds c = has_kinds _ _ c.in_ok-found.found c.is_checked.ensures c.in_ok-found.ensures.parsed c.in_ok-found.ensures.input
