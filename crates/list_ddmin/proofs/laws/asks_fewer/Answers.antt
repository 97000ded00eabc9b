use Rattle.list_ddmin.proofs.KeepsLess as lemmas
use Rattle.list_ddmin.proofs.laws.asks_fewer.Goals as goal

pub returns-clause-asked : goal.returns-clause-asked
returns-clause-asked c = lemmas.asks_fewer

pub returns-clause-nothing : goal.returns-clause-nothing
returns-clause-nothing c = lemmas.asks_for_nothing_first
