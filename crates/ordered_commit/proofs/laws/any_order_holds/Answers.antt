use Rattle.ordered_commit.proofs.Runs as lemmas
use Rattle.ordered_commit.proofs.laws.any_order_holds.Goals as goal

pub returns : goal.returns
returns c = lemmas.any_order
