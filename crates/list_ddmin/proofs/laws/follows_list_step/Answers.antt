use Rattle.list_ddmin.proofs.Follows as follows
use Rattle.list_ddmin.proofs.laws.follows_list_step.Goals as goal

pub returns : goal.returns
returns c = follows.follows_list_step
