use Rattle.descend_replace.proofs.Deciding.{nullable_decides}
use Rattle.descend_replace.proofs.laws.nullable_in_decides.Goals as goal

pub returns : goal.returns
returns c = nullable_decides
