use Rattle.std.proofs.Common.{ℕ, List}
use Rattle.list_ddmin.proofs.Slices as lemma
use Rattle.list_ddmin.proofs.laws.parts_are_slices.Goals as goal

pub returns : goal.returns
returns c = lemma.parts_are_slices (List ℕ)
