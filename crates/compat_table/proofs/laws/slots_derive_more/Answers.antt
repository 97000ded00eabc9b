use Rattle.compat_table.proofs.Fitting as lemma
use Rattle.compat_table.proofs.laws.slots_derive_more.Goals as goal

pub returns : goal.returns
returns c = lemma.derive_more
