use Rattle.syntax_tree.proofs.InSlots as lemma
use Rattle.syntax_tree.proofs.edit_laws.nodes_have_slots.Goals as goal

pub returns : goal.returns
returns c = lemma.have_slots
