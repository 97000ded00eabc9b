use Rattle.syntax_tree.proofs.SingleEdits as lemma
use Rattle.syntax_tree.proofs.edit_laws.local_edits_are_valid.Goals as goal

pub returns : goal.returns
returns c = lemma.local_edits
