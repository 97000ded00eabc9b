use Rattle.syntax_tree.proofs.SingleEdits as lemma
use Rattle.syntax_tree.proofs.edit_laws.edits_by_number.Goals as goal

pub returns : goal.returns
returns c = lemma.numbered
