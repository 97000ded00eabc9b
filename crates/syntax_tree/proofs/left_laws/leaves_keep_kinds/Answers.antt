use Rattle.syntax_tree.proofs.KeptKinds as lemma
use Rattle.syntax_tree.proofs.left_laws.leaves_keep_kinds.Goals as goal

pub returns : goal.returns
returns c = lemma.kept_kinds
