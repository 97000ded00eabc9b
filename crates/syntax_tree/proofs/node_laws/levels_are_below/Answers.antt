use Rattle.syntax_tree.proofs.LevelOrder as lemma
use Rattle.syntax_tree.proofs.node_laws.levels_are_below.Goals as goal

pub returns : goal.returns
returns c = lemma.levels
