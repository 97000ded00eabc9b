use Rattle.syntax_tree_cut.proofs.Deletions.{leaves_count}
use Rattle.syntax_tree_cut.proofs.weight_laws.weights_count_leaves.Goals as goal

pub returns : goal.returns
returns c = λ t. leaves_count t
