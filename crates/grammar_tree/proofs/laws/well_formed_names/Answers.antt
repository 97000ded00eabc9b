use Rattle.grammar_tree.proofs.Resolved as lemma
use Rattle.grammar_tree.proofs.laws.well_formed_names.Goals as goal

pub returns : goal.returns
returns c = lemma.well_formed_names
