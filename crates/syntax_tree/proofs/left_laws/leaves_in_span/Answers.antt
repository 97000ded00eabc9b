use Rattle.syntax_tree.proofs.SpanLeaves as lemma
use Rattle.syntax_tree.proofs.left_laws.leaves_in_span.Goals as goal

pub returns : goal.returns
returns c = lemma.in_span
