use Rattle.syntax_tree.proofs.TokenOrder as lemma
use Rattle.syntax_tree.proofs.node_laws.numbers_follow_tokens.Goals as goal

pub returns : goal.returns
returns c = lemma.tokens_follow
