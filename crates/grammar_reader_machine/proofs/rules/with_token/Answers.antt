use Rattle.std.proofs.Common.{refl}
use Rattle.grammar_tree.proofs.Lent.{same_grammar}
use Rattle.grammar_reader_machine.proofs.rules.with_token.Goals as goal

pub returns : goal.returns
returns c = same_grammar refl c.in_ok-push.ensures.items refl
