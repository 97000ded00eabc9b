use Rattle.std.proofs.Common.{refl}
use Rattle.lexer_nfa.proofs.compile.close_loop.Goals as goal

pub returns-clause-again : goal.returns-clause-again
returns-clause-again c = refl
