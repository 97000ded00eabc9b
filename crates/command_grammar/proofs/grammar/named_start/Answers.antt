use Rattle.std.proofs.Common.{chars}
use Rattle.command_grammar.proofs.GrammarLemmas.{mapped_twice}
use Rattle.command_grammar.proofs.grammar.named_start.Goals as goal

pub returns : goal.returns
returns c = mapped_twice chars (λ s. s.now) c.args.grammar.start
