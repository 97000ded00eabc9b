use Rattle.std.proofs.Common.{cond, ap, sym}
use Rattle.lexer_match.proofs.alternative.last_match.Goals as goal

pub returns-then-ended : goal.returns-then-ended
returns-then-ended c = ap (λ b. cond b c.args.read c.args.longest) (sym c.if-ended.true)

pub returns-else-ended : goal.returns-else-ended
returns-else-ended c = ap (λ b. cond b c.args.read c.args.longest) (sym c.if-ended.false)
