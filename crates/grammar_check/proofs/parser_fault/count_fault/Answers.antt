use Rattle.std.proofs.Common.{arith}
use Rattle.grammar_check.proofs.CheckForms.{before_end, too_many}
use Rattle.grammar_check.proofs.parser_fault.count_fault.Goals as goal

pub returns-then-count-gt65535 : goal.returns-then-count-gt65535
returns-then-count-gt65535 c = λ G wanted is none. too_many G wanted c.args.count none (is, omega (arith, c.if-count-gt65535.true))

pub returns-else-count-gt65535 : goal.returns-else-count-gt65535
returns-else-count-gt65535 c = λ G wanted is none. before_end G wanted none (λ n h. omega (arith, h.0, h.1, is, c.if-count-gt65535.false))
