use Rattle.std.proofs.Common.{◌||◌, not, sym, ap, ◌∙◌}
use Rattle.grammar_check_faults.proofs.eof.may_have_eof.Goals as goal

pub returns-then-is_start : goal.returns-then-is_start
returns-then-is_start c = c.if-is_start.true ∙ sym (ap (λ b. b || not c.args.is_used) c.if-is_start.true)

pub returns-else-is_start : goal.returns-else-is_start
returns-else-is_start c = sym (ap (λ b. b || not c.args.is_used) c.if-is_start.false)
