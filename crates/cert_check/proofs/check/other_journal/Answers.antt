use Rattle.std.proofs.Common.{inl}
use Rattle.cert_check.specs.Findings.{IsOfStart, head_in}
use Rattle.cert_check.proofs.Setups.{by_head, not_other}
use Rattle.cert_check.proofs.check.other_journal.Goals as goal

pub returns-in-Some : goal.returns-in-Some
returns-in-Some c = inl (rw c.in-Some.is at c.torn_end.ensures)

pub returns : goal.returns
returns c =
    by_head c.args.journal.now.torn (IsOfStart (head_in c.args.journal.now) c.args.start.now) c.other_start.result
    (not_other _ c.torn_end.result c.in_default.not-Some c.torn_end.ensures) c.other_start.ensures
