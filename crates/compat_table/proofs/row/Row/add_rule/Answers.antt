use Rattle.compat_table.specs.inner.View.{symbols_of}
use Rattle.compat_table.proofs.Searching.{marked_more}
use Rattle.compat_table.proofs.row.Row.add_rule.Goals as goal

pub returns-in_ok-push-clause-marked : goal.returns-in_ok-push-clause-marked
returns-in_ok-push-clause-marked c =
    marked_more c.args.marks.now c.args.number c.args.rule (symbols_of c.args.self.now)
    (symbols_of (record { kinds = c.args.self.now.kinds; sets = c.args.self.now.sets; rules = c.push.new.self })) c.requires.rule c.if-marks-rule.true
    c.in_ok-push.ensures.items c.requires.marked
