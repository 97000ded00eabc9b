use Rattle.std.proofs.Common.{◌-◌, arith, inr}
use Rattle.cert_check.proofs.Replaying.{marked_so}
use Rattle.cert_check.proofs.asked.mark.Goals as goal

pub returns-then-index-len-clause-others : goal.returns-then-index-len-clause-others
returns-then-index-len-clause-others c = λ index is. inr is

pub returns-clause-others : goal.returns-clause-others
returns-clause-others c =
    marked_so c.args.marks.now.items c.set_mark.new.marks.items (c.args.number - 1) c.args.number (omega (arith, c.requires)) c.set_mark.ensures
