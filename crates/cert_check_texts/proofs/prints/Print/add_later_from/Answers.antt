use Rattle.std.proofs.Common.{refl}
use Rattle.cert_check_texts.specs.inner.Print.{LeadsToLater}
use Rattle.cert_check_texts.proofs.Members.{from_all, from_more, from_none}
use Rattle.cert_check_texts.proofs.prints.Print.add_later_from.Goals as goal

pub loop-first-init : goal.loop-first-init
loop-first-init c = from_none (LeadsToLater c.args.self.now c.args.index) c.args.pairs.now.items c.args.pairs.now.items refl

pub loop-first-preserved : goal.loop-first-preserved
loop-first-preserved c =
    from_more (LeadsToLater c.args.self.now c.args.index) c.args.pairs.now.items c.loop-first.pairs.items c.add_later.new.pairs.items c.args.firsts.now
    c.loop-first.first-index _ c.loop-first-test.true c.loop-first.invariant c.in_ok-add_later.ensures

pub returns : goal.returns
returns c =
    from_all (LeadsToLater c.args.self.now c.args.index) c.args.pairs.now.items c.loop-first.pairs.items c.args.firsts.now c.loop-first.first-index
    c.loop-first-test.false c.loop-first.invariant
