use Rattle.std.proofs.Common.{[]}
use Rattle.cert_check_texts.specs.inner.Print.{LeadsToNext}
use Rattle.cert_check_texts.proofs.Members.{from_all, from_more, from_none}
use Rattle.cert_check_texts.proofs.Steps.{next_are}
use Rattle.cert_check_texts.proofs.prints.Print.after_next_token.Goals as goal

pub loop-from-init : goal.loop-from-init
loop-from-init c = from_none (LeadsToNext c.args.self.now c.args.spelling.now) [] c.new-next.result.items c.new-next.ensures.items

pub loop-from-preserved : goal.loop-from-preserved
loop-from-preserved c =
    from_more (LeadsToNext c.args.self.now c.args.spelling.now) [] c.loop-from.next.items c.add_next.new.pairs.items c.args.reached.now c.loop-from.from-index _
    c.loop-from-test.true c.loop-from.invariant c.in_ok-add_next.ensures

pub returns : goal.returns
returns c =
    next_are c.args.self.now c.args.spelling.now c.args.reached.now c.loop-from.next.items
    (from_all (LeadsToNext c.args.self.now c.args.spelling.now) [] c.loop-from.next.items c.args.reached.now c.loop-from.from-index c.loop-from-test.false
    c.loop-from.invariant)
