use Rattle.std.proofs.Common.{◌∙◌, arith, sym, true≢false}
use Rattle.std.proofs.lemmas.Result.{on_ok_weaker}
use Rattle.cert_check_texts.specs.inner.Print.{LeadsToLater}
use Rattle.cert_check_texts.proofs.Members.{with_none}
use Rattle.cert_check_texts.proofs.Steps.{later_leads, none_out}
use Rattle.cert_check_texts.proofs.prints.Print.add_later.Goals as goal

pub add-requires-clause-after : goal.add-requires-clause-after
add-requires-clause-after c = let far = c.leaves_out.ensures.0 c.if-not-leaves_out.false in omega (arith, far)

pub returns-then-not-leaves_out : goal.returns-then-not-leaves_out
returns-then-not-leaves_out c =
    with_none c.args.pairs.now.items (LeadsToLater c.args.self.now c.args.index c.args.from)
    (none_out c.args.self.now c.args.from c.args.index (λ far. true≢false (sym (c.leaves_out.ensures.1 far) ∙ c.if-not-leaves_out.true)))

pub returns : goal.returns
returns c =
    on_ok_weaker c.add.result (later_leads c.args.self.now c.args.from c.args.index c.args.pairs.now.items c.add.new.pairs.items
    (c.leaves_out.ensures.0 c.if-not-leaves_out.false)) c.add.ensures
