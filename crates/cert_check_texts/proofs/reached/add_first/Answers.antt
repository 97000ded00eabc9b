use Rattle.std.proofs.Common.{List, subst}
use Rattle.cert_check_texts.specs.declared.reached.Reached.{Reached}
use Rattle.cert_check_texts.specs.inner.Reached.{HasFirst}
use Rattle.cert_check_texts.proofs.Firsts.{with_first, with_pushed}
use Rattle.cert_check_texts.proofs.reached.add_first.Goals as goal

pub returns-then-has_first : goal.returns-then-has_first
returns-then-has_first c = λ pairs are. with_first pairs c.args.firsts.now.items c.args.pair are
    (subst (λ (l : List Reached). HasFirst l c.args.pair) c.deref.ensures.value (c.has_first.ensures c.if-has_first.true))

pub returns : goal.returns
returns c = λ pairs are. with_pushed pairs c.args.firsts.now.items c.push.new.self.items c.args.pair are c.in_ok-push.ensures.items
