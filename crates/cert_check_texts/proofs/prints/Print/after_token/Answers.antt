use Rattle.std.proofs.lemmas.Result.{IfOk-weaker}
use Rattle.cert_check_texts.specs.inner.Print.{tokens_in}
use Rattle.cert_check_texts.proofs.Layers.{are_next}
use Rattle.cert_check_texts.proofs.prints.Print.after_token.Goals as goal

pub returns-clause-next : goal.returns-clause-next
returns-clause-next c =
    let later = rw c.deref.ensures.value at c.in_ok-later.ensures in
    let both = rw c.deref-2.ensures.value at c.united.ensures.both in
    IfOk-weaker c.united.result _ _ (λ next are. are_next c.args.self.now.layout.skips c.args.self.now.layout.start.now
    (tokens_in c.args.self.now) c.args.self.now.layout.style c.args.self.now.text.now c.args.reached.now c.in_ok-firsts.firsts.items c.in_ok-next.next.items
    c.in_ok-later.later.items next.items c.args.spelling.now c.in_ok-firsts.ensures c.in_ok-next.ensures later are) both
