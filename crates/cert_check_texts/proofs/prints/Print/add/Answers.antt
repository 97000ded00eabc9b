use Rattle.std.proofs.Common.{List, refl, sym, subst}
use Rattle.cert_check_texts.specs.declared.reached.Reached.{Reached}
use Rattle.cert_check_texts.specs.inner.Reached.{AreWith}
use Rattle.cert_check_texts.specs.inner.Print.{LeadsTo, tokens_in}
use Rattle.cert_check_texts.proofs.Ending.{one_end}
use Rattle.cert_check_texts.proofs.Members.{with_none, with_one}
use Rattle.cert_check_texts.proofs.prints.Print.add.Goals as goal

pub returns-in-None : goal.returns-in-None
returns-in-None c =
    with_none c.args.pairs.now.items (LeadsTo c.args.self.now c.args.last c.args.offset c.args.index) (λ other leads. c.in-None.ensures other.offset leads.1)

pub returns-in_ok-push-in-Some : goal.returns-in_ok-push-in-Some
returns-in_ok-push-in-Some c =
    let pair : Reached = record { last = c.args.index; offset = c.in-Some.end } in
    subst (λ (l : List Reached). AreWith c.args.pairs.now.items (LeadsTo c.args.self.now c.args.last c.args.offset c.args.index) l)
    (sym c.in_ok-push-in-Some.ensures.items)
    (with_one c.args.pairs.now.items pair (LeadsTo c.args.self.now c.args.last c.args.offset c.args.index) (refl, c.in-Some.ensures)
    (λ other leads i. record {
      last = leads.0 i;
      offset =
          (one_end c.args.self.now.layout.skips c.args.self.now.layout.start.now
          (tokens_in c.args.self.now) c.args.self.now.layout.style c.args.self.now.text.now c.args.last c.args.offset c.args.index c.in-Some.end other.offset
          c.in-Some.ensures leads.1) i;
    }))
