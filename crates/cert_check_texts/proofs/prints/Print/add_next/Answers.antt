use Rattle.std.proofs.Common.{◌+◌, ◌∙◌, arith, sym, true≢false}
use Rattle.std.proofs.lemmas.Result.{on_ok_weaker}
use Rattle.cert_check_texts.specs.inner.Print.{LeadsToNext}
use Rattle.cert_check_texts.proofs.Members.{with_none}
use Rattle.cert_check_texts.proofs.Steps.{no_token, other_token, next_leads}
use Rattle.cert_check_texts.proofs.prints.Print.add_next.Goals as goal

pub returns-then-from-self : goal.returns-then-from-self
returns-then-from-self c =
    with_none c.args.pairs.now.items (LeadsToNext c.args.self.now c.args.spelling.now c.args.from)
    (no_token c.args.self.now c.args.spelling.now c.args.from (omega arith))

pub returns-then-not-is_spelled : goal.returns-then-not-is_spelled
returns-then-not-is_spelled c =
    with_none c.args.pairs.now.items (LeadsToNext c.args.self.now c.args.spelling.now c.args.from)
    (other_token c.args.self.now c.args.spelling.now c.args.from (c.args.from.last + 1) (omega arith)
    (λ same. true≢false (sym (c.is_spelled.ensures.1 same) ∙ c.if-not-is_spelled.true)))

pub returns : goal.returns
returns c =
    on_ok_weaker c.add.result
    (next_leads c.args.self.now c.args.spelling.now c.args.from (c.args.from.last + 1) (omega arith) c.args.pairs.now.items c.add.new.pairs.items
    (c.is_spelled.ensures.0 c.if-not-is_spelled.false)) c.add.ensures
