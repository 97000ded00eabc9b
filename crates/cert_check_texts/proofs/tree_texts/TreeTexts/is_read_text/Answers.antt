use Rattle.std.proofs.Common.{arith, sym, true≢false, ◌∙◌}
use Rattle.cert_check_texts.specs.inner.Fields.{tokens_in}
use Rattle.cert_check_texts.proofs.Language.{answered, in_language, with_print}
use Rattle.cert_check_texts.proofs.tree_texts.TreeTexts.is_read_text.Goals as goal

pub are_derived-requires : goal.are_derived-requires
are_derived-requires c =
    let order = c.tokens_are_in_order.ensures c.args.self.now.grammar.grammar c.args.text.now (tokens_in c.args.found.now) c.requires.utf8 c.requires.tokens in
    let few = order.few in
    let short = c.requires.short in
    omega (arith, few, short)

pub returns-then-not-printed : goal.returns-then-not-printed
returns-then-not-printed c = (λ is. absurd (true≢false (sym is)), λ both. absurd (true≢false (sym (c.in_ok-printed.ensures.1 both.0) ∙ c.if-not-printed.true)))

pub returns : goal.returns
returns c =
    answered c.are_derived.result
    (with_print c.args.self.now c.args.text.now (c.in_ok-printed.ensures.0 c.if-not-printed.false)
    (in_language c.tokens_are_unique.ensures c.args.self.now.grammar c.args.text.now (tokens_in c.args.found.now) c.requires.utf8 c.requires.tokens))
    c.are_derived.ensures
