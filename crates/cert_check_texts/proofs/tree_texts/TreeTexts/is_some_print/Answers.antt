use Rattle.std.proofs.Common.{refl, sym, true≢false, ◌∙◌}
use Rattle.token_print.specs.declared.style.Style.{Style}
use Rattle.cert_check_texts.proofs.Language.{answered, squeezed_only}
use Rattle.cert_check_texts.proofs.tree_texts.TreeTexts.is_some_print.Goals as goal

pub returns-then-as_was : goal.returns-then-as_was
returns-then-as_was c = (λ is. (Style.AsWas, c.in_ok-as_was.ensures.0 c.if-as_was.true), λ one. refl)

pub returns : goal.returns
returns c =
    answered c.is_print-2.result (squeezed_only c.args.self.now c.args.text.now (λ one. true≢false (sym (c.in_ok-as_was.ensures.1 one) ∙ c.if-as_was.false)))
    c.is_print-2.ensures
