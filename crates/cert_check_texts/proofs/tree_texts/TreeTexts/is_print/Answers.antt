use Rattle.std.proofs.Common.{Bool, sym, subst}
use Rattle.std.specs.Prelude.{◌↔◌, IfOk, IsTrue}
use Rattle.token_print.specs.declared.style.Style.{Style}
use Rattle.cert_check_texts.specs.Texts.{IsPrintOf}
use Rattle.cert_check_texts.proofs.tree_texts.TreeTexts.is_print.Goals as goal

pub returns-in-Squeezed : goal.returns-in-Squeezed
returns-in-Squeezed c =
    subst (λ (style : Style). IfOk c.is_print_in_pieces.result (λ (b : Bool). IsTrue b ↔ IsPrintOf c.args.self.now style c.args.text.now))
    (sym c.in-Squeezed.is) c.is_print_in_pieces.ensures

pub returns-in-AsWas : goal.returns-in-AsWas
returns-in-AsWas c =
    subst (λ (style : Style). IfOk c.is_print_as_was.result (λ (b : Bool). IsTrue b ↔ IsPrintOf c.args.self.now style c.args.text.now))
    (sym c.in-AsWas.is) c.is_print_as_was.ensures
