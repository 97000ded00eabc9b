use Rattle.std.proofs.Common.{◌++◌, map, refl, ap, ◌∙◌}
use Rattle.grammar_tree.specs.GrammarView.{kind_of}
use Rattle.normal_form_print.specs.Print.{but_text, numbered_kind_text}
use Rattle.normal_form_print.specs.inner.Printing.{kind_bytes}
use Rattle.normal_form_print.proofs.PrintLemmas.{but_bytes}
use Rattle.normal_form_print.proofs.print.set_text.Goals as goal

pub returns : goal.returns
returns c =
    let kinds = map kind_of c.args.kinds.now in
    c.in_ok-push_but.ensures
    ∙ ap (λ l. l ++ but_text (kind_bytes kinds) c.args.missing.now) c.new-text.ensures.bytes
    ∙ but_bytes (numbered_kind_text kinds) (kind_bytes kinds) (λ k. refl) c.args.missing.now
