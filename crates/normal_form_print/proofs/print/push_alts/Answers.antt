use Rattle.std.proofs.Common.{◌-◌, ◌+◌, ◌∷◌, ◌++◌, length, take, drop, sym, ap, ◌∙◌, string_bytes}
use Rattle.std.specs.Prelude.{codes}
use Rattle.std.specs.List.{join_by}
use Rattle.std.proofs.lemmas.List.{at_drop_more}
use Rattle.normal_form_print.specs.inner.Printing.{symbol_bytes}
use Rattle.normal_form.specs.View.{alts_form}
use Rattle.normal_form_print.proofs.PrintLemmas.{piece_more}
use Rattle.normal_form_print.proofs.print.push_alts.Goals as goal

pub loop-alt-preserved : goal.loop-alt-preserved
loop-alt-preserved c =
    let piece = join_by (symbol_bytes c.args.symbols.now) (codes " ") in
    let separated = string_bytes c.push_str.new.self in
    let items = take (length c.args.alts.now - 1) (drop 1 c.args.alts.now) in
    let i = c.loop-alt.alt-index in
    let rest = alts_form (drop (i + 1) items) in
    let cut = at_drop_more alts_form items i c.alt-item.result c.loop-alt-test.true ∙ ap (λ a. a.items ∷ rest) (sym c.alt-item.is) in
    let added = c.in_ok-push_alt-2.ensures ∙ ap (λ l. separated ++ piece l) c.deref-in-loop-alt.ensures.value in
    piece_more piece (codes " | ") (string_bytes c.loop-alt.text) separated (string_bytes c.push_alt-in-loop-alt.new.text) _ c.alt-item.result.items
    (alts_form (drop i items)) rest cut c.in_ok-push_str.ensures.bytes added c.loop-alt.invariant
