use Rattle.std.proofs.Common.{◌++◌, map, ap, ◌∙◌}
use Rattle.std.specs.Prelude.{encode_utf8_all}
use Rattle.normal_form_print.specs.declared.print.Symbols.{Symbols}
use Rattle.normal_form_print.specs.Print.{lines_from, set_text}
use Rattle.normal_form_print.specs.inner.Printing.{symbol_bytes}
use Rattle.normal_form.specs.View.{rule_form}
use Rattle.normal_form_print.proofs.PrintedSymbols.{lines_are}
use Rattle.normal_form_print.proofs.print.normal_text.Goals as goal

pub returns : goal.returns
returns c =
    let S : Symbols = record { kinds = c.kinds.result; names = c.names.result; sets = c.in_ok-set_texts.field-0 } in
    let texts = c.in_ok-set_texts.ensures
    ∙ ap (λ l. map (λ set. encode_utf8_all (set_text l set)) c.sets.result.now.sets) c.kinds-2.ensures
    ∙ ap (map (λ set. encode_utf8_all (set_text c.args.checked.now.kinds set))) c.sets.ensures in
    ap (λ v. v.items) c.into_bytes.ensures.value
    ∙ c.in_ok-push_lines.ensures
    ∙ ap (λ l. l ++ lines_from (symbol_bytes S) 0 (map rule_form c.rules.result.now)) c.new-text.ensures.bytes
    ∙ ap (lines_from (symbol_bytes S) 0) c.rules.ensures
    ∙ lines_are S c.args.checked.now.kinds c.args.normal.now c.kinds.ensures c.names.ensures texts
