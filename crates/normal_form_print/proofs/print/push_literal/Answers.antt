use Rattle.std.proofs.Common.{◌++◌, ap, ◌∙◌, string_bytes}
use Rattle.normal_form_print.proofs.PrintLemmas.{quoted}
use Rattle.normal_form_print.proofs.print.push_literal.Goals as goal

pub returns : goal.returns
returns c =
    quoted (string_bytes c.args.text.now) (string_bytes c.in_ok-printed.printed) (string_bytes c.push_str.new.self) c.args.literal.now
    c.in_ok-printed.ensures.ok (c.in_ok-push_str.ensures.bytes ∙ ap (λ l. string_bytes c.args.text.now ++ l) c.as_str.ensures.value)
