use Rattle.std.proofs.Common.{◌≡◌, ℕ, true, List, arith, subst, sym}
use Rattle.command_words.specs.Options.{is_decimal}
use Rattle.command_words.proofs.Numbers.{not_parsed}
use Rattle.command_words.proofs.values.read_number.Goals as goal

pub returns-in-Err-clause-value : goal.returns-in-Err-clause-value
returns-in-Err-clause-value c =
    not_parsed c.args.least c.args.most c.args.text.now (subst (λ (t : List ℕ). is_decimal t ≡ true) c.as_bytes.ensures.value (sym c.if-not-is_decimal.ensures))
    (omega arith) c.in-Err.ensures.value.0
