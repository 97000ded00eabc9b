use Rattle.std.proofs.Common.{None, arith}
use Rattle.std.proofs.lemmas.Str.Pattern.{split_once_first}
use Rattle.command_words.proofs.Spans.{no_hyphen}
use Rattle.command_words.proofs.values.read_span.Goals as goal

pub returns-in_err-first : goal.returns-in_err-first
returns-in_err-first c =
    let none = split_once_first 45 c.args.text.now None c.in_err-first.ensures.cases (omega arith) in
    rw c.from_residual.ensures (no_hyphen c.args.text.now none)
