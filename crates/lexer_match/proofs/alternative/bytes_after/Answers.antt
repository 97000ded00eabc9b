use Rattle.std.proofs.Common.{◌+◌, ap}
use Rattle.lexer_match.proofs.alternative.bytes_after.Goals as goal

pub returns : goal.returns
returns c = ap (λ n. c.args.read + n) c.len_utf8.ensures.len
