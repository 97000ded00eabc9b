use Rattle.std.proofs.Common.{◌+◌, ◌-◌, eqb-true, length, slice_index, arith}
use Rattle.token_print.proofs.SpelledNext.{is_range}
use Rattle.token_print.proofs.joins.is_range.Goals as goal

pub returns : goal.returns
returns c t =
    let numbers = c.args.numbers.now in
    let last = length numbers - 1 in
    is_range numbers c.args.first c.requires (omega arith) (eqb-true (slice_index numbers last) (c.args.first + last) t)
