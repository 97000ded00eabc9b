use Rattle.std.proofs.Common.{◌≡◌, ◌+◌, ◌-◌, eqb-true, slice_index, ap, arith}
use Rattle.token_print.proofs.Running.{climb}
use Rattle.token_print.proofs.runs.follow.Goals as goal

pub overflow_sub-result : goal.overflow_sub-result
overflow_sub-result c =
    let kept = c.args.kept.now in
    let last : c.args.from + (c.args.to - c.args.from) ≡ c.args.to = omega (arith, c.requires.order) in
    omega (arith, climb kept c.requires.rise (c.args.to - c.args.from) c.args.from (omega (arith, last, c.requires.inside)), ap (slice_index kept) last)

pub returns-clause-yes : goal.returns-clause-yes
returns-clause-yes c t =
    let kept = c.args.kept.now in
    let last : c.args.from + (c.args.to - c.args.from) ≡ c.args.to = omega (arith, c.requires.order) in
    let same = eqb-true (slice_index kept c.args.to - slice_index kept c.args.from) (c.args.to - c.args.from) t in
    omega (arith, same, climb kept c.requires.rise (c.args.to - c.args.from) c.args.from (omega (arith, last, c.requires.inside)), ap (slice_index kept) last)
