use Rattle.std.proofs.Common.{arith}
use Rattle.token_print.proofs.Running.{stretch_is}
use Rattle.token_print.proofs.runs.stretch_end.Goals as goal

pub returns : goal.returns
returns c =
    let i = c.loop-end.invariant in
    stretch_is c.args.kept.now c.args.from c.loop-end.known c.loop-end.end c.requires.rise i.low
    (omega (arith, i.above, c.loop-end-test.false)) i.inside i.follow i.apart
