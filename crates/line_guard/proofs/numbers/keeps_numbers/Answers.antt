use Rattle.std.proofs.Common.{◌∙◌, arith}
use Rattle.line_guard.proofs.NumberLemmas.{passes-end, passes-is}
use Rattle.line_guard.proofs.numbers.keeps_numbers.Goals as goal

pub loop-number-init : goal.loop-number-init
loop-number-init c = record { within = omega arith; pass = passes-is c.args.kept.now c.args.must.now c.requires.kept c.requires.must }

pub returns : goal.returns
returns c =
    passes-end c.args.kept.now c.args.must.now c.loop-number.number-index c.loop-number.found (omega arith) c.loop-number.invariant.within
    ∙ c.loop-number.invariant.pass
