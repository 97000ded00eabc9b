use Rattle.std.proofs.Common.{◌∙◌, ap, arith, length, map}
use Rattle.std.proofs.lemmas.List.{take_all}
use Rattle.reduce_core.specs.Lines.{lines_of, numbered_lines}
use Rattle.line_guard.specs.Protected.{is_protected}
use Rattle.line_guard.proofs.EndsLemmas.{length-ends}
use Rattle.line_guard.proofs.FlagLemmas.{flag-more, length-numbered}
use Rattle.line_guard.proofs.protected.line_flags.Goals as goal

pub loop-at-preserved : goal.loop-at-preserved
loop-at-preserved c =
    c.in_ok-push.ensures.items
    ∙ flag-more (is_protected c.args.wishes.now) c.args.start.now c.loop-at.flags.items c.loop-at.at c.bytes_of-line.result.now c.is_protected.result
    c.loop-at.invariant c.bytes_of-line.ensures c.is_protected.ensures

pub returns : goal.returns
returns c =
    let lines = lines_of c.args.start.now in
    let long = length-numbered 0 lines in
    let ends = length-ends 0 lines in
    let indexed = ap length c.requires in
    c.loop-at.invariant
    ∙ ap (λ l. map (is_protected c.args.wishes.now) l) (take_all c.loop-at.at (numbered_lines c.args.start.now) (omega (arith, long, ends, indexed)))
