use Rattle.chart_parser_ends.proofs.Greatest.{cut_off}
use Rattle.chart_parser_ends.proofs.positions.up_to.Goals as goal

pub returns : goal.returns
returns c =
    cut_off c.args.positions.now c.args.last c.count_to-count.result
    (c.count_to-count.ensures.bound, c.count_to-count.ensures.below, c.count_to-count.ensures.above)
