use Rattle.chart_parser_ends.proofs.Greatest.{cut_found, cut_missing}
use Rattle.chart_parser_ends.proofs.positions.count_to.Goals as goal

pub returns-in-Ok-clause-below : goal.returns-in-Ok-clause-below
returns-in-Ok-clause-below c =
    (cut_found c.args.positions.now c.args.last c.binary_search.result c.in-Ok.index c.binary_search.ensures.position c.requires c.in-Ok.is).1

pub returns-in-Ok-clause-above : goal.returns-in-Ok-clause-above
returns-in-Ok-clause-above c =
    (cut_found c.args.positions.now c.args.last c.binary_search.result c.in-Ok.index c.binary_search.ensures.position c.requires c.in-Ok.is).2

pub returns-in-Err-clause-below : goal.returns-in-Err-clause-below
returns-in-Err-clause-below c =
    (cut_missing c.args.positions.now c.args.last c.binary_search.result c.in-Err.index c.binary_search.ensures.position c.requires c.in-Err.is).1

pub returns-in-Err-clause-above : goal.returns-in-Err-clause-above
returns-in-Err-clause-above c =
    (cut_missing c.args.positions.now c.args.last c.binary_search.result c.in-Err.index c.binary_search.ensures.position c.requires c.in-Err.is).2
