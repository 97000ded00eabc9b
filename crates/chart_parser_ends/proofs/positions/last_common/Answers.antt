use Rattle.chart_parser_ends.proofs.Greatest.{last_turned}
use Rattle.chart_parser_ends.proofs.positions.last_common.Goals as goal

pub returns-then-positions-others : goal.returns-then-positions-others
returns-then-positions-others c = last_turned c.args.positions.now c.args.others.now c.last_of.result c.last_of.ensures
