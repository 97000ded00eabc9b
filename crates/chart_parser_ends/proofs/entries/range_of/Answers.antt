use Rattle.chart_parser_ends.proofs.Numbered.{in_neither}
use Rattle.chart_parser_ends.proofs.entries.range_of.Goals as goal

pub returns-in-None-clause-none : goal.returns-in-None-clause-none
returns-in-None-clause-none c = in_neither c.args.ranges.now c.args.rule c.args.first c.numbered.result c.in-None.ensures.none c.numbered.ensures.none
