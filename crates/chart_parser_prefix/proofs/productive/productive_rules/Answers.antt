use Rattle.chart_parser_prefix.proofs.Producing.{are_productive}
use Rattle.chart_parser_prefix.proofs.productive.productive_rules.Goals as goal

pub returns : goal.returns
returns c = are_productive c.args.normal.now c.in_ok-flags.flags.items c.in_ok-flags.ensures.marked c.in_ok-flags.ensures.closed
