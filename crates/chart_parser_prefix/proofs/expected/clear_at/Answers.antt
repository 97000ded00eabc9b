use Rattle.chart_parser_prefix.proofs.Growing.{let_go}
use Rattle.chart_parser_prefix.proofs.expected.clear_at.Goals as goal

pub returns : goal.returns
returns c = let_go c.args.lists.now.items c.args.position c.new.result c.requires c.new.ensures.items
