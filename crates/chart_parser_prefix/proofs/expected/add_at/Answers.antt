use Rattle.chart_parser_prefix.proofs.Growing.{added_at}
use Rattle.chart_parser_prefix.proofs.expected.add_at.Goals as goal

pub returns-clause-grown : goal.returns-clause-grown
returns-clause-grown c =
    (added_at c.args.lists.now.items c.args.position c.args.symbol c.index_mut.result.now c.add.new.symbols c.requires c.index_mut.ensures.value
    c.in_ok-add.ensures).0

pub returns-clause-all : goal.returns-clause-all
returns-clause-all c =
    (added_at c.args.lists.now.items c.args.position c.args.symbol c.index_mut.result.now c.add.new.symbols c.requires c.index_mut.ensures.value
    c.in_ok-add.ensures).1
