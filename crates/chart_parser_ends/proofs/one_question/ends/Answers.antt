use Rattle.chart_parser_ends.proofs.Beginning.{ends_exact}
use Rattle.chart_parser_ends.proofs.one_question.ends.Goals as goal

pub returns : goal.returns
returns c =
    ends_exact c.args.normal.now c.args.kinds.now c.args.symbol c.args.first c.in_ok-chart.chart c.new-ends.result.items c.add_ends.new.positions.items
    c.in_ok-chart.ensures c.new-ends.ensures.items c.in_ok-add_ends.ensures.rising c.in_ok-add_ends.ensures.grown c.in_ok-add_ends.ensures.all
