use Rattle.std.proofs.Common.{refl}
use Rattle.chart_parser.proofs.KnownParts.{last_part}
use Rattle.chart_parser.proofs.known.add_last_part.Goals as goal

pub returns-clause-yes : goal.returns-clause-yes
returns-clause-yes c t = (
  _,
  c.in_ok-push.ensures.items,
  last_part c.args.chart.now.normal c.args.chart.now.kinds c.args.symbol c.args.part.first c.args.part.end _ refl refl refl
      (c.in_ok-reaches.ensures.answer.0 (c.if-not-branch.false)),
)
