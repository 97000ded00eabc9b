use Rattle.chart_parser_ends.proofs.Linked.{IsOnChain}
use Rattle.chart_parser_ends.proofs.entries.chained.Given as goal

abbrev pub invariant-loop-link : goal.invariant-loop-link
invariant-loop-link l = IsOnChain l.ranges l.rule l.first l.link

abbrev pub decreases-loop-link : goal.decreases-loop-link
decreases-loop-link l = l.link
