use Rattle.chart_parser_ends.proofs.Linked.{none_linked}
use Rattle.chart_parser_ends.proofs.Numbered.{none_numbered}
use Rattle.chart_parser_ends.proofs.Pooled.{none_within}
use Rattle.chart_parser_ends.proofs.entries.Entries.new.Goals as goal

pub invariant_of-result : goal.invariant_of-result
invariant_of-result c = record {
  within = none_within c.new.result.items c.new-ranges.result.items c.new-ranges.ensures.items;
  linked = none_linked c.new-ranges.result.items c.new-last.result.items c.new-ranges.ensures.items c.new-last.ensures.items;
  numbered = none_numbered c.new-ranges.result.items c.new-numbers.result c.new-ranges.ensures.items c.new-numbers.ensures.empty;
}
