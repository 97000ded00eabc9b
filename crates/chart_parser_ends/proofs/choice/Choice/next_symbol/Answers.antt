use Rattle.std.proofs.Common.{refl, rules}
use Rattle.chart_parser_ends.proofs.choice.Choice.next_symbol.Goals as goal

pub returns : goal.returns
returns c = record {
  symbol = refl;
  rule = refl;
  first = refl;
  alternative = refl;
  current = search rules;
  done = refl;
  next = search rules;
  ends = refl;
}
