use Rattle.std.proofs.Common.{sym, subst}
use Rattle.std.specs.List.{Contains}
use Rattle.chart_parser_ends.specs.declared.entries.EndsRange.{EndsRange}
use Rattle.chart_parser_ends.specs.inner.Entries.{HasEntry}
use Rattle.chart_parser_ends.specs.inner.Ranges.{IsRangeOf}
use Rattle.chart_parser_ends.proofs.Linked.{no_entry}
use Rattle.chart_parser_ends.proofs.entries.Entries.find.Goals as goal

pub returns-in-None-clause-none : goal.returns-in-None-clause-none
returns-in-None-clause-none c has =
    let rule = c.args.rule in
    let first = c.args.first in
    let none = subst (λ rs. (r : EndsRange) → Contains rs r → ¬ IsRangeOf rule first r) c.deref.ensures.value c.in-None.ensures.none in
    no_entry c.self.inside.ends.items c.self.inside.ranges.items rule first none (subst (λ es. HasEntry es rule first) (sym c.self.view_is) has)
