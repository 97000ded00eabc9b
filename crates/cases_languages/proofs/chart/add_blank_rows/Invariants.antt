use Rattle.cases_languages.specs.Positions.{AddsRows}
use Rattle.cases_languages.proofs.chart.add_blank_rows.Given as goal

abbrev pub invariant-loop-start : goal.invariant-loop-start
invariant-loop-start l = AddsRows l.initial.rows.items l.rows.items l.rule l.count l.start
