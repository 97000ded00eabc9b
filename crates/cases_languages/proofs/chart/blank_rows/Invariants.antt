use Rattle.cases_languages.specs.Positions.{AreRows, IsBlank}
use Rattle.cases_languages.proofs.chart.blank_rows.Given as goal

abbrev pub invariant-loop-rule : goal.invariant-loop-rule
invariant-loop-rule l = record { rows : AreRows l.rows.items l.rule l.count; blank : IsBlank l.rows.items }
