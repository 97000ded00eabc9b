-- What a chart's table has, as contracts see it.
use Rattle.std.specs.Prelude.{ℕ, List, refl}
use Rattle.std.specs.Coded.{Coded, code_by, coded×, coded_ℕ, coded_list}
use Rattle.chart_parser_ends.specs.Input.{ChartInput}
use Rattle.chart_parser_ends.specs.inner.Entries.{Entry}
use Rattle.chart_parser_ends.specs.inner.Input.{input_coded}

-- What it is for, and the entries that were worked out.
pub record Filled : Type 0 where
  pub input : ChartInput
  pub entries : List Entry

abbrev pub entry_coded : Coded Entry
entry_coded =
    code_by (ℕ × (ℕ × List ℕ)) (coded× coded_ℕ (coded× coded_ℕ (coded_list coded_ℕ))) (λ e. (e.rule, (e.first, e.ends)))
    (λ p. record { rule = p.0; first = p.1.0; ends = p.1.1 }) (λ _. refl)

abbrev pub filled_coded : Coded Filled
filled_coded =
    code_by (ChartInput × List Entry) (coded× input_coded (coded_list entry_coded)) (λ f. (f.input, f.entries)) (λ p. record { input = p.0; entries = p.1 })
    (λ _. refl)
