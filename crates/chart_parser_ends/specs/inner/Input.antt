-- Beside `../Input.antt`: what private functions and proofs need.
use Rattle.std.specs.Prelude.{ℕ, List, refl}
use Rattle.std.specs.Coded.{Coded, code_by, coded×, coded_ℕ, coded_list}
use Rattle.normal_form.specs.Form.{NormalForm}
use Rattle.normal_form.specs.inner.Code.{normal_coded}
use Rattle.chart_parser_ends.specs.Input.{ChartInput}

abbrev pub input_coded : Coded ChartInput
input_coded =
    code_by (NormalForm × List ℕ) (coded× normal_coded (coded_list coded_ℕ)) (λ c. (c.normal, c.kinds)) (λ p. record { normal = p.0; kinds = p.1 }) (λ _. refl)
