-- What a chart is for.
use Rattle.std.specs.Prelude.{ℕ, List}
use Rattle.normal_form.specs.Form.{NormalForm}

-- A normal form and a list of kinds.
pub record ChartInput : Type 0 where
  pub normal : NormalForm
  pub kinds : List ℕ
