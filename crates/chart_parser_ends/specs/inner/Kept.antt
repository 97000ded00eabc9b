-- What a chart keeps.
use Rattle.std.specs.Prelude.{ℕ, ◌<◌, ◌^◌, List, length}
use Rattle.std.specs.List.{All}
use Rattle.normal_form.specs.Form.{NormalForm}
use Rattle.chart_parser_ends.specs.declared.firsts.FirstRow.{FirstRow}
use Rattle.chart_parser_ends.specs.inner.Entries.{Entry}
use Rattle.chart_parser_ends.specs.inner.Exact.{IsExact}
use Rattle.chart_parser_ends.specs.inner.Firsts.{AreFirsts}
use Rattle.chart_parser_ends.specs.inner.Positions.{ArePositionsTo}

-- What is kept for a normal form and a list of kinds: each position, exact entries, and how rules begin.
pub record IsChartOf (N : NormalForm) (kinds positions : List ℕ) (entries : List Entry) (firsts : List FirstRow) : Type 0 where
  pub few : length kinds < 2 ^ 32
  pub positions_are : ArePositionsTo (length kinds) positions
  pub exact : All (IsExact N kinds) entries
  pub firsts_are : AreFirsts N firsts
