use Rattle.std.proofs.Common.{subst, sym}
use Rattle.std.specs.Prelude.{IsTrue}
use Rattle.std.specs.List.{Contains}
use Rattle.std.proofs.Common.{Bool}
use Rattle.chart_parser_ends.proofs.Rising.{search_has}
use Rattle.chart_parser_ends.proofs.positions.has.Goals as goal

pub returns : goal.returns
returns c =
    let P : Bool → Type 0 = λ b. (IsTrue b → Contains c.args.positions.now c.args.position) × (Contains c.args.positions.now c.args.position → IsTrue b) in
    subst P (sym c.is_ok.ensures.value) (search_has c.args.positions.now c.args.position c.binary_search.result c.binary_search.ensures.position c.requires)
