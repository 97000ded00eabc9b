use Rattle.std.proofs.Common.{◌≡◌, true, sym, subst}
use Rattle.normal_form.specs.declared.normal.Sym.{Sym}
use Rattle.normal_form_sets.proofs.Lent.{item_some}
use Rattle.chart_parser_ends.specs.inner.Firsts.{MayBeEmpty}
use Rattle.chart_parser_ends.proofs.FirstRows.{empty_by_row}
use Rattle.chart_parser_ends.proofs.firsts.may_be_empty.Goals as goal

pub returns-in-Some : goal.returns-in-Some
returns-in-Some c =
    let rows = c.args.rows.now in
    let row = c.in-Some.row.now in
    let there = item_some rows c.in-Rule.rule c.in-Some.row c.get.result c.in-Some.is c.get.ensures.lookup in
    let P : Sym → Type 0 = λ s. (row.empty ≡ true → MayBeEmpty rows s) × (MayBeEmpty rows s → row.empty ≡ true) in
    subst P (sym c.in-Rule.is) (empty_by_row rows c.in-Rule.rule row there)
