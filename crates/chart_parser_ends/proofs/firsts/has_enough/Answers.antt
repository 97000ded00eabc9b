use Rattle.std.proofs.Common.{◌≡◌, sym, ◌∙◌, subst}
use Rattle.normal_form.specs.View.{rule_form}
use Rattle.normal_form_sets.proofs.Lent.{item_some}
use Rattle.chart_parser_ends.specs.inner.Firsts.{Keeps}
use Rattle.chart_parser_ends.proofs.FirstRows.{covers_within, same_row}
use Rattle.chart_parser_ends.proofs.firsts.has_enough.Goals as goal

pub returns : goal.returns
returns c enough row at =
    let wanted = c.in_ok-wanted.wanted in
    let there = item_some c.args.rows.now c.args.number c.in-Some.row c.get.result c.in-Some.is c.get.ensures.lookup in
    let same : c.in-Some.row.now ≡ row = same_row c.in-Some.row.now row (sym there ∙ at) in
    covers_within c.args.normal.now c.args.rows.now (rule_form c.args.rule.now) wanted row
    (subst (Keeps wanted) same (c.is_within.ensures enough)) c.in_ok-wanted.ensures.covers
