use Rattle.cases_languages.specs.Positions.{AddsRows}
use Rattle.cases_languages.proofs.Pairs.{rows_more, blank_more}
use Rattle.cases_languages.proofs.chart.blank_rows.Goals as goal

pub loop-rule-preserved : goal.loop-rule-preserved
loop-rule-preserved c =
    let a : AddsRows c.loop-rule.rows.items c.add_blank_rows.new.rows.items c.loop-rule.rule c.args.count c.args.count = c.in_ok-add_blank_rows.ensures in
    record {
      rows = rows_more c.loop-rule.rows.items c.add_blank_rows.new.rows.items c.loop-rule.rule c.args.count c.loop-rule.invariant.rows a;
      blank = blank_more c.loop-rule.rows.items c.add_blank_rows.new.rows.items c.loop-rule.rule c.args.count c.loop-rule.invariant.blank a;
    }
