use Rattle.std.proofs.Common.{◌+◌, List, refl, sym, true≢false, ◌∙◌, subst}
use Rattle.cases_languages.specs.Positions.{AddsRows}
use Rattle.cases_languages.specs.declared.chart.Row.{Row}
use Rattle.cases_languages.proofs.Pairs.{adds_more}
use Rattle.cases_languages.proofs.chart.add_blank_rows.Goals as goal

pub loop-start-preserved : goal.loop-start-preserved
loop-start-preserved c =
    let row : Row = record { rule = c.args.rule; start = c.loop-start.start; ends = c.in_ok-ends.ends } in
    let P : List Row → Type 0 = λ l. AddsRows c.args.rows.now.items l c.args.rule c.args.count (c.loop-start.start + 1) in
    subst P (sym c.in_ok-push.ensures.items)
    (adds_more c.args.rows.now.items c.loop-start.rows.items c.args.rule c.args.count c.loop-start.start row c.loop-start.invariant refl
    c.in_ok-ends.ensures.len refl c.loop-start-test.true
    (λ j h. true≢false (sym h ∙ c.in_ok-ends.ensures.none j)))
