use Rattle.std.proofs.Common.{Bool, List, subst}
use Rattle.cases_languages.specs.Positions.{AreEnds, Known, SpansBy}
use Rattle.cases_languages.specs.View.{pattern}
use Rattle.cases_languages.proofs.Marks.{from_first}
use Rattle.cases_languages.proofs.chart.ends_from_start.Goals as goal

pub returns-clause-ends : goal.returns-clause-ends
returns-clause-ends c =
    let p = pattern c.args.whole.now in
    let Q : List Bool → Type 0 = λ z. AreEnds (Known c.args.rows.now) c.args.list.now p z c.in_ok-ends.ends.items in
    from_first (SpansBy (Known c.args.rows.now) c.args.list.now p) c.in_ok-from.from.items c.in_ok-ends.ends.items c.in_ok-from.ensures.only
    (subst Q c.deref.ensures.value c.in_ok-ends.ensures.ends)
