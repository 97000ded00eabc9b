use Rattle.std.proofs.Common.{Option, None, subst, arith}
use Rattle.token_print.specs.declared.runs.Run.{Run}
use Rattle.token_print.specs.inner.Ahead.{IsCurrent}
use Rattle.token_print.specs.inner.Joins.{runs_of}
use Rattle.token_print.proofs.AheadRuns.{current_copy, not_carried}
use Rattle.token_print.proofs.Reading.{carried_in_some}
use Rattle.token_print.proofs.joins.Joins.carried_in.Goals as goal

pub carried-requires-clause-room : goal.carried-requires-clause-room
carried-requires-clause-room c =
    let j = c.args.self.now in
    let P : Option Run → Type 0 = λ o. IsCurrent (runs_of j) c.args.at o in
    let copy =
    current_copy j.pieces.now.items.items c.args.at j.layout.start.now j.text.now c.in-Some.run' (runs_of j) c.requires.copied
    (subst P c.in-Some.is c.requires.current) in
    omega (arith, copy.rises, copy.within)

pub returns-in-Some : goal.returns-in-Some
returns-in-Some c =
    let j = c.args.self.now in
    let P : Option Run → Type 0 = λ o. IsCurrent (runs_of j) c.args.at o in
    carried_in_some j c.args.at c.in-Some.run' c.requires.copied (subst P c.in-Some.is c.requires.current) c.carried.result c.carried.ensures

pub returns-in-None : goal.returns-in-None
returns-in-None c =
    let j = c.args.self.now in
    let P : Option Run → Type 0 = λ o. IsCurrent (runs_of j) c.args.at o in
    not_carried j.pieces.now.items.items c.args.at j.layout.start.now j.text.now None (runs_of j) c.requires.copied (subst P c.in-None.is c.requires.current) tt
