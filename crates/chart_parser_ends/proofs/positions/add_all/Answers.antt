use Rattle.std.proofs.Common.{subst, refl, get_or}
use Rattle.std.specs.List.{Contains}
use Rattle.std.proofs.lemmas.List.Elements.{Contains-get_or}
use Rattle.std.proofs.lemmas.List.{take_all}
use Rattle.chart_parser_ends.specs.Positions.{HasAll}
use Rattle.chart_parser_ends.proofs.Rising.{grown_one, all_more}
use Rattle.chart_parser_ends.proofs.positions.add_all.Goals as goal

pub loop-position-preserved : goal.loop-position-preserved
loop-position-preserved c =
    let i = c.loop-position.position-index in
    let y = get_or c.args.more.now i 0 in
    let w = c.in_ok-add.ensures.with in (
      c.in_ok-add.ensures.rising,
      grown_one (Contains c.args.more.now) c.args.positions.now.items c.loop-position.positions.items c.add.new.positions.items y
          (Contains-get_or c.args.more.now i 0 c.loop-position-test.true) c.loop-position.invariant.1 w,
      all_more c.args.more.now c.loop-position.positions.items i y c.add.new.positions.items c.loop-position-test.true refl c.loop-position.invariant.2 w,
    )

pub returns-clause-all : goal.returns-clause-all
returns-clause-all c =
    subst (λ l. HasAll (Contains l) c.loop-position.positions.items)
    (take_all c.loop-position.position-index c.args.more.now c.loop-position-test.false) c.loop-position.invariant.2
