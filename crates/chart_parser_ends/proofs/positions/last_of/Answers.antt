use Rattle.std.proofs.Common.{◌≡◌, ◌+◌, ◌-◌, length, true, false, sym, ◌∙◌, subst, arith}
use Rattle.std.specs.List.{Contains}
use Rattle.chart_parser_ends.proofs.Greatest.{NoneAfter, greatest_at, none_at_all, none_more}
use Rattle.chart_parser_ends.proofs.positions.last_of.Goals as goal

false_true : false ≡ true → ⊥
false_true e = absurd (cc)

pub returns-then-has : goal.returns-then-has
returns-then-has c =
    let n = length c.args.positions.now in
    greatest_at (Contains c.args.others.now) c.args.positions.now (n - c.loop-later.later) (n - 1 - c.loop-later.later) c.requires.positions
    (omega (arith, c.loop-later-test.true)) (omega arith) (c.has.ensures.0 c.if-has.true) c.loop-later.invariant

pub loop-later-preserved : goal.loop-later-preserved
loop-later-preserved c =
    let xs = c.args.positions.now in
    let P = Contains c.args.others.now in
    let m = length xs - 1 - c.loop-later.later in
    let same : m ≡ length xs - (c.loop-later.later + 1) = omega arith in
    subst (NoneAfter P xs) same (none_more P xs (length xs - c.loop-later.later) m (omega (arith, c.loop-later-test.true))
    (λ h. false_true (sym c.if-has.false ∙ c.has.ensures.1 h)) c.loop-later.invariant)

pub returns : goal.returns
returns c =
    let xs = c.args.positions.now in
    let none : length xs - c.loop-later.later ≡ 0 = omega (arith, c.loop-later-test.false) in
    none_at_all (Contains c.args.others.now) xs (subst (NoneAfter (Contains c.args.others.now) xs) none c.loop-later.invariant)
