use Rattle.std.proofs.Common.{List, arith, get_or, refl, subst, ℕ}
use Rattle.chart_parser_prefix.proofs.Growing.{contains_none, each_more, grown_none}
use Rattle.chart_parser_prefix.specs.inner.Walk.{ExpectsAll, IsAtOneOf, IsGrownBy}
use Rattle.std.proofs.lemmas.List.{take_all}
use Rattle.std.proofs.lemmas.List.Elements.{Contains-get_or}
use Rattle.chart_parser_prefix.proofs.expected.add_at_each.Goals as goal

pub loop-position-init : goal.loop-position-init
loop-position-init c = (grown_none c.args.lists.now.items, λ s m h. absurd (contains_none m h.1))

pub add_at-requires : goal.add_at-requires
add_at-requires c =
    let i = c.loop-position.position-index in
    let positions = c.args.positions.now in
    omega (arith, c.loop-position.invariant.0.count, c.requires (get_or positions i 0) (Contains-get_or positions i 0 c.loop-position-test.true))

pub loop-position-preserved : goal.loop-position-preserved
loop-position-preserved c =
    let i = c.loop-position.position-index in
    let positions = c.args.positions.now in
    each_more c.args.symbol positions i (get_or positions i 0) c.args.lists.now.items c.loop-position.lists.items c.add_at.new.lists.items
    c.loop-position-test.true refl c.loop-position.invariant.0 c.loop-position.invariant.1 c.in_ok-add_at.ensures.grown c.in_ok-add_at.ensures.all

pub returns-clause-grown : goal.returns-clause-grown
returns-clause-grown c =
    subst (λ (l : List ℕ). IsGrownBy (IsAtOneOf c.args.symbol l) c.args.lists.now.items c.loop-position.lists.items)
    (take_all c.loop-position.position-index c.args.positions.now c.loop-position-test.false) c.loop-position.invariant.0

pub returns-clause-all : goal.returns-clause-all
returns-clause-all c =
    subst (λ (l : List ℕ). ExpectsAll (IsAtOneOf c.args.symbol l) c.loop-position.lists.items)
    (take_all c.loop-position.position-index c.args.positions.now c.loop-position-test.false) c.loop-position.invariant.1
