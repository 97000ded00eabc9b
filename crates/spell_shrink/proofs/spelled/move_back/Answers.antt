use Rattle.std.proofs.Common.{inl, inr, arith}
use Rattle.spell_shrink.proofs.Moves.{moved_more, none_moved}
use Rattle.spell_shrink.proofs.spelled.move_back.Goals as goal

pub loop-k-init : goal.loop-k-init
loop-k-init c = none_moved c.args.places.now c.args.index c.args.lost

-- what is lost comes before it
pub overflow_sub-places : goal.overflow_sub-places
overflow_sub-places c =
    let far = c.requires.enough c.loop-k.k (omega arith) (omega (arith, c.loop-k-test.true, c.loop-k.auto.places)) in
    omega (arith, c.loop-k.invariant.others c.loop-k.k (inr (omega arith)), far)

pub loop-k-preserved : goal.loop-k-preserved
loop-k-preserved c =
    moved_more c.args.places.now c.loop-k.places c.args.index c.args.lost c.loop-k.k (omega arith) (omega (arith, c.loop-k-test.true))
    c.loop-k.invariant

pub returns-clause-before : goal.returns-clause-before
returns-clause-before c = λ j low within. c.loop-k.invariant.others j (inl low)

pub returns-clause-after : goal.returns-clause-after
returns-clause-after c = λ j after within. c.loop-k.invariant.moved j after (omega (arith, within, c.loop-k-test.false, c.loop-k.auto.places))
