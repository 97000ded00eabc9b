use Rattle.std.proofs.Common.{List, [], subst, sym, take}
use Rattle.std.proofs.lemmas.List.{take_all, take_more}
use Rattle.cert_check_texts.specs.declared.reached.Reached.{Reached}
use Rattle.cert_check_texts.specs.inner.Reached.{AreFirst}
use Rattle.cert_check_texts.proofs.Firsts.{none_first}
use Rattle.cert_check_texts.proofs.reached.first_pairs.Goals as goal

pub loop-pair-init : goal.loop-pair-init
loop-pair-init c = subst (AreFirst []) (sym c.new-firsts.ensures.items) none_first

pub loop-pair-preserved : goal.loop-pair-preserved
loop-pair-preserved c =
    subst (λ (l : List Reached). AreFirst l c.add_first.new.firsts.items) (sym (take_more c.args.pairs.now c.loop-pair.pair-index _ c.loop-pair-test.true))
    (c.in_ok-add_first.ensures (take c.loop-pair.pair-index c.args.pairs.now) c.loop-pair.invariant)

pub returns : goal.returns
returns c =
    subst (λ (l : List Reached). AreFirst l c.loop-pair.firsts.items)
    (take_all c.loop-pair.pair-index c.args.pairs.now c.loop-pair-test.false) c.loop-pair.invariant
