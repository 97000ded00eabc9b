use Rattle.std.specs.Prelude.{take}
use Rattle.cert_check_texts.specs.inner.Reached.{AreFirst}
use Rattle.cert_check_texts.proofs.reached.first_pairs.Given as goal

abbrev pub invariant-loop-pair : goal.invariant-loop-pair
invariant-loop-pair l = AreFirst (take l.pair-index l.pairs) l.firsts.items
