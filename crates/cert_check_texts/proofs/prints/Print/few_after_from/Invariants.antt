use Rattle.cert_check_texts.specs.inner.Print.{AreSomeAfter}
use Rattle.cert_check_texts.proofs.prints.Print.few_after_from.Given as goal

abbrev pub invariant-loop-step : goal.invariant-loop-step
invariant-loop-step l = AreSomeAfter l.self l.reached l.spelling l.pairs.items
