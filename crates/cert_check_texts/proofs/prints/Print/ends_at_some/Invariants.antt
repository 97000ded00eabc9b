use Rattle.std.specs.Prelude.{All, Some, [], take}
use Rattle.cert_check_texts.specs.declared.reached.Reached.{Reached}
use Rattle.cert_check_texts.specs.inner.Print.{CanEnd}
use Rattle.cert_check_texts.proofs.prints.Print.ends_at_some.Given as goal

abbrev pub invariant-loop-pair : goal.invariant-loop-pair
invariant-loop-pair l = All (λ (pair : Reached). ¬ CanEnd l.self (Some pair.last) pair.offset []) (take l.pair-index l.pairs)
