use Rattle.std.specs.Prelude.{[], take}
use Rattle.cert_check_texts.specs.inner.Reached.{AreWith, SomeOf}
use Rattle.cert_check_texts.specs.inner.Print.{LeadsToNext}
use Rattle.cert_check_texts.proofs.prints.Print.after_next_token.Given as goal

abbrev pub invariant-loop-from : goal.invariant-loop-from
invariant-loop-from l = AreWith [] (λ pair. SomeOf (take l.from-index l.reached) (λ from. LeadsToNext l.self l.spelling from pair)) l.next.items
