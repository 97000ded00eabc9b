use Rattle.std.specs.Prelude.{[], take}
use Rattle.cert_check_texts.specs.inner.Reached.{AreWith, SomeOf}
use Rattle.cert_check_texts.specs.inner.Print.{LeadsToLater}
use Rattle.cert_check_texts.proofs.prints.Print.after_later_token.Given as goal

abbrev pub invariant-loop-index : goal.invariant-loop-index
invariant-loop-index l =
    AreWith [] (λ pair. SomeOf (take l.index-index l.equal) (λ index. SomeOf l.firsts (λ from. LeadsToLater l.self index from pair)))
    l.later.items
