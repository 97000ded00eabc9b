use Rattle.std.specs.Prelude.{[], None, take}
use Rattle.cert_check_texts.specs.inner.Reached.{AreWith, SomeOf}
use Rattle.cert_check_texts.specs.inner.Print.{LeadsTo}
use Rattle.cert_check_texts.proofs.prints.Print.after_first_token.Given as goal

abbrev pub invariant-loop-index : goal.invariant-loop-index
invariant-loop-index l =
    AreWith [] (λ pair. SomeOf (take l.index-index l.equal) (λ index. LeadsTo l.self None 0 index pair)) l.first.items
