use Rattle.std.specs.Prelude.{take}
use Rattle.cert_check_texts.specs.inner.Reached.{AreWith, SomeOf}
use Rattle.cert_check_texts.specs.inner.Print.{LeadsToLater}
use Rattle.cert_check_texts.proofs.prints.Print.add_later_from.Given as goal

abbrev pub invariant-loop-first : goal.invariant-loop-first
invariant-loop-first l = AreWith l.fn.pairs.items (λ pair. SomeOf (take l.first-index l.firsts) (λ from. LeadsToLater l.self l.index from pair)) l.pairs.items
