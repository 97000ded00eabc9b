use Rattle.std.proofs.Common.{List, arith, refl, subst, sym}
use Rattle.std.specs.List.{Contains}
use Rattle.cert_check_texts.specs.declared.reached.Reached.{Reached}
use Rattle.cert_check_texts.proofs.Members.{none_in}
use Rattle.cert_check_texts.proofs.prints.Print.few_after.Goals as goal

pub few_after_from-requires-clause-among : goal.few_after_from-requires-clause-among
few_after_from-requires-clause-among c =
    subst (λ (l : List Reached). Contains l c.in-Some.first.now) (sym c.in-Some.ensures.cases.0) (0, omega arith, refl)

pub returns-in-None : goal.returns-in-None
returns-in-None c = λ pair at. absurd (none_in pair (subst (λ (l : List Reached). Contains l pair) c.new.ensures.items at))
