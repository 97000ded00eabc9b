use Rattle.std.proofs.Common.{refl}
use Rattle.cert_check_texts.proofs.prints.Print.ends_from.Goals as goal

pub returns-then-by_few : goal.returns-then-by_few
returns-then-by_few c = (λ is. (rw c.deref.ensures.value at c.in_ok-by_few.ensures) c.if-by_few.true, λ some. refl)
