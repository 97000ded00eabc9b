use Rattle.std.proofs.Common.{◌≡◌, ◌+◌, ◌++◌, [], ◌∷◌, arith, length, subst, sym}
use Rattle.command_perses.specs.Workers.{AreNumbered}
use Rattle.command_perses.proofs.WorkerLemmas.{one_numbered}
use Rattle.command_perses.proofs.workers.add_worker.Goals as goal

pub returns-clause-numbered : goal.returns-clause-numbered
returns-clause-numbered g c =
    let old = c.args.workers.now.items in
    let is : c.len.result + 1 ≡ length old + 1 = omega (arith, c.len.ensures, c.args.workers.now.ok.0) in
    subst AreNumbered (sym c.in_ok-push.ensures.items)
    (subst (λ w. AreNumbered (old ++ w ∷ [])) (sym c.new.ensures) (one_numbered old c.args.gate (c.len.result + 1) c.requires.numbered is))
