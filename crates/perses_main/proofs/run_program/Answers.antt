use Rattle.std.proofs.Common.{◌∙◌, length, sym, ap, subst}
use Rattle.command_perses.specs.Workers.{AreNumbered}
use Rattle.command_perses.proofs.Lent.{sixteen_idle}
use Rattle.perses_main.proofs.run_program.Goals as goal

pub perses-ended-requires-clause-idle : goal.perses-ended-requires-clause-idle
perses-ended-requires-clause-idle g c κs within =
    let same = c.deref_mut.ensures.value in
    sixteen_idle c.deref_mut.result.now (subst AreNumbered (sym same) c.in_ok-workers.ensures.numbered) (ap length same ∙ c.in_ok-workers.ensures.all)
