use Rattle.command_perses.proofs.Lent.{sixteen_idle}
use Rattle.cases_calls.proofs.run.run_over.Goals as goal

pub perses-ended-requires-clause-idle : goal.perses-ended-requires-clause-idle
perses-ended-requires-clause-idle g c κs within = sixteen_idle c.args.workers.now c.requires.numbered c.requires.sixteen
