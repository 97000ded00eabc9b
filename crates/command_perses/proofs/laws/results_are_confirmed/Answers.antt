use Rattle.command_perses.proofs.ConfirmedLemmas.{results_are_confirmed}
use Rattle.command_perses.proofs.laws.results_are_confirmed.Goals as goal

pub returns : goal.returns
returns g c = results_are_confirmed c.nothing_is_protected.ensures c.finished_runs_are_confirmed.ensures g.G.Gate.may_say
