use Rattle.std.proofs.lemmas.Result.{IfOk-weaker}
use Rattle.cert_check.specs.Findings.{head_in}
use Rattle.cert_check.specs.Setup.{admits_in}
use Rattle.cert_check.proofs.Setups.{found_everywhere, reduction_of_yes, yes_of_run}
use Rattle.cert_check.proofs.check.check_run.Goals as goal

pub returns-clause-problem : goal.returns-clause-problem
returns-clause-problem c = IfOk-weaker c.finding.result _ _ (λ finding it. (it.0, it.1)) c.finding.ensures

pub returns-clause-finding : goal.returns-clause-finding
returns-clause-finding c =
    let journal = c.args.journal.now in
    IfOk-weaker c.finding.result _ _ (found_everywhere c.inputs_are_one.ensures c.args.setup.now c.args.output.now (head_in journal) journal.events.items
    journal.torn) c.finding.ensures

pub returns-clause-reduction : goal.returns-clause-reduction
returns-clause-reduction c =
    let journal = c.args.journal.now in
    IfOk-weaker c.finding.result _ _ (λ finding it problem is answer.
    reduction_of_yes c.confirmed_are_reductions.ensures c.args.setup.now problem c.requires is c.args.output.now (head_in journal) journal.events.items
    journal.torn finding
    (found_everywhere c.inputs_are_one.ensures c.args.setup.now c.args.output.now (head_in journal) journal.events.items journal.torn finding it problem is)
    answer) c.finding.ensures

pub returns-clause-finished : goal.returns-clause-finished
returns-clause-finished c =
    let journal = c.args.journal.now in
    IfOk-weaker c.finding.result _ _ (λ finding it problem is whole of_start run.
    yes_of_run c.one_is_found.ensures c.finished_runs_are_confirmed.ensures
    (admits_in c.args.setup.now) problem c.args.output.now (head_in journal) journal.events.items journal.torn finding
    (found_everywhere c.inputs_are_one.ensures c.args.setup.now c.args.output.now (head_in journal) journal.events.items journal.torn finding it problem is)
    whole of_start run) c.finding.ensures
