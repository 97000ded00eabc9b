use Rattle.std.proofs.Common.{ℕ, List, subst}
use Rattle.keep_guard.specs.Keep.{keeps_admit}
use Rattle.reduce_step.specs.Plan.{MayAsk, Plan}
use Rattle.run_problem.specs.Problem.{Problem}
use Rattle.cert_check.proofs.Setups.{found_of}
use Rattle.cert_check.proofs.check.guarded_finding.Goals as goal

pub finding_of-requires-clause-asks : goal.finding_of-requires-clause-asks
finding_of-requires-clause-asks g c = λ asked may.
    (c.requires.same asked).1 (c.reducers_ask_candidates.ensures (keeps_admit c.args.guard.now) (Problem.of_lines c.args.start.now) tt c.requires.kept asked
    (subst (λ (p : Plan). MayAsk p asked) c.in_ok-reducer.ensures.first may))

pub returns : goal.returns
returns g c =
    let Is : List ℕ → Type 0 = λ t. g.C.Candidates.IsCandidate c.args.candidates.now t in
    found_of c.reducers_are_reductions.ensures (keeps_admit c.args.guard.now) (Problem.of_lines c.args.start.now) tt Is c.requires.same c.args.files.output.now
    c.args.files.journal.now.events.items 0 _ c.in_ok-reducer.ensures.first c.finding_of.result c.finding_of.ensures
