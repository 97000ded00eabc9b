use Rattle.std.proofs.Common.{ℕ, List, subst}
use Rattle.keep_guard.specs.Keep.{keeps_admit}
use Rattle.reduce_step.specs.Plan.{MayAsk, Plan}
use Rattle.reduce_step.specs.declared.mode.TreeMode.TheVariants.{Perses}
use Rattle.reduce_trees_mode.specs.Input.{TreeInput}
use Rattle.reduce_trees_mode.specs.InputOf.{input_of}
use Rattle.run_problem.specs.Problem.{Problem}
use Rattle.cert_check.proofs.Setups.{found_of}
use Rattle.cert_check.proofs.check.perses_finding.Goals as goal

pub walk_finding-requires-clause-asks : goal.walk_finding-requires-clause-asks
walk_finding-requires-clause-asks g c = λ asked may.
    let parts = c.args.parts.now in
    let input : TreeInput =
    input_of parts.start.grammar parts.formed parts.tree parts.start.bytes parts.tokens.items.items (keeps_admit parts.guard) parts.squeezes in
    (c.requires.same asked).1 (c.reducers_ask_candidates.ensures input.admits (Problem.of_tree Perses input) c.is_input.ensures.is
    c.requires.kept asked (subst (λ (p : Plan). MayAsk p asked) c.in-Ok.ensures.first may))

pub returns-in-Ok : goal.returns-in-Ok
returns-in-Ok g c =
    let parts = c.args.parts.now in
    let input : TreeInput = input_of parts.start.grammar parts.formed parts.tree parts.start.bytes parts.tokens.items.items
    (keeps_admit parts.guard) parts.squeezes in
    let Is : List ℕ → Type 0 = λ t. g.C.Candidates.IsCandidate c.args.candidates.now t in
    found_of c.reducers_are_reductions.ensures input.admits (Problem.of_tree Perses input) c.is_input.ensures.is Is c.requires.same c.args.files.output.now
    c.args.files.journal.now.events.items 0 _ c.in-Ok.ensures.first c.walk_finding.result c.walk_finding.ensures
