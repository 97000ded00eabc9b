use Rattle.std.proofs.Common.{ap, refl, sym, subst}
use Rattle.reduce_trees_mode.specs.Input.{TreeInput}
use Rattle.reduce_trees_mode.specs.InputOf.{input_of}
use Rattle.reduce_step.specs.declared.mode.TreeMode.{TreeMode}
use Rattle.reduce_step.specs.declared.mode.TreeMode.TheVariants.{Hdd, Perses}
use Rattle.run_gated.specs.Seen.{reached}
use Rattle.run_gated.specs.Run.{Run, run_of}
use Rattle.run_problem.specs.Problem.{Problem}
use Rattle.run_problem.specs.Ends.{IsRunOf}
use Rattle.run_problem.proofs.ModeLemmas.{admitted, refused_of, refused_sound, tree_run}
use Rattle.run_problem.proofs.run.tree_result.Goals as goal

pub returns-in-Err-clause-sound : goal.returns-in-Err-clause-sound
returns-in-Err-clause-sound g c =
    let run : Run =
    run_of g.G.Gate.log g.G.Gate.faults g.J.Sink.put_so_far g.J.Sink.faults c.args.workers.now c.args.workers.now c.args.journal c.args.known
    c.refused.result in
    refused_sound run c.refused.ensures.events c.refused.ensures.outcome
    (ap (reached g.G.Gate.log g.G.Gate.faults g.J.Sink.put_so_far g.J.Sink.faults c.args.workers.now) c.refused.ensures.journal) g.G.Gate.may_say

pub returns-in-Err-clause-problem : goal.returns-in-Err-clause-problem
returns-in-Err-clause-problem g c =
    let run : Run = run_of g.G.Gate.log g.G.Gate.faults g.J.Sink.put_so_far g.J.Sink.faults c.args.workers.now c.args.workers.now c.args.journal c.args.known
    c.refused.result in
    refused_of run c.refused.ensures.events c.refused.ensures.outcome
    (ap (reached g.G.Gate.log g.G.Gate.faults g.J.Sink.put_so_far g.J.Sink.faults c.args.workers.now) c.refused.ensures.journal) _
    (Problem.of_tree c.args.mode _)

pub returns-in-Ok-clause-problem : goal.returns-in-Ok-clause-problem
returns-in-Ok-clause-problem g c =
    let parts = c.args.parts.now in
    let input : TreeInput =
    input_of parts.start.grammar parts.formed parts.tree parts.start.bytes parts.tokens.items.items (g.F.Relation.admits parts.guard) parts.squeezes in
    let run : Run =
    run_of g.G.Gate.log g.G.Gate.faults g.J.Sink.put_so_far g.J.Sink.faults c.args.workers.now c.walk_result.new.workers c.args.journal c.args.known
    c.walk_result.result in
    subst (λ (mode : TreeMode). IsRunOf input.admits (Problem.of_tree mode input) run) (sym c.in-Perses.is)
    (tree_run Perses c.walk_laws.ensures c.perses_is_its_recursion.ensures c.histories_go_by_questions.ensures input c.is_input.ensures.is
    (admitted input c.whole_is_start.ensures c.is_input.ensures.is c.requires.kept) run
    input.admits refl _ c.in-Ok.ensures.start
    (c.walk_result.ensures.in_mode input c.in-Ok.ensures.first))

pub returns-in-Err-hdd_reducer-clause-sound : goal.returns-in-Err-hdd_reducer-clause-sound
returns-in-Err-hdd_reducer-clause-sound g c =
    let run : Run =
    run_of g.G.Gate.log g.G.Gate.faults g.J.Sink.put_so_far g.J.Sink.faults c.args.workers.now c.args.workers.now c.args.journal c.args.known
    c.refused-in-Err-hdd_reducer.result in
    refused_sound run c.refused-in-Err-hdd_reducer.ensures.events c.refused-in-Err-hdd_reducer.ensures.outcome
    (ap (reached g.G.Gate.log g.G.Gate.faults g.J.Sink.put_so_far g.J.Sink.faults c.args.workers.now) c.refused-in-Err-hdd_reducer.ensures.journal)
    g.G.Gate.may_say

pub returns-in-Err-hdd_reducer-clause-problem : goal.returns-in-Err-hdd_reducer-clause-problem
returns-in-Err-hdd_reducer-clause-problem g c =
    let run : Run = run_of g.G.Gate.log g.G.Gate.faults g.J.Sink.put_so_far g.J.Sink.faults c.args.workers.now c.args.workers.now c.args.journal c.args.known
    c.refused-in-Err-hdd_reducer.result in
    refused_of run c.refused-in-Err-hdd_reducer.ensures.events c.refused-in-Err-hdd_reducer.ensures.outcome
    (ap (reached g.G.Gate.log g.G.Gate.faults g.J.Sink.put_so_far g.J.Sink.faults c.args.workers.now) c.refused-in-Err-hdd_reducer.ensures.journal) _
    (Problem.of_tree c.args.mode _)

pub returns-in-Ok-hdd_reducer-clause-problem : goal.returns-in-Ok-hdd_reducer-clause-problem
returns-in-Ok-hdd_reducer-clause-problem g c =
    let parts = c.args.parts.now in
    let input : TreeInput = input_of parts.start.grammar parts.formed parts.tree parts.start.bytes parts.tokens.items.items
    (g.F.Relation.admits parts.guard) parts.squeezes in
    let run : Run =
    run_of g.G.Gate.log g.G.Gate.faults g.J.Sink.put_so_far g.J.Sink.faults c.args.workers.now c.walk_result-in-Ok-hdd_reducer.new.workers c.args.journal
    c.args.known
    c.walk_result-in-Ok-hdd_reducer.result in
    subst (λ (mode : TreeMode). IsRunOf input.admits (Problem.of_tree mode input) run) (sym c.in-Hdd.is)
    (tree_run Hdd c.walk_laws-in-Hdd.ensures c.hdd_is_its_recursion.ensures c.histories_go_by_questions.ensures input c.is_input.ensures.is
    (admitted input c.whole_is_start.ensures c.is_input.ensures.is c.requires.kept) run
    input.admits refl _ c.in-Ok-hdd_reducer.ensures.start
    (c.walk_result-in-Ok-hdd_reducer.ensures.in_mode input c.in-Ok-hdd_reducer.ensures.first))
