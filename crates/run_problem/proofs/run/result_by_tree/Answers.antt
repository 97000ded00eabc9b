use Rattle.std.proofs.Common.{Bool, sym, subst}
use Rattle.reduce_trees_mode.specs.Input.{TreeInput}
use Rattle.reduce_trees_mode.specs.InputOf.{input_of}
use Rattle.run_gated.specs.Run.{Run, run_of}
use Rattle.run_problem.specs.Problem.{tree_problem}
use Rattle.run_problem.specs.Ends.{IsRunOf}
use Rattle.run_problem.proofs.run.result_by_tree.Goals as goal

pub returns-then-respell-clause-problem : goal.returns-then-respell-clause-problem
returns-then-respell-clause-problem g c =
    let parts = c.args.parts.now in
    let input : TreeInput =
    input_of parts.start.grammar parts.formed parts.tree parts.start.bytes parts.tokens.items.items (g.F.Relation.admits parts.guard) parts.squeezes in
    let run : Run =
    run_of g.G.Gate.log g.G.Gate.faults g.J.Sink.put_so_far g.J.Sink.faults c.args.workers.now c.respelled_result.new.workers c.args.journal c.args.known
    c.respelled_result.result in
    subst (λ (respell : Bool). IsRunOf input.admits (tree_problem respell c.args.mode input) run) (sym c.if-respell.true) c.respelled_result.ensures.problem

pub returns-else-respell-clause-problem : goal.returns-else-respell-clause-problem
returns-else-respell-clause-problem g c =
    let parts = c.args.parts.now in
    let input : TreeInput =
    input_of parts.start.grammar parts.formed parts.tree parts.start.bytes parts.tokens.items.items (g.F.Relation.admits parts.guard) parts.squeezes in
    let run : Run =
    run_of g.G.Gate.log g.G.Gate.faults g.J.Sink.put_so_far g.J.Sink.faults c.args.workers.now c.tree_result.new.workers c.args.journal c.args.known
    c.tree_result.result in
    subst (λ (respell : Bool). IsRunOf input.admits (tree_problem respell c.args.mode input) run) (sym c.if-respell.false) c.tree_result.ensures.problem
