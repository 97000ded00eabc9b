use Rattle.std.proofs.Common.{◌≡◌, true, ap, sym, subst}
use Rattle.reduce_trees_mode.specs.Input.{TreeInput}
use Rattle.token_print.specs.Laws.{all_kept}
use Rattle.run_gated.specs.Seen.{reached}
use Rattle.run_gated.specs.Run.{Run, run_of}
use Rattle.run_problem.specs.declared.problem.ReadProblem.{ReadProblem}
use Rattle.run_problem.specs.Problem.{Problem, tree_problem}
use Rattle.run_problem.specs.Read.{IsReadAs, IsReady, numbers_read, start_read}
use Rattle.run_problem.specs.Ends.{IsRunOf}
use Rattle.run_problem.proofs.ModeLemmas.{refused_of, refused_sound}
use Rattle.run_problem.proofs.run.run_problem.Goals as goal

pub returns-in-Err-clause-sound : goal.returns-in-Err-clause-sound
returns-in-Err-clause-sound g c =
    let run : Run =
    run_of g.G.Gate.log g.G.Gate.faults g.J.Sink.put_so_far g.J.Sink.faults c.args.workers.now c.args.workers.now c.args.journal c.args.known
    c.refused.result in
    refused_sound run c.refused.ensures.events c.refused.ensures.outcome
    (ap (reached g.G.Gate.log g.G.Gate.faults g.J.Sink.put_so_far g.J.Sink.faults c.args.workers.now) c.refused.ensures.journal) g.G.Gate.may_say

pub returns-in-Err-clause-problem : goal.returns-in-Err-clause-problem
returns-in-Err-clause-problem g c one is =
    let run : Run = run_of g.G.Gate.log g.G.Gate.faults g.J.Sink.put_so_far g.J.Sink.faults c.args.workers.now c.args.workers.now c.args.journal c.args.known
    c.refused.result in
    refused_of run c.refused.ensures.events c.refused.ensures.outcome
    (ap (reached g.G.Gate.log g.G.Gate.faults g.J.Sink.put_so_far g.J.Sink.faults c.args.workers.now) c.refused.ensures.journal)
    (g.F.Relation.admits c.args.guard) one

pub result_by_tree-requires-clause-kept : goal.result_by_tree-requires-clause-kept
result_by_tree-requires-clause-kept g c κs within =
    let ready = subst IsReady c.in-Tree.is c.requires.ready in
    subst (λ (i : TreeInput). i.admits (all_kept i.tokens) i.start ≡ true) (sym (c.in-Ok.ensures ready.checked.well_formed))
    (subst (λ (p : ReadProblem). g.F.Relation.admits c.args.guard (numbers_read p) (start_read p) ≡ true) c.in-Tree.is c.requires.kept)

pub returns-in-Ok-clause-problem : goal.returns-in-Ok-clause-problem
returns-in-Ok-clause-problem g c one is =
    let it = subst (λ (p : ReadProblem). IsReadAs (g.F.Relation.admits c.args.guard) p one) c.in-Tree.is is in
    let run : Run =
    run_of g.G.Gate.log g.G.Gate.faults g.J.Sink.put_so_far g.J.Sink.faults c.args.workers.now c.result_by_tree.new.workers c.args.journal c.args.known
    c.result_by_tree.result in
    subst (λ (p : Problem). IsRunOf (g.F.Relation.admits c.args.guard) p run) (sym it.1)
    (subst (λ (i : TreeInput). IsRunOf i.admits (tree_problem c.in-Tree.respell c.in-Tree.mode i) run) (c.in-Ok.ensures it.0) c.result_by_tree.ensures.problem)
