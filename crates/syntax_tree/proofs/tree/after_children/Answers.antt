use Rattle.std.proofs.Common.{◌<◌, arith}
use Rattle.syntax_tree.specs.Trees.{count}
use Rattle.syntax_tree.proofs.Afters.{end_after, next_after, step_after}
use Rattle.syntax_tree.proofs.tree.after_children.Goals as goal

pub bounds-after-number : goal.bounds-after-number
bounds-after-number c =
    let ts = c.requires.0 in
    let within : c.loop-i.i < count ts = omega (arith, c.requires.1) in
    (step_after c.args.after.now c.loop-i.i c.loop-i.number ts within (c.loop-i.invariant ts c.requires.1 c.requires.2).more).0

pub loop-i-preserved : goal.loop-i-preserved
loop-i-preserved c ts e have =
    let within : c.loop-i.i < count ts = omega (arith, e) in
    next_after c.args.after.now c.loop-i.i c.args.first c.loop-i.number ts within (c.loop-i.invariant ts e have)

pub returns : goal.returns
returns c ts e have = end_after c.args.after.now c.loop-i.i c.args.first c.loop-i.number ts (omega (arith, e)) (c.loop-i.invariant ts e have)
