use Rattle.std.proofs.Common.{◌<◌, ◌∷◌, [], ap, length, arith, length-append}
use Rattle.lexer_match.proofs.Found.{starts_both, starts_longer, starts_same, steps_kept, steps_more}
use Rattle.lexer_match.proofs.subsets.Subsets.add_steps.Goals as goal

pub loop-c-init : goal.loop-c-init
loop-c-init c = record { ready = c.requires.ready; grown = starts_same c.args.self.now.found.sets.items; steps = c.requires.steps; before = c.requires.before }

pub step-requires-clause-set : goal.step-requires-clause-set
step-requires-clause-set c =
    omega (arith, c.requires.set, starts_longer c.loop-c.self.found.sets.items c.args.self.now.found.sets.items c.loop-c.invariant.grown)

pub loop-c-preserved : goal.loop-c-preserved
loop-c-preserved c =
    let P = c.args.nfa.now in
    let first = c.args.self.now.found.sets.items in
    let old = c.loop-c.self.found.sets.items in
    let new = c.step.new.self.found.sets.items in
    let made = c.in_ok-step.ensures in
    let steps = c.loop-c.steps.items in
    let before = c.loop-c.invariant in
    let grown = starts_both first old new before.grown made.grown in
    let inside : c.args.set < length new = omega (arith, c.requires.set, starts_longer new first grown) in
    record {
      ready = made.ready;
      grown = grown;
      steps =
          steps_more P new steps c.push.new.self.items c.in_ok-step.step c.args.set c.loop-c.c c.in_ok-push.ensures.items before.before
          (omega arith) inside made.step (steps_kept P old new steps made.grown before.steps);
      before = omega (arith, ap length c.in_ok-push.ensures.items, length-append steps (c.in_ok-step.step ∷ []), before.before);
    }

pub returns-clause-all : goal.returns-clause-all
returns-clause-all c = omega (arith, c.loop-c.invariant.before)
