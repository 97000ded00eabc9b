use Rattle.std.proofs.Common.{ap, length, arith}
use Rattle.lexer_match.proofs.Found.{starts_both, starts_same, steps_none}
use Rattle.lexer_match.proofs.subsets.Subsets.steps.Goals as goal

pub loop-set-init : goal.loop-set-init
loop-set-init c = record {
  ready = c.requires.ready;
  grown = starts_same c.args.self.now.found.sets.items;
  steps = steps_none c.args.nfa.now c.args.self.now.found.sets.items c.new-steps.result.items c.new-steps.ensures.items;
  before = omega (arith, ap length c.new-steps.ensures.items);
}

pub loop-set-preserved : goal.loop-set-preserved
loop-set-preserved c =
    let made = c.in_ok-add_steps.ensures in
    record {
      ready = made.ready;
      grown =
          starts_both c.args.self.now.found.sets.items c.loop-set.self.found.sets.items c.add_steps.new.self.found.sets.items c.loop-set.invariant.grown
          made.grown;
      steps = made.steps;
      before = omega (arith, made.all);
    }
