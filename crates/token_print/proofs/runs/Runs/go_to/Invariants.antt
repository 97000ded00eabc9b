use Rattle.std.proofs.Common.{◌≡◌, length}
use Rattle.token_print.specs.inner.Ahead.{HasPassed, all_ahead}
use Rattle.token_print.proofs.runs.Runs.go_to.Given as goal

abbrev pub invariant-loop-self : goal.invariant-loop-self
invariant-loop-self l = record {
  passed : HasPassed l.offset (all_ahead l.initial.self) (all_ahead l.self);
  layout : l.self.layout ≡ l.initial.self.layout;
  kept : l.self.kept ≡ l.initial.self.kept;
}

abbrev pub decreases-loop-self : goal.decreases-loop-self
decreases-loop-self l = length (all_ahead l.self)
