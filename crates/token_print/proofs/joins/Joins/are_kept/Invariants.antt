use Rattle.std.proofs.Common.{◌≡◌, ◌-◌, length}
use Rattle.token_print.specs.inner.Ahead.{HasPassed, all_ahead}
use Rattle.token_print.specs.inner.Joins.{IsPassed, runs_of}
use Rattle.token_print.proofs.joins.Joins.are_kept.Given as goal

abbrev pub invariant-loop-progress : goal.invariant-loop-progress
invariant-loop-progress g l = record {
  passed : IsPassed (g.R.PieceReader.grammar l.initial.reader) l.self (record { at = 0; found = 0 }) l.progress (g.R.PieceReader.reads l.initial.reader)
      (g.R.PieceReader.reads l.reader);
  ahead : HasPassed l.progress.at (runs_of l.self) (all_ahead l.runs);
  layout : l.runs.layout ≡ l.self.layout;
  kept : l.runs.kept.now ≡ l.self.kept.now;
  grammar : g.R.PieceReader.grammar l.reader ≡ g.R.PieceReader.grammar l.initial.reader;
}

abbrev pub decreases-loop-progress : goal.decreases-loop-progress
decreases-loop-progress g l = length l.self.text.now - l.progress.at
