use Rattle.std.proofs.Common.{◌≡◌, ◌≤◌, ◌+◌, ◌-◌, ◌↔◌, length}
use Rattle.std.specs.Str.{IsCharBoundary}
use Rattle.token_print.specs.Spells.{SpellsTokens}
use Rattle.spell_shrink.specs.inner.Rereads.{HasRest, expected_pieces}
use Rattle.spell_shrink.proofs.reading.Reread.keeps.Given as goal

-- the text spells what is expected where its rest has the tokens after those that were found
abbrev pub invariant-loop-progress : goal.invariant-loop-progress
invariant-loop-progress g l = record {
  grammar : g.R.PieceReader.grammar l.reader ≡ g.R.PieceReader.grammar l.initial.reader;
  reads : g.R.PieceReader.reads l.reader ≤ g.R.PieceReader.reads l.initial.reader + l.progress.at;
  starts : IsCharBoundary l.self.text.now l.progress.at;
  few : l.progress.found ≤ length l.self.expected.kept.now;
  same : ∥ SpellsTokens (g.R.PieceReader.grammar l.initial.reader) l.self.text.now (expected_pieces l.self.expected) ∥₁
      ↔ ∥ HasRest (g.R.PieceReader.grammar l.initial.reader) l.self l.progress ∥₁;
}

abbrev pub decreases-loop-progress : goal.decreases-loop-progress
decreases-loop-progress g l = length l.self.text.now - l.progress.at
