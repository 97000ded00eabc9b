use Rattle.std.proofs.Common.{◌-◌, length}
use Rattle.lexer_match.specs.Dead.{AreDead}
use Rattle.lexer_match.specs.Reading.{IsReady}
use Rattle.lexer.specs.Pieces.{AreFarthest, HasBlocks}
use Rattle.lexer.proofs.Joined.{IsCutUpTo}
use Rattle.lexer.proofs.read_pieces.add_pieces.Given as goal

abbrev pub invariant-loop-at : goal.invariant-loop-at
invariant-loop-at l = record {
  ready : IsReady (length l.rules.states.items) l.reading;
  dead : AreDead l.rules.states.items l.text l.reading.dead;
  cut : IsCutUpTo l.checked.grammar l.text l.at l.pieces.items;
  farthest : AreFarthest l.pieces.items l.farthest.items;
  blocks : HasBlocks l.pieces.items l.farthest.items;
}

abbrev pub decreases-loop-at : goal.decreases-loop-at
decreases-loop-at l = length l.text - l.at
