use Rattle.std.proofs.Common.{◌-◌, map, length}
use Rattle.lexer_match.specs.Dead.{AreDead}
use Rattle.lexer_match.specs.Reading.{IsReady}
use Rattle.lexer.specs.Tokens.{token_of}
use Rattle.lexer.proofs.Cut.{IsReadTo}
use Rattle.lexer.proofs.tokens.add_tokens.Given as goal

abbrev pub invariant-loop-at : goal.invariant-loop-at
invariant-loop-at l = record {
  ready : IsReady (length l.rules.states.items) l.reading;
  dead : AreDead l.rules.states.items l.text l.reading.dead;
  read_to : IsReadTo l.checked.grammar l.text l.at (map token_of l.tokens.items);
}

abbrev pub decreases-loop-at : goal.decreases-loop-at
decreases-loop-at l = length l.text - l.at
