use Rattle.std.proofs.Common.{◌≡◌, MatchOption, subst}
use Rattle.lexer.specs.declared.piece.Piece.{Piece}
use Rattle.lexer.specs.Pieces.{HasNoPieceAt, IsPieceOf}
use Rattle.lexer.specs.Reads.{LexReads}
use Rattle.lexer_match.proofs.Lent.{none_dead}
use Rattle.lexer.proofs.reader.LexReaderPieceReader.piece_at.Goals as goal

pub piece_from-requires-clause-dead : goal.piece_from-requires-clause-dead
piece_from-requires-clause-dead c = none_dead c.self.inside.rules.now.states.items c.args.text.now c.in_ok-reading.reading.dead c.in_ok-reading.ensures.none

pub returns-clause-piece : goal.returns-clause-piece
returns-clause-piece c =
    let text = c.args.text.now in
    let at = c.args.offset in
    let Q : LexReads → Type 0 =
    λ r. MatchOption c.in_ok-found.found (HasNoPieceAt r.checked.grammar text at) (λ (p : Piece). (p.start ≡ at) × IsPieceOf r.checked.grammar text p) in
    subst Q c.self.view_is c.in_ok-found.ensures.piece
