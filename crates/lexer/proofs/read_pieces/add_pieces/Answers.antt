use Rattle.std.proofs.Common.{◌≡◌, arith}
use Rattle.lexer.specs.declared.piece.Piece.{Piece}
use Rattle.lexer.specs.Pieces.{HasNoPieceAt, IsPieceOf}
use Rattle.lexer.proofs.Cut.{found_none, found_some}
use Rattle.lexer.proofs.Joined.{cut_all, cut_more, cut_none, cut_stops, farthest_none}
use Rattle.lexer_match.proofs.Lent.{none_dead}
use Rattle.lexer.proofs.read_pieces.add_pieces.Goals as goal

pub loop-at-init : goal.loop-at-init
loop-at-init c =
    let none = farthest_none c.args.pieces.now.items c.args.farthest.now.items c.requires.empty c.requires.no_block in
    record {
      ready = c.requires.ready;
      dead = none_dead c.args.rules.now.states.items c.args.text.now c.args.reading.now.dead c.requires.none;
      cut = cut_none c.args.checked.now.grammar c.args.text.now c.utf8.text c.args.pieces.now.items c.requires.empty;
      farthest = none.0;
      blocks = none.1;
    }

pub piece_from-requires-clause-starts : goal.piece_from-requires-clause-starts
piece_from-requires-clause-starts c = c.loop-at.invariant.cut.boundary

pub returns-in_default-clause-fault : goal.returns-in_default-clause-fault
returns-in_default-clause-fault c =
    let G = c.args.checked.now.grammar in
    let none : HasNoPieceAt G c.args.text.now c.loop-at.at = found_none c.in_ok-found.found _ _ c.in_default.is c.in_ok-found.ensures.piece in
    cut_stops G c.args.text.now c.loop-at.at c.loop-at.pieces.items c.loop-at.invariant.cut c.loop-at-test.true none

pub loop-at-smaller : goal.loop-at-smaller
loop-at-smaller c =
    let G = c.args.checked.now.grammar in
    let p = c.in-Some.piece in
    let (starts, is) =
    found_some c.in_ok-found.found p (HasNoPieceAt G c.args.text.now c.loop-at.at)
    (λ (q : Piece). (q.start ≡ c.loop-at.at) × IsPieceOf G c.args.text.now q) c.in-Some.is c.in_ok-found.ensures.piece in
    omega (arith, starts, is.rises, is.within)

pub loop-at-preserved : goal.loop-at-preserved
loop-at-preserved c =
    let G = c.args.checked.now.grammar in
    let p = c.in-Some.piece in
    let (starts, is) = found_some c.in_ok-found.found p (HasNoPieceAt G c.args.text.now c.loop-at.at)
    (λ (q : Piece). (q.start ≡ c.loop-at.at) × IsPieceOf G c.args.text.now q) c.in-Some.is c.in_ok-found.ensures.piece in
    record {
      ready = c.in_ok-found.ensures.ready;
      dead = c.in_ok-found.ensures.dead;
      cut =
          cut_more G c.args.text.now c.loop-at.at c.loop-at.pieces.items c.loop-at.invariant.cut c.add_piece.new.pieces.items p c.in_ok-add_piece.ensures.pieces
          starts is;
      farthest = c.in_ok-add_piece.ensures.farthest;
      blocks = c.in_ok-add_piece.ensures.blocks;
    }

pub returns-clause-cut : goal.returns-clause-cut
returns-clause-cut c = cut_all c.args.checked.now.grammar c.args.text.now c.loop-at.at c.loop-at.pieces.items c.loop-at.invariant.cut c.loop-at-test.false
