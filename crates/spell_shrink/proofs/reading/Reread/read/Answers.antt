use Rattle.std.proofs.Common.{◌≡◌, inl, subst}
use Rattle.std.specs.Prelude.{MatchOption}
use Rattle.grammar_tree.specs.Written.{WrittenGrammar}
use Rattle.lexer.specs.declared.piece.Piece.{Piece}
use Rattle.lexer.specs.Pieces.{HasNoPieceAt, IsPieceOf}
use Rattle.token_print.proofs.Lent.{at_none, at_some, piece_slice}
use Rattle.spell_shrink.specs.inner.Rereads.{IsOtherPiece, IsPassed}
use Rattle.spell_shrink.proofs.Rereading.{passed_or_other}
use Rattle.spell_shrink.proofs.reading.Reread.read.Goals as goal

-- no rule matches
pub returns-in_default-clause-next : goal.returns-in_default-clause-next
returns-in_default-clause-next g c =
    let G = g.R.PieceReader.grammar c.args.reader.now in
    let text = c.args.self.now.text.now in
    let at = c.args.progress.at in
    inl (at_none c.in_ok-found.found (HasNoPieceAt G text at) (λ (p : Piece). (p.start ≡ at) × IsPieceOf G text p) c.in_default.is
    c.in_ok-found.ensures.piece)

pub pass-requires-clause-slice : goal.pass-requires-clause-slice
pass-requires-clause-slice g c =
    let G = g.R.PieceReader.grammar c.args.reader.now in
    let text = c.args.self.now.text.now in
    let at = c.args.progress.at in
    let is = at_some c.in_ok-found.found c.in-Some.piece (HasNoPieceAt G text at) (λ (p : Piece). (p.start ≡ at) × IsPieceOf G text p) c.in-Some.is
    c.in_ok-found.ensures.piece in
    piece_slice G text c.in-Some.piece c.requires.utf8 is.1

-- a piece
pub returns-clause-next : goal.returns-clause-next
returns-clause-next g c =
    let G = g.R.PieceReader.grammar c.args.reader.now in
    let e = c.args.self.now.expected in
    let text = c.args.self.now.text.now in
    let p = c.args.progress in
    let piece = c.in-Some.piece in
    let is = at_some c.in_ok-found.found piece (HasNoPieceAt G text p.at) (λ (q : Piece). (q.start ≡ p.at) × IsPieceOf G text q) c.in-Some.is
    c.in_ok-found.ensures.piece in
    let P : WrittenGrammar → Type 0 =
    λ H. MatchOption c.pass.result (IsOtherPiece H e text piece p.found) (IsPassed H e text piece p.found) in
    passed_or_other G e text p piece is.0 is.1 c.pass.result (subst P c.piece_at.ensures.grammar c.pass.ensures)
