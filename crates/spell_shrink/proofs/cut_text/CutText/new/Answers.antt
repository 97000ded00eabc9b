use Rattle.std.proofs.Common.{◌≡◌, ◌⊎◌, ℕ, List, [], subst}
use Rattle.lexer.specs.declared.piece.Piece.{Piece}
use Rattle.lexer.specs.Pieces.{HasPieces}
use Rattle.spell_shrink.specs.inner.Changes.{AreMarks}
use Rattle.spell_shrink.proofs.cut_text.CutText.new.Goals as goal

pub returns-clause-cut : goal.returns-clause-cut
returns-clause-cut c =
    let G = c.args.lexer.now.grammar in
    let marks = c.in_ok-marks.marks.items in
    subst (λ (l : List ℕ). (marks ≡ []) ⊎ ((pieces : List Piece) × HasPieces G l pieces × AreMarks G pieces marks)) c.as_str.ensures.value
    c.in_ok-marks.ensures.cut
