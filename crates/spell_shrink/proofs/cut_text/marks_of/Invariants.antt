use Rattle.std.proofs.Common.{◌≡◌, ◌<◌, take}
use Rattle.std.specs.Prelude.{IfSome}
use Rattle.spell_shrink.specs.inner.Changes.{marks_after}
use Rattle.spell_shrink.proofs.Marks.{SaysLast}
use Rattle.spell_shrink.proofs.cut_text.marks_of.Given as goal

-- those of the pieces so far, and what comes after these
abbrev pub invariant-loop-piece : goal.invariant-loop-piece
invariant-loop-piece l =
    let taken = take l.piece-index l.pieces in
    let G = l.lexer.grammar in
    (l.marks.items ≡ marks_after G 0 0 taken) × SaysLast G l.last taken × IfSome l.last (λ last. last.0.tokens < l.piece-index)
