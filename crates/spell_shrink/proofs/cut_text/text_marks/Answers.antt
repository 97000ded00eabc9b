use Rattle.std.proofs.Common.{◌∙◌, ap, arith, inl, inr, length, List, subst, sym, true≢false}
use Rattle.std.proofs.lemmas.Result.{IfOk-weaker}
use Rattle.lexer.specs.declared.piece.Piece.{Piece}
use Rattle.spell_shrink.specs.inner.Changes.{AreMarks}
use Rattle.spell_shrink.proofs.Marks.{pieces_few}
use Rattle.spell_shrink.proofs.cut_text.text_marks.Goals as goal

pub marks_of-requires : goal.marks_of-requires
marks_of-requires c =
    let few = pieces_few c.args.lexer.now.grammar c.args.text.now c.in-Ok.pieces.items.items c.in-Ok.ensures.pieces.cut in
    omega (arith, few, c.requires, ap (λ (l : List Piece). length l) c.deref.ensures.value)

pub returns-then-not-keeps-clause-cut : goal.returns-then-not-keeps-clause-cut
returns-then-not-keeps-clause-cut c = inl c.new-none.ensures.items

pub returns-in-Ok-clause-cut : goal.returns-in-Ok-clause-cut
returns-in-Ok-clause-cut c =
    let G = c.args.lexer.now.grammar in
    IfOk-weaker c.marks_of.result (λ marks. AreMarks G c.deref.result.now marks.items) _
    (λ marks are. inr (c.in-Ok.pieces.items.items, c.in-Ok.ensures.pieces.cut, subst (λ (l : List Piece). AreMarks G l marks.items) c.deref.ensures.value are))
    c.marks_of.ensures

pub returns-in-Ok-clause-none : goal.returns-in-Ok-clause-none
returns-in-Ok-clause-none c =
    IfOk-weaker c.marks_of.result (λ marks. AreMarks c.args.lexer.now.grammar c.deref.result.now marks.items) _
    (λ marks are is. absurd (true≢false (sym c.if-not-keeps.false ∙ is))) c.marks_of.ensures

pub returns-in-Err-NoToken-clause-cut : goal.returns-in-Err-NoToken-clause-cut
returns-in-Err-NoToken-clause-cut c = inl c.new-none.ensures.items
