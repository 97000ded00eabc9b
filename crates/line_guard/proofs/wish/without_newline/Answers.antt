use Rattle.std.proofs.Common.{◌∙◌, ◌∷◌, ◌++◌, [], ap, sym}
use Rattle.line_guard.specs.Protected.{without_newline}
use Rattle.line_guard.proofs.WishLemmas.{newline-taken, other-left}
use Rattle.line_guard.proofs.wish.without_newline.Goals as goal

pub returns-in-Some : goal.returns-in-Some
returns-in-Some c =
    let front = c.in-Some.front.now in
    let whole = c.in-Some.ensures.cases.0 ∙ ap (λ byte. front ++ byte ∷ []) c.if-last-eq10.true in
    sym (ap without_newline whole ∙ newline-taken front)

pub returns-in_default : goal.returns-in_default
returns-in_default c =
    let whole = c.in-Some.ensures.cases.0 in
    sym (ap without_newline whole ∙ other-left c.in-Some.front.now c.in-Some.last.now c.if-last-eq10.false ∙ sym whole)
