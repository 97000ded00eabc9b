use Rattle.std.proofs.Common.{◌+◌, ◌-◌, List, refl, sym, subst, arith}
use Rattle.std.specs.List.Sorted.{IsNonDecreasingBy}
use Rattle.lexer.specs.declared.piece.Piece.{Piece}
use Rattle.token_print.proofs.AheadRuns.{later_carries}
use Rattle.token_print.proofs.CarriedHere.{lent_carried, lent_far, lent_none, lent_other, pieces_order}
use Rattle.token_print.proofs.joins.Joins.carried.Goals as goal

pub pieces_before-first-requires : goal.pieces_before-first-requires
pieces_before-first-requires c =
    let P : List Piece → Type 0 = λ l. IsNonDecreasingBy (λ (p : Piece). p.start) l in
    subst P (sym c.as_slice-items.ensures.value) (pieces_order c.args.self.now.pieces.now.items.items c.requires.rise)

pub pieces_before-end-requires : goal.pieces_before-end-requires
pieces_before-end-requires c =
    let P : List Piece → Type 0 = λ l. IsNonDecreasingBy (λ (p : Piece). p.start) l in
    subst P (sym c.as_slice-items.ensures.value) (pieces_order c.args.self.now.pieces.now.items.items c.requires.rise)

pub returns-then-at-run : goal.returns-then-at-run
returns-then-at-run c = later_carries c.args.at c.args.run c.args.self.now.pieces.now.items.items (omega arith)

pub returns-then-first-end : goal.returns-then-first-end
returns-then-first-end c =
    lent_none c.args.self.now.pieces.now.items.items c.as_slice-items.result.now c.as_slice-items.ensures.value c.args.run c.args.at c.requires.rise
    (c.args.run.from + (c.args.at - c.args.run.at)) c.pieces_before-first.result c.pieces_before-end.result (omega arith) refl
    c.pieces_before-first.ensures.before c.pieces_before-first.ensures.others c.pieces_before-end.ensures.before c.pieces_before-end.ensures.others
    c.pieces_before-end.ensures.inside (omega arith)

pub returns-then-items-first : goal.returns-then-items-first
returns-then-items-first c =
    lent_other c.args.self.now.pieces.now.items.items c.as_slice-items.result.now c.as_slice-items.ensures.value c.args.run c.args.at c.requires.rise
    (c.args.run.from + (c.args.at - c.args.run.at)) c.pieces_before-first.result c.pieces_before-end.result (omega arith) refl
    c.pieces_before-first.ensures.before c.pieces_before-first.ensures.others c.pieces_before-end.ensures.before c.pieces_before-end.ensures.others
    c.pieces_before-end.ensures.inside (omega arith) c.if-items-first.true

pub returns-then-end-first : goal.returns-then-end-first
returns-then-end-first c =
    lent_far c.args.self.now.pieces.now.items.items c.as_slice-items.result.now c.as_slice-items.ensures.value c.args.run c.args.at c.requires.rise
    (c.args.run.from + (c.args.at - c.args.run.at)) c.pieces_before-first.result c.pieces_before-end.result (omega arith) refl
    c.pieces_before-first.ensures.before c.pieces_before-first.ensures.others c.pieces_before-end.ensures.before c.pieces_before-end.ensures.others
    c.pieces_before-end.ensures.inside
    c.first_beyond-end.result (omega arith) (λ d. c.first_beyond-end.ensures.beyond d (omega arith))

pub returns : goal.returns
returns c =
    lent_carried c.args.self.now.pieces.now.items.items c.as_slice-items.result.now c.as_slice-items.ensures.value c.args.run c.args.at c.requires.rise
    (c.args.run.from + (c.args.at - c.args.run.at)) c.pieces_before-first.result c.pieces_before-end.result (omega arith) refl
    c.pieces_before-first.ensures.before c.pieces_before-first.ensures.others c.pieces_before-end.ensures.before
    c.pieces_before-end.ensures.others c.pieces_before-end.ensures.inside
    c.first_beyond-end.result (omega arith) c.first_beyond-end.ensures.inside c.if-items-first.false c.first_beyond-end.ensures.near
