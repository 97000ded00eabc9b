use Rattle.std.proofs.Common.{◌+◌, ◌-◌, ◌++◌, List, slice_index_or, sym, ap, ap₂, ◌∙◌}
use Rattle.lexer.specs.declared.piece.Piece.{Piece}
use Rattle.token_print.specs.inner.Joins.{spelled_from, spelled_in}
use Rattle.token_print.proofs.StartPieces.{no_piece}
use Rattle.token_print.proofs.joins.Joins.pass.Goals as goal

-- the tokens that are looked for are those of the stretch
pub returns-then-not-are_next : goal.returns-then-not-are_next
returns-then-not-are_next c rest e =
    let j = c.args.self.now in
    let from = ap (λ (l : List Piece). (slice_index_or l c.args.stretch.first no_piece).start) c.as_slice-items.ensures.value in
    let to = ap (λ (l : List Piece). (slice_index_or l (c.args.stretch.end - 1) no_piece).end) c.as_slice-items.ensures.value in
    let words = c.tokens_in-tokens.ensures.tokens ∙ ap₂ (spelled_in j) from to in
    c.are_next.ensures.no c.if-not-are_next.true rest (e ∙ ap (λ l. l ++ rest) (sym words))

pub returns : goal.returns
returns c =
    let j = c.args.self.now in
    let from = ap (λ (l : List Piece). (slice_index_or l c.args.stretch.first no_piece).start) c.as_slice-items.ensures.value in
    let to = ap (λ (l : List Piece). (slice_index_or l (c.args.stretch.end - 1) no_piece).end) c.as_slice-items.ensures.value in
    let words = c.tokens_in-tokens.ensures.tokens ∙ ap₂ (spelled_in j) from to in
    let found = c.args.progress.found + (c.tokens_in-tokens.result.end - c.tokens_in-tokens.result.first) in
    record {
      at = ap₂ (λ a b. c.args.progress.at + (b - a)) from to;
      few = c.are_next.ensures.few c.if-not-are_next.false;
      next = c.are_next.ensures.yes c.if-not-are_next.false ∙ ap (λ l. l ++ spelled_from j found) words;
    }
