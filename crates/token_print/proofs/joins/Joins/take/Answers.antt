use Rattle.std.proofs.Common.{◌∙◌, slice_index, refl, sym, arith, true≢false}
use Rattle.lexer.specs.Tokens.{token_of}
use Rattle.token_print.specs.Spelling.{kind_and_spelling}
use Rattle.token_print.proofs.Offsets as offsets
use Rattle.token_print.proofs.SpelledNext.{kept_there, next_is, next_other, none_next}
use Rattle.token_print.proofs.joins.Joins.take.Goals as goal

pub is_same-requires-clause-other_slice : goal.is_same-requires-clause-other_slice
is_same-requires-clause-other_slice c =
    let j = c.args.self.now in
    offsets.slice j.layout.start.now j.layout.tokens.now c.requires.order.slices (slice_index j.kept.now c.args.found) _
    (kept_there j.layout.tokens.now j.kept.now c.requires.kept c.args.found 0 (omega arith))

pub returns-then-found-numbers : goal.returns-then-found-numbers
returns-then-found-numbers c =
    let j = c.args.self.now in
    none_next j.layout.start.now j.layout.tokens.now j.kept.now (kept_there j.layout.tokens.now j.kept.now c.requires.kept) c.args.found
    (kind_and_spelling j.text.now (token_of c.args.token)) (omega arith)

pub returns-then-not-is_same : goal.returns-then-not-is_same
returns-then-not-is_same c =
    let j = c.args.self.now in
    next_other j.layout.start.now j.layout.tokens.now j.kept.now (kept_there j.layout.tokens.now j.kept.now c.requires.kept) c.args.found
    (kind_and_spelling j.text.now (token_of c.args.token)) (omega arith)
    (λ same. true≢false (sym (c.is_same.ensures.1 same) ∙ c.if-not-is_same.true))

pub returns : goal.returns
returns c =
    let j = c.args.self.now in
    let all = kept_there j.layout.tokens.now j.kept.now c.requires.kept in (
      refl,
      omega arith,
      next_is j.layout.start.now j.layout.tokens.now j.kept.now all c.args.found (kind_and_spelling j.text.now (token_of c.args.token)) (omega arith)
          (c.is_same.ensures.0 c.if-not-is_same.false),
    )
