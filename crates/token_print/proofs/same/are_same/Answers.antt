use Rattle.std.proofs.Common.{slice_index_or, refl, sym, ◌∙◌, arith, true≢false}
use Rattle.token_print.proofs.Offsets as offsets
use Rattle.token_print.proofs.SameTokens as same
use Rattle.token_print.proofs.same.are_same.Goals as goal

pub returns-then-found-kept : goal.returns-then-found-kept
returns-then-found-kept c = (
  λ t. absurd (true≢false (sym t)),
  λ e. absurd (c.if-found-kept.true
      (same.same_length c.args.text.now c.args.start.now c.args.tokens.now c.args.found.now c.args.kept.now c.requires.kept e)),
)

pub is_same-requires-clause-slice : goal.is_same-requires-clause-slice
is_same-requires-clause-slice c =
    offsets.slice c.args.text.now c.args.found.now c.requires.found c.loop-i.i _ (omega (arith, c.loop-i-test.true, c.if-found-kept.false))

pub is_same-requires-clause-other_slice : goal.is_same-requires-clause-other_slice
is_same-requires-clause-other_slice c =
    offsets.slice c.args.start.now c.args.tokens.now c.requires.tokens (slice_index_or c.args.kept.now c.loop-i.i 0) _
    (c.requires.kept c.loop-i.i 0 (omega (arith, c.loop-i-test.true)))

pub returns-then-not-is_same : goal.returns-then-not-is_same
returns-then-not-is_same c = (
  λ t. absurd (true≢false (sym t)),
  λ e.
      let is =
      c.is_same.ensures.1 (same.same_at c.args.text.now c.args.start.now c.args.tokens.now c.args.found.now c.args.kept.now c.requires.kept e c.loop-i.i
      (omega (arith, c.loop-i-test.true))) in
      absurd (true≢false (sym is ∙ c.if-not-is_same.true)),
)

pub returns : goal.returns
returns c = (
  λ t. same.all_same c.args.text.now c.args.start.now c.args.tokens.now c.args.found.now c.args.kept.now c.requires.kept c.if-found-kept.false
      (λ k h. c.loop-i.invariant k (omega (arith, h, c.loop-i-test.false))),
  λ e. refl,
)
