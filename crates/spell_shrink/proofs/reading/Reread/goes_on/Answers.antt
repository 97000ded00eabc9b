use Rattle.std.proofs.Common.{arith, eqb-true, ltb-true}
use Rattle.std.proofs.Math.Logic.{∥∥₁_elim}
use Rattle.std.proofs.Props.{props}
use Rattle.std.proofs.lemmas.Bool.{lt-ltb}
use Rattle.spell_shrink.proofs.Rereading.{is_small}
use Rattle.spell_shrink.proofs.reading.Reread.goes_on.Goals as goal

pub offset_before-requires-clause-rises : goal.offset_before-requires-clause-rises
offset_before-requires-clause-rises c = ∥∥₁_elim c.requires.reread (hlevel props) (λ is. is.1.rises)

pub offset_before-requires-clause-small : goal.offset_before-requires-clause-small
offset_before-requires-clause-small c = ∥∥₁_elim c.requires.reread (hlevel props)
    (λ is.
    omega (arith, is.1.within, is.1.small, c.requires.within, is_small is.0 c.args.self.now is.1))

pub offset_before-requires-clause-end : goal.offset_before-requires-clause-end
offset_before-requires-clause-end c =
    ∥∥₁_elim c.requires.reread (hlevel props) (λ is. omega (arith, is.1.within, is.1.small, is.1.shorter))

pub tokens_before-requires : goal.tokens_before-requires
tokens_before-requires c = ∥∥₁_elim c.requires.reread (hlevel props) (λ is. ∣ (is.0, is.1.cut) ∣₁)

-- a piece begins there: what is said is that there are as many tokens before it, and the one that is replaced is among them
pub returns-then-tokens-progress : goal.returns-then-tokens-progress
returns-then-tokens-progress c =
    let p = c.args.progress in
    let e = c.args.self.now.expected in (
      c.in_ok-before.before,
      c.in_ok-tokens.tokens,
      (c.in_ok-before.ensures.after, c.in_ok-before.ensures.before),
      c.in_ok-tokens.ensures,
      (λ so. (c.if-tokens-progress.true, ltb-true e.index p.found so), λ both. lt-ltb e.index p.found both.1),
    )

-- there are more, or fewer
pub returns-else-tokens-progress : goal.returns-else-tokens-progress
returns-else-tokens-progress c = (
  c.in_ok-before.before,
  c.in_ok-tokens.tokens,
  (c.in_ok-before.ensures.after, c.in_ok-before.ensures.before),
  c.in_ok-tokens.ensures,
  (
    λ so. absurd (c.if-tokens-progress.false (eqb-true c.in_ok-tokens.tokens c.args.progress.found so)),
    λ both. absurd (c.if-tokens-progress.false both.0),
  ),
)
