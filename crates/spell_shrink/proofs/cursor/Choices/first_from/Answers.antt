use Rattle.std.proofs.Common.{◌≡◌, ◌∙◌, None, Option, ap, map, arith, rules}
use Rattle.lexer.specs.Tokens.{token_of}
use Rattle.spell_shrink.specs.declared.cursor.Cursor.{Cursor}
use Rattle.spell_shrink.specs.inner.Cursors.{trials_of}
use Rattle.spell_shrink.specs.inner.Spelled.{respelling_of}
use Rattle.spell_shrink.proofs.Choosing.{next_tried}
use Rattle.spell_shrink.proofs.WordPrinting.{respelling_long}
use Rattle.spell_shrink.proofs.cursor.Choices.first_from.Goals as goal

-- the index of a token is below a length
pub overflow_add-cursor : goal.overflow_add-cursor
overflow_add-cursor c =
    let s = c.args.spelled.now in
    omega (arith, c.loop-cursor.invariant.1.token, respelling_long s.kept.items s.words.items c.requires.choices.long, s.kept.ok)

-- where a token has no more spellings it goes on at the next one
pub loop-cursor-preserved : goal.loop-cursor-preserved
loop-cursor-preserved c =
    let tokens = map token_of c.args.self.tokens.now in
    let words = c.args.self.words.now in
    let r = respelling_of c.args.spelled.now in (
      (λ start are.
          next_tried start tokens words r c.loop-cursor.cursor (omega (arith, c.loop-cursor-test.true)) _ (c.in_ok-cursor-2.ensures.trials start are)
          ∙ c.loop-cursor.invariant.0 start are),
      c.in_ok-cursor-2.ensures.cursor,
    )

pub loop-cursor-smaller : goal.loop-cursor-smaller
loop-cursor-smaller c = omega (arith, c.in_ok-cursor-2.ensures.at, c.loop-cursor.invariant.1.token)

-- or there is no next one
pub returns-in_err-cursor-2-clause-trials : goal.returns-in_err-cursor-2-clause-trials
returns-in_err-cursor-2-clause-trials c = λ start are.
    let tokens = map token_of c.args.self.tokens.now in
    let words = c.args.self.words.now in
    let r = respelling_of c.args.spelled.now in
    let none : c.from_residual-in_err-cursor-2.result ≡ None = search rules in
    ap (λ (cursor : Option Cursor). trials_of start tokens words r cursor) none
    ∙ next_tried start tokens words r c.loop-cursor.cursor (omega (arith, c.loop-cursor-test.true)) _ (c.in_err-cursor-2.ensures.trials start are)
    ∙ c.loop-cursor.invariant.0 start are
