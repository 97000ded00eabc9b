use Rattle.std.proofs.Common.{◌≡◌, ◌-◌, ℕ, List, Some, length, map}
use Rattle.lexer.specs.Tokens.{token_of}
use Rattle.spell_shrink.specs.KindWords.{AreWordsOf}
use Rattle.spell_shrink.specs.inner.Cursors.{IsCursor, trials_of}
use Rattle.spell_shrink.specs.inner.Spelled.{respelling_of}
use Rattle.spell_shrink.proofs.cursor.Choices.first_from.Given as goal

-- the same is tried from it on
abbrev pub invariant-loop-cursor : goal.invariant-loop-cursor
invariant-loop-cursor l =
    let tokens = map token_of l.self.tokens.now in
    let words = l.self.words.now in
    let r = respelling_of l.spelled in
    ((start : List ℕ) → AreWordsOf start tokens words → trials_of start tokens words r (Some l.cursor) ≡ trials_of start tokens words r l.fn.cursor)
    × IsCursor tokens words r l.cursor

abbrev pub decreases-loop-cursor : goal.decreases-loop-cursor
decreases-loop-cursor l = length (respelling_of l.spelled) - l.cursor.token
