use Rattle.std.proofs.Common.{◌≡◌, All, length, map, take}
use Rattle.std.specs.Str.{IsUtf8}
use Rattle.lexer.specs.Tokens.{token_of}
use Rattle.spell_shrink.specs.Respelling.{own_spellings}
use Rattle.spell_shrink.specs.inner.Changes.{respelling_of_words}
use Rattle.spell_shrink.proofs.printing.own_words.Given as goal

-- those of the tokens so far
abbrev pub invariant-loop-number : goal.invariant-loop-number
invariant-loop-number l =
    let taken = take l.number-index l.kept in
    let tokens = map token_of l.layout.tokens.now in
    (respelling_of_words taken l.words.items ≡ own_spellings l.layout.start.now tokens taken)
    × (length l.words.items ≡ length taken)
    × All (λ w. IsUtf8 w.now) l.words.items
