use Rattle.std.proofs.Common.{◌≡◌, All, map, take}
use Rattle.spell_shrink.specs.KindWords.{IsSized, kind_word}
use Rattle.spell_shrink.proofs.BuiltWords.{words_up_to}
use Rattle.spell_shrink.proofs.words.Words.of.Given as goal

-- those of the tokens so far
abbrev pub invariant-loop-token : goal.invariant-loop-token
invariant-loop-token l =
    (map kind_word l.items.items ≡ words_up_to l.start (take l.token-index l.tokens.items.items)) × All IsSized l.items.items
