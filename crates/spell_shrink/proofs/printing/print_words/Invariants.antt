use Rattle.std.proofs.Common.{◌≡◌, None, map, string_bytes, take}
use Rattle.lexer.specs.Tokens.{token_of}
use Rattle.spell_shrink.specs.inner.Changes.{respelling_of_words, word_offsets}
use Rattle.spell_shrink.proofs.WordPrinting.{last_of, text_up_to}
use Rattle.spell_shrink.proofs.printing.print_words.Given as goal

-- those of the tokens so far
abbrev pub invariant-loop-index : goal.invariant-loop-index
invariant-loop-index l =
    let taken = respelling_of_words (take l.index l.kept) (take l.index l.words) in
    let skips = l.layout.skips in
    let start = l.layout.start.now in
    let tokens = map token_of l.layout.tokens.now in
    let style = l.layout.style in
    (string_bytes l.text ≡ text_up_to skips start tokens style None taken)
    × (l.places.items ≡ word_offsets skips start tokens style taken)
    × (l.last ≡ last_of skips start tokens style None taken)
