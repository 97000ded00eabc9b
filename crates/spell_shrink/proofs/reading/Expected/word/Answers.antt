use Rattle.std.proofs.Common.{◌≡◌, ◌∙◌, sym, ap, arith}
use Rattle.spell_shrink.specs.Respelling.{word_at}
use Rattle.spell_shrink.specs.inner.Changes.{respelling_of_words}
use Rattle.spell_shrink.specs.inner.Rereads.{respelling_after}
use Rattle.spell_shrink.proofs.Expecting.{changed_word, other_word}
use Rattle.spell_shrink.proofs.WordPrinting.{respelling_long, spelling_of}
use Rattle.spell_shrink.proofs.reading.Expected.word.Goals as goal

-- the one that is replaced
pub returns-then-index-self : goal.returns-then-index-self
returns-then-index-self c =
    let e = c.args.self.now in
    let r = respelling_of_words e.kept.now e.words.now in
    let long = respelling_long e.kept.now e.words.now c.requires.words in
    let same : c.args.index ≡ e.index = c.if-index-self.true in
    sym (ap (λ k. word_at (respelling_after e) k) same ∙ changed_word r e.index e.word.now (omega (arith, long, c.requires.index, same)))

-- the others
pub returns-else-index-self : goal.returns-else-index-self
returns-else-index-self c =
    let e = c.args.self.now in
    sym (other_word (respelling_of_words e.kept.now e.words.now) e.index c.args.index e.word.now c.if-index-self.false
    ∙ spelling_of e.kept.now e.words.now c.args.index _ c.requires.index c.requires.words)
