use Rattle.std.proofs.Common.{◌≡◌, sym, subst, IfOk}
use Rattle.std.specs.Str.{chars}
use Rattle.grammar_reader_words.specs.inner.Cursor.{seen_word}
use Rattle.grammar_reader_words.specs.Words.{word}
use Rattle.grammar_reader_words.proofs.Joined.{uncons_some}
use Rattle.grammar_reader_words.proofs.words.word.Goals as goal

pub word_from-requires : goal.word_from-requires
word_from-requires c = uncons_some c.in-Some.c (chars c.in-Some.rest.now) (chars c.args.text.now) c.in-Some.ensures.same

pub returns-in-Some : goal.returns-in-Some
returns-in-Some c =
    subst (λ cs. IfOk c.word_from.result (λ p. seen_word p ≡ word cs))
    (sym (uncons_some c.in-Some.c (chars c.in-Some.rest.now) (chars c.args.text.now) c.in-Some.ensures.same)) c.word_from.ensures
