use Rattle.std.proofs.Common.{◌≡◌, subst, sym}
use Rattle.std.specs.Str.{chars}
use Rattle.grammar_reader_words.specs.inner.Cursor.{seen_rest}
use Rattle.grammar_reader_words.specs.Spans.{word_rest}
use Rattle.grammar_reader_words.specs.Words.{word}
use Rattle.grammar_reader_words.proofs.Joined.{uncons_some}
use Rattle.grammar_reader_words.proofs.span.past_word.Goals as goal

pub past_word_from-requires : goal.past_word_from-requires
past_word_from-requires c = uncons_some c.in-Some.c (chars c.in-Some.rest.now) (chars c.args.text.now) c.in-Some.ensures.same

pub returns-in-Some : goal.returns-in-Some
returns-in-Some c =
    subst (λ cs. seen_rest c.past_word_from.result ≡ word_rest (word cs))
    (sym (uncons_some c.in-Some.c (chars c.in-Some.rest.now) (chars c.args.text.now) c.in-Some.ensures.same)) c.past_word_from.ensures
