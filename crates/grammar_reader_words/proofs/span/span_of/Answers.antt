use Rattle.std.proofs.Common.{rules}
use Rattle.std.specs.Str.{IsUtf8, chars}
use Rattle.grammar_reader_words.specs.Spans.{word_rest}
use Rattle.grammar_reader_words.specs.Words.{word}
use Rattle.grammar_reader_words.proofs.Bytes.{bad_span, good_span, same_bytes}
use Rattle.grammar_reader_words.proofs.span.span_of.Goals as goal

pub returns-in-None : goal.returns-in-None
returns-in-None c =
    bad_span c.args.total c.saturating_sub-begin.result (chars c.args.start.now) (word_rest (word (chars c.args.start.now)))
    (same_bytes c.args.total c.saturating_sub-begin.result c.args.start.now c.utf8.start c.saturating_sub-begin.ensures) c.in-None.ensures

pub returns-in-Some : goal.returns-in-Some
returns-in-Some c =
    let utf8 : IsUtf8 c.in-Some.rest.now = search rules in
    good_span c.args.total c.saturating_sub-begin.result c.saturating_sub.result (chars c.args.start.now) (chars c.in-Some.rest.now)
    (word_rest (word (chars c.args.start.now)))
    (same_bytes c.args.total c.saturating_sub-begin.result c.args.start.now c.utf8.start c.saturating_sub-begin.ensures)
    (same_bytes c.args.total c.saturating_sub.result c.in-Some.rest.now utf8 c.saturating_sub.ensures) c.in-Some.ensures
