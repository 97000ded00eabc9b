use Rattle.std.proofs.Common.{◌≡◌, length}
use denote.Text.{Utf8}
use denote.Shadow.{shadow}
use Rattle.std.specs.Str.{chars}
use Rattle.grammar_reader_words.specs.inner.Parts.{literal_rest}
use Rattle.grammar_reader_words.specs.Spans.{word_rest}
use Rattle.grammar_reader_words.specs.Words.{literal_word}
use Rattle.grammar_reader_words.specs.Quoted.{pieces_from, literal_piece}
use Rattle.grammar_reader_words.proofs.span.past_literal.Given as goal

abbrev pub invariant-loop-c : goal.invariant-loop-c
invariant-loop-c l = record {
  text : shadow (Utf8 l.rest);
  same : literal_rest l.some (pieces_from literal_piece 0 (chars l.rest)) ≡ word_rest
      (literal_word (chars l.fn.text) (pieces_from literal_piece 0 (chars l.fn.text)));
}

abbrev pub decreases-loop-c : goal.decreases-loop-c
decreases-loop-c l = length (chars l.rest)
