use Rattle.std.proofs.Common.{◌≡◌, ◌≤◌, ℕ, length}
use denote.Text.{Utf8}
use denote.Shadow.{shadow}
use Rattle.std.specs.Str.{chars}
use Rattle.grammar_reader_words.specs.Spans.{spans_from}
use Rattle.grammar_reader_words.specs.Words.{brace_from, words_from}
use Rattle.grammar_reader_words.proofs.Tails.{Ends}
use Rattle.grammar_reader_words.proofs.cursor.skip_gaps.Given as goal

abbrev pub invariant-loop-after : goal.invariant-loop-after
invariant-loop-after l = record {
  text : shadow (Utf8 l.rest);
  same : (total : ℕ) → words_from total 0 (chars l.fn.text) ≡ words_from total 0 (chars l.rest);
  spans : (total : ℕ) → spans_from total 0 (chars l.fn.text) ≡ spans_from total 0 (chars l.rest);
  last : Ends (chars l.fn.text) (chars l.rest);
  brace : brace_from 0 (chars l.fn.text) ≡ brace_from 0 (chars l.rest);
  fits : length l.rest ≤ length l.fn.text;
}

abbrev pub decreases-loop-after : goal.decreases-loop-after
decreases-loop-after l = length (chars l.rest)
