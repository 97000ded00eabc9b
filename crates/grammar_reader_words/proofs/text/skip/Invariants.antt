use Rattle.std.proofs.Common.{◌≡◌, ◌≤◌, length, drop}
use denote.Text.{Utf8}
use denote.Shadow.{shadow}
use Rattle.std.specs.Str.{chars}
use Rattle.grammar_reader_words.proofs.text.skip.Given as goal

abbrev pub invariant-loop-remaining : goal.invariant-loop-remaining
invariant-loop-remaining l = record {
  text : shadow (Utf8 l.rest);
  same : drop l.remaining (chars l.rest) ≡ drop l.n (chars l.fn.text);
  fits : length l.rest ≤ length l.fn.text;
}

abbrev pub decreases-loop-remaining : goal.decreases-loop-remaining
decreases-loop-remaining l = l.remaining
