use Rattle.std.proofs.Common.{◌≡◌, ◌++◌, take}
use Rattle.std.specs.Prelude.{string_bytes}
use denote.Text.{Utf8}
use denote.Shadow.{shadow}
use Rattle.std.specs.Str.{chars, encode_utf8_all}
use Rattle.grammar_reader_words.proofs.words.front.Given as goal

abbrev pub invariant-loop-remaining : goal.invariant-loop-remaining
invariant-loop-remaining l = record {
  text : shadow (Utf8 l.rest);
  same : string_bytes l.name ++ encode_utf8_all (take l.remaining (chars l.rest)) ≡ encode_utf8_all (take l.n (chars l.fn.text));
}

abbrev pub decreases-loop-remaining : goal.decreases-loop-remaining
decreases-loop-remaining l = l.remaining
