use Rattle.std.proofs.Common.{◌≡◌, ◌≤◌, ◌<◌, ◌-◌, ◌^◌, take}
use denote.Text.{Utf8}
use denote.Shadow.{shadow}
use Rattle.std.specs.Str.{chars}
use Rattle.grammar_reader_words.specs.Quoted.{hex_after}
use Rattle.grammar_reader_words.proofs.quoted.hex_value.Given as goal

abbrev pub invariant-loop-read : goal.invariant-loop-read
invariant-loop-read l = record {
  text : shadow (Utf8 l.rest);
  count : l.read ≤ l.n;
  same : hex_after l.value (take (l.n - l.read) (chars l.rest)) ≡ hex_after 0 (take l.n (chars l.fn.text));
  small : l.value < 16 ^ l.read;
}

abbrev pub decreases-loop-read : goal.decreases-loop-read
decreases-loop-read l = l.n - l.read
