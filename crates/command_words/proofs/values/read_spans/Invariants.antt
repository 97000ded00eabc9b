use Rattle.std.proofs.Common.{◌≡◌, true, map, take}
use Rattle.std.specs.List.{list_all}
use Rattle.command_words.specs.Lines.{span_read}
use Rattle.command_words.specs.Options.{span_of, takes_value}
use Rattle.command_words.specs.Tables.{any_lines}
use Rattle.command_words.proofs.values.read_spans.Given as goal

abbrev pub invariant-loop-text : goal.invariant-loop-text
invariant-loop-text l = record {
  read : map span_read l.spans.items ≡ map (λ text. span_of text.now) (take l.text-index l.texts);
  are : list_all (λ text. takes_value any_lines text.now) (take l.text-index l.texts) ≡ true;
}
