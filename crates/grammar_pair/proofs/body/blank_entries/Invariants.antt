use Rattle.std.proofs.Common.{◌≡◌, ◌++◌, IfSome, length}
use Rattle.grammar_reader_words.specs.Spans.{IsCutOut, spans_left}
use Rattle.grammar_pair.specs.Bodies.{all_blanked, entries_from, entries_of, vocabularies, words_in}
use Rattle.grammar_pair.proofs.body.blank_entries.Given as goal

abbrev pub invariant-loop-next : goal.invariant-loop-next
invariant-loop-next l = record {
  cut_out : IfSome l.next (IsCutOut l.text);
  whole : length l.body ≡ length l.text;
  names : l.names.items ++ vocabularies (entries_from l.part l.text (spans_left l.text l.next)) ≡ vocabularies (entries_of l.text);
  body : all_blanked (words_in (entries_from l.part l.text (spans_left l.text l.next))) l.body ≡ all_blanked (words_in (entries_of l.text)) l.initial.body;
}

abbrev pub decreases-loop-next : goal.decreases-loop-next
decreases-loop-next l = length (spans_left l.text l.next)
