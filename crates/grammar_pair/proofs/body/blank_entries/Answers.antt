use Rattle.std.proofs.Common.{◌≡◌, ap, ◌∙◌}
use Rattle.std.proofs.lemmas.Str.{IsCharBoundary-start}
use Rattle.grammar_reader_words.specs.Spans.{spans_left}
use Rattle.grammar_pair.specs.Bodies.{all_blanked, after_word, entries_of, spelled, vocabularies, words_in}
use Rattle.grammar_pair.proofs.EntryWords.{blanked_more, blanked_whole, names_more, names_whole}
use Rattle.grammar_pair.proofs.body.blank_entries.Goals as goal

pub word_at-next-requires : goal.word_at-next-requires
word_at-next-requires c = IsCharBoundary-start c.args.text.now c.utf8.text

pub returns-in-Rules-clause-body : goal.returns-in-Rules-clause-body
returns-in-Rules-clause-body c =
    let text = c.args.text.now in
    blanked_whole text c.loop-next.part (spans_left text c.loop-next.next) c.in-Rules.is c.loop-next.body
    (all_blanked (words_in (entries_of text)) c.args.body.now) c.loop-next.invariant.body

pub returns-in-Rules-clause-names : goal.returns-in-Rules-clause-names
returns-in-Rules-clause-names c =
    let text = c.args.text.now in
    names_whole text c.loop-next.part (spans_left text c.loop-next.next) c.in-Rules.is c.loop-next.names.items (vocabularies (entries_of text))
    c.loop-next.invariant.names

pub loop-next-preserved : goal.loop-next-preserved
loop-next-preserved c =
    let text = c.args.text.now in
    let moved : c.after_word-part.result ≡ after_word c.loop-next.part (spelled text c.in-Some.span) =
    c.after_word-part.ensures ∙ ap (after_word c.loop-next.part) c.spelling.ensures in
    record {
      cut_out = c.word_after-next.ensures.cut_out;
      whole = c.take_entry.ensures.same_length ∙ c.loop-next.invariant.whole;
      names =
          names_more text c.loop-next.part c.after_word-part.result c.in-Some.span c.loop-next.next c.word_after-next.result c.in-Some.is moved
          c.word_after-next.ensures.next c.loop-next.names.items c.take_entry.new.names.items c.in_ok-take_entry.ensures.names
          ∙ c.loop-next.invariant.names;
      body =
          blanked_more text c.loop-next.part c.after_word-part.result c.in-Some.span c.loop-next.next c.word_after-next.result c.in-Some.is moved
          c.word_after-next.ensures.next c.loop-next.body c.take_entry.new.body c.in_ok-take_entry.ensures.body
          ∙ c.loop-next.invariant.body;
    }
