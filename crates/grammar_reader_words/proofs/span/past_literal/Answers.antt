use Rattle.std.proofs.Common.{◌∙◌, ap, rules, sym}
use Rattle.std.specs.Str.{chars}
use Rattle.grammar_reader_words.specs.inner.Parts.{literal_rest}
use Rattle.grammar_reader_words.specs.Quoted.{literal_piece, pieces_from}
use Rattle.grammar_reader_words.proofs.Tails.{at_one, literal_piece_ends}
use Rattle.grammar_reader_words.proofs.Spanning.{literal_more, literal_same}
use Rattle.grammar_reader_words.proofs.span.past_literal.Goals as goal

pub loop-c-smaller : goal.loop-c-smaller
loop-c-smaller c =
    let one : _ =
    at_one literal_piece c.in-Some.c (chars c.in-Some.after.now) literal_piece_ends (chars c.loop-c.rest.now)
    (chars c.in-One.further.now) _ c.in-Some.ensures.same c.in-One.ensures in
    one.1

pub loop-c-preserved : goal.loop-c-preserved
loop-c-preserved c =
    let one : _ = at_one literal_piece c.in-Some.c (chars c.in-Some.after.now) literal_piece_ends (chars c.loop-c.rest.now)
    (chars c.in-One.further.now) _ c.in-Some.ensures.same c.in-One.ensures in
    record {
      text = search rules;
      same =
          sym (literal_more c.loop-c.some _ (pieces_from literal_piece 0 (chars c.in-One.further.now)))
          ∙ ap (literal_rest c.loop-c.some) (sym one.0)
          ∙ c.loop-c.invariant.same;
    }

pub loop-c-init : goal.loop-c-init
loop-c-init c = record { text = search rules; same = literal_same (chars c.args.text.now) (pieces_from literal_piece 0 (chars c.args.text.now)) }
