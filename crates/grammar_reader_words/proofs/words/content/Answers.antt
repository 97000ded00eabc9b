use Rattle.std.proofs.Common.{rules}
use Rattle.std.specs.Prelude.{string_bytes}
use Rattle.std.specs.Str.{chars}
use Rattle.grammar_reader_words.specs.Quoted.{pieces_from, literal_piece}
use Rattle.grammar_reader_words.proofs.Tails.{at_closed, at_one, literal_piece_ends}
use Rattle.grammar_reader_words.proofs.Joined.{read_none, read_more, read_all}
use Rattle.grammar_reader_words.proofs.words.content.Goals as goal

pub loop-c-init : goal.loop-c-init
loop-c-init c = record {
  text = search rules;
  same = read_none (string_bytes c.new-content.result) (pieces_from literal_piece 0 (chars c.args.text.now)) c.new-content.ensures.bytes;
}

pub loop-c-smaller : goal.loop-c-smaller
loop-c-smaller c =
    let one : _ =
    at_one literal_piece c.in-Some.c (chars c.in-Some.after.now) literal_piece_ends (chars c.loop-c.rest.now)
    (chars c.in-One.further.now) c.in-One.character c.in-Some.ensures.same c.in-One.ensures in
    one.1

pub loop-c-preserved : goal.loop-c-preserved
loop-c-preserved c =
    let one : _ = at_one literal_piece c.in-Some.c (chars c.in-Some.after.now) literal_piece_ends (chars c.loop-c.rest.now)
    (chars c.in-One.further.now) c.in-One.character c.in-Some.ensures.same c.in-One.ensures in
    let pushed : _ = c.in_ok-push-in-One.ensures in
    record {
      text = search rules;
      same =
          read_more (string_bytes c.loop-c.content) (string_bytes c.push.new.self) (pieces_from literal_piece 0 (chars c.loop-c.rest.now))
          (pieces_from literal_piece 0 (chars c.in-One.further.now))
          (pieces_from literal_piece 0 (chars c.args.text.now)) c.in-One.character c.loop-c.invariant.same (search rules) one.0 pushed.bytes;
    }

pub returns-in-Closed : goal.returns-in-Closed
returns-in-Closed c =
    read_all (string_bytes c.loop-c.content) (chars c.in-Closed.further.now) (pieces_from literal_piece 0 (chars c.loop-c.rest.now))
    (pieces_from literal_piece 0 (chars c.args.text.now)) c.loop-c.invariant.same
    (at_closed literal_piece c.in-Some.c (chars c.in-Some.after.now) (chars c.loop-c.rest.now)
    (chars c.in-Closed.further.now) c.in-Some.ensures.same c.in-Closed.ensures)
