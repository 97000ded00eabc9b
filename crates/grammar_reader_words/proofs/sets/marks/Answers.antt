use Rattle.std.proofs.Common.{sym, ap, ◌∙◌, rules}
use Rattle.std.specs.Str.{chars}
use Rattle.grammar_reader_words.specs.Quoted.{pieces_from, set_piece}
use Rattle.grammar_reader_words.proofs.Tails.{at_closed, at_one, set_piece_ends}
use Rattle.grammar_reader_words.proofs.Joined.{joined, joined_put, joined_all}
use Rattle.grammar_reader_words.proofs.sets.marks.Goals as goal

pub returns-in-Closed : goal.returns-in-Closed
returns-in-Closed c =
    let closed : _ =
    at_closed set_piece c.in-Some.c (chars c.in-Some.after.now) (chars c.loop-c.rest.now)
    (chars c.in-Closed.further.now) c.in-Some.ensures.same c.in-Closed.ensures in
    sym (joined_all c.loop-c.marks.items (chars c.in-Closed.further.now)) ∙ sym (ap (joined c.loop-c.marks.items) closed) ∙ c.loop-c.invariant.same

pub loop-c-smaller : goal.loop-c-smaller
loop-c-smaller c =
    let one : _ =
    at_one set_piece c.in-Some.c (chars c.in-Some.after.now) set_piece_ends (chars c.loop-c.rest.now)
    (chars c.in-One.further.now) c.in-One.mark c.in-Some.ensures.same c.in-One.ensures in
    one.1

pub loop-c-preserved : goal.loop-c-preserved
loop-c-preserved c =
    let one : _ = at_one set_piece c.in-Some.c (chars c.in-Some.after.now) set_piece_ends (chars c.loop-c.rest.now)
    (chars c.in-One.further.now) c.in-One.mark c.in-Some.ensures.same c.in-One.ensures in
    let pushed : _ = c.in_ok-push-in-One.ensures in
    record {
      text = search rules;
      same =
          ap (λ ms. joined ms (pieces_from set_piece 0 (chars c.in-One.further.now))) pushed.items
          ∙ joined_put c.loop-c.marks.items c.in-One.mark (pieces_from set_piece 0 (chars c.in-One.further.now))
          ∙ ap (joined c.loop-c.marks.items) (sym one.0)
          ∙ c.loop-c.invariant.same;
    }
