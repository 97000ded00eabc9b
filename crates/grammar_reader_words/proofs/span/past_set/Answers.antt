use Rattle.std.proofs.Common.{◌≡◌, ◌∙◌, None, Some, ap, cond, false, rules, sym, true}
use Rattle.std.specs.Str.{chars}
use Rattle.grammar_reader_words.specs.inner.Parts.{has_item, set_rest}
use Rattle.grammar_reader_words.specs.Quoted.{pieces_from, set_piece}
use Rattle.grammar_reader_words.proofs.Tails.{at_closed, at_one, set_piece_ends}
use Rattle.grammar_reader_words.proofs.Spanning.{set_more, set_same}
use Rattle.grammar_reader_words.proofs.span.past_set.Goals as goal

pub loop-c-init : goal.loop-c-init
loop-c-init c = record { text = search rules; same = set_same (chars c.args.text.now) (pieces_from set_piece 0 (chars c.args.text.now)) }

pub loop-c-smaller : goal.loop-c-smaller
loop-c-smaller c =
    let one : _ =
    at_one set_piece c.in-Some.c (chars c.in-Some.after.now) set_piece_ends (chars c.loop-c.rest.now)
    (chars c.in-One.further.now) c.in-One.mark c.in-Some.ensures.same c.in-One.ensures in
    one.1

pub loop-c-preserved : goal.loop-c-preserved
loop-c-preserved c =
    let one : _ = at_one set_piece c.in-Some.c (chars c.in-Some.after.now) set_piece_ends (chars c.loop-c.rest.now)
    (chars c.in-One.further.now) c.in-One.mark c.in-Some.ensures.same c.in-One.ensures in
    record {
      text = search rules;
      same =
          sym (set_more c.loop-c.part c.in-Some-after_mark.next c.in-One.mark
          (pieces_from set_piece 0 (chars c.in-One.further.now)) c.in-Some-after_mark.ensures)
          ∙ ap (set_rest c.loop-c.part) (sym one.0)
          ∙ c.loop-c.invariant.same;
    }

pub returns-then-has_item : goal.returns-then-has_item
returns-then-has_item c =
    let closed : _ =
    at_closed set_piece c.in-Some.c (chars c.in-Some.after.now) (chars c.loop-c.rest.now)
    (chars c.in-Closed.further.now) c.in-Some.ensures.same c.in-Closed.ensures in
    let is : has_item c.loop-c.part ≡ true = sym c.has_item.ensures ∙ c.if-has_item.true in
    sym (ap (λ b. cond b (Some (chars c.in-Closed.further.now)) None) is) ∙ sym (ap (set_rest c.loop-c.part) closed) ∙ c.loop-c.invariant.same

pub returns-else-has_item : goal.returns-else-has_item
returns-else-has_item c =
    let closed : _ = at_closed set_piece c.in-Some.c (chars c.in-Some.after.now) (chars c.loop-c.rest.now)
    (chars c.in-Closed.further.now) c.in-Some.ensures.same c.in-Closed.ensures in
    let is : has_item c.loop-c.part ≡ false = sym c.has_item.ensures ∙ c.if-has_item.false in
    sym (ap (λ b. cond b (Some (chars c.in-Closed.further.now)) None) is) ∙ sym (ap (set_rest c.loop-c.part) closed) ∙ c.loop-c.invariant.same
