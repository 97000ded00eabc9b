use Rattle.std.proofs.Common.{rules, ◌≡◌, ◌-◌, List, [], ◌∷◌, ◌++◌, length, length-append, refl, sym, ap, ◌∙◌, subst, arith}
use Rattle.reduce_journal.specs.declared.event.Event.{Event}
use Rattle.reduce_journal.specs.History.{records_of, records_with}
use Rattle.reduce_journal.specs.Journal.{HasEvents, head_text, text_under}
use Rattle.reduce_journal.specs.inner.Reading.{lent_event}
use Rattle.reduce_journal.proofs.Ends.{ends_at}
use Rattle.reduce_journal.proofs.Journals.{few_records, has_more, has_none, is_bad, is_journal, records_more}
use Rattle.reduce_journal.proofs.read.read_events.Goals as goal

pub loop-event-init : goal.loop-event-init
loop-event-init c =
    let none : c.new-events.result.items ≡ [] = search rules in
    record {
      events = has_none c.args.bytes.now c.args.head c.new-events.result.items c.args.after_head.now none c.requires.is_head c.requires.begins;
      records = ap (λ (es : List Event). length (records_of es)) (sym none);
      few = omega (arith, c.len-len.ensures, ap length c.requires.begins, length-append (head_text c.args.head) c.args.after_head.now);
    }

pub loop-event-smaller : goal.loop-event-smaller
loop-event-smaller c =
    (has_more c.args.bytes.now c.args.head c.loop-event.events.items c.loop-event.rest.now c.loop-event.records (lent_event c.in-Ok.event) c.in-Ok.later.now
    c.loop-event.invariant.events c.loop-event.invariant.records (omega (arith, c.len-len.ensures)) (rw c.version-version.ensures at c.in-Ok.ensures)).2

pub loop-event-preserved : goal.loop-event-preserved
loop-event-preserved c =
    let event = lent_event c.in-Ok.event in
    let more = has_more c.args.bytes.now c.args.head c.loop-event.events.items c.loop-event.rest.now c.loop-event.records event c.in-Ok.later.now
    c.loop-event.invariant.events c.loop-event.invariant.records (omega (arith, c.len-len.ensures)) (rw c.version-version.ensures at c.in-Ok.ensures) in
    let pushed : c.push.new.self.items ≡ c.loop-event.events.items ++ event ∷ [] =
    c.in_ok-push-in-Ok.ensures.items ∙ ap (λ (e : Event). c.loop-event.events.items ++ e ∷ []) c.in_ok-to_event-in-Ok.ensures in
    record {
      events = subst (λ es. HasEvents c.args.bytes.now c.args.head es c.in-Ok.later.now) (sym pushed) more.0;
      records =
          c.records_with-records.ensures ∙ (ap (λ n. records_with n event) c.loop-event.invariant.records
          ∙ (sym (records_more c.loop-event.events.items event) ∙ ap (λ es. length (records_of es)) (sym pushed)));
      few = let most = few_records c.loop-event.records event in let shorter =
          more.2 in omega (arith, c.records_with-records.ensures, c.loop-event.invariant.few, most, shorter);
    }

pub returns-in-Err-Torn-clause-journal : goal.returns-in-Err-Torn-clause-journal
returns-in-Err-Torn-clause-journal c =
    is_journal c.args.bytes.now c.args.head c.loop-event.events.items c.loop-event.rest.now c.loop-event.records (length c.loop-event.rest.now)
    c.loop-event.invariant.events c.loop-event.invariant.records (omega (arith, c.len-len.ensures))
    (rw (c.version-version.ensures, c.in-Err-Torn.field-0-is) at c.in-Err-Torn.ensures) refl

pub returns-in-Err-Bad-clause-bad_record : goal.returns-in-Err-Bad-clause-bad_record
returns-in-Err-Bad-clause-bad_record c = λ offset e.
    let is : c.len-len.result - length c.loop-event.rest.now ≡ offset = cc in
    is_bad c.args.bytes.now c.args.head c.loop-event.events.items c.loop-event.rest.now c.loop-event.records offset
    c.loop-event.invariant.events c.loop-event.invariant.records (omega (arith, c.len-len.ensures))
    (rw (c.version-version.ensures, c.in-Err-Bad.field-0-is) at c.in-Err-Bad.ensures)
    (omega (arith, is, c.len-len.ensures, c.loop-event.invariant.few))

pub to_event-requires : goal.to_event-requires
to_event-requires c =
    let event = lent_event c.in-Ok.event in
    let more = has_more c.args.bytes.now c.args.head c.loop-event.events.items c.loop-event.rest.now c.loop-event.records event c.in-Ok.later.now
    c.loop-event.invariant.events c.loop-event.invariant.records (omega (arith, c.len-len.ensures)) (rw c.version-version.ensures at c.in-Ok.ensures) in
    ends_at c.args.bytes.now (text_under c.args.head c.loop-event.events.items) c.in-Ok.later.now event (c.len-len.result - length c.in-Ok.later.now)
    (c.loop-event.invariant.events.whole ∙ ap (λ t. text_under c.args.head c.loop-event.events.items ++ t) more.1)
    (let shorter = more.2 in omega (arith, shorter, c.len-len.ensures, c.loop-event.invariant.few))

pub records_with-records-requires : goal.records_with-records-requires
records_with-records-requires c =
    let more = (has_more c.args.bytes.now c.args.head c.loop-event.events.items c.loop-event.rest.now c.loop-event.records (lent_event c.in-Ok.event)
    c.in-Ok.later.now c.loop-event.invariant.events c.loop-event.invariant.records (omega (arith, c.len-len.ensures))
    (rw c.version-version.ensures at c.in-Ok.ensures)).2 in
    omega (arith, more, c.loop-event.invariant.few)

pub overflow_sub-len : goal.overflow_sub-len
overflow_sub-len c =
    let more = (has_more c.args.bytes.now c.args.head c.loop-event.events.items c.loop-event.rest.now c.loop-event.records (lent_event c.in-Ok.event)
    c.in-Ok.later.now c.loop-event.invariant.events c.loop-event.invariant.records (omega (arith, c.len-len.ensures))
    (rw c.version-version.ensures at c.in-Ok.ensures)).2 in
    omega (arith, more, c.loop-event.invariant.few)
