use Rattle.std.proofs.Common.{◌≡◌, ◌<◌, ℕ, List, get_or, length, take, ap, ◌∙◌, arith, subst, sym}
use Rattle.std.proofs.lemmas.List.{take_all}
use Rattle.verdict_table.specs.declared.record.Record.{Record}
use Rattle.verdict_table.specs.Kept.{SameVerdicts, with_first}
use Rattle.verdict_table.specs.TableState.{verdict_in}
use Rattle.reduce_journal.specs.History.{History, records_of}
use Rattle.reduce_journal.proofs.KeptRecords.{committed_next, recorded_next}
use Rattle.reduce_journal.proofs.read.Journal.kept.Goals.{in-Recorded+in_ok-share-in-Recorded+in_ok-add-in-Recorded, in-Committed}
use Rattle.reduce_journal.proofs.read.Journal.kept.Goals as goal

pub loop-event-init : goal.loop-event-init
loop-event-init c = record { same = λ text. ap (λ (rs : List Record). verdict_in rs text) c.new-kept.ensures }

pub loop-event-preserved : goal.loop-event-preserved
loop-event-preserved c =
    let events = c.args.self.now.events.items in
    let e = c.event-item.result in
    let i = c.loop-event.event-index in
    let items = c.deref-event-items.ensures.value in
    let within : i < length events = omega (arith, ap length items) in
    let at : e ≡ get_or events i e = c.event-item.is ∙ ap (λ (es : History). get_or es i e) items in
    elim c.match-event.branch [
      | in-Recorded+in_ok-share-in-Recorded+in_ok-add-in-Recorded w ↦
          let text = w.in-Recorded.text in
          let verdict = w.in-Recorded.verdict in
          let added : w.add.new.self ≡ with_first (record { text = text; verdict = verdict }) c.loop-event.kept =
          w.in_ok-add-in-Recorded.ensures.ok
          ∙ ap (λ (t : List ℕ). with_first (record { text = t; verdict = verdict }) c.loop-event.kept) w.in_ok-share-in-Recorded.ensures in
          record {
            same =
                recorded_next events i e text verdict w.in-Recorded.kept c.loop-event.kept c.match-event.kept within at w.in-Recorded.is
                (w.kept-is ∙ added) c.loop-event.invariant.same;
          }
      | in-Committed w ↦
          record {
            same =
                committed_next events i e w.in-Committed.number c.match-event.kept within at w.in-Committed.is
                (subst (λ (ks : List Record). SameVerdicts ks (records_of (take i events))) (sym w.kept-is) c.loop-event.invariant.same);
          }
    ]

pub returns : goal.returns
returns c text =
    let events = c.args.self.now.events.items in
    let i = c.loop-event.event-index in
    c.loop-event.invariant.same text
    ∙ ap (λ (es : History). verdict_in (records_of es) text) (take_all i events (omega (arith, ap length c.deref-event-items.ensures.value)))
