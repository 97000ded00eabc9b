use Rattle.std.proofs.Common.{◌≡◌, ◌<◌, ◌++◌, get_or, length, sym, ap, ◌∙◌, subst, arith, append-nil}
use Rattle.std.proofs.lemmas.List.{take_all}
use Rattle.verdict_table.specs.Kept.{SameVerdicts}
use Rattle.reduce_journal.specs.History.{History, IsHistory, records_of}
use Rattle.command_resume.specs.Joined.{joined}
use Rattle.command_resume.proofs.JoinedLemmas.{first_records, joined_history, joined_next}
use Rattle.command_resume.proofs.joining.joined.Goals as goal

pub loop-event-init : goal.loop-event-init
loop-event-init c = record { so_far = sym (append-nil c.args.one.events.items) }

pub loop-event-preserved : goal.loop-event-preserved
loop-event-preserved c =
    let others = c.args.other.now.events.items in
    let e = c.event-item.result in
    let i = c.loop-event.event-index in
    let items = c.deref-event-items.ensures.value in
    let within : i < length others = omega (arith, ap length items) in
    let at : e ≡ get_or others i e = c.event-item.is ∙ ap (λ (es : History). get_or es i e) items in
    record {
      so_far =
          joined_next c.args.one.events.items others c.in_ok-known.known i e c.loop-event.events.items c.add_missing.new.events.items within at
          c.in_ok-known.ensures c.loop-event.invariant.so_far c.in_ok-add_missing.ensures;
    }

pub returns-clause-events : goal.returns-clause-events
returns-clause-events c =
    let others = c.args.other.now.events.items in
    let i = c.loop-event.event-index in
    c.loop-event.invariant.so_far
    ∙ ap (λ (es : History). joined c.args.one.events.items es) (take_all i others (omega (arith, ap length c.deref-event-items.ensures.value)))

pub returns-clause-readable : goal.returns-clause-readable
returns-clause-readable c p q =
    subst IsHistory (sym (returns-clause-events c)) (joined_history c.args.one c.args.other.now p q)

pub returns-clause-first : goal.returns-clause-first
returns-clause-first c =
    let others = c.args.other.now.events.items in
    let own = c.args.one.events.items in
    subst (λ (es : History). SameVerdicts (records_of es) (records_of own ++ records_of others)) (sym (returns-clause-events c)) (first_records own others)
