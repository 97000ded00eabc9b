use Rattle.std.proofs.Common.{◌∙◌, Err, arith, ap, length, option_copied, refl, sym}
use Rattle.ordered_commit.specs.declared.fault.BoardFault.{BoardFault}
use Rattle.ordered_commit.proofs.RecallLemmas.{absent, failed_ends, failed_same, kept_failed, kept_recalled, none_lent, not_recalled, recalled_ends}
use Rattle.ordered_commit.proofs.SeatParts.{claims_at_most}
use Rattle.ordered_commit.proofs.TakeLemmas.{no_fault}
use Rattle.ordered_commit.proofs.board.Board.recall.Goals as goal

pub returns-in_default-clause-ends : goal.returns-in_default-clause-ends
returns-in_default-clause-ends g c =
    rw (← c.self.view_is) (
      not_recalled g.S.Step.plan g.S.Step.first g.G.Gate.may_say g.J.Sink.put_so_far g.J.Sink.faults _ c.self.invariant.kept
          (sym c.next_recall.ensures.recall ∙ none_lent c.next_recall.result c.in_default.not-Some),
      refl,
    )

pub record_kept-requires-clause-absent : goal.record_kept-requires-clause-absent
record_kept-requires-clause-absent g c =
    let unstopped = no_fault c.self.inside.fault (sym c.is_some.ensures ∙ c.if-is_some.false) in
    let is = sym c.next_recall.ensures.recall ∙ ap option_copied c.in-Some.is in
    let short = rw c.in-Some.is at c.next_recall.ensures.short in
    absent g.S.Step.plan g.S.Step.first g.G.Gate.may_say g.J.Sink.put_so_far g.J.Sink.faults _ c.self.invariant.kept c.in-Some.kept.now unstopped short is

pub record_kept-requires-clause-sound : goal.record_kept-requires-clause-sound
record_kept-requires-clause-sound g c = c.self.invariant.kept.recorded.sound

pub record_kept-requires-clause-short : goal.record_kept-requires-clause-short
record_kept-requires-clause-short g c = rw c.in-Some.is at c.next_recall.ensures.short

pub record_kept-requires-clause-few : goal.record_kept-requires-clause-few
record_kept-requires-clause-few g c = omega (arith, c.len.ensures, c.self.inside.seats.ok.0, c.self.invariant.kept.workers.few)

pub invariant_of-self : goal.invariant_of-self
invariant_of-self g c =
    let unstopped = no_fault c.self.inside.fault (sym c.is_some.ensures ∙ c.if-is_some.false) in
    let is = sym c.next_recall.ensures.recall ∙ ap option_copied c.in-Some.is in
    let short = rw c.in-Some.is at c.next_recall.ensures.short in
    record {
      kept =
          kept_recalled g.S.Step.plan g.S.Step.first g.G.Gate.may_say g.J.Sink.put_so_far g.J.Sink.faults _ c.self.invariant.kept c.in-Some.kept.now unstopped
          short is c.record_kept.new.table c.record_kept.new.events.items c.record_kept.new.journal c.in-Ok.ensures.ends.0 c.in-Ok.ensures.ends.1
          c.in-Ok.ensures.ends.2;
      event_capacity =
          let few = claims_at_most c.self.inside.seats.items in
          omega (arith, few, c.in-Ok.ensures.places, c.len.ensures, c.self.inside.seats.ok.0);
    }

pub returns-in-Ok-clause-ends : goal.returns-in-Ok-clause-ends
returns-in-Ok-clause-ends g c =
    let unstopped = no_fault c.self.inside.fault (sym c.is_some.ensures ∙ c.if-is_some.false) in
    let is = sym c.next_recall.ensures.recall ∙ ap option_copied c.in-Some.is in
    let short = rw c.in-Some.is at c.next_recall.ensures.short in
    rw (← c.self.view_is)
    (recalled_ends g.S.Step.plan g.S.Step.first g.G.Gate.may_say g.J.Sink.put_so_far g.J.Sink.faults _ c.self.invariant.kept c.in-Some.kept.now unstopped
    short is c.record_kept.new.table c.record_kept.new.events.items c.record_kept.new.journal c.in-Ok.ensures.ends.0 c.in-Ok.ensures.ends.1
    c.in-Ok.ensures.ends.2)

pub invariant_of-self-in-Err : goal.invariant_of-self-in-Err
invariant_of-self-in-Err g c =
    let unstopped = no_fault c.self.inside.fault (sym c.is_some.ensures ∙ c.if-is_some.false) in
    let is = sym c.next_recall.ensures.recall ∙ ap option_copied c.in-Some.is in
    let short = rw c.in-Some.is at c.next_recall.ensures.short in
    record {
      kept = rw c.into.ensures
          (kept_failed g.S.Step.plan g.S.Step.first g.G.Gate.may_say g.J.Sink.put_so_far g.J.Sink.faults _ c.self.invariant.kept c.in-Some.kept.now unstopped
          short is (Unit {0}) c.in-Err.fault c.record_kept.new.table c.record_kept.new.events.items c.record_kept.new.journal c.in-Err.ensures.ends
          (λ broken. c.record_kept.ensures.failed (c.in-Err.is ∙ ap (λ (fault : BoardFault). Err fault) broken)));
      event_capacity =
          let same = failed_same g.J.Sink.put_so_far (Unit {0}) c.in-Err.fault c.in-Some.kept.now _ _ _ _ _ _ c.in-Err.ensures.ends in
          omega (arith, ap length same, c.record_kept.ensures.capacity, c.self.invariant.event_capacity);
    }

pub returns-in-Err-clause-ends : goal.returns-in-Err-clause-ends
returns-in-Err-clause-ends g c =
    let unstopped = no_fault c.self.inside.fault (sym c.is_some.ensures ∙ c.if-is_some.false) in
    let is = sym c.next_recall.ensures.recall ∙ ap option_copied c.in-Some.is in
    let short = rw c.in-Some.is at c.next_recall.ensures.short in
    rw (← c.self.view_is, c.into.ensures)
    (failed_ends g.S.Step.plan g.S.Step.first g.G.Gate.may_say g.J.Sink.put_so_far g.J.Sink.faults _ c.self.invariant.kept c.in-Some.kept.now unstopped
    short is (Unit {0}) c.in-Err.fault c.record_kept.new.table c.record_kept.new.events.items c.record_kept.new.journal c.in-Err.ensures.ends)
