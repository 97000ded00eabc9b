use Rattle.std.proofs.Common.{◌∙◌, ◌++◌, ◌∷◌, [], arith, is_some, true, ap}
use Rattle.reduce_journal.specs.declared.event.Event.TheVariants.{Recorded}
use Rattle.ordered_commit.proofs.RecallLemmas.{claimed_last, claimed_sound, filled_kept, withdrawn}
use Rattle.ordered_commit.proofs.TableFacts.{absent_found}
use Rattle.ordered_commit.proofs.recalling.record_kept.Goals as goal

pub claim-requires : goal.claim-requires
claim-requires g c = record { absent = rw c.in_ok-share.ensures (absent_found c.args.table.now c.args.kept.now.text c.requires.absent) }

pub write_event-requires : goal.write_event-requires
write_event-requires g c = rw c.in_ok-text.ensures c.requires.short

pub withdraw-requires-clause-is_open : goal.withdraw-requires-clause-is_open
withdraw-requires-clause-is_open g c = ap is_some c.in_ok-claim.ensures.opened

pub withdraw-requires-clause-last : goal.withdraw-requires-clause-last
withdraw-requires-clause-last g c =
    claimed_last c.args.table.now c.claim.new.self c.in_ok-claim.claim c.in_ok-share.field-0 c.in_ok-claim.ensures.claimed c.in_ok-claim.ensures.fresh
    c.in_ok-claim.ensures.number

pub withdraw-requires-clause-sound : goal.withdraw-requires-clause-sound
withdraw-requires-clause-sound g c =
    claimed_sound c.args.table.now c.claim.new.self c.in_ok-claim.claim c.in_ok-share.field-0 c.in_ok-claim.ensures.claimed c.in_ok-claim.ensures.fresh
    c.in_ok-claim.ensures.number c.requires.sound
    (rw c.in_ok-share.ensures (absent_found c.args.table.now c.args.kept.now.text c.requires.absent))

pub fill-requires-clause-is_open : goal.fill-requires-clause-is_open
fill-requires-clause-is_open g c = ap is_some c.in_ok-claim.ensures.opened

pub fill-requires-clause-sound : goal.fill-requires-clause-sound
fill-requires-clause-sound g c =
    claimed_sound c.args.table.now c.claim.new.self c.in_ok-claim.claim c.in_ok-share.field-0 c.in_ok-claim.ensures.claimed c.in_ok-claim.ensures.fresh
    c.in_ok-claim.ensures.number c.requires.sound
    (rw c.in_ok-share.ensures (absent_found c.args.table.now c.args.kept.now.text c.requires.absent))

pub unwrap-requires : goal.unwrap-requires
unwrap-requires g c = c.push.ensures.succeeds (omega (arith, c.in_ok-reserve.ensures.ok, c.reserve.ensures.len, c.reserve.new.self.ok.0))

pub returns-in-Err-clause-ends : goal.returns-in-Err-clause-ends
returns-in-Err-clause-ends g c =
    let same =
    withdrawn c.args.table.now c.claim.new.self c.in_ok-claim.claim c.in_ok-share.field-0 c.in_ok-claim.ensures.claimed c.in_ok-claim.ensures.fresh
    c.in_ok-claim.ensures.number c.withdraw.new.self c.withdraw.ensures in
    rw c.into.ensures (same, c.reserve.ensures.items, rw c.in_ok-text.ensures at c.in-Err.ensures.err)

pub returns-in-Ok-clause-ends : goal.returns-in-Ok-clause-ends
returns-in-Ok-clause-ends g c =
    let r = c.args.kept.now in
    let items = rw c.unwrap.ensures at c.push.ensures.items in
    let filled =
    filled_kept c.args.table.now c.claim.new.self c.in_ok-claim.claim c.in_ok-share.field-0 c.in_ok-claim.ensures.claimed c.in_ok-claim.ensures.fresh
    c.in_ok-claim.ensures.number c.fill.new.self r.verdict c.in_ok-claim.ensures.opened c.fill.ensures.recorded c.fill.ensures.closed c.fill.ensures.filled in (
      rw c.in_ok-share.ensures at filled,
      items ∙ (λ i. c.reserve.ensures.items i ++ Recorded (c.in_ok-text.ensures i) r.verdict true ∷ []),
      rw c.in_ok-text.ensures at c.in-Ok.ensures.ok,
    )
