use Rattle.std.proofs.Common.{◌≡◌, ◌+◌, ◌∙◌, arith, length}
use Rattle.std.proofs.lemmas.List.{length-map}
use Rattle.verdict_table.specs.TableState.{TableState, claim_count, found_in, texts_of}
use Rattle.verdict_table.specs.declared.record.Record.{Record}
use Rattle.verdict_table.specs.declared.found.Found.TheVariants.{Absent}
use Rattle.verdict_table.proofs.TableLemmas.{claim_opened, sound_claimed}
use Rattle.verdict_table.proofs.table.Table.claim.Goals as goal

pub invariant_of-self-2 : goal.invariant_of-self-2
invariant_of-self-2 c =
    let table : TableState = record { claims = c.self.inside.claims.items; records = c.self.inside.records.items; filled = c.self.inside.filled.items } in
    let absent : found_in table c.args.text ≡ Absent = rw (← c.self.view_is) at c.requires.absent in
    let number : c.len-open.result + c.len.result ≡ claim_count table = omega arith in
    let older : length c.self.inside.index.older.items ≡ length table.records =
    c.self.invariant.indexed.same_length ∙ length-map table.records (λ (r : Record). r.text) in
    record {
      sound = rw (c.in_ok-push.ensures.items, c.reserve.ensures.items, c.reserve-2.ensures.items, number)
          (sound_claimed table c.args.text c.self.invariant.sound absent);
      record_capacity = omega (arith, c.in_ok-push.ensures.len, c.in_ok-reserve.ensures.ok);
      filled_capacity = omega (arith, c.in_ok-push.ensures.len, c.in_ok-reserve-2.ensures.ok, c.self.invariant.sound.filled);
      indexed = rw c.reserve.ensures.items (c.reserve-3.ensures.indexed (texts_of table.records) c.self.invariant.indexed);
      newest_room = omega (arith, c.in_ok-push.ensures.len, c.in_ok-reserve-3.ensures.newest_room);
      older_capacity = omega (arith, c.in_ok-push.ensures.len, c.in_ok-reserve-3.ensures.older_room, c.reserve-3.ensures.same_length, older);
    }

pub returns-clause-opened : goal.returns-clause-opened
returns-clause-opened c =
    let table : TableState = record { claims = c.self.inside.claims.items; records = c.self.inside.records.items; filled = c.self.inside.filled.items } in
    let number : c.len-open.result + c.len.result ≡ claim_count table = omega arith in
    rw (c.in_ok-push.ensures.items, number) (claim_opened table c.args.text c.self.invariant.sound)
